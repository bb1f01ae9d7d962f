-- Three lines worked out, each cut in the middle of a frame: noise with no start pending, noise with one, and a frame exactly as long as
-- the hold buffer. The frame is document 01's (a).
use mathlib.Core.Path.{◌≡◌, refl}
use mathlib.Core.List.{List, [], ◌∷◌}
use Prim.Native.Nat.{ℕ, ◌+◌, ◌^◌, ◌<◌}
use lib.Dec.{lit≤}
use lib.ListN.{length, replicate}
use Rattle.search.specs.First.{index_of}
use Rattle.splitter.specs.Feed.{new, ends, going_on, runs, feed_rule, more, overlong, frame}
use Rattle.error.specs.Refusal.{yes}
use Rattle.stream.specs.Stream.{Call, call, joined}
use Rattle.stream.proofs.Calls.{stands-fresh, stands_good}
use Rattle.splitter.proofs.One.{event_of, reply_of}
use Rattle.stream.proofs.Ends.{past, one_chunk, all_end}
use Rattle.recovery.specs.Recovery.{pending}

abbrev a : List ℕ
a = 0xF0 ∷ 0x40 ∷ 0x10 ∷ 0x01 ∷ 0x00 ∷ 0x51 ∷ 0xF1 ∷ []

-- the calls over some chunks, from fresh, with a hold buffer of H bytes
abbrev over : (H : ℕ) (cs : List (List ℕ)) → 0 + length (joined cs) < 2 ^ 64 → List Call
over H cs below = (all_end cs new (replicate H 0) (stands_good (stands-fresh (replicate H 0))) below).trace

-- ---- F0 05 F1 is a frame of the noise, and 07 is dropped

closed : pending (0x00 ∷ 0xF1 ∷ 0xF0 ∷ 0x05 ∷ 0xF1 ∷ 0x07 ∷ []) ≡ []
closed = refl

after-closed :
    over 16 ((0x00 ∷ 0xF1 ∷ 0xF0 ∷ 0x05 ∷ []) ∷ (0xF1 ∷ 0x07 ∷ 0xF0 ∷ 0x40 ∷ 0x10 ∷ []) ∷ (0x01 ∷ 0x00 ∷ 0x51 ∷ 0xF1 ∷ a) ∷ []) (lit≤ tt) ≡
    call (0x00 ∷ 0xF1 ∷ 0xF0 ∷ 0x05 ∷ []) (yes more)
    ∷ call (0xF1 ∷ []) (yes (frame (0xF0 ∷ 0x05 ∷ 0xF1 ∷ [])))
    ∷ call (0x07 ∷ 0xF0 ∷ 0x40 ∷ 0x10 ∷ []) (yes more)
    ∷ call (0x01 ∷ 0x00 ∷ 0x51 ∷ 0xF1 ∷ []) (yes (frame a))
    ∷ call a (yes (frame a))
    ∷ []
unfolding index_of ends going_on runs feed_rule event_of reply_of past one_chunk all_end
after-closed = refl

-- ---- F0 05 has no end: with the first frame it is one of nine bytes

unclosed : pending (0x00 ∷ 0xF0 ∷ 0x05 ∷ []) ≡ 0xF0 ∷ 0x05 ∷ []
unclosed = refl

after-unclosed :
    over 9 ((0x00 ∷ 0xF0 ∷ 0x05 ∷ 0xF0 ∷ 0x40 ∷ []) ∷ (0x10 ∷ 0x01 ∷ 0x00 ∷ 0x51 ∷ 0xF1 ∷ a) ∷ []) (lit≤ tt) ≡
    call (0x00 ∷ 0xF0 ∷ 0x05 ∷ 0xF0 ∷ 0x40 ∷ []) (yes more)
    ∷ call (0x10 ∷ 0x01 ∷ 0x00 ∷ 0x51 ∷ 0xF1 ∷ []) (yes (frame (0xF0 ∷ 0x05 ∷ a)))
    ∷ call a (yes (frame a))
    ∷ []
unfolding index_of ends going_on runs feed_rule event_of reply_of past one_chunk all_end
after-unclosed = refl

after-unclosed-long :
    over 8 ((0x00 ∷ 0xF0 ∷ 0x05 ∷ 0xF0 ∷ 0x40 ∷ []) ∷ (0x10 ∷ 0x01 ∷ 0x00 ∷ 0x51 ∷ 0xF1 ∷ a) ∷ []) (lit≤ tt) ≡
    call (0x00 ∷ 0xF0 ∷ 0x05 ∷ 0xF0 ∷ 0x40 ∷ []) (yes more)
    ∷ call (0x10 ∷ 0x01 ∷ 0x00 ∷ 0x51 ∷ 0xF1 ∷ []) (yes overlong)
    ∷ call a (yes (frame a))
    ∷ []
unfolding index_of ends going_on runs feed_rule event_of reply_of past one_chunk all_end
after-unclosed-long = refl

-- ---- seven bytes in a hold buffer of seven, and of six

exactly : over 7 ((0xF0 ∷ 0x40 ∷ 0x10 ∷ []) ∷ (0x01 ∷ 0x00 ∷ 0x51 ∷ 0xF1 ∷ []) ∷ []) (lit≤ tt) ≡
    call (0xF0 ∷ 0x40 ∷ 0x10 ∷ []) (yes more) ∷ call (0x01 ∷ 0x00 ∷ 0x51 ∷ 0xF1 ∷ []) (yes (frame a)) ∷ []
unfolding index_of ends going_on runs feed_rule event_of reply_of past one_chunk all_end
exactly = refl

one_less : over 6 ((0xF0 ∷ 0x40 ∷ 0x10 ∷ []) ∷ (0x01 ∷ 0x00 ∷ 0x51 ∷ 0xF1 ∷ []) ∷ []) (lit≤ tt) ≡
    call (0xF0 ∷ 0x40 ∷ 0x10 ∷ []) (yes more) ∷ call (0x01 ∷ 0x00 ∷ 0x51 ∷ 0xF1 ∷ []) (yes overlong) ∷ []
unfolding index_of ends going_on runs feed_rule event_of reply_of past one_chunk all_end
one_less = refl
