-- Document 01, 'Splitter', and request 6: what one call of `feed` does. s is the state before it, h the hold buffer, c the chunk.
-- `feed_rule` fixes the answer, the bytes taken, the state after the call and every byte of the hold buffer.
use Rattle.std.specs.Prelude.{ℕ, ◌+◌, ◌-◌, ◌^◌, Bool, true, false, cond, not, ◌&&◌, ◌||◌, List, [], ◌++◌, length, take, drop, ltb, leb, eqb}
use Rattle.std.specs.Prelude.{Result}
use Rattle.std.specs.declared.result.Result.TheVariants.{Ok, Err}
use Rattle.error.specs.declared.WireError.{WireError}
use Rattle.error.specs.Refusal.{Told, yes, no, refused}
use Rattle.search.specs.First.{first_from}
use Rattle.splitter.specs.declared.Counts.{Counts}
use Rattle.splitter.specs.declared.FrameSplitter.{FrameSplitter}
use Rattle.splitter.specs.declared.Place.{Place}
use Rattle.splitter.specs.declared.Fed.{Fed}
use Rattle.splitter.specs.declared.Event.{Event}
use Rattle.splitter.specs.declared.Event.TheVariants.{More, Frame, Overlong}

-- ---- answers

-- what a call answers; a frame is told as an F: by its place, or by its bytes
pub data Answer (F : Type 0) : Type 0 where
  more overlong : Answer F
  frame : F → Answer F

abbrev pub on_frame : {F G : Type 0} → (F → G) → Answer F → Answer G
on_frame f more = more
on_frame f overlong = overlong
on_frame f (frame p) = frame (f p)

abbrev pub answer_of : Event → Answer Place
answer_of More = more
answer_of (Frame p) = frame p
answer_of Overlong = overlong

-- what a reply tells, and how many bytes it says were taken: a refusal takes none
abbrev pub told_event : Result Fed WireError → Told (Answer Place)
told_event (Ok f) = yes (answer_of f.event)
told_event (Err e) = refused e

abbrev pub taken_of : Result Fed WireError → ℕ
taken_of (Ok f) = f.taken
taken_of (Err e) = 0

-- all that a call fixes: the answer, the bytes taken, the state after it, and the hold buffer after it
pub record Given : Type 0 where
  pub answer : Told (Answer Place)
  pub taken : ℕ
  pub state : FrameSplitter
  pub hold : List ℕ

abbrev pub given : Told (Answer Place) → ℕ → FrameSplitter → List ℕ → Given
given a n s h = record { answer = a; taken = n; state = s; hold = h }

abbrev pub given_by : Result Fed WireError → FrameSplitter → List ℕ → Given
given_by r s h = given (told_event r) (taken_of r) s h

-- ---- states

-- a splitter's first state: count 0, no mark, and nothing counted
abbrev pub new : FrameSplitter
new = record { count = 0; skipping = false; counts = record { taken = 0; dropped = 0; framed = 0; lost = 0; held = 0 } }

abbrev pub is_open : FrameSplitter → Bool
is_open s = s.skipping || not (eqb s.count 0)

-- taken is the sum of the other four, and held is the count
abbrev pub balances : Counts → ℕ → Bool
balances k count = eqb k.taken (k.dropped + k.framed + k.lost + k.held) && eqb k.held count

-- a count above H, counts that do not balance, or a mark with a count other than 0
abbrev pub is_bad : FrameSplitter → ℕ → Bool
is_bad s H = ltb H s.count || not (balances s.counts s.count) || (s.skipping && not (eqb s.count 0))

-- taken plus n bytes would pass the largest 64-bit number
abbrev pub is_full : FrameSplitter → ℕ → Bool
is_full s n = ltb (2 ^ 64 - 1) (s.counts.taken + n)

-- ---- places in a chunk

-- where the frame's bytes start: at once where it is open, else at the first F0
abbrev pub start_in : FrameSplitter → List ℕ → ℕ
start_in s c = cond (is_open s) 0 (first_from 0xF0 0 c)

-- the bytes from index i up to, not with, index e
abbrev pub part : List ℕ → ℕ → ℕ → List ℕ
part c i e = take (e - i) (drop i c)

-- h with p written over it from index at on
abbrev pub laid : List ℕ → ℕ → List ℕ → List ℕ
laid h at p = take at h ++ p ++ drop (at + length p) h

-- ---- the rule; the frame's bytes of this chunk are those from index i up to index e

-- the frame's length with n more bytes
abbrev pub length_with : FrameSplitter → ℕ → ℕ
length_with s n = s.count + n

-- it has no mark, and is then no longer than H
abbrev pub is_kept : FrameSplitter → ℕ → ℕ → Bool
is_kept s H n = not s.skipping && leb (length_with s n) H

-- e bytes of the chunk are taken, i of them outside frames; of the frame's bytes so many are handed over now, so many lost, so many held
abbrev pub counted : FrameSplitter → ℕ → ℕ → ℕ → ℕ → ℕ → Counts
counted s i e framed lost held =
    record {
      taken = s.counts.taken + e;
      dropped = s.counts.dropped + i;
      framed = s.counts.framed + framed;
      lost = s.counts.lost + lost;
      held = held;
    }

-- the state then: after a frame's end count and mark are as fresh, and the counts run on; before it the bytes are held, or the mark is set
abbrev pub handed : FrameSplitter → ℕ → ℕ → FrameSplitter
handed s i e = record { count = 0; skipping = false; counts = counted s i e (length_with s (e - i)) 0 0 }

abbrev pub given_up : FrameSplitter → ℕ → ℕ → FrameSplitter
given_up s i e = record { count = 0; skipping = false; counts = counted s i e 0 (length_with s (e - i)) 0 }

abbrev pub holding : FrameSplitter → ℕ → ℕ → FrameSplitter
holding s i e = record { count = length_with s (e - i); skipping = false; counts = counted s i e 0 0 (length_with s (e - i)) }

abbrev pub marked : FrameSplitter → ℕ → ℕ → FrameSplitter
marked s i e = record { count = 0; skipping = true; counts = counted s i e 0 (length_with s (e - i)) 0 }

-- it ends there: completed in the hold where it was open, else given by where it lies; or it is lost
unfoldable pub ends : FrameSplitter → List ℕ → List ℕ → ℕ → ℕ → Given
ends s h c i e =
    cond (is_kept s (length h) (e - i))
    (cond (is_open s)
    (given (yes (frame (record { in_hold = true; start = 0; len = length_with s (e - i) }))) e (handed s i e) (laid h s.count (part c i e)))
    (given (yes (frame (record { in_hold = false; start = i; len = e - i }))) e (handed s i e) h))
    (given (yes overlong) e (given_up s i e) h)

-- all is taken, and it is unclosed: its bytes are held, or the mark is set
unfoldable pub going_on : FrameSplitter → List ℕ → List ℕ → ℕ → ℕ → Given
going_on s h c i e =
    cond (is_kept s (length h) (e - i))
    (given (yes more) e (holding s i e) (laid h s.count (part c i e)))
    (given (yes more) e (marked s i e) h)

-- from the frame's first byte in the chunk to its first F1, or to the chunk's end
unfoldable pub runs : FrameSplitter → List ℕ → List ℕ → ℕ → Given
runs s h c i =
    cond (ltb (first_from 0xF1 i c) (length c)) (ends s h c i (first_from 0xF1 i c + 1)) (going_on s h c i (length c))

-- what is refused takes nothing and alters nothing
abbrev pub refused_as : ℕ → FrameSplitter → List ℕ → Given
refused_as k s h = given (no k []) 0 s h

unfoldable pub feed_rule : FrameSplitter → List ℕ → List ℕ → Given
feed_rule s h c = cond (is_bad s (length h)) (refused_as 9 s h) (cond (is_full s (length c)) (refused_as 13 s h) (runs s h c (start_in s c)))
