-- Request 6: after any calls from fresh, however cut, the five counts are what specs/Noise says of the bytes since then (`counts-are`).
-- Of any bytes, taken is the sum of the other four (`sum-of-four`). No calls take a line of 2^64 bytes (`line-below`), and over a shorter one none
-- is refused: their answers are the Rust's frames (proofs/Rust), and for every cutting there are such calls (proofs/Ends).
use mathlib.Core.Path.{◌≡◌, refl, ap, ◌∙◌}
use mathlib.Core.Bool.{false}
use mathlib.Core.List.{List, [], ◌∷◌, ◌++◌, append-nil}
use Prim.Native.Nat.{ℕ, ◌+◌, ◌^◌, ◌<◌}
use native.Mathlib.Omega.{arith}
use lib.Dec.{eqb, leb}
use lib.ListN.{length, length-append}
use Rattle.general.proofs.Cases.{by-test}
use Rattle.splitter.specs.declared.FrameSplitter.{FrameSplitter}
use Rattle.splitter.specs.Feed.{new}
use Rattle.splitter.proofs.Laws.{CanCount}
use Rattle.stream.specs.Stream.{Call, Calls}
use Rattle.search.specs.First.{index_of}
use Rattle.stream.specs.Rust.{turns, rust_frames, rust_left}
use Rattle.stream.specs.Noise.{outside, within, beyond, sum_over, counts_over}
use Rattle.stream.proofs.Line.{opened, frames_in, begun}
use Rattle.stream.proofs.Tally.{Tallied, beyond-none}
use Rattle.stream.proofs.Stream.{taken-below, follows-fresh}
use Rattle.stream.proofs.Calls.{stands-fresh}
use Rattle.stream.proofs.Rust.{line-frames, line-leaves}

-- the line's frames and open bytes are the Rust's, fed all of it at once
module _ (b : List ℕ) where
  frames-are : frames_in [] b ≡ rust_frames [] (b ∷ [])
  frames-are = rw append-nil at (line-frames (b ∷ []))

  left_is : opened [] b ≡ rust_left [] (b ∷ [])
  left_is = rw append-nil at (line-leaves (b ∷ []))

-- The counts after any calls from fresh that took the bytes b.
pub counts-are : {h b : List ℕ} {t : List Call} {s : FrameSplitter} {k : List ℕ} → Calls new h b t s k → s.counts ≡ counts_over (length h) b
counts-are {h} {b} {s = s} c =
    let H = length h in
    let f : Tallied H new.counts [] b s.counts = (follows-fresh c).counts in
    let fs = frames_in [] b in
    let taken : s.counts.taken ≡ length b = omega (arith, f.taken) in
    let dropped : s.counts.dropped ≡ outside false b = omega (arith, f.dropped) in
    let framed : s.counts.framed ≡ sum_over (within H) fs = omega (arith, f.framed) in
    let lost : s.counts.lost ≡ sum_over (beyond H) fs + beyond H (opened [] b) = omega (arith, f.lost, beyond-none H) in
    λ i. record {
      taken = taken i;
      dropped = dropped i;
      framed = (framed ∙ ap (sum_over (within H)) (frames-are b)) i;
      lost = (lost ∙ (λ j. sum_over (beyond H) (frames-are b j) + beyond H (left_is b j))) i;
      held = (f.held ∙ ap (within H) (left_is b)) i;
    }

-- The bytes of a line that calls took, all of it, are fewer than 2^64.
pub line-below : {h b : List ℕ} {t : List Call} {s : FrameSplitter} {k : List ℕ} → Calls new h b t s k → length b < 2 ^ 64
line-below {h} {b} c =
    let l : CanCount new (length b) = taken-below [] (stands-fresh h) (omega arith) c in
    omega arith

-- ---- the sum

-- each byte of the line, and of what was open before it, stands in a frame, in what is open after it, or outside
each-once : (w b : List ℕ) → length w + length b ≡ outside (begun w) b + sum_over length (frames_in w b) + length (opened w b)
each-once w [] = omega arith
each-once [] (x ∷ b) =
    by-test (eqb x 0xF0)
    (λ e. let r = each-once (x ∷ []) b in rw e (omega arith))
    (λ e. let r = each-once [] b in rw e (omega arith))
each-once (y ∷ w) (x ∷ b) =
    by-test (eqb x 0xF1)
    (λ e. let r = each-once [] b in rw e (omega (arith, length-append w (x ∷ []))))
    (λ e. let r = each-once (y ∷ (w ++ (x ∷ []))) b in rw e (omega (arith, length-append w (x ∷ []))))

module _ (H : ℕ) where
  either : (w : List ℕ) → within H w + beyond H w ≡ length w
  either w = by-test (leb (length w) H) (λ e. rw e (omega arith)) (λ e. rw e (omega arith))

  all_either : (fs : List (List ℕ)) → sum_over (within H) fs + sum_over (beyond H) fs ≡ sum_over length fs
  all_either [] = refl
  all_either (w ∷ fs) = let r = all_either fs in let s = either w in omega arith

-- Taken is the sum of the other four.
pub sum-of-four : (H : ℕ) (b : List ℕ) → let k = counts_over H b in k.taken ≡ k.dropped + k.framed + k.lost + k.held
sum-of-four H b =
    let e = each-once [] b in
    let s = all_either H (frames_in [] b) in
    let o = either H (opened [] b) in
    rw (← frames-are b, ← left_is b) (omega arith)

-- ---- two lines worked out

-- a byte outside, a frame, a byte outside, a frame of four in a hold buffer of three, and a start that is open
some-of-each :
    counts_over 3 (0x00 ∷ 0xF0 ∷ 0xF1 ∷ 0x00 ∷ 0xF0 ∷ 0x00 ∷ 0x00 ∷ 0xF1 ∷ 0xF0 ∷ []) ≡
    record { taken = 9; dropped = 2; framed = 2; lost = 4; held = 1 }
unfolding turns index_of
some-of-each = refl

-- an end outside is dropped; an open start that has outgrown the hold buffer is lost
none-held : counts_over 1 (0xF1 ∷ 0xF0 ∷ 0x00 ∷ []) ≡ record { taken = 3; dropped = 1; framed = 0; lost = 2; held = 0 }
unfolding turns index_of
none-held = refl
