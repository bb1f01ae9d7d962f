-- A FLOAT40 at a place is the one at the front of the part that starts there and has its five bytes.
-- So a read of a part is a read of the whole, and past the end it is +0.0.
use Prim.Native.Nat.{ℕ, ◌+◌, ◌≤◌}
use mathlib.Core.Path.{◌≡◌, ap, ◌∙◌}
use mathlib.Core.List.{List}
use native.Mathlib.Omega.{arith}
use lib.IntN.{ℤ, pos}
use lib.ListN.{length, take, drop}
use Rattle.integer.specs.Fields.{be_at, signed, int_at}
use Rattle.integer.proofs.BigEndian.{be-zeros}
use Rattle.integer.proofs.Part.{int-drop, int-take}
use Rattle.float40.specs.Float40.{value40, float40_at}

pub from_place : (s : List ℕ) (at : ℕ) → float40_at (drop at s) 0 ≡ float40_at s at
unfolding float40_at
from_place s at =
    let e : at + 0 ≡ at = omega arith in
    ap (λ (z : ℤ). value40 z (int_at 3 (drop at s) 2)) (int-drop 2 at s 0 ∙ ap (int_at 2 s) e)
    ∙ ap (value40 (int_at 2 s at)) (int-drop 3 at s 2)

pub five-bytes : (s : List ℕ) → float40_at (take 5 s) 0 ≡ float40_at s 0
unfolding float40_at
five-bytes s =
    ap (λ (z : ℤ). value40 z (int_at 3 (take 5 s) 2)) (int-take 2 5 s 0 (omega arith))
    ∙ ap (value40 (int_at 2 s 0)) (int-take 3 5 s 2 (omega arith))

-- from the end on every byte counts as 0, and so does the mantissa
pub past_end : (s : List ℕ) (at : ℕ) → length s ≤ at → int_at 3 s (at + 2) ≡ pos 0
unfolding int_at signed be_at
past_end s at h = ap (signed 24) (be-zeros 0 3 s (at + 2) (omega arith))
