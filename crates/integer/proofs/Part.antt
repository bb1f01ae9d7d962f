-- A field of what is left of a list, or of its first bytes, is a field of the list.
-- Each law once over the width.
use Prim.Native.Nat.{ℕ, zero, suc, ◌+◌, ◌*◌, ◌≤◌}
use mathlib.Core.Path.{◌≡◌, refl, ap}
use mathlib.Core.List.{List}
use native.Mathlib.Omega.{arith}
use lib.ListN.{take, drop}
use lib.Seq.{get_or-take, get_or-drop}
use Rattle.integer.specs.Fields.{be_at, signed, int_at}

be-drop : (k n : ℕ) (s : List ℕ) (at : ℕ) → be_at k (drop n s) at ≡ be_at k s (n + at)
unfolding be_at
be-drop zero n s at = refl
be-drop (suc k) n s at =
    let e : n + (at + k) ≡ n + at + k = omega arith in
    rw (be-drop k n s at, get_or-drop n s (at + k) 0, e)

be-take : (k n : ℕ) (s : List ℕ) (at : ℕ) → at + k ≤ n → be_at k (take n s) at ≡ be_at k s at
unfolding be_at
be-take zero n s at h = refl
be-take (suc k) n s at h = rw (be-take k n s at (omega arith), get_or-take n s (at + k) 0 (omega arith))

pub int-drop : (k n : ℕ) (s : List ℕ) (at : ℕ) → int_at k (drop n s) at ≡ int_at k s (n + at)
unfolding int_at
int-drop k n s at = ap (signed (8 * k)) (be-drop k n s at)

pub int-take : (k n : ℕ) (s : List ℕ) (at : ℕ) → at + k ≤ n → int_at k (take n s) at ≡ int_at k s at
unfolding int_at
int-take k n s at h = ap (signed (8 * k)) (be-take k n s at h)
