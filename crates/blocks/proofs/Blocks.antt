-- Bytes read past a string's end, and a block that is laid over a part of a buffer.
-- `block` reads by the first, `put_block` stores by the second.
use mathlib.Core.Path.{◌≡◌, refl}
use mathlib.Core.List.{List, [], ◌∷◌, ◌++◌, append_assoc}
use Prim.Native.Nat.{ℕ, zero, suc, ◌+◌, ◌-◌, ◌≤◌}
use lib.ListN.{length, get_or, replicate}
use lib.Seq.{sets, sets-eq, drop-drop}
use borrow.Rule.Slice.PartMut.{put_mid}
use borrow.Author.Tests.{le-leb}
use native.Mathlib.Omega.{arith}
use lib.Dec.{leb}
use mathlib.Core.Bool.{cond}

zeros : (n k : ℕ) → ◌≡◌ {A = ℕ} (get_or (replicate n 0) k 0) 0
zeros zero k = refl
zeros (suc n) zero = refl
zeros (suc n) (suc k) = zeros n k

pub behind : (s : List ℕ) (n k : ℕ) → get_or (s ++ replicate n 0) k 0 ≡ get_or s k 0
behind [] n k = zeros n k
behind (b ∷ s) n zero = refl
behind (b ∷ s) n (suc k) = behind s n k

-- sixteen bytes that are laid over a part are those stores
pub laid-sets : (l p a : List ℕ) (at : ℕ) → at + 16 ≤ length l → p ≡ a → length a ≡ 16
    → put_mid at (at + 16 - at) l p ≡ cond (leb (at + 16) (length l)) (sets l at a) l
laid-sets l p a at h e n =
    let k : at + 16 - at ≡ 16 = omega arith in
    let f : at + length a ≤ length l = omega arith in
    rw (le-leb _ _ h, e, k) (rw (sets-eq a l at f, n, drop-drop, append_assoc))
