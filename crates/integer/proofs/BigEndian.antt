-- The big-endian number of bytes at a place: one byte more, its bound, and bytes past the end.
-- Each law once over the width.
use Prim.Native.Nat.{ℕ, zero, suc, ◌+◌, ◌*◌, ◌^◌, ◌<◌, ◌≤◌}
use mathlib.Core.Path.{◌≡◌, ap, subst, ◌∙◌}
use mathlib.Core.List.{List}
use native.Mathlib.Omega.{arith}
use native.Mathlib.Numerals.{add-one}
use native.Mathlib.Nat.{mul_assoc, lt_of_lt_of_le}
use lib.ListN.{length, get_or, get_or-eq_default}
use lib.Arith.{digits_lt}
use lib.Pow.{pow-add, pow_mono}
use Rattle.integer.specs.Fields.{be_at}

-- one byte more
pub more_lt : (i n b : ℕ) → n < 2 ^ (8 * i) → b < 256 → n * 256 + b < 2 ^ (8 * (i + 1))
more_lt i n b h g =
    let e : 8 * (i + 1) ≡ 8 * i + 8 = omega arith in
    rw (e, pow-add) (digits_lt h g)

pub be-more : (i : ℕ) (s : List ℕ) (at : ℕ) → be_at (i + 1) s at ≡ be_at i s at * 256 + get_or s (at + i) 0
unfolding be_at
be-more i s at = rw add-one

-- k bytes are below 2 ^ 8k
pub be-lt : (k : ℕ) (s : List ℕ) (at : ℕ) → ((i : ℕ) → get_or s i 0 < 256) → be_at k s at < 2 ^ (8 * k)
unfolding be_at
be-lt zero s at h = omega arith
be-lt (suc k) s at h =
    subst (λ (j : ℕ). be_at (suc k) s at < 2 ^ (8 * j)) (add-one k) (more_lt k (be_at k s at) (get_or s (at + k) 0) (be-lt k s at h) (h (at + k)))

-- a number of fewer than j bytes is below that of j
pub small : (j : ℕ) {i n : ℕ} → n < 2 ^ (8 * i) → i ≤ j → n < 2 ^ (8 * j)
small j {i} {n} h g = lt_of_lt_of_le h (pow_mono {i = 8 * i} {j = 8 * j} (omega arith))

-- past the end there is nothing but zeros: m bytes that are there, and j more
pub be-zeros : (m j : ℕ) (s : List ℕ) (at : ℕ) → length s ≤ at + m → be_at (m + j) s at ≡ be_at m s at * 2 ^ (8 * j)
be-zeros m zero s at h = let e : m + 0 ≡ m = omega arith in ap (λ (k : ℕ). be_at k s at) e ∙ omega arith
be-zeros m (suc j) s at h =
    let e : m + suc j ≡ m + j + 1 = omega arith in
    let z : get_or s (at + (m + j)) 0 ≡ 0 = get_or-eq_default s 0 (omega arith) in
    let p : 8 * suc j ≡ 8 * j + 8 = omega arith in
    ap (λ (k : ℕ). be_at k s at) e
    ∙ be-more (m + j) s at
    ∙ rw (z, be-zeros m j s at h, p, pow-add) (omega (arith, mul_assoc (be_at m s at) (2 ^ (8 * j)) 256))
