-- A fraction of 2 ^ (emax + 1) or more rounds to an infinity, in each format: 2 ^ 1024 in binary64.
-- Beside lib.Ieee.Exact's `round_exact`, for values past the format's range.
use Prim.Native.Nat.{ℕ, suc, ◌+◌, ◌-◌, ◌*◌, ◌/◌, ◌%◌, ◌^◌, ◌<◌, ◌≤◌, compare}
use mathlib.Core.Path.{◌≡◌, sym, ap, ◌∙◌}
use mathlib.Core.Bool.{Bool}
use native.Mathlib.Omega.{arith}
use native.Mathlib.Nat.{le_trans, le_of_eq, lt_of_not-le, not-le_of_lt, mul_assoc, mul_comm, mul-le-mul_right, le-div_iff_mul-le, div-div-eq-div-mul}
use lib.Pow.{pow-add, pow_pos, pow_mono}
use lib.Ieee.{inf, Format, prec, emax, low, size, nearest, units, round}
use lib.Ieee.Digits.{size-lt, size_reaches}
use lib.Ieee.Fits.{two, round_is}
use lib.Ieee.Nearest.{nearest-ge}
use borrow.Author.Tests.{le-ltb}

units-over : (f : Format) (s : Bool) (q k : ℕ) → 2 ^ (low f + suc (emax f)) ≤ q * 2 ^ k → units f s q k ≡ inf s
unfolding units
units-over f s q k h = rw (le-ltb (q * 2 ^ k) (2 ^ (low f + suc (emax f))) h)

-- a number loses less than its leading digit where k of its lower digits are cut off
cut : (n k t : ℕ) → k ≤ t → 2 ^ t ≤ n → 2 ^ t ≤ n / 2 ^ k * 2 ^ k
cut n k t h g =
    let e : t - k + k ≡ t = omega arith in
    let p : 2 ^ t ≡ 2 ^ (t - k) * 2 ^ k = ap (λ (j : ℕ). 2 ^ j) (sym e) ∙ pow-add 2 (t - k) k in
    rw p (mul-le-mul_right (2 ^ k) ((le-div_iff_mul-le (pow_pos k)).1 (rw p at g)))

pub round-over : (f : Format) (s : Bool) (num den : ℕ) → 0 < den → 2 ^ suc (emax f) * den ≤ num → round f s num den ≡ inf s
round-over f s num den above h =
    let l = low f in
    let n = num * 2 ^ l in
    let w = n / den in
    let k = size w - prec f in
    let u = den * 2 ^ k in
    let o = compare (n % u * 2) u in
    let scaled : 2 ^ (l + suc (emax f)) * den ≤ n =
    le_trans
    (le_of_eq (ap (λ (x : ℕ). x * den) (pow-add 2 l (suc (emax f))) ∙ mul_assoc (2 ^ l) (2 ^ suc (emax f)) den ∙ mul_comm (2 ^ l) (2 ^ suc (emax f) * den)))
    (mul-le-mul_right (2 ^ l) h) in
    let least : 2 ^ (l + suc (emax f)) ≤ w = (le-div_iff_mul-le above).1 scaled in
    let digits : l + suc (emax f) < size w = lt_of_not-le (λ g. not-le_of_lt (size-lt w) (le_trans (pow_mono g) least)) in
    let t = size w - 1 in
    let kept : 2 ^ t ≤ w / 2 ^ k * 2 ^ k = cut w k t (omega (arith, two f)) (size_reaches w t (omega arith)) in
    let whole : w / 2 ^ k ≡ n / u = div-div-eq-div-mul n den (2 ^ k) in
    round_is f s num den
    ∙ units-over f s (nearest (n / u) o) k
    (le_trans (pow_mono {i = l + suc (emax f)} {j = t} (omega arith))
    (le_trans kept (le_trans (le_of_eq (ap (λ (x : ℕ). x * 2 ^ k) whole)) (mul-le-mul_right (2 ^ k) (nearest-ge (n / u) o)))))
