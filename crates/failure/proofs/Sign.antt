-- A whole number over 1000, rounded, is a number and keeps its sign: it is at most zero, or below it, exactly where the whole number is.
-- However large that is: a thousandth is far above the least float, so that no quotient but that of 0 is rounded to zero.
use Prim.Native.Nat.{ℕ, zero, suc, ◌+◌, ◌*◌, ◌^◌}
use mathlib.Core.Path.{◌≡◌, refl, sym, ◌∙◌, ap, subst}
use mathlib.Core.Bool.{Bool, true, false, cond}
use native.Mathlib.Nat.{mul-pos}
use native.Mathlib.Omega.{arith}
use lib.Dec.{T, ltb, ltb→lt}
use lib.IntN.{ℤ, pos, negsuc}
use lib.Ieee.{Float, nan, inf, fin, Format, binary64, prec, emax, low, up, down, odd, units, round, neg, div, of_int, is_nan, le}
use lib.Ieee.Fits.{round_is, up_pos, down_pos}
use lib.Ieee.Order.{round_mono}
use lib.Ieee.Positive.{positive, above, above_of_le, le→cross}
use lib.Signed.{le_z, lt_z}
use borrow.Author.Tests.{lt-ltb, le-ltb, lt-leb, ne_eqb}
use Rattle.integer.specs.Fields.{scaled_by}
use Rattle.failure.specs.League.{at_most_zero, below_zero}

-- a whole number in thousandths, as a figure
abbrev pub in_thousandths : ℤ → Float
in_thousandths z = scaled_by (of_int binary64 (pos 1000)) z

-- ---- the sign goes through rounding

odd-neg : (d q k l : ℕ) → odd d true q k l ≡ neg (odd d false q k l)
unfolding odd neg
odd-neg d zero k l = refl
odd-neg d (suc q) k l = refl

cut-neg : (b : Bool) (d q k l : ℕ) → cond b (odd d true q k l) (inf true) ≡ neg (cond b (odd d false q k l) (inf false))
unfolding neg
cut-neg true d q k l = odd-neg d q k l
cut-neg false d q k l = refl

units-neg : (f : Format) (q k : ℕ) → units f true q k ≡ neg (units f false q k)
unfolding units
units-neg f q k = cut-neg (ltb (q * 2 ^ k) (2 ^ (low f + suc (emax f)))) (suc (prec f)) q k (low f)

round-neg : (f : Format) (a b : ℕ) → round f true a b ≡ neg (round f false a b)
round-neg f a b = round_is f true a b ∙ units-neg f _ _ ∙ ap neg (sym (round_is f false a b))

-- ---- 1000, and what is 1 at least

thousand : of_int binary64 (pos 1000) ≡ fin false 125 (pos 3)
unfolding of_int
thousand = refl

abbrev one : Float
one = fin false 1 (pos 0)

one-is : round binary64 false 1 1 ≡ one
unfolding round
one-is = refl

from_one : (n : ℕ) → T (le one (round binary64 false (suc n) 1))
from_one n =
    subst (λ (x : Float). T (le x (round binary64 false (suc n) 1))) one-is
    (round_mono binary64 1 1 (suc n) 1 (omega arith) (omega arith) (omega arith))

least : T (positive (round binary64 false 1 1000))
unfolding round
least = tt

-- its quotient is above zero, an infinity included
over-above : (x : Float) → T (above x) → T (le one x) → T (above (div binary64 x (fin false 125 (pos 3))))
unfolding div
over-above nan a h = absurd a
over-above (inf false) a h = tt
over-above (inf true) a h = absurd a
over-above (fin true m e) a h = absurd a
over-above (fin false m e) a h =
    let d = down_pos e in
    let q = le→cross one (fin false m e) tt a h in
    above_of_le (round binary64 false 1 1000) (round binary64 false (m * up e * 1) (125 * 2 ^ 3 * down e)) least
    (round_mono binary64 1 1000 (m * up e * 1) (125 * 2 ^ 3 * down e) (omega arith) (omega (arith, d)) (omega (arith, q)))

-- the sign goes through the quotient
over-neg : (x : Float) → T (above x) → div binary64 (neg x) (fin false 125 (pos 3)) ≡ neg (div binary64 x (fin false 125 (pos 3)))
unfolding div neg
over-neg nan a = absurd a
over-neg (inf true) a = absurd a
over-neg (inf false) a = refl
over-neg (fin true m e) a = absurd a
over-neg (fin false m e) a = round-neg binary64 (m * up e * 1) (125 * 2 ^ 3 * down e)

positive-above : (n : ℕ) → T (above (in_thousandths (pos (suc n))))
unfolding of_int
positive-above n =
    let h = from_one n in
    rw thousand (over-above (round binary64 false (suc n) 1) (above_of_le one (round binary64 false (suc n) 1) tt h) h)

negative-is : (n : ℕ) → in_thousandths (negsuc n) ≡ neg (in_thousandths (pos (suc n)))
unfolding of_int
negative-is n =
    rw thousand
    (ap (λ (x : Float). div binary64 x (fin false 125 (pos 3))) (round-neg binary64 (suc n) 1)
    ∙ over-neg (round binary64 false (suc n) 1) (above_of_le one (round binary64 false (suc n) 1) tt (from_one n)))

-- ---- what is above zero passes both tests, and its opposite fails both

passes : (x : Float) → T (above x) → (at_most_zero x ≡ false) × (below_zero x ≡ false)
unfolding is_nan le
passes nan a = absurd a
passes (inf true) a = absurd a
passes (inf false) a = (refl, refl)
passes (fin true m e) a = absurd a
passes (fin false m e) a =
    let h = mul-pos (ltb→lt 0 m a) (up_pos e) in
    let l = le-ltb (m * up e * 1) (0 * 1 * down e) (omega (arith, h)) in
    (simp (l, ne_eqb (m * up e * 1) (0 * 1 * down e) (λ q. omega (arith, h, q))), simp l)

opposite-fails : (x : Float) → T (above x) → (at_most_zero (neg x) ≡ true) × (below_zero (neg x) ≡ true)
unfolding is_nan le neg
opposite-fails nan a = absurd a
opposite-fails (inf true) a = absurd a
opposite-fails (inf false) a = (refl, refl)
opposite-fails (fin true m e) a = absurd a
opposite-fails (fin false m e) a =
    let h = mul-pos (ltb→lt 0 m a) (up_pos e) in
    let l = lt-ltb 0 (m * up e * 1 + 0 * 1 * down e) (omega (arith, h)) in
    (simp l, simp l)

pub at-most-is : (z : ℤ) → at_most_zero (in_thousandths z) ≡ le_z z (pos 0)
unfolding is_nan le of_int div
at-most-is (pos zero) = refl
at-most-is (pos (suc n)) = (passes (in_thousandths (pos (suc n))) (positive-above n)).0 ∙ sym (lt-leb (suc n) 0 (omega arith))
at-most-is (negsuc n) = ap at_most_zero (negative-is n) ∙ (opposite-fails (in_thousandths (pos (suc n))) (positive-above n)).0

pub below-is : (z : ℤ) → below_zero (in_thousandths z) ≡ lt_z z (pos 0)
unfolding is_nan le of_int div
below-is (pos zero) = refl
below-is (pos (suc n)) = (passes (in_thousandths (pos (suc n))) (positive-above n)).1 ∙ sym (le-ltb (suc n) 0 (omega arith))
below-is (negsuc n) = ap below_zero (negative-is n) ∙ (opposite-fails (in_thousandths (pos (suc n))) (positive-above n)).1
