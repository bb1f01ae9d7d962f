-- Signed numbers: differences of naturals, a fixed number more or less, a count from the least, and what a test says.
-- For exponents: e - 23 is a difference of two naturals, and the bits are made of sums of e.
use Prim.Native.Nat.{ℕ, suc, ◌+◌, ◌-◌, ◌<◌, ◌≤◌}
use mathlib.Core.Path.{◌≡◌, refl, sym, ap, subst, ◌∙◌}
use mathlib.Core.Bool.{Bool, true, false, cond, false≢true}
use native.Mathlib.Omega.{arith}
use native.Mathlib.Nat.{zero-add}
use lib.IntN.{ℤ, pos, negsuc, sub_ℕ, ◌+ℤ◌, ◌-ℤ◌, nat_abs}
use lib.Dec.{T}
use lib.Signed.{mag, non_neg, lt_z, le_z}
use lib.Ieee.{minus}
use mir.Syntax.{Width}
use mir.Val.{SFits, to_z, of_z}
use mir.ValLaws.{pow-bits, to_z-of_z}
use borrow.Author.Tests.{lt-ltb, le-ltb, le-leb, lt-leb, ltb-true, ltb-false, leb-true, leb-false}
use Rattle.general.proofs.Cases.{by-lt}
use Rattle.float40.specs.Float40.{negative}

-- ---- a - b of two naturals, as `minus` and as `sub_ℕ`

pub minus-le : (a b : ℕ) → b ≤ a → minus a b ≡ pos (a - b)
minus-le a b h = ap (λ (t : Bool). cond t (pos (a - b)) (negsuc (b - suc a))) (le-leb b a h)

pub minus-lt : (a b : ℕ) → a < b → minus a b ≡ negsuc (b - suc a)
minus-lt a b h = ap (λ (t : Bool). cond t (pos (a - b)) (negsuc (b - suc a))) (lt-leb b a h)

sub-le : (a b : ℕ) → b ≤ a → sub_ℕ a b ≡ pos (a - b)
sub-le a b h = ap (λ (t : Bool). cond t (negsuc (b - suc a)) (pos (a - b))) (le-ltb a b h)

sub-lt : (a b : ℕ) → a < b → sub_ℕ a b ≡ negsuc (b - suc a)
sub-lt a b h = ap (λ (t : Bool). cond t (negsuc (b - suc a)) (pos (a - b))) (lt-ltb a b h)

pub sub-minus : (a b : ℕ) → sub_ℕ a b ≡ minus a b
sub-minus a b = by-lt a b (λ h. sub-lt a b h ∙ sym (minus-lt a b h)) (λ h. sub-le a b h ∙ sym (minus-le a b h))

pub mag-minus : (a b H : ℕ) → a < H → b ≤ H → mag (minus a b) < H
mag-minus a b H h g =
    by-lt a b (λ k. subst (λ (z : ℤ). mag z < H) (sym (minus-lt a b k)) (omega arith))
    (λ k. subst (λ (z : ℤ). mag z < H) (sym (minus-le a b k)) (omega arith))

-- d less, for a d above 0
pub less : (a b d : ℕ) → minus a b -ℤ pos (suc d) ≡ minus a (b + suc d)
less a b d =
    by-lt a b
    (λ h. let e : suc (b - suc a + d) ≡ b + suc d - suc a = omega arith in
    ap (λ (z : ℤ). z -ℤ pos (suc d)) (minus-lt a b h) ∙ ap negsuc e ∙ sym (minus-lt a (b + suc d) (omega arith)))
    (λ h. ap (λ (z : ℤ). z -ℤ pos (suc d)) (minus-le a b h)
    ∙ by-lt a (b + suc d)
    (λ g. let e : suc d - suc (a - b) ≡ b + suc d - suc a = omega arith in
    sub-lt (a - b) (suc d) (omega arith) ∙ ap negsuc e ∙ sym (minus-lt a (b + suc d) g))
    (λ g. let e : a - b - suc d ≡ a - (b + suc d) = omega arith in
    sub-le (a - b) (suc d) (omega arith) ∙ ap pos e ∙ sym (minus-le a (b + suc d) g)))

-- c more makes f of it: then it is f - c
pub plus-back : (z : ℤ) (c f : ℕ) → z +ℤ pos c ≡ pos f → z ≡ minus f c
plus-back (pos n) c f e =
    let q : n + c ≡ f = ap nat_abs e in
    let r : n ≡ f - c = omega arith in
    ap pos r ∙ sym (minus-le f c (omega arith))
plus-back (negsuc n) c f e =
    by-lt c (suc n) (λ h. absurd (subst (λ (y : ℤ). T (non_neg y)) (sym e ∙ sub-lt c (suc n) h) tt))
    (λ h. let q : c - suc n ≡ f = ap nat_abs (sym (sub-le c (suc n) h) ∙ e) in
    let r : n ≡ c - suc f = omega arith in
    ap negsuc r ∙ sym (minus-lt f c (omega arith)))

-- t more of both
pub both-more : (a b t : ℕ) → minus a b ≡ minus (a + t) (b + t)
both-more a b t =
    by-lt a b
    (λ h. let e : b - suc a ≡ b + t - suc (a + t) = omega arith in
    minus-lt a b h ∙ ap negsuc e ∙ sym (minus-lt (a + t) (b + t) (omega arith)))
    (λ h. let e : a - b ≡ a + t - (b + t) = omega arith in
    minus-le a b h ∙ ap pos e ∙ sym (minus-le (a + t) (b + t) (omega arith)))

pub plus : (a b c : ℕ) → minus a b +ℤ pos c ≡ minus (a + c) b
plus a b c =
    by-lt a b
    (λ h. ap (λ (z : ℤ). z +ℤ pos c) (minus-lt a b h)
    ∙ by-lt c (suc (b - suc a))
    (λ g. let e : suc (b - suc a) - suc c ≡ b - suc (a + c) = omega arith in
    sub-lt c (suc (b - suc a)) g ∙ ap negsuc e ∙ sym (minus-lt (a + c) b (omega arith)))
    (λ g. let e : c - suc (b - suc a) ≡ a + c - b = omega arith in
    sub-le c (suc (b - suc a)) g ∙ ap pos e ∙ sym (minus-le (a + c) b (omega arith))))
    (λ h. let e : a - b + c ≡ a + c - b = omega arith in
    ap (λ (z : ℤ). z +ℤ pos c) (minus-le a b h) ∙ ap pos e ∙ sym (minus-le (a + c) b (omega arith)))

pub mag-plus : (z : ℤ) (c : ℕ) → mag (z +ℤ pos c) ≤ mag z + c
mag-plus (pos n) c = omega arith
mag-plus (negsuc n) c =
    by-lt c (suc n) (λ h. subst (λ (y : ℤ). mag y ≤ n + c) (sym (sub-lt c (suc n) h)) (omega arith))
    (λ h. subst (λ (y : ℤ). mag y ≤ n + c) (sym (sub-le c (suc n) h)) (omega arith))

-- a number that is not below -(H + 1), counted from there
pub counted : (H : ℕ) (z : ℤ) → lt_z z (negsuc H) ≡ false → (j : ℕ) × (z +ℤ pos (suc H) ≡ pos j)
counted H (pos n) l = (n + suc H, refl)
counted H (negsuc n) l = (suc H - suc n, sub-le (suc H) (suc n) (omega (arith, ltb-false H n l)))

-- ---- tests

pub from_zero : (z : ℤ) → le_z (pos 0) z ≡ true → (f : ℕ) × (z ≡ pos f)
from_zero (negsuc n) h = absurd (false≢true h)
from_zero (pos n) h = (n, refl)

pub not-below : (z : ℤ) → lt_z z (pos 0) ≡ false → le_z (pos 0) z ≡ true
not-below (negsuc n) h = absurd (false≢true (sym h))
not-below (pos n) h = le-leb 0 n (omega arith)

pub at_most : {b f : ℕ} {z : ℤ} → z ≡ pos f → le_z z (pos b) ≡ true → f ≤ b
at_most {b} {f} q h = leb-true f b (ap (λ (y : ℤ). le_z y (pos b)) (sym q) ∙ h)

pub past : {b f : ℕ} {z : ℤ} → z ≡ pos f → le_z z (pos b) ≡ false → b < f
past {b} {f} q h = leb-false f b (ap (λ (y : ℤ). le_z y (pos b)) (sym q) ∙ h)

pub minus-below : (a b : ℕ) → lt_z (minus a b) (pos 0) ≡ true → a < b
minus-below a b h =
    by-lt a b (λ g. g)
    (λ g. absurd (let q : ⊥ = omega (arith, ltb-true (a - b) 0 (ap (λ (z : ℤ). lt_z z (pos 0)) (sym (minus-le a b g)) ∙ h)) in q))

-- ---- the sign, and the magnitude

negative-is : (z : ℤ) → lt_z z (pos 0) ≡ negative z
negative-is (pos n) = le-ltb n 0 (omega arith)
negative-is (negsuc n) = refl

pub abs-le : (z : ℤ) → nat_abs z ≤ suc (mag z)
abs-le (pos n) = omega arith
abs-le (negsuc n) = omega arith

-- 0 less a negative number is its magnitude
pub opposite : (z : ℤ) → negative z ≡ true → pos 0 -ℤ z ≡ pos (nat_abs z)
opposite (pos n) e = absurd (false≢true e)
opposite (negsuc n) e = ap pos (zero-add (suc n))

pub not_negative : (z : ℤ) → negative z ≡ false → T (non_neg z)
not_negative (pos n) e = tt
not_negative (negsuc n) e = absurd (false≢true (sym e))

-- ---- a test of the machine's number against 0 is one of the number

pub negative-held : (W : Width) (z : ℤ) → SFits W z → lt_z (to_z W (of_z W z)) (pos 0) ≡ negative z
negative-held W z f = ap (λ (y : ℤ). lt_z y (pos 0)) (to_z-of_z W z f) ∙ negative-is z

pub zero-abs : (W : Width) (z : ℤ) → SFits W z → of_z W z ≡ 0 → nat_abs z ≡ 0
zero-abs W (pos n) f e = e
zero-abs W (negsuc n) f e = absurd (let q : ⊥ = omega (arith, f.sfits, e, pow-bits W) in q)

pub abs-zero : (W : Width) (z : ℤ) → nat_abs z ≡ 0 → of_z W z ≡ 0
abs-zero W (pos n) e = e
abs-zero W (negsuc n) e = absurd (let q : ⊥ = omega (arith, e) in q)
