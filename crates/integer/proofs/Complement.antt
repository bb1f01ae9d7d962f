-- Two's complement over w bits: the number that they stand for, by halves, and that it fits.
-- `moved` is how `int24_at` makes the number of fewer bits.
use Prim.Native.Nat.{ℕ, suc, ◌+◌, ◌-◌, ◌*◌, ◌/◌, ◌^◌, ◌<◌, ◌≤◌}
use mathlib.Core.Path.{◌≡◌, sym, ap, subst, ◌∙◌}
use mathlib.Core.Bool.{Bool, cond}
use native.Mathlib.Omega.{arith}
use native.Mathlib.Nat.{pow-suc, add-mul, mul-le-mul_right, mul-lt-mul_of_pos_right, lt_of_lt_of_le}
use lib.Pow.{pow_pos, pow-add, pow_mono, shl_lt, shl-shr, high, ones_split}
use lib.IntN.{ℤ, pos, negsuc, sub_ℕ}
use lib.Signed.{shr_z}
use mir.Syntax.{Width}
use mir.Val.{SFits, to_z, bits, hbits}
use mir.ValLaws.{to_z_pos}
use Rattle.std.proofs.Math.Facts.{to_z-neg}
use borrow.Author.Tests.{lt-ltb, le-ltb}
use Rattle.general.proofs.Cases.{by-lt}
use Rattle.integer.specs.Fields.{signed}

pub halves : (w : ℕ) → 0 < w → 2 ^ w ≡ 2 ^ (w - 1) * 2
halves w h = let e : w ≡ suc (w - 1) = omega arith in ap (λ (j : ℕ). 2 ^ j) e ∙ pow-suc 2 (w - 1)

-- the lower half
pub low-is : (w n : ℕ) → n < 2 ^ (w - 1) → signed w n ≡ pos n
unfolding signed
low-is w n h = ap (λ (b : Bool). cond b (pos n) (sub_ℕ n (2 ^ w))) (lt-ltb n (2 ^ (w - 1)) h)

-- the upper half: as far below 0 as n is below 2 ^ w
pub high_is : (w n : ℕ) → 2 ^ (w - 1) ≤ n → n < 2 ^ w → signed w n ≡ negsuc (2 ^ w - 1 - n)
unfolding signed
high_is w n h g =
    let e : 2 ^ w - suc n ≡ 2 ^ w - 1 - n = omega arith in
    ap (λ (b : Bool). cond b (pos n) (sub_ℕ n (2 ^ w))) (le-ltb n (2 ^ (w - 1)) h)
    ∙ ap (λ (b : Bool). cond b (negsuc (2 ^ w - suc n)) (pos (n - 2 ^ w))) (lt-ltb n (2 ^ w) g)
    ∙ ap negsuc e

pub signed-fits : (W : Width) (w n : ℕ) → 0 < w → w - 1 ≤ hbits W → n < 2 ^ w → SFits W (signed w n)
signed-fits W w n z k g =
    by-lt n (2 ^ (w - 1))
    (λ h. subst (λ (z : ℤ). SFits W z) (sym (low-is w n h)) (record { sfits = lt_of_lt_of_le h (pow_mono k) }))
    (λ h.
    let m : 2 ^ w - 1 - n < 2 ^ (w - 1) = omega (arith, halves w z) in
    subst (λ (z : ℤ). SFits W z) (sym (high_is w n h g)) (record { sfits = lt_of_lt_of_le m (pow_mono k) }))

-- moved up by d bits and down again, it is the number of fewer bits
pub moved : (w d n : ℕ) → 0 < w → n < 2 ^ w → shr_z (signed (w + d) (n * 2 ^ d)) (2 ^ d) ≡ signed w n
moved w d n o g =
    let e : w - 1 + d ≡ w + d - 1 = omega arith in
    let half : 2 ^ (w + d - 1) ≡ 2 ^ (w - 1) * 2 ^ d = ap (λ (j : ℕ). 2 ^ j) (sym e) ∙ pow-add 2 (w - 1) d in
    by-lt n (2 ^ (w - 1))
    (λ h.
    let l : n * 2 ^ d < 2 ^ (w + d - 1) = rw half (mul-lt-mul_of_pos_right h (pow_pos d)) in
    ap (λ (z : ℤ). shr_z z (2 ^ d)) (low-is (w + d) (n * 2 ^ d) l) ∙ ap pos (shl-shr n d) ∙ sym (low-is w n h))
    (λ h.
    let p = 2 ^ w - 1 - n in
    let q : p + n ≡ 2 ^ w - 1 = omega arith in
    let s : p * 2 ^ d + n * 2 ^ d ≡ (2 ^ w - 1) * 2 ^ d = sym (add-mul p n (2 ^ d)) ∙ ap (λ (x : ℕ). x * 2 ^ d) q in
    let r : 2 ^ (w + d) - 1 - n * 2 ^ d ≡ p * 2 ^ d + (2 ^ d - 1) = omega (arith, ones_split w d, s) in
    let l : 2 ^ (w + d - 1) ≤ n * 2 ^ d = rw half (mul-le-mul_right (2 ^ d) h) in
    ap (λ (z : ℤ). shr_z z (2 ^ d)) (high_is (w + d) (n * 2 ^ d) l (shl_lt w d g))
    ∙ ap negsuc (ap (λ (x : ℕ). x / 2 ^ d) r ∙ high p d (omega (arith, pow_pos d)))
    ∙ sym (high_is w n h g))

-- so std has it, of the bits of a type
pub of-type : (W : Width) (n : ℕ) → bits W ≡ suc (hbits W) → n < 2 ^ bits W → to_z W n ≡ signed (bits W) n
of-type W n e g =
    let half : bits W - 1 ≡ hbits W = omega arith in
    by-lt n (2 ^ hbits W) (λ h. to_z_pos W n h ∙ sym (low-is (bits W) n (subst (λ (j : ℕ). n < 2 ^ j) (sym half) h)))
    (λ h.
    let below = 2 ^ bits W - 1 - n in
    let is : 2 ^ bits W - suc below ≡ n = omega arith in
    let full : 2 ^ bits W ≡ 2 ^ hbits W * 2 = ap (λ (j : ℕ). 2 ^ j) e ∙ pow-suc 2 (hbits W) in
    ap (to_z W) (sym is) ∙ to_z-neg W below (omega arith)
    ∙ sym (high_is (bits W) n (subst (λ (j : ℕ). 2 ^ j ≤ n) (sym half) h) g))
