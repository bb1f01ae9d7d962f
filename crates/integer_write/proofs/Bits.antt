-- The w bits of a number in two's complement: their bound, fewer of them, and that number and bits undo each other.
-- Once over the width; reading and writing undo each other by the last two.
use Prim.Native.Nat.{ℕ, suc, ◌+◌, ◌-◌, ◌*◌, ◌/◌, ◌%◌, ◌^◌, ◌<◌, ◌≤◌}
use mathlib.Core.Path.{◌≡◌, sym, ap, ◌∙◌}
use native.Mathlib.Omega.{arith}
use native.Mathlib.Nat.{add-mul, mod-lt, mod-eq_of_lt}
use lib.Pow.{pow_pos, shr_lt, split, low, mod-mod-pow, ones_split}
use lib.IntN.{ℤ, pos, negsuc}
use lib.Signed.{mag}
use mir.Syntax.{Width}
use mir.Val.{of_z, bits}
use Rattle.general.proofs.Cases.{by-lt}
use Rattle.integer.specs.Fields.{signed}
use Rattle.integer.proofs.Complement.{halves, low-is, high_is}
use Rattle.integer_write.specs.Writing.{unsigned}

pub unsigned-lt : (w : ℕ) (z : ℤ) → unsigned w z < 2 ^ w
unfolding unsigned
unsigned-lt w (pos n) = mod-lt n (pow_pos w)
unsigned-lt w (negsuc n) = omega (arith, pow_pos w)

-- so std has the bits of a type
pub of-type : (W : Width) (z : ℤ) → mag z < 2 ^ bits W → of_z W z ≡ unsigned (bits W) z
unfolding unsigned
of-type W (pos n) h = sym (mod-eq_of_lt h)
of-type W (negsuc n) h = ap (λ (m : ℕ). 2 ^ bits W - suc m) (sym (mod-eq_of_lt h))

-- fewer bits of a number's w bits in two's complement are its bits in fewer
pub unsigned-low : (v w : ℕ) (z : ℤ) → v ≤ w → unsigned w z % 2 ^ v ≡ unsigned v z
unfolding unsigned
unsigned-low v w z h = let e : w ≡ w - v + v = omega arith in rw e (over (w - v) z)
  where
    over : (d : ℕ) (z : ℤ) → unsigned (d + v) z % 2 ^ v ≡ unsigned v z
    over d (pos n) = mod-mod-pow n d v
    over d (negsuc n) =
        let m = n % 2 ^ (d + v) in
        let q = m / 2 ^ v in
        let p = 2 ^ d - 1 - q in
        let l : q < 2 ^ d = shr_lt d v (mod-lt n (pow_pos (d + v))) in
        let e : p + q ≡ 2 ^ d - 1 = omega arith in
        let s : p * 2 ^ v + q * 2 ^ v ≡ (2 ^ d - 1) * 2 ^ v = sym (add-mul p q (2 ^ v)) ∙ ap (λ (x : ℕ). x * 2 ^ v) e in
        let r : 2 ^ (d + v) - suc m ≡ p * 2 ^ v + (2 ^ v - suc (n % 2 ^ v)) =
        omega (arith, split m v, mod-mod-pow n d v, mod-lt n (pow_pos v), mod-lt n (pow_pos (d + v)), ones_split d v, s) in
        ap (λ (t : ℕ). t % 2 ^ v) r ∙ low p v (omega (arith, pow_pos v))

-- ---- each undoes the other

pub signed-unsigned : (w : ℕ) (z : ℤ) → 0 < w → mag z < 2 ^ (w - 1) → signed w (unsigned w z) ≡ z
unfolding unsigned
signed-unsigned w (pos n) o h = ap (signed w) (mod-eq_of_lt (omega (arith, halves w o))) ∙ low-is w n h
signed-unsigned w (negsuc n) o h =
    let d = halves w o in
    let m : n % 2 ^ w ≡ n = mod-eq_of_lt (omega arith) in
    let e : 2 ^ w - 1 - (2 ^ w - suc n) ≡ n = omega arith in
    ap (λ (k : ℕ). signed w (2 ^ w - suc k)) m ∙ high_is w (2 ^ w - suc n) (omega arith) (omega arith) ∙ ap negsuc e

pub unsigned_signed : (w n : ℕ) → n < 2 ^ w → unsigned w (signed w n) ≡ n
unfolding unsigned
unsigned_signed w n g =
    by-lt n (2 ^ (w - 1)) (λ h. ap (unsigned w) (low-is w n h) ∙ mod-eq_of_lt g)
    (λ h.
    let m : (2 ^ w - 1 - n) % 2 ^ w ≡ 2 ^ w - 1 - n = mod-eq_of_lt (omega arith) in
    let e : 2 ^ w - suc (2 ^ w - 1 - n) ≡ n = omega arith in
    ap (unsigned w) (high_is w n h g) ∙ ap (λ (k : ℕ). 2 ^ w - suc k) m ∙ e)
