-- A number's low bytes: how many there are, and that the bits above them do not count.
-- Each law once over the width.
use Prim.Native.Nat.{ℕ, zero, suc, ◌+◌, ◌-◌, ◌*◌, ◌/◌, ◌%◌, ◌^◌, ◌≤◌}
use mathlib.Core.Path.{◌≡◌, refl, sym, ap, ◌∙◌}
use mathlib.Core.List.{List, [], ◌∷◌}
use native.Mathlib.Omega.{arith}
use native.Mathlib.Nat.{pow-suc, div-one}
use Rattle.std.specs.Int.{bytes_high_first}
use lib.ListN.{length}
use lib.Pow.{pow-add, field, mod-mod-pow}
use lib.IntN.{ℤ}
use Rattle.integer_write.specs.Writing.{bytes_of, unsigned, int_bytes}
use Rattle.integer_write.proofs.Bits.{unsigned-low}

-- so std has the bytes of a type
pub be-bytes : (k n : ℕ) → bytes_high_first k n ≡ bytes_of k n
unfolding bytes_of
be-bytes zero n = refl
be-bytes (suc zero) n = ap (λ (m : ℕ). m % 256 ∷ []) (sym (div-one n))
be-bytes (suc (suc k)) n = ap (λ (l : List ℕ). n / 256 ^ suc k % 256 ∷ l) (be-bytes (suc k) n)

pub length-bytes : (k n : ℕ) → length (bytes_of k n) ≡ k
unfolding bytes_of
length-bytes zero n = refl
length-bytes (suc k) n = ap suc (length-bytes k n)

pub length-int : (k : ℕ) (z : ℤ) → length (int_bytes k z) ≡ k
unfolding int_bytes
length-int k z = length-bytes k (unsigned (8 * k) z)

pub bytes_bits : (k : ℕ) → 256 ^ k ≡ 2 ^ (8 * k)
bytes_bits zero = refl
bytes_bits (suc k) =
    let e : 8 * suc k ≡ 8 * k + 8 = omega arith in
    pow-suc 256 k ∙ ap (λ (m : ℕ). m * 256) (bytes_bits k) ∙ sym (ap (λ (m : ℕ). 2 ^ m) e ∙ pow-add 2 (8 * k) 8)

-- only the low 8k bits count
pub bytes_low : (w k n : ℕ) → 8 * k ≤ w → bytes_of k (n % 2 ^ w) ≡ bytes_of k n
unfolding bytes_of
bytes_low w zero n h = refl
bytes_low w (suc k) n h =
    let d = w - (8 * k + 8) in
    let e : w ≡ d + 8 + 8 * k = omega arith in
    let first : n % 2 ^ w / 256 ^ k % 256 ≡ n / 256 ^ k % 256 =
    rw (bytes_bits k, e) (ap (λ (m : ℕ). m % 256) (field n (d + 8) (8 * k)) ∙ mod-mod-pow (n / 2 ^ (8 * k)) d 8) in
    (λ i. first i ∷ bytes_low w k n (omega arith) i)

-- so the low bytes of w bits are the low bytes
pub wide : (w k : ℕ) (z : ℤ) → 8 * k ≤ w → bytes_of k (unsigned w z) ≡ int_bytes k z
unfolding int_bytes
wide w k z h = sym (bytes_low (8 * k) k (unsigned w z) (omega arith)) ∙ ap (bytes_of k) (unsigned-low (8 * k) w z h)
