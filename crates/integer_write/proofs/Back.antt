-- What was written reads back, every other field keeps its value, and what is read, written again, changes nothing.
-- Each once over the width, at any place.
use Prim.Native.Nat.{ℕ, zero, suc, ◌+◌, ◌-◌, ◌*◌, ◌/◌, ◌%◌, ◌^◌, ◌<◌, ◌≤◌}
use mathlib.Core.Path.{◌≡◌, refl, sym, ap, ◌∙◌}
use mathlib.Core.Bool.{Bool, true, false, cond}
use mathlib.Core.List.{List, [], ◌∷◌}
use mathlib.Core.Logic.{◌⊎◌, inl, inr, ⊎_elim}
use native.Mathlib.Omega.{arith}
use native.Mathlib.Nat.{pow-suc, pow-succ', mul_assoc, mod-eq_of_lt, mod-one}
use lib.Arith.{mod-mul, digits_div, digits_mod}
use lib.Dec.{leb}
use lib.IntN.{ℤ}
use lib.ListN.{length, get_or, set, length-set}
use lib.Pow.{pow_pos}
use lib.Seq.{sets, length-sets, get_or-set_same, get_or-set_other, set-get_or}
use lib.Signed.{mag}
use borrow.Author.Tests.{le-leb}
use Rattle.error.specs.Refusal.{yes}
use Rattle.integer.specs.Fields.{be_at, signed, int_at, reading}
use Rattle.integer.proofs.BigEndian.{be-lt}
use Rattle.integer.proofs.Reading.{reads-where}
use Rattle.integer_write.specs.Writing.{bytes_of, unsigned, int_bytes, written}
use Rattle.integer_write.proofs.Bytes.{bytes_bits, length-bytes, bytes_low}
use Rattle.integer_write.proofs.Bits.{unsigned-lt, signed-unsigned, unsigned_signed}
use Rattle.integer_write.proofs.Cases.{writes-where}

-- ---- every other byte is kept

below : (vs s : List ℕ) (i p : ℕ) → p < i → get_or (sets s i vs) p 0 ≡ get_or s p 0
below [] s i p h = refl
below (v ∷ vs) s i p h =
    below vs (set s i v) (suc i) p (omega arith) ∙ get_or-set_other s i p v 0 (λ e. let q : ⊥ = omega arith in q)

above : (vs s : List ℕ) (i p : ℕ) → i + length vs ≤ p → get_or (sets s i vs) p 0 ≡ get_or s p 0
above [] s i p h = refl
above (v ∷ vs) s i p h =
    above vs (set s i v) (suc i) p (omega arith) ∙ get_or-set_other s i p v 0 (λ e. let q : ⊥ = omega arith in q)

pub byte-kept : (bs s : List ℕ) (at p : ℕ) → (p < at) ⊎ (at + length bs ≤ p) → get_or (written bs s at) p 0 ≡ get_or s p 0
unfolding written
byte-kept bs s at p h = each (leb (at + length bs) (length s))
  where
    each : (b : Bool) → get_or (cond b (sets s at bs) s) p 0 ≡ get_or s p 0
    each true = ⊎_elim (below bs s at p) (above bs s at p) h
    each false = refl

pub length-written : (bs s : List ℕ) (at : ℕ) → length (written bs s at) ≡ length s
unfolding written
length-written bs s at = each (leb (at + length bs) (length s))
  where
    each : (b : Bool) → length (cond b (sets s at bs) s) ≡ length s
    each true = length-sets s at bs
    each false = refl

-- so a field before it, or behind it, keeps its value
pub be-kept : (k : ℕ) (bs s : List ℕ) (at p : ℕ) → (p + k ≤ at) ⊎ (at + length bs ≤ p) → be_at k (written bs s at) p ≡ be_at k s p
unfolding be_at
be-kept zero bs s at p h = refl
be-kept (suc k) bs s at p h =
    let f = be-kept k bs s at p (⊎_elim (λ l. inl (omega arith)) (λ l. inr (omega arith)) h) in
    let b = byte-kept bs s at (p + k) (⊎_elim (λ l. inl (omega arith)) (λ l. inr (omega arith)) h) in
    (λ i. f i * 256 + b i)

pub int-kept : (k : ℕ) (bs s : List ℕ) (at p : ℕ) → (p + k ≤ at) ⊎ (at + length bs ≤ p) → int_at k (written bs s at) p ≡ int_at k s p
unfolding int_at
int-kept k bs s at p h = ap (signed (8 * k)) (be-kept k bs s at p h)

-- ---- what was written reads back

-- the first byte's part
be-front : (k : ℕ) (s : List ℕ) (at : ℕ) → be_at (suc k) s at ≡ get_or s at 0 * 256 ^ k + be_at k s (suc at)
unfolding be_at
be-front zero s at = let e : at + 0 ≡ at = omega arith in rw e (omega arith)
be-front (suc k) s at =
    let e : at + suc k ≡ suc at + k = omega arith in
    let p : get_or s at 0 * 256 ^ suc k ≡ get_or s at 0 * 256 ^ k * 256 =
    ap (λ (n : ℕ). get_or s at 0 * n) (pow-suc 256 k) ∙ sym (mul_assoc (get_or s at 0) (256 ^ k) 256) in
    ap (λ (n : ℕ). n * 256 + get_or s (at + suc k) 0) (be-front k s at)
    ∙ ap (λ (n : ℕ). (get_or s at 0 * 256 ^ k + be_at k s (suc at)) * 256 + get_or s n 0) e
    ∙ omega (arith, p)

be-sets : (k n : ℕ) (s : List ℕ) (at : ℕ) → at + k ≤ length s → be_at k (sets s at (bytes_of k n)) at ≡ n % 256 ^ k
unfolding be_at bytes_of
be-sets zero n s at h = sym (mod-one n)
be-sets (suc k) n s at h =
    let b = n / 256 ^ k % 256 in
    let t = sets (set s at b) (suc at) (bytes_of k n) in
    be-front k t at
    ∙ ap (λ (y : ℕ). y * 256 ^ k + be_at k t (suc at)) (below (bytes_of k n) (set s at b) (suc at) at (omega arith) ∙ get_or-set_same s at b 0 (omega arith))
    ∙ ap (λ (y : ℕ). b * 256 ^ k + y) (be-sets k n (set s at b) (suc at) (simp length-set (omega arith)))
    ∙ sym (ap (λ (y : ℕ). n % y) (pow-succ' 256 k) ∙ mod-mul n {m = 256} {c = 256 ^ k} (omega arith) (rw bytes_bits (pow_pos (8 * k))))

-- the low bits, of any number
pub be-low : (k n : ℕ) (s : List ℕ) (at : ℕ) → at + k ≤ length s → be_at k (written (bytes_of k n) s at) at ≡ n % 2 ^ (8 * k)
be-low k n s at h =
    ap (λ (l : List ℕ). be_at k l at) (writes-where (bytes_of k n) s at (le-leb (at + length (bytes_of k n)) (length s) (rw length-bytes h))).1
    ∙ be-sets k n s at h
    ∙ ap (λ (m : ℕ). n % m) (bytes_bits k)

pub int-low : (k : ℕ) (z : ℤ) (s : List ℕ) (at : ℕ) → at + k ≤ length s → int_at k (written (int_bytes k z) s at) at ≡ signed (8 * k) (unsigned (8 * k) z)
unfolding int_at int_bytes
int-low k z s at h = ap (signed (8 * k)) (be-low k (unsigned (8 * k) z) s at h ∙ mod-eq_of_lt (unsigned-lt (8 * k) z))

-- and the number, where k bytes hold it
pub be-back : (k n : ℕ) (s : List ℕ) (at : ℕ) → n < 2 ^ (8 * k) → at + k ≤ length s → be_at k (written (bytes_of k n) s at) at ≡ n
be-back k n s at g h = be-low k n s at h ∙ mod-eq_of_lt g

pub int-back : (k : ℕ) (z : ℤ) (s : List ℕ) (at : ℕ) → 0 < k → mag z < 2 ^ (8 * k - 1) → at + k ≤ length s → int_at k (written (int_bytes k z) s at) at ≡ z
int-back k z s at o g h = int-low k z s at h ∙ signed-unsigned (8 * k) z (omega arith) g

-- as a reader tells it
pub be-reads-back : (kind k n : ℕ) (s : List ℕ) (at : ℕ) → n < 2 ^ (8 * k) → at + k ≤ length s
    → reading kind k (be_at k) (written (bytes_of k n) s at) at ≡ yes n
be-reads-back kind k n s at g h =
    reads-where kind k (be_at k) (written (bytes_of k n) s at) at (le-leb (at + k) (length (written (bytes_of k n) s at)) (rw length-written h))
    ∙ ap yes (be-back k n s at g h)

pub int-reads-back : (kind k : ℕ) (z : ℤ) (s : List ℕ) (at : ℕ) → 0 < k → mag z < 2 ^ (8 * k - 1) → at + k ≤ length s
    → reading kind k (int_at k) (written (int_bytes k z) s at) at ≡ yes z
int-reads-back kind k z s at o g h =
    reads-where kind k (int_at k) (written (int_bytes k z) s at) at (le-leb (at + k) (length (written (int_bytes k z) s at)) (rw length-written h))
    ∙ ap yes (int-back k z s at o g h)

-- ---- what is read, written again, changes nothing

module _ (s : List ℕ) (bytes : (i : ℕ) → get_or s i 0 < 256) where
  pub sets-again : (k at : ℕ) → sets s at (bytes_of k (be_at k s at)) ≡ s
  unfolding be_at bytes_of
  sets-again zero at = refl
  sets-again (suc k) at =
      let n = be_at (suc k) s at in
      let m : be_at k s (suc at) < 256 ^ k = rw bytes_bits (be-lt k s (suc at) bytes) in
      let b : n / 256 ^ k % 256 ≡ get_or s at 0 =
      ap (λ (y : ℕ). y / 256 ^ k % 256) (be-front k s at) ∙ ap (λ (y : ℕ). y % 256) (digits_div (get_or s at 0) m) ∙ mod-eq_of_lt (bytes at) in
      let r : bytes_of k n ≡ bytes_of k (be_at k s (suc at)) =
      sym (bytes_low (8 * k) k n (omega arith))
      ∙ ap (bytes_of k) (sym (ap (λ (y : ℕ). n % y) (bytes_bits k)) ∙ ap (λ (y : ℕ). y % 256 ^ k) (be-front k s at) ∙ digits_mod (get_or s at 0) m) in
      (λ i. sets (set s at (b i)) (suc at) (r i))
      ∙ ap (λ (l : List ℕ). sets l (suc at) (bytes_of k (be_at k s (suc at)))) (set-get_or s at 0) ∙ sets-again k (suc at)

  pub be-again : (k at : ℕ) → written (bytes_of k (be_at k s at)) s at ≡ s
  unfolding written
  be-again k at = each (leb (at + length (bytes_of k (be_at k s at))) (length s))
    where
      each : (t : Bool) → cond t (sets s at (bytes_of k (be_at k s at))) s ≡ s
      each true = sets-again k at
      each false = refl

  pub int-again : (k at : ℕ) → written (int_bytes k (int_at k s at)) s at ≡ s
  unfolding int_at int_bytes
  int-again k at =
      ap (λ (n : ℕ). written (bytes_of k n) s at) (unsigned_signed (8 * k) (be_at k s at) (be-lt k s at bytes))
      ∙ be-again k at
