-- Runs of stores: from the front, of plain blocks one behind the other, and of a stuffed byte.
-- `front` turns a run from the front into the buffer that `filled` tells.
use Rattle.std.proofs.Common.{◌≡◌, ℕ, ◌+◌, ◌-◌, ◌≤◌, cond, eqb, leb, List, ◌++◌, length, take, drop, set, sym, ap, ◌∙◌, append_assoc, zero-add, add-one, arith, length-append, length-take-le, take_at, take-add, drop_at, set-set, eq-eqb, ne_eqb, le-leb}
use lib.Seq.{sets, sets-eq, length-sets}
use Rattle.general.proofs.Cases.{by-eq}
use Rattle.general.proofs.Stores.{sets-append}
use Rattle.stuffing.specs.Stuff.{escape_of, stuff_byte, stuff}
use Rattle.encoding.specs.Private.{last_of}
use Rattle.stuffing.proofs.Codes.{plain, escaped}
use Rattle.stuffing.proofs.Stuffing.{stuff-append}

-- a run of stores from the front: the list, and what was behind it
pub front : (w old : List ℕ) {last : List ℕ} → length w ≤ length old → last ≡ sets old 0 w → last ≡ w ++ drop (length w) old
front w old h e = e ∙ sets-eq w old 0 (rw zero-add h) ∙ rw zero-add

-- of a string that is stored from o on, the front x is stored, and r is to come
pub stored_on : (x r buf : List ℕ) (o : ℕ) {w buf' whole : List ℕ} {o' end n : ℕ} → w ≡ x ++ r → o' ≡ o + length x → buf' ≡ sets buf o x
    → o + length w ≡ end → sets buf o w ≡ whole → length buf ≡ n
    → (o' + length r ≡ end) × (sets buf' o' r ≡ whole) × (length buf' ≡ n)
stored_on x r buf o e oe be ends same long = (
  omega (arith, ap length e, length-append x r, oe, ends),
  (λ j. sets (be j) (oe j) r) ∙ sets-append x r buf o ∙ ap (sets buf o) (sym e) ∙ same,
  ap length be ∙ length-sets buf o x ∙ long,
)

-- what a run of stores left, read again
pub read_again : (w old : List ℕ) (i n : ℕ) → i + n ≤ length old → length w ≡ n → take n (drop i (sets old i w)) ≡ w
read_again w old i n h e =
    let r = drop (i + length w) old in
    let x = sets-eq w old i (omega (arith, h, e)) ∙ append_assoc (take i old) w r in
    let y = ap (drop i) x ∙ drop_at (take i old) (w ++ r) i (length-take-le i old (omega (arith, h))) in
    ap (take n) y ∙ take_at w r n e

-- plain bytes stored one behind the other: the first i of s, and the sixteen behind them
module _ (s a : List ℕ) (i : ℕ) (more : i + 16 ≤ length s) (sixteen : a ≡ take 16 (drop i s)) where
  pub plain-on : stuff (take i s) ≡ take i s → stuff a ≡ a → stuff (take (i + 16) s) ≡ take (i + 16) s
  plain-on p q = rw (take-add i 16 s, ← sixteen, stuff-append (take i s) a, p, q)

  pub block_on : (old buf last : List ℕ) (at : ℕ) → at + length s ≤ length old → buf ≡ sets old at (take i s)
      → last ≡ cond (leb (at + i + 16) (length buf)) (sets buf (at + i) a) buf → last ≡ sets old at (take (i + 16) s)
  block_on old buf last at room b e =
      let fits : at + i + 16 ≤ length buf = omega (arith, ap length b, length-sets old at (take i s)) in
      let n = sym (length-take-le i s (omega arith)) in
      let f : last ≡ sets buf (at + i) a = e ∙ rw (le-leb (at + i + 16) (length buf) fits) in
      let g : sets buf (at + i) a ≡ sets (sets old at (take i s)) (at + length (take i s)) a = λ j. sets (b j) (at + n j) a in
      let h : take i s ++ a ≡ take (i + 16) s = rw (take-add i 16 s, ← sixteen) in
      f ∙ g ∙ sets-append (take i s) a old at ∙ ap (sets old at) h

-- a stuffed byte: FD, and its last byte, which may be stored over it
module _ (b : ℕ) where
  pub width_of : (code w : ℕ) → code ≡ escape_of b → w ≡ cond (eqb code 0) 1 2 → w ≡ length (stuff_byte b)
  width_of code w is e =
      by-eq (escape_of b) 0
      (λ h. e ∙ rw (is, eq-eqb (escape_of b) 0 h, plain b h))
      (λ h. e ∙ rw (is, ne_eqb (escape_of b) 0 h, escaped b h))

  pub byte-stored : (w last : ℕ) → w ≡ length (stuff_byte b) → last ≡ last_of b
      → (old : List ℕ) (at : ℕ) → set (set old at 0xFD) (at + w - 1) last ≡ sets old at (stuff_byte b)
  byte-stored w last we le old at =
      by-eq (escape_of b) 0
      (λ h.
      let n : at + w - 1 ≡ at = omega (arith, we, ap length (plain b h)) in
      rw (n, le, eq-eqb (escape_of b) 0 h, plain b h)
      (set-set old at 0xFD b))
      (λ h.
      let n : at + w - 1 ≡ at + 1 = omega (arith, we, ap length (escaped b h)) in
      rw (n, le, ne_eqb (escape_of b) 0 h, escaped b h, add-one))
