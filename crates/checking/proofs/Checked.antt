-- A wire is taken exactly where it is what the rule says: F0 first, F1 last, escapes and checksum right, known addresses.
-- `Checked` lists these conditions; `taken` and `checked` are the two directions.
use mathlib.Core.Path.{◌≡◌, refl, sym, ap, ◌∙◌}
use mathlib.Core.Bool.{Bool, true, false, not}
use mathlib.Core.List.{List, [], ◌∷◌}
use Prim.Native.Nat.{ℕ, ◌-◌, ◌≤◌}
use native.Mathlib.Omega.{arith}
use lib.Dec.{eqb, ltb}
use lib.ListN.{length, get_or}
use borrow.Author.Tests.{ltb-false, eqb-true}
use Rattle.error.specs.Refusal.{Told, yes, no, and_then}
use Rattle.error.proofs.Tells.{test-passed}
use Rattle.addr.specs.declared.BusAddr.{BusAddr}
use Rattle.addr.specs.Address.{address_rule}
use Rattle.unstuffing.specs.Unstuff.{unstuff, byte_at}
use Rattle.encoding.specs.Wire.{Fields, fields}
use Rattle.checking.specs.Rule.{interior, received_of, computed_of, payload_of, addresses_rule, sum_rule, units_rule, check_rule}
use Rattle.checking.specs.Wrong.{Enclosed}
use Rattle.checking.proofs.Cases.{framed, many, matching, both-known}

pub record Checked (w : List ℕ) (f : Fields) : Type 0 where
  pub enclosed : Enclosed w
  pub us : List (ℕ × ℕ)
  pub escapes : unstuff 0 (interior w) ≡ yes us
  pub five : 5 ≤ length us
  pub sum : received_of us ≡ computed_of (interior w) us
  pub dest : address_rule (byte_at us 0) ≡ yes f.dest
  pub src : address_rule (byte_at us 1) ≡ yes f.src
  pub rest : f ≡ fields f.dest f.src (byte_at us 2) (payload_of us)

pub taken : {w : List ℕ} {f : Fields} → Checked w f → check_rule w ≡ yes f
taken {w} {f} c =
    framed w c.enclosed.long c.enclosed.first c.enclosed.last
    ∙ ap (λ (t : Told (List (ℕ × ℕ))). and_then t (units_rule (length w) (interior w))) c.escapes
    ∙ many c.us (interior w) (length w) c.five
    ∙ matching c.us (interior w) c.sum
    ∙ both-known c.us f.dest f.src c.dest c.src
    ∙ ap yes (sym c.rest)

-- ---- and nothing else

holds : (t : Bool) → not t ≡ false → t ≡ true
holds true e = refl
holds false e = sym e

pub enclosed : (w : List ℕ) → ltb (length w) 7 ≡ false → not (eqb (get_or w 0 0) 0xF0) ≡ false → not (eqb (get_or w (length w - 1) 0) 0xF1) ≡ false → Enclosed w
enclosed w a b c =
    record {
      long = ltb-false (length w) 7 a;
      first = eqb-true (get_or w 0 0) 0xF0 (holds _ b);
      last = eqb-true (get_or w (length w - 1) 0) 0xF1 (holds _ c);
    }

pub record Got {A B : Type 0} (t : Told A) (rule : A → Told B) (b : B) : Type 0 where
  pub value : A
  pub is : t ≡ yes value
  pub then : rule value ≡ yes b

pub got : {A B : Type 0} (t : Told A) (rule : A → Told B) (b : B) → and_then t rule ≡ yes b → Got t rule b
got (yes a) rule b e = record { value = a; is = refl; then = e }
got (no k vs) rule b e = let z : ◌≡◌ {A = ℕ} 0 1 = cc in absurd (let q : ⊥ = omega arith in q)

-- the addresses, by themselves
record Heads (us : List (ℕ × ℕ)) (f : Fields) : Type 0 where
  pub dest : address_rule (byte_at us 0) ≡ yes f.dest
  pub src : address_rule (byte_at us 1) ≡ yes f.src
  pub rest : f ≡ fields f.dest f.src (byte_at us 2) (payload_of us)

heads-of : (us : List (ℕ × ℕ)) (d s : BusAddr) (f : Fields) → address_rule (byte_at us 0) ≡ yes d → address_rule (byte_at us 1) ≡ yes s
    → fields d s (byte_at us 2) (payload_of us) ≡ f → Heads us f
heads-of us d s f x y z =
    record {
      dest = x ∙ ap (λ (q : Fields). yes q.dest) z;
      src = y ∙ ap (λ (q : Fields). yes q.src) z;
      rest = sym z ∙ (λ i. fields (z i).dest (z i).src (byte_at us 2) (payload_of us));
    }

same : {A : Type 0} (a b : A) → yes a ≡ yes b → a ≡ b
same a b e = cc

heads : (us : List (ℕ × ℕ)) (f : Fields) → addresses_rule us ≡ yes f → Heads us f
unfolding addresses_rule
heads us f e =
    let x = got (address_rule (byte_at us 0)) _ f e in
    let y = got (address_rule (byte_at us 1)) _ f x.then in
    heads-of us x.value y.value f x.is y.is (same (fields x.value y.value (byte_at us 2) (payload_of us)) f y.then)

pub checked : (w : List ℕ) (f : Fields) → check_rule w ≡ yes f → Checked w f
unfolding check_rule units_rule sum_rule
checked w f e =
    let a = test-passed (ltb (length w) 7) 1 (length w ∷ []) _ (yes f) refl e in
    let b = test-passed (not (eqb (get_or w 0 0) 0xF0)) 2 (get_or w 0 0 ∷ []) _ (yes f) refl a.1 in
    let c = test-passed (not (eqb (get_or w (length w - 1) 0) 0xF1)) 3 [] _ (yes f) refl b.1 in
    let d = got (unstuff 0 (interior w)) (units_rule (length w) (interior w)) f c.1 in
    let us = d.value in
    let g = test-passed (ltb (length us) 5) 1 (length w ∷ []) _ (yes f) refl d.then in
    let h = test-passed (not (eqb (received_of us) (computed_of (interior w) us))) 5 (received_of us ∷ computed_of (interior w) us ∷ []) (addresses_rule us) (yes f) refl g.1 in
    let k = heads us f h.1 in
    record {
      enclosed = enclosed w a.0 b.0 c.0;
      us = us;
      escapes = d.is;
      five = ltb-false (length us) 5 g.0;
      sum = eqb-true (received_of us) (computed_of (interior w) us) (holds _ h.0);
      dest = k.dest;
      src = k.src;
      rest = k.rest;
    }
