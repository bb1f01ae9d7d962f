-- A record filled by the list's entries is the record of the message's rule: the list's own law, at every number that is no count.
-- Proved once over the message; a decoder shows only that its record asks for no other figure.
use mathlib.Core.Path.{◌≡◌, refl, sym, ◌∙◌}
use mathlib.Core.Bool.{cond}
use mathlib.Core.List.{List}
use Prim.Native.Nat.{ℕ}
use lib.Dec.{eqb, ltb}
use lib.Ieee.{Float}
use lib.ListN.{get_or}
use borrow.Author.Tests.{lt-ltb, le-ltb, eq-eqb, ne_eqb}
use Rattle.general.specs.Number.{zero_float}
use Rattle.general.proofs.Cases.{by-lt, by-eq}
use Rattle.numbers.specs.declared.Message.{Message}
use Rattle.numbers.specs.Numbers.{count_of, whole_of, rule_of, rule_code, scale_of}
use Rattle.numbers.proofs.Divisors.{kept}
use Rattle.flight.specs.Decoding.{Numbers, numbers_of}
use Rattle.flight.specs.Private.{numbers_in}

-- a message's numbers, without figures where its rule has none
abbrev pub figured : Message → Numbers → Numbers
figured m N =
    record {
      byte = N.byte;
      whole = N.whole;
      figure = λ n. cond (ltb n (count_of m)) (cond (eqb (rule_code (rule_of m n)) 0) zero_float (N.figure n)) zero_float;
    }

-- a record that shows no other figure is the same by the list and by the rule
pub ruled : {A : Type 0} (m : Message) (fill : Numbers → A) → ((N : Numbers) → fill N ≡ fill (figured m N)) → (p : List ℕ)
    → {s : Float} → s ≡ scale_of m p → fill (numbers_in m p s) ≡ fill (numbers_of m p)
ruled m fill only p {s} e =
    let same : (n : ℕ) → (figured m (numbers_in m p (scale_of m p))).figure n ≡ (figured m (numbers_of m p)).figure n = λ n.
    by-lt n (count_of m)
    (λ h. by-eq (rule_code (rule_of m n)) 0
    (λ z. simp (lt-ltb n (count_of m) h, eq-eqb (rule_code (rule_of m n)) 0 z) refl)
    (λ z. simp (lt-ltb n (count_of m) h, ne_eqb (rule_code (rule_of m n)) 0 z) (kept m p n refl z)))
    (λ h. simp (le-ltb n (count_of m) h) refl) in
    (λ i. fill (numbers_in m p (e i)))
    ∙ only (numbers_in m p (scale_of m p))
    ∙ (λ i. fill (record { byte = λ at. get_or p at 0; whole = whole_of m p; figure = λ n. same n i }))
    ∙ sym (only (numbers_of m p))
