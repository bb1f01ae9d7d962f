-- An answer passes to C as what it tells, a value or a refusal, over the type of the value.
-- The proofs of the exported calls cite these laws; that no two replies are allowed is proofs/OnePassing.
use Prim.Native.Nat.{ℕ}
use mathlib.Core.Path.{◌≡◌, refl, ap, subst, ◌∙◌}
use mathlib.Core.List.{List}
use Rattle.error.specs.declared.WireError.{WireError}
use Rattle.std.specs.Prelude.{Result}
use Rattle.std.specs.declared.result.Result.TheVariants.{Ok, Err}
use Rattle.error.specs.Refusal.{Told, yes, number_of, values_of, refused}
use Rattle.error.specs.Result.{told}
use Rattle.abi.specs.Answer.{three, code_of, value_or, values_in, Passed, besides}

module _ {A : Type 0} {t : Told A} where
  -- a value, stored
  pub passed : {a : A} → yes a ≡ t → (old : A) (olds : List ℕ) → Passed t old olds 0 a olds
  unfolding code_of value_or values_in
  passed {a} p old olds =
      let is : Passed (yes a) old olds 0 a olds = record { code = refl; value = refl; values = refl } in
      subst (λ (u : Told A). Passed u old olds 0 a olds) p is

  -- a refusal, told by `tell`
  pub refuses : (e : WireError) → refused e ≡ t → (old : A) (olds : List ℕ) {k : ℕ} {words : List ℕ}
      → (k ≡ number_of e) × (words ≡ three (values_of e)) → Passed t old olds k old words
  unfolding code_of value_or values_in
  refuses e p old olds {k} {words} q =
      let is : Passed (refused e) old olds k old words = record { code = q.0; value = refl; values = q.1 } in
      subst (λ (u : Told A). Passed u old olds k old words) p is

-- a record that stands beside its reply: what is besides of it fills the place, or a refusal leaves it
module _ {R A : Type 0} (f : R → A) {w : Told Unit × R} {a : Result Unit WireError} {r : R} (reply : (told a, r) ≡ w) (old : A) (olds : List ℕ) where
  told_of : {b : Result Unit WireError} → b ≡ a → besides f (told b, r) ≡ besides f w
  told_of e = ap (λ (b : Result Unit WireError). besides f (told b, r)) e ∙ ap (besides f) reply

  pub shows : Ok tt ≡ a → {x : A} → x ≡ f r → Passed (besides f w) old olds 0 x olds
  shows e p = passed (ap yes p ∙ told_of e) old olds

  pub hides : (e : WireError) → Err e ≡ a → {k : ℕ} {words : List ℕ} → (k ≡ number_of e) × (words ≡ three (values_of e))
      → Passed (besides f w) old olds k old words
  hides e p q = refuses e (told_of p) old olds q
