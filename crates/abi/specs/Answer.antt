-- How an answer passes to C: the number 0 and the value in its lent place, or a refusal's number and its values in three words.
-- What is not answered is kept: the place by a refusal, the three words by a value.
use Rattle.std.specs.Prelude.{ℕ, ◌≡◌, Bool, cond, List, [], ◌∷◌, get_or}
use Rattle.error.specs.Refusal.{Told, yes, no, on_yes}

-- a refusal's values in three words, 0 where it has fewer
abbrev pub three : List ℕ → List ℕ
three vs = get_or vs 0 0 ∷ get_or vs 1 0 ∷ get_or vs 2 0 ∷ []

unfoldable pub code_of : {A : Type 0} → Told A → ℕ
code_of (yes a) = 0
code_of (no k vs) = k

-- what a place that held something has then
unfoldable pub value_or : {A : Type 0} → Told A → A → A
value_or (yes a) old = a
value_or (no k vs) old = old

-- what the three words have then
unfoldable pub values_in : {A : Type 0} → Told A → List ℕ → List ℕ
values_in (yes a) old = old
values_in (no k vs) old = three vs

-- a call answers k and leaves v and words, where t is told and the places held old and olds
pub record Passed {A : Type 0} (t : Told A) (old : A) (olds : List ℕ) (k : ℕ) (v : A) (words : List ℕ) : Type 0 where
  pub code : k ≡ code_of t
  pub value : v ≡ value_or t old
  pub values : words ≡ values_in t olds

-- what is besides of a record that stands beside its reply
abbrev pub besides : {R A : Type 0} → (R → A) → Told Unit × R → Told A
besides f w = on_yes (λ _. f w.1) w.0

-- two of its parts
abbrev pub both : {R A B : Type 0} → (R → A) → (R → B) → R → A × B
both f g r = (f r, g r)

abbrev pub flag_of : Bool → ℕ
flag_of b = cond b 1 0
