-- The four answers of a field asked for by number, from what the tests and the list's entry say.
-- The two refusals come first, in their order.
use mathlib.Core.Path.{◌≡◌, sym, ◌∙◌, ap}
use mathlib.Core.List.{List, [], ◌∷◌}
use Prim.Native.Nat.{ℕ, ◌<◌, ◌≤◌}
use lib.ListN.{length}
use lib.Ieee.{Float}
use borrow.Author.Tests.{lt-ltb, le-ltb}
use Rattle.error.specs.Refusal.{yes, no}
use Rattle.integer.specs.Fields.{scaled_by}
use Rattle.numbers.specs.declared.Message.{Message}
use Rattle.numbers.specs.declared.Shape.{Shape}
use Rattle.numbers.specs.Numbers.{rule_code, shape_of, rule_of, entry_of, whole_of, scale_of, figure_of}
use Rattle.numbers.specs.Asked.{whole, figure, field_rule, number_at}
use Rattle.numbers.proofs.Laws.{counted, divided}
use Rattle.numbers.proofs.Divisors.{kept}

module _ (m : Message) (p : List ℕ) (n : ℕ) (s : Shape) (e : s ≡ shape_of m) where
  pub told-short : length p < s.least → no 7 (s.kind ∷ s.least ∷ length p ∷ []) ≡ field_rule m p n
  unfolding field_rule
  told-short h = rw e (simp (lt-ltb (length p) (shape_of m).least (rw e at h)))

  module _ (l : s.least ≤ length p) where
    pub told_none : s.count ≤ n → no 11 (n ∷ []) ≡ field_rule m p n
    unfolding field_rule
    told_none h = simp (le-ltb (length p) (shape_of m).least (rw e at l), le-ltb n (shape_of m).count (rw e at h))

    module _ (h : n < s.count) where
      told-some : yes (number_at m p n) ≡ field_rule m p n
      unfolding field_rule
      told-some = simp (le-ltb (length p) (shape_of m).least (rw e at l), lt-ltb n (shape_of m).count (rw e at h))

      module _ (d : ℕ) (q : d ≡ rule_code (rule_of m n)) where
        pub told-count : d ≡ 0 → yes (whole (whole_of m p n)) ≡ field_rule m p n
        unfolding number_at
        told-count t = ap yes (sym (counted (rule_of m n) (whole_of m p n) (figure_of m p n) (sym q ∙ t))) ∙ told-some

        pub told-figure : (d ≡ 0 → ⊥) → yes (figure (scaled_by (entry_of d (scale_of m p)) (whole_of m p n))) ≡ field_rule m p n
        unfolding number_at
        told-figure t =
            ap (λ (x : Float). yes (figure x)) (kept m p n q t)
            ∙ ap yes (sym (divided (rule_of m n) (whole_of m p n) (figure_of m p n) (λ w. t (q ∙ w))))
            ∙ told-some
