-- Two replies that one shape of contract allows are equal, and so is every lent place at exit: the shape is `Passed`.
-- One law for each number of places that the value has, and one for a call that also leaves a buffer by an equation of its own.
use Prim.Native.Nat.{ℕ}
use mathlib.Core.Path.{◌≡◌, ap}
use mathlib.Core.List.{List}
use Rattle.general.proofs.One.{plain}
use Rattle.error.specs.Refusal.{Told}
use Rattle.abi.specs.Answer.{Passed}

module _ {olds : List ℕ} {k l : ℕ} {vs ws : List ℕ} where
  -- one place
  pub one-passing : {A : Type 0} {t : Told A} {old v w : A} → Passed t old olds k v vs → Passed t old olds l w ws → (k ≡ l) × (v ≡ w) × (vs ≡ ws)
  one-passing p q = (plain p.code q.code, plain p.value q.value, plain p.values q.values)

  -- no place
  pub one-done : {t : Told Unit} → Passed t tt olds k tt vs → Passed t tt olds l tt ws → (k ≡ l) × (vs ≡ ws)
  one-done p q = (plain p.code q.code, plain p.values q.values)

  -- two places
  pub one-passing-two : {A B : Type 0} {t : Told (A × B)} {old v w : A × B} → Passed t old olds k v vs → Passed t old olds l w ws
      → (k ≡ l) × (v.0 ≡ w.0) × (v.1 ≡ w.1) × (vs ≡ ws)
  one-passing-two {A} {B} p q =
      let e = one-passing p q in
      (e.0, ap (λ (u : A × B). u.0) e.1, ap (λ (u : A × B). u.1) e.1, e.2)

  -- three places
  pub one-passing-three : {A B C : Type 0} {t : Told (A × B × C)} {old v w : A × B × C} → Passed t old olds k v vs → Passed t old olds l w ws
      → (k ≡ l) × (v.0 ≡ w.0) × (v.1 ≡ w.1) × (v.2 ≡ w.2) × (vs ≡ ws)
  one-passing-three {A} {B} {C} p q =
      let e = one-passing p q in
      (e.0, ap (λ (u : A × B × C). u.0) e.1, ap (λ (u : A × B × C). u.1) e.1, ap (λ (u : A × B × C). u.2) e.1, e.2)

  -- no place, and a buffer
  pub one-stored : {t : Told Unit} {b c d : List ℕ} → Passed t tt olds k tt vs × (b ≡ d) → Passed t tt olds l tt ws × (c ≡ d)
      → (k ≡ l) × (b ≡ c) × (vs ≡ ws)
  one-stored p q = let e = one-done p.0 q.0 in (e.0, plain p.1 q.1, e.1)
