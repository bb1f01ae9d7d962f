-- Decoding, decided by the length: one law for the three messages.
-- What layout's decoder answers of a record is the rule of its message.
use mathlib.Core.Path.{◌≡◌, refl, ◌∙◌}
use mathlib.Core.Bool.{Bool, true, false, cond}
use mathlib.Core.List.{List}
use Prim.Native.Nat.{ℕ}
use lib.Dec.{ltb}
use lib.ListN.{length}
use Rattle.error.specs.Result.{told}
use Rattle.layout.specs.declared.Decoded.{Decoded}
use Rattle.layout.specs.Layout.{answered, record_of, told_decoded}
use Rattle.numbers.specs.declared.Message.{Message}
use Rattle.numbers.specs.Numbers.{shape_of}
use Rattle.flight.specs.Decoding.{Numbers, numbers_of, zeros, decode_rule}

module _ {A : Type 0} (fill : Numbers → A) (N : Numbers) where
  inside : (b : Bool) → cond b (fill zeros) (fill N) ≡ fill (cond b zeros N)
  inside true = refl
  inside false = refl

module _ {A : Type 0} (m : Message) (fill : Numbers → A) (p : List ℕ) where
  pub by_rule : (d : Decoded A) → told d.result ≡ answered (shape_of m).kind (shape_of m).least p
      → d.«record» ≡ record_of (shape_of m).least (λ p. fill (numbers_of m p)) (fill zeros) p → told_decoded d ≡ decode_rule m fill p
  unfolding decode_rule record_of
  by_rule d e f = let g = f ∙ inside fill (numbers_of m p) (ltb (length p) (shape_of m).least) in λ i. (e i, g i)
