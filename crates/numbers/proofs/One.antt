-- Two replies that a contract of `numbers` allows for one input are equal, by the contract as the check reads it off src/ (`Post`).
-- What a field or a type byte tells decides the answer; all else is a plain equation.
use mathlib.Core.Path.{◌≡◌, refl}
use mathlib.Core.Bool.{cond}
use lib.Dec.{eqb}
use lib.ListN.{get_or}
use Rattle.general.proofs.One.{plain, one-reply}
use Rattle.error.specs.Refusal.{Told, yes, no}
use Rattle.error.proofs.Decides.{one-told}
use Rattle.numbers.specs.declared.Field.{Field}
use Rattle.numbers.specs.declared.Field.TheVariants.{Count, Figure, PayloadTooShort, NoField}
use Rattle.numbers.specs.Asked.{Number, whole, figure, told_field}
use Rattle.numbers.proofs.MessageTryFromU8.try_from.Reads as try-from
use Rattle.numbers.proofs.Message.shape.Reads as shape
use Rattle.numbers.proofs.Message.whole.Reads as whole-reads
use Rattle.numbers.proofs.Message.divisor.Reads as divisor
use Rattle.numbers.proofs.Message.scale.Reads as own-scale
use Rattle.numbers.proofs.scale.Reads as scale
use Rattle.numbers.proofs.figure.Reads as figure-reads
use Rattle.numbers.proofs.field_at.Reads as field_at

-- what is told, turned back into a field
back : Told Number → Field
back (yes (whole z)) = Count z
back (yes (figure x)) = Figure x
back (no k v) = cond (eqb k 7) (PayloadTooShort (get_or v 0 0) (get_or v 1 0) (get_or v 2 0)) (NoField (get_or v 0 0))

there : (r : Field) → back (told_field r) ≡ r
unfolding back
there (Count z) = refl
there (Figure x) = refl
there (PayloadTooShort kind need got) = refl
there (NoField number) = refl

pub one-try-from : (κs a r s x y : _) → try-from.Post κs a r x → try-from.Post κs a s y → r ≡ s
one-try-from κs a r s x y = one-told

pub one-shape : (κs a r s x y : _) → shape.Post κs a r x → shape.Post κs a s y → r ≡ s
one-shape κs a r s x y = plain

pub one-whole : (κs a r s x y : _) → whole-reads.Post κs a r x → whole-reads.Post κs a s y → r ≡ s
one-whole κs a r s x y = plain

pub one-divisor : (κs a r s x y : _) → divisor.Post κs a r x → divisor.Post κs a s y → r ≡ s
one-divisor κs a r s x y = plain

pub one-own-scale : (κs a r s x y : _) → own-scale.Post κs a r x → own-scale.Post κs a s y → r ≡ s
one-own-scale κs a r s x y = plain

pub one-scale : (κs a r s x y : _) → scale.Post κs a r x → scale.Post κs a s y → r ≡ s
one-scale κs a r s x y = plain

pub one-figure : (κs a r s x y : _) → figure-reads.Post κs a r x → figure-reads.Post κs a s y → r ≡ s
one-figure κs a r s x y = plain

pub one-field-at : (κs a r s x y : _) → field_at.Post κs a r x → field_at.Post κs a s y → r ≡ s
one-field-at κs a r s x y = one-reply told_field back there
