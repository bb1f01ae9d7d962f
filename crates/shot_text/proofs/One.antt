-- Two replies that a contract of `shot_text` allows for one input are equal, by the contract as the check reads it off src/ (`Post`).
-- Of the returned part of the payload, bytes and address are unique; its ghost name, which no program can see, is not spoken of.
use mathlib.Core.Path.{◌≡◌, refl}
use mathlib.Core.Bool.{Bool, true, false}
use Rattle.general.proofs.One.{plain}
use Rattle.shot_text.specs.Search.{Says}
use Rattle.shot_text.proofs.ShotText.place.Reads as place
use Rattle.shot_text.proofs.ShotText.decode.Reads as decode
use Rattle.shot_text.proofs.ShotText.is_processed.Reads as is-processed
use Rattle.shot_text.proofs.ShotText.is_idle.Reads as is-idle
use Rattle.shot_text.proofs.ShotText.is_trigger.Reads as is-trigger

-- two answers to one question
pub one_answer : {P : Type 0} {r s : Bool} → Says P r → Says P s → r ≡ s
one_answer {r = true} {s = true} a b = refl
one_answer {r = true} {s = false} a b = absurd (b.no refl (a.yes refl))
one_answer {r = false} {s = true} a b = absurd (a.no refl (b.yes refl))
one_answer {r = false} {s = false} a b = refl

pub one_place : (κs a r s x y : _) → place.Post κs a r x → place.Post κs a s y → r ≡ s
one_place κs a r s x y = plain

pub one-decode : (κs a r s x y : _) → decode.Post κs a r x → decode.Post κs a s y → (r.now ≡ s.now) × (r.ref_ptr ≡ s.ref_ptr)
one-decode κs a r s x y (p, e) (q, f) = (plain p q, plain e f)

pub one-is-processed : (κs a r s x y : _) → is-processed.Post κs a r x → is-processed.Post κs a s y → r ≡ s
one-is-processed κs a r s x y = one_answer

pub one-is-idle : (κs a r s x y : _) → is-idle.Post κs a r x → is-idle.Post κs a s y → r ≡ s
one-is-idle κs a r s x y = one_answer

pub one-is-trigger : (κs a r s x y : _) → is-trigger.Post κs a r x → is-trigger.Post κs a s y → r ≡ s
one-is-trigger κs a r s x y = one_answer
