-- Two replies that a call of `abi_shot_text` may give for one input are equal, and so are the lent places at exit, by the contract as the
-- check reads it off src/ (`Post`).
use mathlib.Core.Path.{◌≡◌, refl, sym, ap, ◌∙◌}
use Prim.Native.Nat.{ℕ}
use Rattle.general.proofs.One.{plain}
use Rattle.shot_text.proofs.One.{one_answer}
use Rattle.abi.specs.Answer.{flag_of}
use Rattle.abi_shot_text.specs.Flags.{Flags}
use Rattle.abi_shot_text.proofs.mvd_shot_text.Reads as shot-text
use Rattle.abi_shot_text.proofs.mvd_is_processed.Reads as is-processed
use Rattle.abi_shot_text.proofs.mvd_is_idle.Reads as is-idle
use Rattle.abi_shot_text.proofs.mvd_is_trigger.Reads as is-trigger

pub one-shot-text : (κs a r s x y : _) → shot-text.Post κs a r x → shot-text.Post κs a s y
    → (r ≡ s) × (x.1.0.now ≡ y.1.0.now) × (x.1.1.0.now ≡ y.1.1.0.now)
one-shot-text κs a r s x y p q = (refl, plain p.0 q.0, plain p.1 q.1)

-- two flags of one question
one-flag : {P : Type 0} {r s : ℕ} → Flags P r → Flags P s → r ≡ s
one-flag (b, e, p) (c, f, q) = e ∙ ap flag_of (one_answer p q) ∙ sym f

pub one-is-processed : (κs a r s x y : _) → is-processed.Post κs a r x → is-processed.Post κs a s y → r ≡ s
one-is-processed κs a r s x y = one-flag

pub one-is-idle : (κs a r s x y : _) → is-idle.Post κs a r x → is-idle.Post κs a s y → r ≡ s
one-is-idle κs a r s x y = one-flag

pub one-is-trigger : (κs a r s x y : _) → is-trigger.Post κs a r x → is-trigger.Post κs a s y → r ≡ s
one-is-trigger κs a r s x y = one-flag
