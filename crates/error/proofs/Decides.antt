-- The number and the values of a refusal decide it, and so what an answer tells decides the answer.
-- A contract `told r ≡ rule` therefore allows one reply: `one-reply`.
use mathlib.Core.Path.{◌≡◌, refl, sym, ◌∙◌, ap}
use mathlib.Core.List.{List}
use Prim.Native.Nat.{ℕ}
use mathlib.Core.Bool.{cond}
use lib.Dec.{eqb}
use lib.ListN.{get_or}
use Rattle.std.specs.Prelude.{Result}
use Rattle.std.specs.declared.result.Result.TheVariants.{Ok, Err}
use Rattle.general.proofs.One.{one-reply}
use Rattle.error.specs.declared.WireError.{WireError}
use Rattle.error.specs.declared.WireError.TheVariants.{FrameTooShort, MissingStart, MissingEnd, InvalidEscape, ChecksumMismatch, UnknownBusAddr}
use Rattle.error.specs.declared.WireError.TheVariants.{PayloadTooShort, NoRoom, BadState, PayloadTooLong, NoField, CutEscape, CounterFull}
use Rattle.error.specs.Refusal.{Told, yes, no, number_of, values_of}
use Rattle.error.specs.Result.{told}

-- the refusal of a number and values
pub refusal : ℕ → List ℕ → WireError
refusal k v =
    cond (eqb k 1) (FrameTooShort (get_or v 0 0)) (cond (eqb k 2) (MissingStart (get_or v 0 0)) (cond (eqb k 3) MissingEnd
    (cond (eqb k 4) (InvalidEscape (get_or v 0 0) (get_or v 1 0)) (cond (eqb k 5) (ChecksumMismatch (get_or v 0 0) (get_or v 1 0))
    (cond (eqb k 6) (UnknownBusAddr (get_or v 0 0)) (cond (eqb k 7) (PayloadTooShort (get_or v 0 0) (get_or v 1 0) (get_or v 2 0))
    (cond (eqb k 8) (NoRoom (get_or v 0 0) (get_or v 1 0)) (cond (eqb k 9) BadState
    (cond (eqb k 10) (PayloadTooLong (get_or v 0 0)) (cond (eqb k 11) (NoField (get_or v 0 0))
    (cond (eqb k 12) (CutEscape (get_or v 0 0)) CounterFull)))))))))))

pub there : (e : WireError) → refusal (number_of e) (values_of e) ≡ e
unfolding refusal
there (FrameTooShort len) = refl
there (MissingStart got) = refl
there MissingEnd = refl
there (InvalidEscape code offset) = refl
there (ChecksumMismatch expected computed) = refl
there (UnknownBusAddr addr) = refl
there (PayloadTooShort kind need got) = refl
there (NoRoom need got) = refl
there BadState = refl
there (PayloadTooLong len) = refl
there (NoField number) = refl
there (CutEscape offset) = refl
there CounterFull = refl

pub refusal-decided : {d e : WireError} → number_of d ≡ number_of e → values_of d ≡ values_of e → d ≡ e
refusal-decided {d} {e} p q = sym (there d) ∙ (λ i. refusal (p i) (q i)) ∙ there e

-- ---- answers

-- what is told, turned back into an answer
unfoldable pub turned : {A : Type 0} → Told A → Result A WireError
turned (yes a) = Ok a
turned (no k vs) = Err (refusal k vs)

back : {A : Type 0} (r : Result A WireError) → turned (told r) ≡ r
unfolding turned
back (Ok a) = refl
back (Err e) = ap Err (there e)

pub one-told : {A : Type 0} {r s : Result A WireError} {t : Told A} → told r ≡ t → told s ≡ t → r ≡ s
one-told = one-reply told turned back
