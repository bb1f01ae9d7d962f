-- The count by number is as many values as any refusal of that number has, and no other count is.
-- There is a refusal of each number from 1 to 13, and none of another.
use Prim.Native.Nat.{ℕ, ◌≤◌, ◌<◌}
use mathlib.Core.Path.{◌≡◌, refl, sym, ap, ◌∙◌}
use mathlib.Core.Bool.{Bool, ◌||◌}
use mathlib.Core.List.{List, [], ◌∷◌}
use native.Mathlib.Omega.{arith}
use lib.Dec.{T, eqb, eqb→eq}
use lib.ListN.{length, get_or, get_or-eq_default}
use borrow.Author.Tests.{ne_eqb}
use Rattle.general.proofs.Cases.{by-lt, by-eq}
use Rattle.general.proofs.Table.{at}
use Rattle.error.specs.declared.WireError.{WireError}
use Rattle.error.specs.declared.WireError.TheVariants.{FrameTooShort, MissingStart, MissingEnd, InvalidEscape, ChecksumMismatch, UnknownBusAddr}
use Rattle.error.specs.declared.WireError.TheVariants.{PayloadTooShort, NoRoom, BadState, PayloadTooLong, NoField, CutEscape, CounterFull}
use Rattle.error.specs.Refusal.{number_of, values_of}
use Rattle.abi_error.specs.ValueCount.{ValueCount}

abbrev pub counts : List ℕ
counts = 0 ∷ 1 ∷ 1 ∷ 0 ∷ 2 ∷ 2 ∷ 1 ∷ 3 ∷ 2 ∷ 0 ∷ 1 ∷ 1 ∷ 1 ∷ 0 ∷ []

-- one refusal of each number; none has the number 0, and what stands there is not asked
abbrev refusals : List WireError
refusals =
    BadState ∷ FrameTooShort 0 ∷ MissingStart 0 ∷ MissingEnd ∷ InvalidEscape 0 0 ∷ ChecksumMismatch 0 0 ∷ UnknownBusAddr 0
    ∷ PayloadTooShort 0 0 0 ∷ NoRoom 0 0 ∷ BadState ∷ PayloadTooLong 0 ∷ NoField 0 ∷ CutEscape 0 ∷ CounterFull ∷ []

abbrev refusal : ℕ → WireError
refusal k = get_or refusals k BadState

numbered : ℕ → ℕ → Bool
numbered k x = eqb k 0 || eqb (number_of (refusal k)) k

number : (k : ℕ) → 0 < k → k < 14 → number_of (refusal k) ≡ k
unfolding numbered
number k h l =
    let t : T (eqb (number_of (refusal k)) k) = rw (ne_eqb k 0 (λ e. omega arith)) at (at numbered counts tt k l) in
    eqb→eq (number_of (refusal k)) k t

-- a refusal's number is one of the thirteen, and the list has its count
pub counted : (e : WireError) → (get_or counts (number_of e) 0 ≡ length (values_of e)) × (0 < number_of e) × (number_of e < 14)
counted (FrameTooShort a) = (refl, omega arith, omega arith)
counted (MissingStart a) = (refl, omega arith, omega arith)
counted MissingEnd = (refl, omega arith, omega arith)
counted (InvalidEscape a b) = (refl, omega arith, omega arith)
counted (ChecksumMismatch a b) = (refl, omega arith, omega arith)
counted (UnknownBusAddr a) = (refl, omega arith, omega arith)
counted (PayloadTooShort a b c) = (refl, omega arith, omega arith)
counted (NoRoom a b) = (refl, omega arith, omega arith)
counted BadState = (refl, omega arith, omega arith)
counted (PayloadTooLong a) = (refl, omega arith, omega arith)
counted (NoField a) = (refl, omega arith, omega arith)
counted (CutEscape a) = (refl, omega arith, omega arith)
counted CounterFull = (refl, omega arith, omega arith)

none-past : (k : ℕ) → 14 ≤ k → get_or counts k 0 ≡ 0
none-past k h = get_or-eq_default counts 0 h

-- the list's entry counts the values of the refusals of a number
pub entry-counts : (k : ℕ) → ValueCount k (get_or counts k 0)
entry-counts k =
    record {
      some = λ e p. ap (λ (n : ℕ). get_or counts n 0) (sym p) ∙ (counted e).0;
      none = λ f.
          by-eq k 0 (λ z. ap (λ (n : ℕ). get_or counts n 0) z)
          (λ z. by-lt k 14 (λ l. absurd (f (refusal k) (number k (omega arith) l))) (none-past k));
    }

-- a number is a refusal's, or no refusal's
either : {P : Type 0} (k : ℕ) → ((e : WireError) → number_of e ≡ k → P) → (((e : WireError) → number_of e ≡ k → ⊥) → P) → P
either k y n =
    by-eq k 0 (λ z. n (λ e p. let q = (counted e).1 in omega arith))
    (λ z. by-lt k 14 (λ l. y (refusal k) (number k (omega arith) l)) (λ h. n (λ e p. let q = (counted e).2 in omega arith)))

-- no other count is
pub one-counts : {k n m : ℕ} → ValueCount k n → ValueCount k m → n ≡ m
one-counts {k} a b = either k (λ e p. a.some e p ∙ sym (b.some e p)) (λ f. a.none f ∙ sym (b.none f))
