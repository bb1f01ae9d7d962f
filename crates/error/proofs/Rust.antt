-- Read as the Rust's, what does not tell 12 stays as it is, and a value's part is the part of what is read.
-- A rule that goes on from what is told is read by what it goes on from.
use mathlib.Core.Path.{◌≡◌, refl}
use mathlib.Core.Bool.{false}
use lib.Dec.{eqb}
use Rattle.general.proofs.Cases.{by-test}
use Rattle.error.specs.Refusal.{Told, yes, no, on_yes, and_then}
use Rattle.error.specs.Rust.{as_rust}
use Rattle.error.proofs.Tells.{is_told}

pub read-other : {A : Type 0} (t : Told A) → is_told 12 t ≡ false → as_rust t ≡ t
read-other (yes a) e = refl
read-other (no k vs) e = rw e

pub read-part : {A B : Type 0} (f : A → B) (t : Told A) → as_rust (on_yes f t) ≡ on_yes f (as_rust t)
read-part f (yes a) = refl
read-part f (no k vs) = by-test (eqb k 12) (λ e. rw e) (λ e. rw e)

pub read-then : {A B : Type 0} (t : Told A) (rule : A → Told B) → ((a : A) → is_told 12 (rule a) ≡ false)
    → as_rust (and_then t rule) ≡ and_then (as_rust t) rule
read-then (yes a) rule h = read-other (rule a) (h a)
read-then (no k vs) rule h = by-test (eqb k 12) (λ e. rw e) (λ e. rw e)
