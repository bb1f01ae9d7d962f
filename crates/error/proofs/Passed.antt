-- What `?` passes up is what was told: the refusal, whatever type the caller answers.
-- `h` is what the exit of a `?` says of its reply (`c.from_residual.ensures.1`).
use mathlib.Core.Path.{◌≡◌, ap}
use Rattle.std.specs.Prelude.{Result, IsErrAnd}
use Rattle.std.specs.declared.result.Result.TheVariants.{Ok, Err}
use Rattle.error.specs.declared.WireError.{WireError}
use Rattle.error.specs.Refusal.{refused}
use Rattle.error.specs.Result.{told}

pub passed-up : {A : Type 0} (r : Result A WireError) (e : WireError) → IsErrAnd r (λ y. y ≡ e) → told r ≡ refused e
passed-up (Ok a) e h = absurd h
passed-up (Err y) e h = ap refused h
