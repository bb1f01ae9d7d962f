-- A call's `Result` in document 01's words: what it tells.
-- One definition for every type that a call answers; that it tells no two answers alike is in proofs/Decides.
use Rattle.std.specs.Prelude.{Result}
use Rattle.std.specs.declared.result.Result.TheVariants.{Ok, Err}
use Rattle.error.specs.Refusal.{Told, yes, refused}
use Rattle.error.specs.declared.WireError.{WireError}

abbrev pub told : {A : Type 0} → Result A WireError → Told A
told (Ok a) = yes a
told (Err e) = refused e
