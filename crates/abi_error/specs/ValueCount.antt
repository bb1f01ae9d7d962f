-- How many values the refusal of a number has: as many as any refusal of that number has, by the table of crate `error`.
-- A number that is no refusal's has none.
use Rattle.std.specs.Prelude.{ℕ, ◌≡◌, length}
use Rattle.error.specs.declared.WireError.{WireError}
use Rattle.error.specs.Refusal.{number_of, values_of}

pub record ValueCount (number n : ℕ) : Type 0 where
  pub some : (e : WireError) → number_of e ≡ number → n ≡ length (values_of e)
  pub none : ((e : WireError) → number_of e ≡ number → ⊥) → n ≡ 0
