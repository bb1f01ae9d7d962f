-- Condition 2, as request 2 amends it: what is told, read as the Rust's.
-- The Rust has no number 12: it tells an escape that is cut off as code 00 at the same offset. All else is read as itself.
use Rattle.std.specs.Prelude.{cond, ◌∷◌, eqb}
use Rattle.error.specs.Refusal.{Told, yes, no}

abbrev pub as_rust : {A : Type 0} → Told A → Told A
as_rust (yes a) = yes a
as_rust (no k vs) = cond (eqb k 12) (no 4 (0x00 ∷ vs)) (no k vs)
