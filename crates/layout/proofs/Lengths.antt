-- A message on either side of its least length, whatever its table is: the answer, and the record beside it.
-- Too short is refused with the table of zeros; else the table is read from the least length's bytes.
use Prim.Native.Nat.{ℕ, ◌≤◌, ◌<◌}
use mathlib.Core.Path.{◌≡◌}
use mathlib.Core.List.{List}
use lib.ListN.{length, take}
use Rattle.general.proofs.Cases.{by-lt}
use borrow.Author.Tests.{lt-ltb, le-ltb}
use Rattle.error.specs.Refusal.{yes, refused}
use Rattle.error.specs.declared.WireError.TheVariants.{PayloadTooShort}
use Rattle.layout.specs.Layout.{Source, answered, record_of, source_of, fields_of, zeros}

module _ {R : Type 0} (table : Source → R) (kind least : ℕ) (p : List ℕ) where
  pub short : {r : R} → length p < least → r ≡ table zeros
      → (refused (PayloadTooShort kind least (length p)) ≡ answered kind least p) × (r ≡ table (source_of least p))
  unfolding answered source_of
  short h e = (rw (lt-ltb (length p) least h), rw (lt-ltb (length p) least h) e)

  pub whole : {r : R} → least ≤ length p → r ≡ table (fields_of (take least p))
      → (yes tt ≡ answered kind least p) × (r ≡ table (source_of least p))
  unfolding answered source_of
  whole h e = (rw (le-ltb (length p) least h), rw (le-ltb (length p) least h) e)

  -- what is filled from the source of the least length, and nothing else, is the table's
  pub tabled : record_of least (λ p. table (fields_of (take least p))) (table zeros) p ≡ table (source_of least p)
  unfolding record_of source_of
  tabled = by-lt (length p) least (λ h. rw (lt-ltb (length p) least h)) (λ h. rw (le-ltb (length p) least h))
