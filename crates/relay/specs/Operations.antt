-- Request 11, "over the operations as they stand": what `escape_code`, `checksum`, `tally` and `unstuffed` answer, by their contracts as the check
-- reads them off src/ (`Post`), so that a caller needs no definition of ours. The theorem `operations` (proofs/Operations) has this type.
use Rattle.std.specs.Prelude.{ℕ, ◌+◌, ◌%◌, ◌≤◌, ◌≡◌, List, [], ◌∷◌, ◌++◌, length}
use Rattle.std.specs.Prelude.{Result}
use Rattle.std.specs.declared.result.Result.TheVariants.{Ok}
use Rattle.error.specs.declared.WireError.{WireError}
use Rattle.stuffing.specs.declared.summing.Stuffed.{Stuffed}
use Rattle.stuffing.proofs.escape_code.Reads as escape-code
use Rattle.stuffing.proofs.checksum.Reads as checksum
use Rattle.stuffing.proofs.tally.Reads as tally
use Rattle.unstuffing.proofs.unstuffed.Reads as unstuffed

-- ---- a call and its answer

-- a contract allows the answer r to a call that is given s; κs, a and x are the call's lifetimes, its arguments, and these at exit
abbrev pub Allows : {K S R : Type 0} {A X : K → Type 0} → ((κs : K) → A κs → R → X κs → Type 0) → ((κs : K) → A κs → S) → S → R → Type 0
Allows {K} {S} {R} {A} {X} Post given s r = (κs : K) × (a : A κs) × (x : X κs) × (given κs a ≡ s) × Post κs a r x

abbrev pub EscapeCode : ℕ → ℕ → Type 0
EscapeCode = Allows escape-code.Post (λ κs a. a.0)

abbrev pub Checksum : List ℕ → ℕ → Type 0
Checksum = Allows checksum.Post (λ κs a. a.0.now)

abbrev pub Tally : List ℕ → Stuffed → Type 0
Tally = Allows tally.Post (λ κs a. a.0.now)

abbrev pub Unstuffed : List ℕ → Result ℕ WireError → Type 0
Unstuffed = Allows unstuffed.Post (λ κs a. a.0.now)

-- a string and how it is written: each byte as it stands where `escape_code` answers 0, else FD and that answer
pub data WrittenAs : List ℕ → List ℕ → Type 0 where
  nothing : WrittenAs [] []
  itself : {b : ℕ} {s w : List ℕ} → EscapeCode b 0 → WrittenAs s w → WrittenAs (b ∷ s) (b ∷ w)
  coded : {b c : ℕ} {s w : List ℕ} → EscapeCode b c → (c ≡ 0 → ⊥) → WrittenAs s w → WrittenAs (b ∷ s) (0xFD ∷ c ∷ w)

-- ---- the laws

-- c is the sum of a and b, wrapped at 65,536, in either order
abbrev pub Wrapped : ℕ → ℕ → ℕ → Type 0
Wrapped a b c = (c ≡ (a + b) % 65536) × (c ≡ (b + a) % 65536)

pub record Operations : Type 0 where
  -- no law here is about nothing: each string is written in some way, and `checksum` and `tally` have some answer to it
  pub written : (s : List ℕ) → (w : List ℕ) × WrittenAs s w
  pub answered : (s : List ℕ) → ((c : ℕ) × Checksum s c) × ((a : Stuffed) × Tally s a)
  -- "Stuffing two byte strings one after the other is the stuffing of both joined"; and no string is written in two ways
  pub joins : {s t w v : List ℕ} → WrittenAs s w → WrittenAs t v → WrittenAs (s ++ t) (w ++ v)
  pub only : {s w v : List ℕ} → WrittenAs s w → WrittenAs s v → w ≡ v
  -- "The sum of joined strings is the sum of the two sums, wrapped at 65,536, in either order": of bytes as they stand,
  pub checksums : {s t : List ℕ} {a b c : ℕ} → Checksum s a → Checksum t b → Checksum (s ++ t) c → Wrapped a b c
  -- and of bytes to be stuffed, with the number of bytes that stuffing adds
  pub tallies : {s t : List ℕ} {a b c : Stuffed} → Tally s a → Tally t b → Tally (s ++ t) c
      → Wrapped a.more b.more c.more × Wrapped a.sum b.sum c.sum
  -- what `tally` tells ahead, of a string that is still to be written: the checksum of what will be written,
  pub sum_ahead : {s w : List ℕ} {a : Stuffed} {c : ℕ} → Tally s a → WrittenAs s w → Checksum w c → a.sum ≡ c
  -- and, of a string of 65,535 bytes at most, how long that will be
  pub length_ahead : {s w : List ℕ} {a : Stuffed} → length s ≤ 65535 → Tally s a → WrittenAs s w → length w ≡ length s + a.more
  -- "Unstuffing a stuffed string gives it back, and two different strings never stuff alike.": `unstuffed` may answer the length, and nothing else
  pub back : {s w : List ℕ} → WrittenAs s w → Unstuffed w (Ok (length s)) × ((r : Result ℕ WireError) → Unstuffed w r → r ≡ Ok (length s))
  pub apart : {s t w : List ℕ} → WrittenAs s w → WrittenAs t w → s ≡ t
