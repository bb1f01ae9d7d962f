-- Document 01, 'Refusal numbers', and those of the later requests: the number and the values of each refusal, and what a call tells.
-- A rule of any crate speaks of `Told` alone: it knows numbers and values, and no enum.
use Rattle.std.specs.Prelude.{ℕ, List, [], ◌∷◌, ◌++◌, length, drop}
use Rattle.error.specs.declared.WireError.{WireError}
use Rattle.error.specs.declared.WireError.TheVariants.{FrameTooShort, MissingStart, MissingEnd, InvalidEscape, ChecksumMismatch, UnknownBusAddr}
use Rattle.error.specs.declared.WireError.TheVariants.{PayloadTooShort, NoRoom, BadState, PayloadTooLong, NoField, CutEscape, CounterFull}

-- a call tells a value, or a refusal's number with its values
pub data Told (A : Type 0) : Type 0 where
  yes : A → Told A
  no : ℕ → List ℕ → Told A

abbrev pub number_of : WireError → ℕ
number_of (FrameTooShort len) = 1
number_of (MissingStart got) = 2
number_of MissingEnd = 3
number_of (InvalidEscape code offset) = 4
number_of (ChecksumMismatch expected computed) = 5
number_of (UnknownBusAddr addr) = 6
number_of (PayloadTooShort kind need got) = 7
number_of (NoRoom need got) = 8
number_of BadState = 9
number_of (PayloadTooLong len) = 10
number_of (NoField number) = 11
number_of (CutEscape offset) = 12
number_of CounterFull = 13

abbrev pub values_of : WireError → List ℕ
values_of (FrameTooShort len) = len ∷ []
values_of (MissingStart got) = got ∷ []
values_of MissingEnd = []
values_of (InvalidEscape code offset) = code ∷ offset ∷ []
values_of (ChecksumMismatch expected computed) = expected ∷ computed ∷ []
values_of (UnknownBusAddr addr) = addr ∷ []
values_of (PayloadTooShort kind need got) = kind ∷ need ∷ got ∷ []
values_of (NoRoom need got) = need ∷ got ∷ []
values_of BadState = []
values_of (PayloadTooLong len) = len ∷ []
values_of (NoField number) = number ∷ []
values_of (CutEscape offset) = offset ∷ []
values_of CounterFull = []

abbrev pub refused : {A : Type 0} → WireError → Told A
refused e = no (number_of e) (values_of e)

-- what is told of a value, where it was not refused
abbrev pub on_yes : {A B : Type 0} → (A → B) → Told A → Told B
on_yes f (yes a) = yes (f a)
on_yes f (no k vs) = no k vs

-- a rule that goes on from a value, where it was not refused
abbrev pub and_then : {A B : Type 0} → Told A → (A → Told B) → Told B
and_then (yes a) rule = rule a
and_then (no k vs) rule = no k vs

-- what is told of bytes fills a buffer's front and the rest keeps its bytes; a refusal writes nothing
abbrev pub filled : Told (List ℕ) → List ℕ → List ℕ
filled (yes w) old = w ++ drop (length w) old
filled (no k vs) old = old
