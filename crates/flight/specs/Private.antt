-- A client may skip this file: a message's numbers as the code reads them, by the list of divisors and a scale.
-- Only private contracts cite it; proofs/Ruled takes it to `numbers_of`.
use Rattle.std.specs.Prelude.{ℕ, List, get_or, ℤ, Float}
use Rattle.integer.specs.Fields.{scaled_by}
use Rattle.numbers.specs.declared.Message.{Message}
use Rattle.numbers.specs.Numbers.{Rule, whole_of, rule_of, rule_code, entry_of}
use Rattle.flight.specs.Decoding.{Numbers}

-- z divided by the entry that stands for a rule
abbrev pub divided : Rule → Float → ℤ → Float
divided r s z = scaled_by (entry_of (rule_code r) s) z

abbrev pub figure_by : Message → List ℕ → Float → ℕ → Float
figure_by m p s n = divided (rule_of m n) s (whole_of m p n)

abbrev pub numbers_in : Message → List ℕ → Float → Numbers
numbers_in m p s = record { byte = λ at. get_or p at 0; whole = whole_of m p; figure = figure_by m p s }
