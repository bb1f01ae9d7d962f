-- What is left of `float40_at`: the part that starts at the place, or past the end a mantissa 0.
-- A mantissa 0 is +0.0 whatever the exponent is.
use Rattle.std.proofs.Common.{arith, rules, sym, ap, ◌∙◌, ◌≡◌, ◌-◌, ◌≤◌, ℕ, List, length, take, drop, length-drop}
use Rattle.std.proofs.lemmas.Grind.{common_steps}
use lib.Seq.{take_all}
use lib.Ieee.{of_bits, of_fields, odd}
use Rattle.integer.specs.Fields.{int_at}
use Rattle.float40.specs.Float40.{value40, float40_at}
use Rattle.float40.proofs.Part.{from_place, past_end}
use Rattle.float40.proofs.float40_at.Goals as goal

pub returns-in-None : goal.returns-in-None
unfolding float40_at value40 of_bits of_fields odd
returns-in-None c =
    let a = c.args in
    let s = a.«data».now in
    let past : length s ≤ a.offset = grind (arith, common_steps) in
    sym (ap (value40 (int_at 2 s a.offset)) (past_end s a.offset past))

pub returns-in-Some : goal.returns-in-Some
returns-in-Some c =
    let a = c.args in
    let s = a.«data».now in
    let rest : length (drop a.offset s) ≤ length s - a.offset = omega (arith, length-drop a.offset s) in
    let part : c.in-Some.part.now ≡ take (length s - a.offset) (drop a.offset s) = search rules in
    c.front.ensures
    ∙ ap (λ (l : List ℕ). float40_at l 0) (part ∙ take_all (length s - a.offset) (drop a.offset s) rest)
    ∙ from_place s a.offset
