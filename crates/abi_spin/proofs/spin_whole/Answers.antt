-- `spin_whole` meets its contract: the parts fill the list.
-- The version, 30 numbers of the elements and 15 of the rest are 46.
use Rattle.std.proofs.Common.{◌≡◌, length, set, replicate, pos, refl, rules, ◌∙◌}
use Rattle.std.proofs.lemmas.List.Edits.{sets}
use mir.Syntax.{w32}
use Rattle.layout.proofs.Held.{held}
use Rattle.abi_spin.specs.Numbers.{elements_whole, spin_rest}
use Rattle.abi_spin.proofs.Elements.{joined}
use Rattle.abi_spin.proofs.spin_whole.Goals as goal

pub returns : goal.returns
returns c =
    let r = c.args.r in
    let n : length r.antenna_data ≡ 15 = search rules in
    c.put.ensures
    ∙ (λ i.
    sets (sets (set (replicate 46 (pos 0)) 0 (held w32 c.byte.ensures c.byte.type_inv i)) 1 (elements_whole r.antenna_data))
    31 (c.spin_rest.ensures i))
    ∙ joined (pos r.version) r.antenna_data (spin_rest r) (replicate 46 (pos 0)) n refl refl
