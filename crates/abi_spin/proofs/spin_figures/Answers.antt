-- `spin_figures` meets its contract: after i turns the peaks of i elements stand at their places, and the axis behind.
-- The array starts as sixteen times the axis, so its last place is never stored.
use Rattle.std.proofs.Common.{◌≡◌, [], ◌∷◌, ◌++◌, List, length, get_or, set, replicate, arith, rules, pos, sym, ap, ◌∙◌}
use Rattle.std.proofs.lemmas.List.{take_all}
use Rattle.std.proofs.lemmas.List.Edits.{sets}
use lib.Ieee.{Float, nan}
use Rattle.spin.specs.declared.AntennaElement.{AntennaElement}
use Rattle.layout.proofs.Spread.{spread}
use Rattle.abi_spin.specs.Numbers.{peaks}
use Rattle.abi_spin.proofs.Elements.{peak-more}
use Rattle.abi_spin.proofs.spin_figures.Goals as goal

-- what a read past the end would give
abbrev nothing : AntennaElement
nothing = record { spin_rpm = pos 0; peak = nan; snr = pos 0 }

pub loop-i-preserved : goal.loop-i-preserved
loop-i-preserved c =
    let l = c.loop-i in
    let r = c.args.r in
    let n : length r.antenna_data ≡ 15 = search rules in
    ap (λ (t : List Float). set t l.i (get_or r.antenna_data l.i nothing).peak) l.invariant
    ∙ peak-more r.antenna_data (replicate 16 r.spin_axis) l.i nothing (omega arith)

pub returns : goal.returns
returns c =
    let l = c.loop-i in
    let r = c.args.r in
    let a = r.antenna_data in
    let n : length a ≡ 15 = search rules in
    let row = spread 15 a nothing n in
    l.invariant
    ∙ ap (λ (t : List AntennaElement). sets (replicate 16 r.spin_axis) 0 (peaks t)) (take_all l.i a (omega arith) ∙ sym row)
    ∙ ap (λ (t : List AntennaElement). peaks t ++ r.spin_axis ∷ []) row
