-- After i turns the peaks of i elements stand at their places, and the axis behind.
-- The array starts as sixteen times the axis, so its last place is never stored.
use Rattle.std.proofs.Common.{◌≡◌, take}
use Rattle.std.proofs.lemmas.List.Edits.{sets}
use Rattle.abi_spin.specs.Numbers.{peaks}
use Rattle.abi_spin.proofs.spin_figures.Given as goal

abbrev pub invariant-loop-i : goal.invariant-loop-i
invariant-loop-i l = l.figures ≡ sets l.initial.figures 0 (peaks (take l.i l.fn.r.antenna_data))
