-- What is left of `normalised`: the shift loses no digit.
-- What it makes is below 2 ^ 53.
use Rattle.std.proofs.Common.{arith, ap, ◌∙◌, ℕ, ◌+◌, ◌*◌, ◌%◌, ◌^◌}
use native.Mathlib.Nat.{mod-eq_of_lt}
use Rattle.float40.proofs.Leading.{at-52}
use Rattle.float40.proofs.bits.normalised.Goals as goal

pub returns : goal.returns
returns c =
    let n = c.args.size in
    ap (λ (z : ℕ). n * 2 ^ (21 + z) % 2 ^ 64) c.requires.1 ∙ mod-eq_of_lt (omega (arith, at-52 n c.requires.0 c.ranges.size.fits))
