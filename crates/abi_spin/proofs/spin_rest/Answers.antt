-- `spin_rest` meets its contract: each number is the record's.
-- Each i16 is made wider, and so is the method, a byte; the flags are held as they are.
use Rattle.std.proofs.Common.{[], ◌∷◌, rules}
use mir.Syntax.{w32}
use mir.ValLaws.{to_z-of_z}
use Rattle.layout.proofs.Held.{held}
use Rattle.abi.proofs.Widened.{widened}
use Rattle.abi_spin.proofs.spin_rest.Goals as goal

pub returns : goal.returns
returns c =
    let r = c.args.r in
    λ i.
    widened r.pm_spin_raw (search rules) c.wide.ensures c.wide.type_inv i
    ∷ widened r.pm_spin_final (search rules) c.wide-2.ensures c.wide-2.type_inv i
    ∷ widened r.pm_spin_confidence (search rules) c.wide-3.ensures c.wide-3.type_inv i
    ∷ widened r.lift_spin (search rules) c.wide-4.ensures c.wide-4.type_inv i
    ∷ widened r.spin_validate_expected (search rules) c.wide-5.ensures c.wide-5.type_inv i
    ∷ widened r.spin_validate_low (search rules) c.wide-6.ensures c.wide-6.type_inv i
    ∷ widened r.spin_validate_high (search rules) c.wide-7.ensures c.wide-7.type_inv i
    ∷ widened r.spin_validate_scaling (search rules) c.wide-8.ensures c.wide-8.type_inv i
    ∷ held w32 c.byte.ensures c.byte.type_inv i
    ∷ to_z-of_z w32 r.spin_flags (search rules) i
    ∷ widened r.launch_spin (search rules) c.wide-9.ensures c.wide-9.type_inv i
    ∷ widened r.am_spin (search rules) c.wide-10.ensures c.wide-10.type_inv i
    ∷ widened r.pm_spin (search rules) c.wide-11.ensures c.wide-11.type_inv i
    ∷ widened r.aod_spin (search rules) c.wide-12.ensures c.wide-12.type_inv i
    ∷ widened r.pll_spin (search rules) c.wide-13.ensures c.wide-13.type_inv i
    ∷ []
