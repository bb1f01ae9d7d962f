-- What is left of `value`: the value is no NaN.
-- So its bits may be handed over.
use Rattle.std.proofs.Common.{arith, sym, ap, subst, ◌∙◌, ◌^◌, ◌<◌, Bool, ℤ}
use mathlib.Core.Bool.{not}
use lib.Dec.{T}
use lib.IntN.{nat_abs}
use lib.Ieee.{binary64, is_nan}
use lib.Ieee.Bits.{nan_bits_is}
use mir.Syntax.{w16}
use mir.ValLaws.{to_z-of_z}
use Rattle.float40.specs.Float40.{value40}
use Rattle.float40.specs.Private.{number_of}
use Rattle.float40.proofs.Sign.{abs-with}
use Rattle.float40.proofs.Value.{reads-number}
use Rattle.float40.proofs.bits.Mantissa.value.Goals as goal

pub float_from_bits-result : goal.float_from_bits-result
float_from_bits-result c =
    let a = c.args in
    let m = number_of a.self in
    let small : nat_abs m < 2 ^ 53 = omega (arith, abs-with a.self.is_negative a.self.size) in
    let e = c.value_bits.ensures ∙ ap (λ (z : ℤ). value40 z m) (to_z-of_z w16 a.e c.ranges.e) in
    subst (λ (b : Bool). T (not b)) (sym (nan_bits_is binary64 c.value_bits.result ∙ ap is_nan e ∙ reads-number a.e m small)) tt
