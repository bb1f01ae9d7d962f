-- A number's sign and magnitude: the number that they stand for has them, but where the magnitude is 0.
-- There it is 0, whatever the sign.
use Prim.Native.Nat.{ℕ, zero, suc, ◌<◌}
use mathlib.Core.Path.{◌≡◌, refl}
use mathlib.Core.Bool.{Bool, true, false}
use native.Mathlib.Omega.{arith}
use lib.IntN.{nat_abs}
use Rattle.float40.specs.Float40.{negative}
use Rattle.float40.specs.Private.{with_sign}

pub abs-with : (s : Bool) (n : ℕ) → nat_abs (with_sign s n) ≡ n
abs-with true zero = refl
abs-with true (suc n) = refl
abs-with false n = refl

pub sign-with : (s : Bool) (n : ℕ) → 0 < n → negative (with_sign s n) ≡ s
sign-with true zero h = absurd (omega arith)
sign-with true (suc n) h = refl
sign-with false n h = refl
