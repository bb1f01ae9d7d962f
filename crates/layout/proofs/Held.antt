-- A signed result as a record or a cast holds it: its bits, read back.
-- They stand for the same number, since it fits its width.
use mathlib.Core.Path.{◌≡◌, ◌∙◌}
use Prim.Native.Nat.{◌<◌, ◌^◌}
use lib.IntN.{ℤ}
use lib.Signed.{mag}
use mir.Syntax.{Width}
use mir.Val.{to_z, of_z, hbits}
use mir.ValLaws.{to_z-of_z}

pub held : (w : Width) {z y : ℤ} → z ≡ y → mag z < 2 ^ hbits w → to_z w (of_z w z) ≡ y
held w {z} e h = to_z-of_z w z (record { sfits = h }) ∙ e
