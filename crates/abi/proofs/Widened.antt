-- A number of 16 bits that a record holds, made one of 32 and held in a list: it is the same.
-- `wide` makes it one of 32; its list holds it by its bits.
use Prim.Native.Nat.{◌<◌, ◌^◌}
use mathlib.Core.Path.{◌≡◌, ◌∙◌}
use lib.IntN.{ℤ}
use lib.Signed.{mag}
use borrow.Author.Rules.{sfits_of}
use mir.Syntax.{w16, w32}
use mir.Val.{to_z, of_z, hbits}
use mir.ValLaws.{to_z-of_z}

pub widened : (z : ℤ) → mag z < 2 ^ hbits w16 → {y : ℤ} → y ≡ to_z w16 (of_z w16 z) → mag y < 2 ^ hbits w32 → to_z w32 (of_z w32 y) ≡ z
widened z h {y} e k = to_z-of_z w32 y (sfits_of k) ∙ e ∙ to_z-of_z w16 z (sfits_of h)
