-- The float 2 ^ k: its three cases, as the laws of what is read take them.
-- Exact from -1074 to 1023, +0.0 below and infinity above.
use mathlib.Core.Path.{◌≡◌}
use mathlib.Core.Bool.{true, false, false≢true}
use lib.IntN.{ℤ, pos, negsuc}
use lib.Signed.{lt_z}
use lib.Ieee.{fin, inf}
use Rattle.general.specs.Number.{zero_float}
use Rattle.float40.specs.Float40.{pow2}

pub pow2-low : (k : ℤ) → lt_z k (negsuc 1073) ≡ true → pow2 k ≡ zero_float
unfolding pow2
pow2-low k h = rw h

pub pow2-high : (k : ℤ) → lt_z (pos 1023) k ≡ true → pow2 k ≡ inf false
unfolding pow2
pow2-high (pos n) h = rw h
pow2-high (negsuc n) h = absurd (false≢true h)

pub pow2-in : (k : ℤ) → lt_z k (negsuc 1073) ≡ false → lt_z (pos 1023) k ≡ false → pow2 k ≡ fin false 1 k
unfolding pow2
pow2-in k h g = rw (h, g)
