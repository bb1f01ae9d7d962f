-- What is read at the edges of the rule, computed from it: the least mantissa, the least power, and the first infinities.
-- Beside document 01's (h), (j), (k) and (l), which stand with the writer's examples.
use mathlib.Core.Path.{◌≡◌, refl}
use mathlib.Core.Bool.{true, false}
use lib.Count.{count_trailing_zeros}
use lib.IntN.{pos, negsuc}
use lib.Ieee.{fin, inf, size, span, climb, odd, units, round, mul, of_int}
use Rattle.general.specs.Number.{zero_float}
use Rattle.float40.specs.Float40.{pow2, value40}

pub record Edges : Type 0 where
  -- -8,388,608, whose magnitude alone has 24 digits: -2.0
  pub least-mantissa : value40 (pos 1) (negsuc 8388607) ≡ fin true 1 (pos 1)
  -- the smallest float, 2 ^ -1074
  pub least-power : value40 (negsuc 1050) (pos 1) ≡ fin false 1 (negsuc 1073)
  -- 2 * 2 ^ -1075 would fit as that float, but the power is below -1074
  pub would-fit : value40 (negsuc 1051) (pos 2) ≡ zero_float
  pub with-sign : value40 (negsuc 1051) (negsuc 1) ≡ fin true 0 (pos 0)
  -- 2 ^ -1023 is subnormal, 2 ^ -1022 is not
  pub last-subnormal-power : value40 (negsuc 1021) (pos 4194304) ≡ fin false 1 (negsuc 1022)
  pub least-normal : value40 (negsuc 1020) (pos 4194304) ≡ fin false 1 (negsuc 1021)
  -- 2 ^ 1023, and 2 ^ 1024
  pub last-power : value40 (pos 1046) (pos 1) ≡ fin false 1 (pos 1023)
  pub infinite : value40 (pos 1046) (pos 2) ≡ inf false
  pub minus-infinite : value40 (pos 1024) (negsuc 8388607) ≡ inf true
  -- and 0 whatever the exponent
  pub nothing : value40 (pos 32767) (pos 0) ≡ zero_float

pub edges : Edges
unfolding value40 pow2 mul of_int round units odd size span climb count_trailing_zeros
edges =
    record {
      least-mantissa = refl;
      least-power = refl;
      would-fit = refl;
      with-sign = refl;
      last-subnormal-power = refl;
      least-normal = refl;
      last-power = refl;
      infinite = refl;
      minus-infinite = refl;
      nothing = refl;
    }
