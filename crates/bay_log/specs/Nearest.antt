-- Request 5, 'the nearest tenth, halves away from zero': what that says of a whole number of tenths.
-- The figure shown is such a number, and no other is one (proofs/Nearest).
use Rattle.std.specs.Prelude.{ℕ, ◌≤◌, ◌<◌, ◌≡◌, ℤ, pos, nat_abs, ◌-ℤ◌, ◌*ℤ◌}

-- by how much x tenths miss z thousandths
unfoldable pub off_by : ℤ → ℤ → ℕ
off_by z x = nat_abs (pos 100 *ℤ x -ℤ z)

-- x is the nearest tenth to z thousandths, halves away from zero
pub record NearestTenth (z x : ℤ) : Type 0 where
  -- 100 times it is within 50 of the thousandths
  pub near : off_by z x ≤ 50
  -- where that is a half, it is farther from zero than they are
  pub away : off_by z x ≡ 50 → nat_abs z < nat_abs (pos 100 *ℤ x)
