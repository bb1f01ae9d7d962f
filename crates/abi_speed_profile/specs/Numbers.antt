-- The numbers of D9's record as C takes them: the whole ones, how many speeds there are, and the time between two.
-- A byte counts as an i32; the speeds lie in a buffer of their own.
use Rattle.std.specs.Prelude.{ℕ, List, [], ◌∷◌, ℤ, pos, Float}
use Rattle.speed_profile.specs.declared.SpeedProfile.{SpeedProfile}

abbrev pub profile_whole : SpeedProfile → List ℤ
profile_whole r = pos r.flags ∷ pos r.num_pre ∷ pos r.num_post ∷ r.scale_factor ∷ []

abbrev pub profile_numbers : SpeedProfile → List ℤ × ℕ × Float
profile_numbers r = (profile_whole r, r.speeds, r.time_interval)
