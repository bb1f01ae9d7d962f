-- Half tenths less half of them are the nearest tenth (proofs/Halves).
-- No step leaves the range, whatever is divided by.
use Rattle.std.proofs.Common.{ℕ, ℤ, pos, ◌-ℤ◌, ◌≡◌, ◌∙◌, ap, to_z, of_z, w32}
use lib.Signed.{quot_z}
use mir.Facts.{to_z-of_z}
use mir.Val.{SFits}
use mir.ValLaws.{sfits_le}
use Rattle.bay_log.proofs.Halves.{less_part, halved, part-within, less-within}
use Rattle.bay_log.proofs.shown.Goals as goal

-- ---- a number as the machine has it: a part of it, and the number less that part

abbrev stored : ℤ → ℤ
stored z = to_z w32 (of_z w32 z)

part-fits : {z : ℤ} → SFits w32 z → (d : ℕ) → SFits w32 (quot_z (stored z) (pos d))
part-fits {z} f d = rw (to_z-of_z f) (sfits_le (part-within z d) f)

less-is : {z : ℤ} → SFits w32 z → (d : ℕ) → stored z -ℤ stored (quot_z (stored z) (pos d)) ≡ less_part z d
unfolding less_part
less-is f d = rw (to_z-of_z (part-fits f d), to_z-of_z f)

less-fits : {z : ℤ} → SFits w32 z → (d : ℕ) → SFits w32 (stored z -ℤ stored (quot_z (stored z) (pos d)))
less-fits {z} f d = rw (less-is f d) (sfits_le (less-within z d) f)

-- ---- the goal

pub returns : goal.returns
returns c =
    let f = c.ranges.thousandths in
    let h = part-fits f 50 in
    to_z-of_z (less-fits h 2) ∙ less-is h 2 ∙ ap (λ (z : ℤ). less_part (quot_z z (pos 50)) 2) (to_z-of_z f) ∙ halved c.args.thousandths
