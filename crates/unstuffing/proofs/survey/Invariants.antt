-- The loop of `survey`: where no pair of neighbours so far is a fault, the whole is proper if the rest is.
-- Beside it stands the running count of FDs; the last byte, which has nothing behind it, was looked at before.
use Rattle.std.proofs.Common.{◌≡◌, ◌+◌, ◌-◌, ◌%◌, ◌<◌, ◌≤◌, cond, eqb, false, length, drop}
use Rattle.unstuffing.specs.Escapes.{Proper}
use Rattle.unstuffing.specs.Private.{kept}
use Rattle.unstuffing.proofs.Proper.{is_fault}
use Rattle.unstuffing.proofs.survey.Given as goal

abbrev pub invariant-loop-i : goal.invariant-loop-i
invariant-loop-i l =
    (l.i - 1 ≤ length l.s - 1)
    × (l.is_wrong ≡ false → (is_fault l.last 0 ≡ false) × (Proper (drop (l.i - 1) l.s) → Proper l.s))
    × ((l.escapes + kept l.s) % 65536 ≡ (cond (eqb l.last 0xFD) 1 0 + (l.i - 1) + kept (drop (l.i - 1) l.s)) % 65536)
    × (l.escapes < 65536)
