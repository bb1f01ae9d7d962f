-- A number's place may stop at the largest usize: no list is that long, so neither there nor past it is a byte.
-- What is read at either place is 0.
use Rattle.std.proofs.Common.{◌≡◌, ap, sym, ◌∙◌, ℕ, ◌+◌, ◌*◌, ◌-◌, ◌^◌, ◌<◌, ◌≤◌, min, List, length, pos, arith}
use Rattle.general.proofs.Cases.{by-lt}
use Rattle.integer.specs.Fields.{be_at, signed, int_at}
use Rattle.integer.proofs.BigEndian.{be-zeros}

-- no byte of the field is there
none-there : (s : List ℕ) (at : ℕ) → length s ≤ at → int_at 3 s at ≡ pos 0
unfolding int_at signed be_at
none-there s at h = ap (signed 24) (be-zeros 0 3 s at (omega (arith, h)))

pub stopped : (s : List ℕ) (base n : ℕ) → length s < 2 ^ 64 → int_at 3 s (min (min (n * 3) (2 ^ 64 - 1) + base) (2 ^ 64 - 1)) ≡ int_at 3 s (base + 3 * n)
stopped s base n h =
    by-lt (base + 3 * n) (2 ^ 64 - 1)
    (λ l. let e : min (min (n * 3) (2 ^ 64 - 1) + base) (2 ^ 64 - 1) ≡ base + 3 * n = omega arith in ap (int_at 3 s) e)
    (λ l. none-there s _ (omega arith) ∙ sym (none-there s _ (omega arith)))
