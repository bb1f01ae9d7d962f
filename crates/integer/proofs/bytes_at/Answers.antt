-- What is left of `bytes_at`, where the end cuts the field: each byte is that of its place.
-- A place that the sum would pass has no byte either.
use Rattle.std.proofs.Common.{arith, rules, sym, ap, ◌∙◌, ◌≡◌, ℕ, ◌+◌, ◌-◌, ◌^◌, ◌<◌, min, length, List, get_or}
use lib.ListN.{get_or-eq_default}
use Rattle.general.proofs.Cases.{by-lt}
use Rattle.general.proofs.FromFn.{from-fn-same}
use Rattle.integer.proofs.bytes_at.Goals as goal

-- the largest usize is no place
no-place : (s : List ℕ) (j : ℕ) → length s < 2 ^ 64 → get_or s (min j (2 ^ 64 - 1)) 0 ≡ get_or s j 0
no-place s j h =
    by-lt j (2 ^ 64 - 1) (λ l. let e : min j (2 ^ 64 - 1) ≡ j = omega arith in ap (λ (i : ℕ). get_or s i 0) e)
    (λ l. get_or-eq_default s 0 (omega arith) ∙ sym (get_or-eq_default s 0 (omega arith)))

pub returns : goal.returns
returns g c k h =
    let short : length c.args.«data».now < 2 ^ 64 = omega arith in
    from-fn-same _ _ (λ k. get_or c.args.«data».now (c.args.offset + k) 0) (λ x b f' e. search (rules, no-place)) _ g.row.K c.from_fn.ensures.items 0 k h
