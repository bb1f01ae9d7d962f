-- `float` is safe: a pattern that is not above the infinity's is no NaN's.
-- Every NaN is made by a division, so no pattern of one is asked for.
use Rattle.std.proofs.Common.{◌≡◌, ℕ, ◌%◌, ◌≤◌, Bool, not, T, ltb, sym, ◌∙◌, subst, arith, ltb→lt}
use lib.Ieee.{binary64, nan_bits}
use lib.Ieee.Bits.{nan_bits_above}
use Rattle.general.proofs.Cases.{by-test}
use Rattle.cases.proofs.case.float.Goals as goal

no_nan : (n : ℕ) → n % 9223372036854775808 ≤ 9218868437227405312 → T (not (nan_bits binary64 n))
no_nan n h =
    let bit = ltb 9218868437227405312 (n % 9223372036854775808) in
    let p : nan_bits binary64 n ≡ bit = nan_bits_above binary64 n in
    by-test bit
    (λ t. absurd (let l = ltb→lt 9218868437227405312 (n % 9223372036854775808) (subst T (sym t) tt) in omega arith))
    (λ t. subst (λ (b : Bool). T (not b)) (sym (p ∙ t)) tt)

pub float_from_bits-result : goal.float_from_bits-result
float_from_bits-result c = no_nan _ (omega arith)
