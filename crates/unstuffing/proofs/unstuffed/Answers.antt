-- `unstuffed`: a proper string unstuffs to its bytes without the FDs, and these are fewer than 65,536.
-- So they were counted without a wrap.
use Rattle.std.proofs.Common.{ℕ, List, length, sym, ap, ◌∙◌, arith}
use Rattle.error.specs.Refusal.{Told, yes, on_yes}
use Rattle.unstuffing.specs.Escapes.{Proper}
use Rattle.unstuffing.proofs.Proper.{unstuff-proper, length-units, kept-most}
use Rattle.unstuffing.proofs.unstuffed.Goals as goal

pub overflow_sub-result : goal.overflow_sub-result
overflow_sub-result c = omega (arith, c.in-Some.ensures.1, c.from.ensures, kept-most c.args.s.now)

pub returns-in-Some : goal.returns-in-Some
returns-in-Some c =
    let s = c.args.s.now in
    let p : Proper s = c.in-Some.ensures.0 in
    let e = c.from.ensures in
    ap yes (omega (arith, c.in-Some.ensures.1, e, kept-most s, length-units 0 p))
    ∙ ap (λ (t : Told (List (ℕ × ℕ))). on_yes length t) (sym (unstuff-proper 0 p))
