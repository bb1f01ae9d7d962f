-- `put` meets its contract: after i turns the numbers of i elements and i of the rest are stored.
-- The elements end before the rest begins, so neither run alters the other.
use Rattle.std.proofs.Common.{◌≡◌, ◌+◌, ◌*◌, length, get_or, set, arith, rules, pos, ◌∙◌}
use mir.Syntax.{w32}
use mir.ValLaws.{to_z-of_z}
use Rattle.layout.proofs.Held.{held}
use Rattle.abi_spin.proofs.Elements.{both-more}
use Rattle.abi_spin.proofs.put.Goals as goal

pub loop-i-preserved : goal.loop-i-preserved
loop-i-preserved c =
    let a = c.args in
    let i = c.loop-i.i in
    let n : length a.a ≡ 15 = search rules in
    let m : length a.rest ≡ 15 = search rules in
    (λ k.
    set (set (set (c.loop-i.invariant k) (1 + i * 2) (held w32 c.rpm.ensures c.rpm.type_inv k)) (2 + i * 2) (held w32 c.snr.ensures c.snr.type_inv k))
    (31 + i) (to_z-of_z w32 (get_or a.rest i (pos 0)) (search rules) k))
    ∙ both-more a.a a.rest a.whole.now i _ (pos 0) (omega arith) (omega arith) (omega arith)
