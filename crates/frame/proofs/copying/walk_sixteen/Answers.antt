-- `walk_sixteen`: a block with no FD, and none before it, stands for itself.
-- A block with an FD, or behind one, goes byte by byte.
use Rattle.std.proofs.Common.{◌≡◌, ℕ, ◌+◌, ◌≤◌, true, false, List, ◌++◌, length, take, sym, ap, ◌∙◌, arith, eq-eqb}
use Rattle.std.proofs.lemmas.Bool.{or_parts}
use Rattle.std.proofs.lemmas.Slice.{take-put_mid}
use Rattle.unstuffing.specs.Private.{kept}
use Rattle.frame.proofs.Walking.{kept-slots, raw-plain}
use Rattle.frame.proofs.copying.walk_sixteen.Goals as goal

pub slice_bounds-copy_from_slice-end : goal.slice_bounds-copy_from_slice-end
slice_bounds-copy_from_slice-end c =
    let all = c.has_escape.ensures (or_parts _ _ c.if-has_escape-before.false).0 in
    omega (arith, kept-slots c.args.block.now, all)

pub returns : goal.returns
returns c =
    let s = c.args.block.now in
    let parts = or_parts _ _ c.if-has_escape-before.false in
    let all : kept s ≡ 16 = c.has_escape.ensures parts.0 in
    let alone : c.args.before ≡ 0xFD → ⊥ = λ h. let z : true ≡ false = sym (eq-eqb _ _ h) ∙ parts.1 in cc in
    let fits : c.args.at + 16 ≤ length c.args.buf.now = omega (arith, kept-slots s, all) in
    let stored : c.copy_from_slice.new.self ≡ s = c.copy_from_slice.ensures.after in (
      omega (arith, all),
      take-put_mid c.args.at _ c.args.buf.now _ (c.args.at + 16) (omega (arith, ap length stored, c.told-block)) (omega arith)
          ∙ ap (λ (l : List ℕ). take c.args.at c.args.buf.now ++ l) (stored ∙ sym (raw-plain c.args.before s alone (all ∙ sym c.told-block))),
    )
