-- `copy`: one block of sixteen bytes more (`turn`), and the bytes that are left at the end.
-- The whole buffer is filled, since it is as long as what the string stands for.
use Rattle.std.proofs.Common.{◌≡◌, ℕ, ◌+◌, ◌≤◌, List, ◌++◌, length, take, get_or, drop, sym, ap, ◌∙◌, append_assoc, arith}
use Rattle.unstuffing.specs.Private.{kept}
use Rattle.frame.specs.Private.{raw, slots}
use Rattle.frame.proofs.Walking.{length-raw, slots-take, slots-part, raw-part, take_whole}
use Rattle.frame.proofs.copying.copy.Goals as goal

-- one block more
turn : (whole rest block behind buf buf' : List ℕ) (p o o' n : ℕ) → block ≡ take 16 rest → behind ≡ drop 16 rest → 16 ≤ length rest
    → o + slots rest ≤ n → take o buf ++ raw p rest ≡ whole
    → o' ≡ o + kept block → take o' buf' ≡ take o buf ++ raw p block
    → (o' + slots behind ≤ n) × (take o' buf' ++ raw (get_or block 15 0) behind ≡ whole)
turn whole rest block behind buf buf' p o o' n b r h room e f w = (
  omega (arith, slots-part 16 rest, ap kept b, ap slots r),
  rw w
      (append_assoc (take o buf) (raw p block) (raw (get_or block 15 0) behind)
      ∙ ap (λ (l : List ℕ). take o buf ++ l) (rw (b, r) (sym (raw-part p rest h)))
      ∙ e),
)

pub walk_sixteen-o-requires : goal.walk_sixteen-o-requires
walk_sixteen-o-requires c =
    let cut = c.in-Some.ensures.cases in
    let room : c.loop-block.o + slots c.in-Some.block.now ≤ length c.loop-block.buf =
    omega (arith, ap slots cut.0, slots-take 16 c.loop-block.rest.now, c.loop-block.invariant.0, c.loop-block.invariant.2) in
    room

pub loop-block-preserved : goal.loop-block-preserved
loop-block-preserved c =
    let cut = c.in-Some.ensures.cases in
    let e = c.walk_sixteen-o.ensures in
    let k =
    turn (raw 0 c.args.s.now) c.loop-block.rest.now c.in-Some.block.now c.in-Some.behind.now c.loop-block.buf c.walk_sixteen-o.new.buf
    c.loop-block.before c.loop-block.o c.walk_sixteen-o.result (length c.args.buf.now)
    cut.0 cut.1 (omega (arith, cut.2)) c.loop-block.invariant.0 c.loop-block.invariant.1 e.0 e.1 in
    (k.0, k.1, c.walk_sixteen-o.auto.buf ∙ c.loop-block.invariant.2)

pub returns : goal.returns
returns c =
    let s = c.args.s.now in
    let e = c.walk.ensures.1 ∙ c.loop-block.invariant.1 in
    sym (take_whole c.walk.result c.walk.new.buf
    (omega (arith, ap length e, length-raw 0 s, c.requires.0, c.walk.auto.buf, c.loop-block.invariant.2))) ∙ e
