-- `measure` meets its contract: the parts of a wire are tallied one by one.
-- Their lengths add up without wrapping, since the payload has at most 65,535 bytes.
use Rattle.std.proofs.Common.{ℕ, ◌+◌, ◌-◌, ◌%◌, List, Some, length, refl, ap, ◌∙◌, arith}
use Rattle.stuffing.specs.Stuff.{stuff}
use Rattle.encoding.specs.Parts.{fields_of}
use Rattle.encoding.proofs.Writing.{checksum-tallied, wire-measured, two-bytes}
use Rattle.encoding.proofs.parts.Parts.measure.Goals as goal

pub returns-clause-checksum : goal.returns-clause-checksum
returns-clause-checksum c =
    ap Some (checksum-tallied (fields_of c.args.self.now) c.head.result c.head.ensures c.tally-h.ensures.sum c.tally-p.ensures.sum refl)

pub returns-clause-need : goal.returns-clause-need
returns-clause-need c =
    let f = fields_of c.args.self.now in
    let cs = checksum-tallied f c.head.result c.head.ensures c.tally-h.ensures.sum c.tally-p.ensures.sum refl in
    let tail = c.to_be_bytes.ensures ∙ two-bytes ((c.tally-h.result.sum + c.tally-p.result.sum) % 65536) (omega arith) in
    let three = c.tally-t.ensures.more ∙ ap (λ (l : List ℕ). (length (stuff l) - length l) % 65536) tail in
    (λ j. length f.payload + 7 + c.from.ensures j + c.from-2.ensures j + c.from-3.ensures j)
    ∙ wire-measured f c.head.result c.head.ensures ((c.tally-h.result.sum + c.tally-p.result.sum) % 65536) cs
    c.tally-h.result.more c.tally-p.result.more c.tally-t.result.more c.requires c.tally-h.ensures.more c.tally-p.ensures.more three
