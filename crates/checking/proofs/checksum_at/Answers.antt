-- `checksum_at`: two unstuffed bytes are cut off at the end.
-- Both are there, since there are five at least.
use Rattle.std.proofs.Common.{refl, take, length-take-le, arith}
use Rattle.unstuffing.proofs.Parting.{cut_of}
use Rattle.checking.proofs.Reading.{ends}
use Rattle.checking.proofs.checksum_at.Goals as goal

pub cut-requires : goal.cut-requires
cut-requires c =
    let s = c.args.s.now in
    let cuts = ends s c.cut-low.result (cut_of (take c.cut-low.result s)) c.requires.0 c.requires.1 c.cut-low.ensures refl in
    rw (length-take-le c.cut-low.result s (omega (arith, cuts.0))) cuts.1

pub returns : goal.returns
returns c = (ends c.args.s.now c.cut-low.result c.cut.result c.requires.0 c.requires.1 c.cut-low.ensures c.cut.ensures).2
