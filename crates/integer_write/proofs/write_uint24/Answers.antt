-- What is left of `write_uint24`: the last three of std's bytes of the number are its three bytes.
-- `write_bytes` says the rest.
use Rattle.std.proofs.Common.{ap, subst, ◌∙◌, ℕ, List, drop, take}
use Rattle.integer_write.specs.Writing.{bytes_of}
use Rattle.integer_write.proofs.Bytes.{be-bytes}
use Rattle.integer_write.proofs.Cases.{Wrote}
use Rattle.integer_write.proofs.write_uint24.Goals as goal

pub returns : goal.returns
unfolding bytes_of
returns c =
    let w = c.write_bytes in
    subst (λ (bs : List ℕ). Wrote w.result w.new.buf bs c.args.buf.now c.args.offset)
    (ap (λ (l : List ℕ). take 3 (drop 1 l)) (c.to_be_bytes.ensures ∙ be-bytes 4 c.args.val)) w.ensures
