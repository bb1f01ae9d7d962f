-- What is left of `write_uint16`: std's bytes of the number are its two bytes.
-- `write_bytes` says the rest.
use Rattle.std.proofs.Common.{subst, ◌∙◌, ℕ, List}
use Rattle.integer_write.proofs.Bytes.{be-bytes}
use Rattle.integer_write.proofs.Cases.{Wrote}
use Rattle.integer_write.proofs.write_uint16.Goals as goal

pub returns : goal.returns
returns c =
    let w = c.write_bytes in
    subst (λ (bs : List ℕ). Wrote w.result w.new.buf bs c.args.buf.now c.args.offset) (c.to_be_bytes.ensures ∙ be-bytes 2 c.args.val) w.ensures
