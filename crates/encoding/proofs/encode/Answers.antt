-- `encode` meets its contract where it succeeds: the wire is stored at the front (`front`).
-- A refusal is the rule's case by its test, and stores nothing; no answer is needed there.
use Rattle.std.proofs.Common.{◌≤◌, length, arith}
use Rattle.encoding.specs.Wire.{fields, wire_of}
use Rattle.encoding.proofs.Cases.{encode-fits}
use Rattle.encoding.proofs.Stores.{front}
use Rattle.encoding.proofs.encode.Goals as goal

pub returns-clause-bytes : goal.returns-clause-bytes
returns-clause-bytes c =
    let a = c.args in
    let f = fields a.dest a.src a.type_id a.payload.now in
    let room : length (wire_of f) ≤ length a.wire.now = omega (arith, c.enough-plan.ensures.need.0) in
    rw (encode-fits f (length a.wire.now) (omega arith) room) (front (wire_of f) a.wire.now room c.put.ensures.1)
