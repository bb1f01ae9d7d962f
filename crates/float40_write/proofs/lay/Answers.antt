-- What is left of `lay`: the two fields, one behind the other, are the five bytes.
-- Neither write is refused, for the part has room for both.
use Rattle.std.proofs.Common.{rules, ◌≡◌, ap, ◌∙◌, List, ℕ, ℤ, w32, to_z, of_z}
use mir.Syntax.{w16}
use mir.ValLaws.{to_z-of_z}
use Rattle.integer_write.specs.Writing.{int_bytes, written}
use Rattle.float40_write.specs.Writing.{exp40, man40}
use Rattle.float40_write.proofs.Five.{laid}
use Rattle.float40_write.proofs.lay.Goals as goal

pub returns : goal.returns
returns c =
    let low = c.write_int24 in
    let high = c.write_int16 in
    let parts = c.parts_of-parts in
    let a = c.args in
    let e : to_z w16 (of_z w16 parts.result.exponent) ≡ exp40 a.bits = to_z-of_z w16 parts.result.exponent (search rules) ∙ parts.ensures.0 in
    let m : to_z w32 (of_z w32 parts.result.mantissa) ≡ man40 a.bits = to_z-of_z w32 parts.result.mantissa (search rules) ∙ parts.ensures.1 in
    let first : high.new.buf ≡ written (int_bytes 2 (exp40 a.bits)) a.buf.now 0 =
    high.ensures.1 ∙ ap (λ (z : ℤ). written (int_bytes 2 z) a.buf.now 0) e in
    low.ensures.1
    ∙ ap (λ (z : ℤ). written (int_bytes 3 z) high.new.buf 2) m
    ∙ ap (λ (l : List ℕ). written (int_bytes 3 (man40 a.bits)) l 2) first
    ∙ laid a.bits a.buf.now c.requires
