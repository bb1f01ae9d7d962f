-- What is answered is the part of the payload at the text's place, not a copy.
-- That the part is there is the trim's law (proofs/Trimmed).
use Rattle.std.proofs.Common.{◌≡◌, ℕ, ◌+◌, ◌-◌, ◌≤◌, List, length, take, drop, ap, ◌∙◌, arith}
use Rattle.shot_text.specs.declared.TextPlace.{TextPlace}
use Rattle.shot_text.specs.Trim.{text_of, text_start, place_of}
use Rattle.shot_text.proofs.Trimmed.{lies, lies_within}
use Rattle.shot_text.proofs.ShotText.decode.Goals as goal

-- where a text's place lies
module _ (s : List ℕ) (p : TextPlace) (e : p ≡ place_of s) where
  starts : p.start ≡ text_start s
  starts = ap (λ (p : TextPlace). p.start) e

  long : p.len ≡ length (text_of s)
  long = ap (λ (p : TextPlace). p.len) e

  fits : p.start + p.len ≤ length s
  fits = omega (arith, starts, long, lies_within s)

  part : take (p.start + p.len - p.start) (drop p.start s) ≡ text_of s
  part =
      let n : p.start + p.len - p.start ≡ length (text_of s) = omega (arith, long) in
      ap (λ (k : ℕ). take k (drop p.start s)) n ∙ ap (λ (k : ℕ). take (length (text_of s)) (drop k s)) starts ∙ lies s

pub overflow_add-result : goal.overflow_add-result
overflow_add-result c = omega (arith, fits c.args.payload.now c.place-start.result c.place-start.ensures)

pub slice_bounds-result-end : goal.slice_bounds-result-end
slice_bounds-result-end c = fits c.args.payload.now c.place-start.result c.place-start.ensures

pub returns-clause-result_value : goal.returns-clause-result_value
returns-clause-result_value c = part c.args.payload.now c.place-start.result c.place-start.ensures
