-- The five bytes of a FLOAT40 are its two fields written one behind the other.
-- Laid over a part of five and put back, they are written at the part's place.
use Prim.Native.Nat.{ℕ, ◌+◌, ◌≤◌}
use mathlib.Core.Path.{◌≡◌, sym, ap, ◌∙◌}
use mathlib.Core.List.{List, [], ◌++◌, append-nil}
use native.Mathlib.Omega.{arith}
use lib.ListN.{length, drop, length-append}
use lib.Seq.{sets-eq, drop-length}
use Rattle.integer_write.specs.Writing.{int_bytes, written}
use Rattle.integer_write.proofs.Bytes.{length-int}
use Rattle.integer_write.proofs.Cases.{writes}
use Rattle.integer_write.proofs.Runs.{joined}
use Rattle.float40_write.specs.Writing.{exp40, man40, bytes40}

-- ---- a run over a whole list

over : (bs s : List ℕ) → length s ≡ length bs → written bs s 0 ≡ bs
over bs s e =
    let all : 0 + length bs ≡ length s = omega arith in
    let none : drop (0 + length bs) s ≡ [] = ap (λ (k : ℕ). drop k s) all ∙ drop-length s in
    (writes bs s 0 (omega arith)).1 ∙ sets-eq bs s 0 (omega arith) ∙ ap (λ (l : List ℕ). bs ++ l) none ∙ append-nil bs

-- ---- those of a FLOAT40

pub five : (b : ℕ) → length (bytes40 b) ≡ 5
unfolding bytes40
five b = length-append (int_bytes 2 (exp40 b)) (int_bytes 3 (man40 b)) ∙ omega (arith, length-int 2 (exp40 b), length-int 3 (man40 b))

pub fields : (b : ℕ) (s : List ℕ) (at : ℕ) → at + 5 ≤ length s
    → written (int_bytes 3 (man40 b)) (written (int_bytes 2 (exp40 b)) s at) (at + 2) ≡ written (bytes40 b) s at
unfolding bytes40
fields b s at h =
    joined (int_bytes 2 (exp40 b)) (int_bytes 3 (man40 b)) s at (omega (arith, length-int 2 (exp40 b), length-int 3 (man40 b)))

-- over a part of five
pub laid : (b : ℕ) (s : List ℕ) → length s ≡ 5 → written (int_bytes 3 (man40 b)) (written (int_bytes 2 (exp40 b)) s 0) 2 ≡ bytes40 b
laid b s e = fields b s 0 (omega arith) ∙ over (bytes40 b) s (e ∙ sym (five b))
