-- Request 6: what the five counts mean, by the bytes b since fresh and the hold buffer's length H alone.
-- Frames and open bytes are the Rust's for the whole history; what stands in neither is counted by a walk of its own.
use Rattle.std.specs.Prelude.{ℕ, suc, ◌+◌, Bool, true, false, cond, not, List, [], ◌∷◌, eqb, leb, length}
use Rattle.splitter.specs.declared.Counts.{Counts}
use Rattle.stream.specs.Rust.{rust_frames, rust_left}

-- "dropped outside frames": the bytes that stand in no frame and in no open start. Where none is open, an F0 opens one and any other byte is
-- dropped; where one is, nothing is, and the F1 is its last byte
abbrev pub outside : Bool → List ℕ → ℕ
outside inside [] = 0
outside true (b ∷ l) = outside (not (eqb b 0xF1)) l
outside false (b ∷ l) = cond (eqb b 0xF0) (outside true l) (suc (outside false l))

-- the length of a frame, or of the open bytes, that is no longer than H; that is longer
abbrev pub within : ℕ → List ℕ → ℕ
within H w = cond (leb (length w) H) (length w) 0

abbrev pub beyond : ℕ → List ℕ → ℕ
beyond H w = cond (leb (length w) H) 0 (length w)

abbrev pub sum_over : (List ℕ → ℕ) → List (List ℕ) → ℕ
sum_over f [] = 0
sum_over f (w ∷ ws) = f w + sum_over f ws

-- "bytes taken; dropped outside frames; handed over in frames; lost in overlong frames, those being skipped now included; and held"
abbrev pub counts_over : ℕ → List ℕ → Counts
counts_over H b =
    record {
      taken = length b;
      dropped = outside false b;
      framed = sum_over (within H) (rust_frames [] (b ∷ []));
      lost = sum_over (beyond H) (rust_frames [] (b ∷ [])) + beyond H (rust_left [] (b ∷ []));
      held = within H (rust_left [] (b ∷ []));
    }
