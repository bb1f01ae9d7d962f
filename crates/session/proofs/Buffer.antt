-- Request 9 took the payload buffer away from the program. What it prints is what it printed with one at least as long as its hold
-- buffer, as document 01 has both 2,048 bytes long: no frame that fits the hold buffer was ever refused for room.
use Rattle.std.proofs.Common.{◌≡◌, ℕ, ◌^◌, ◌<◌, ◌≤◌, leb, List, [], ◌∷◌, ◌++◌, map, length, sym, refl, ap, ◌∙◌, arith, leb-true}
use Rattle.general.proofs.Cases.{by-test}
use Rattle.error.specs.Refusal.{Told, on_yes}
use Rattle.frame.specs.declared.RawFrame.{RawFrame}
use Rattle.frame.specs.Wire.{Fields}
use Rattle.frame.specs.Rule.{check_rule, parse_rule, header_of}
use Rattle.frame.proofs.Parsed.{room-of-wire}
use Rattle.stream.specs.Stream.{joined, answer_to}
use Rattle.stream.specs.Rust.{rust_frames, rust_left}
use Rattle.report.specs.Line.{frame_text}
use Rattle.session.specs.Lines.{line_by, lines_by, line_to, number_to, lines_of, end_to}
use Rattle.session.specs.Program.{Run}
use Rattle.session.proofs.Printed.{prints}

-- what was told of a frame with a payload buffer of m bytes: it was parsed
abbrev pub parsed_with : ℕ → List ℕ → Told RawFrame
parsed_with m w = on_yes header_of (parse_rule w m)

module _ (H m : ℕ) (room : H ≤ m) where
  same_line : (n : ℕ) (w : List ℕ) → line_by (parsed_with m) n (answer_to H w) ≡ line_to n (answer_to H w)
  same_line n w =
      by-test (leb (length w) H)
      (λ e.
      let l = leb-true (length w) H e in
      let p : parse_rule w m ≡ check_rule w = room-of-wire w m (omega arith) in
      rw e (ap (λ (t : Told Fields). frame_text n (length w) (on_yes header_of t)) p))
      (λ e. rw e)

  same_lines : (n : ℕ) (ws : List (List ℕ)) → lines_by (parsed_with m) n (map (answer_to H) ws) ≡ lines_of n (map (answer_to H) ws)
  same_lines n [] = refl
  same_lines n (w ∷ ws) = λ i. same_line n w i ++ same_lines (number_to n (answer_to H w)) ws i

pub prints-as-before : {h : List ℕ} {cs : List (List ℕ)} {printed : List ℕ} (m : ℕ) (ds : List (List ℕ)) → length h ≤ m → joined cs ≡ joined ds
    → length (joined ds) < 2 ^ 64 → Run h cs printed → printed ≡ lines_by (parsed_with m) 0 (map (answer_to (length h)) (rust_frames [] ds)) ++ end_to (length h) (rust_left [] ds)
prints-as-before {h} m ds l e below r =
    prints ds e below r ∙ ap (λ (x : List ℕ). x ++ end_to (length h) (rust_left [] ds)) (sym (same_lines (length h) m l 0 (rust_frames [] ds)))
