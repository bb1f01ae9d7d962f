-- Which case of the piece's rule holds, by the splitter's state and by what can still be counted.
-- One of the three holds for every input: 9, 13, or all of the piece is taken.
use Rattle.std.proofs.Common.{◌≡◌, true, false, List, [], ℕ, length}
use Rattle.error.specs.Refusal.{yes, no}
use Rattle.splitter.specs.Feed.{is_bad, is_full}
use Rattle.line_noise.specs.Piece.{Between, wholly, outcome, take_rule}

module _ (t : Between) (c : List ℕ) where
  pub take-bad : is_bad t.splitter (length t.hold) ≡ true → outcome (no 9 []) t ≡ take_rule t c
  unfolding take_rule
  take-bad b = rw b

  module _ (good : is_bad t.splitter (length t.hold) ≡ false) where
    pub take-full : is_full t.splitter (length c) ≡ true → outcome (no 13 []) t ≡ take_rule t c
    unfolding take_rule
    take-full f = rw (good, f)

    pub take-free : is_full t.splitter (length c) ≡ false → outcome (yes tt) (wholly (length c) t c) ≡ take_rule t c
    unfolding take_rule
    take-free f = rw (good, f)
