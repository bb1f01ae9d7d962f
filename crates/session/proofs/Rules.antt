-- Which case of the piece's rule holds, by the splitter's state, by its counts and by the room.
-- One of the four holds for every input: 9, 13, 8, or all of the piece is taken.
use Rattle.std.proofs.Common.{◌≡◌, ℕ, ◌*◌, ◌^◌, ◌<◌, ◌≤◌, true, false, List, [], ◌∷◌, length, arith, le-ltb, lt-ltb}
use Rattle.error.specs.Refusal.{no}
use Rattle.splitter.specs.Feed.{is_bad, is_full}
use Rattle.session.specs.Piece.{Stage, room_for, done, all_lines, piece_rule}

module _ (t : Stage) (c out : List ℕ) where
  pub piece-bad : is_bad t.session.splitter (length t.hold) ≡ true → done (no 9 []) t out ≡ piece_rule t c out
  unfolding piece_rule
  piece-bad b = rw b

  module _ (good : is_bad t.session.splitter (length t.hold) ≡ false) where
    pub piece-full : is_full t.session.splitter (length c) ≡ true → done (no 13 []) t out ≡ piece_rule t c out
    unfolding piece_rule
    piece-full f = rw (good, f)

    module _ (free : is_full t.session.splitter (length c) ≡ false) where
      pub piece-short : length out < room_for (length c) → done (no 8 (room_for (length c) ∷ length out ∷ [])) t out ≡ piece_rule t c out
      unfolding piece_rule
      piece-short l = rw (good, free, lt-ltb _ _ l)

      pub piece-fits : room_for (length c) ≤ length out → all_lines t c out ≡ piece_rule t c out
      unfolding piece_rule
      piece-fits l = rw (good, free, le-ltb _ _ l)

-- a slice of bytes is shorter than 2 ^ 63, so a room that is there is not the largest usize
pub room-is : (n room : ℕ) → room * 1 < 2 ^ 63 → room_for n ≤ room → 128 * n ≤ room
room-is n room l h = omega arith
