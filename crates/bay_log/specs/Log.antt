-- Document 01, 'Bay log': the 32-byte record of a shot, and what writing it at the front of a buffer does.
-- Payload short is told first (7), then room below 32 (8); a refusal writes nothing.
use Rattle.std.specs.Prelude.{ℕ, suc, ◌+◌, ◌/◌, cond, ltb, length, ℤ, pos, negsuc, neg_ℤ}
use mathlib.Core.List.{List, [], ◌∷◌, flatten}
use Rattle.std.proofs.lemmas.List.Edits.{sets}
use Rattle.error.specs.Refusal.{Told, yes, no}
use Rattle.integer_write.specs.Writing.{bytes_of, int_bytes}
use Rattle.numbers.specs.declared.Message.TheVariants.{FlightResult}
use Rattle.numbers.specs.Numbers.{shape_of, whole_of}

-- n thousandths in tenths: the nearest, halves up
unfoldable pub tenths : ℕ → ℕ
tenths n = (n + 50) / 100

-- a shown figure (request 5): the nearest tenth, halves away from zero; specs/Nearest says what that is
unfoldable pub shown_of : ℤ → ℤ
shown_of (pos n) = pos (tenths n)
shown_of (negsuc n) = neg_ℤ (pos (tenths (suc n)))

-- the record's fields: event number, D4, raw total, launch speed, azimuth, elevation, carry, max height, backspin
unfoldable pub log_fields : ℕ → List ℕ → List (List ℕ)
log_fields event p =
    bytes_of 4 event
    ∷ ((shape_of FlightResult).kind ∷ [])
    ∷ int_bytes 3 (whole_of FlightResult p 0)
    ∷ int_bytes 4 (shown_of (whole_of FlightResult p 5))
    ∷ int_bytes 4 (shown_of (whole_of FlightResult p 6))
    ∷ int_bytes 4 (shown_of (whole_of FlightResult p 7))
    ∷ int_bytes 4 (shown_of (whole_of FlightResult p 8))
    ∷ int_bytes 4 (shown_of (whole_of FlightResult p 10))
    ∷ int_bytes 4 (whole_of FlightResult p 14)
    ∷ []

-- the reply, and the buffer then: the record at its front, every other byte kept
unfoldable pub log_rule : ℕ → List ℕ → List ℕ → Told Unit × List ℕ
log_rule event p buf =
    cond (ltb (length p) (shape_of FlightResult).least) (no 7 ((shape_of FlightResult).kind ∷ (shape_of FlightResult).least ∷ length p ∷ []), buf)
    (cond (ltb (length buf) 32) (no 8 (32 ∷ length buf ∷ []), buf)
    (yes tt, sets buf 0 (flatten (log_fields event p))))
