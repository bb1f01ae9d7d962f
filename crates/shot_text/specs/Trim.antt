-- Document 01, E5: bytes below 20 hex are trimmed at both ends; what remains is a part of the payload.
-- Where nothing remains, the part is the payload's empty start.
use Rattle.std.specs.Prelude.{ℕ, ◌+◌, ◌-◌, cond, List, [], ◌∷◌, reverse, ltb, length}
use Rattle.std.specs.Borrow.{Bor}
use Rattle.shot_text.specs.declared.TextPlace.{TextPlace}

-- from the first byte of 20 hex or more on
unfoldable pub cut_front : List ℕ → List ℕ
cut_front [] = []
cut_front (b ∷ s) = cond (ltb b 0x20) (cut_front s) (b ∷ s)

-- up to and with the last byte of 20 hex or more
unfoldable pub cut_back : List ℕ → List ℕ
unfolding cut_front
cut_back s = reverse (cut_front (reverse s))

-- what remains, and how many bytes stand before it once the back is cut (none where nothing remains)
unfoldable pub text_of : List ℕ → List ℕ
unfolding cut_front cut_back
text_of s = cut_front (cut_back s)

unfoldable pub text_start : List ℕ → ℕ
unfolding cut_front cut_back text_of
text_start s = length (cut_back s) - length (text_of s)

-- where what remains lies: how many bytes stand before it, and how many it has
abbrev pub place_of : List ℕ → TextPlace
place_of s = record { start = text_start s; len = length (text_of s) }

-- the place in memory
abbrev pub text_at : Bor (List ℕ) → ℕ × ℕ
text_at payload = (payload.ref_ptr.0, text_start payload.now + payload.ref_ptr.1)
