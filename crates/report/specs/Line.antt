-- Document 01, 'Frames to prove or run': the line of each event, word by word, and the line at the end; and the line of a count.
-- A line fills the front of a lent buffer, or is refused with 8; none is longer than 128 bytes.
use Rattle.std.specs.Prelude.{ℕ, ◌≤◌, ◌≡◌, Bool, cond, List, [], ◌∷◌, ◌++◌, map, leb, length}
use Rattle.error.specs.Refusal.{Told, yes, no, on_yes, filled}
use Rattle.addr.specs.Address.{byte_of}
use Rattle.frame.specs.declared.RawFrame.{RawFrame}
use Rattle.report.specs.declared.Count.{Count}
use Rattle.report.specs.declared.Count.TheVariants.{Taken, Dropped, Framed, Lost, Held}
use Rattle.report.specs.Text.{decimal_of, hex_of}

-- words, a space before each
abbrev pub spaced : List (List ℕ) → List ℕ
spaced [] = []
spaced (w ∷ ws) = 0x20 ∷ (w ++ spaced ws)

-- a first word, further words, a line feed
abbrev pub line_of : List ℕ → List (List ℕ) → List ℕ
line_of w ws = w ++ (spaced ws ++ (0x0A ∷ []))

-- DEST, SRC, TYPE and the payload's length
abbrev pub field_words : RawFrame → List (List ℕ)
field_words f = hex_of (byte_of f.dest) ∷ hex_of (byte_of f.src) ∷ hex_of f.type_id ∷ decimal_of f.len ∷ []

-- `OK` and the frame's fields; or `NO`, the refusal's number and its values
abbrev pub result_words : Told RawFrame → List (List ℕ)
result_words (yes f) = (0x4F ∷ 0x4B ∷ []) ∷ field_words f
result_words (no k vs) = (0x4E ∷ 0x4F ∷ []) ∷ decimal_of k ∷ map decimal_of vs

-- event number, wire length, and what opening it said
unfoldable pub frame_text : ℕ → ℕ → Told RawFrame → List ℕ
frame_text n len told = line_of (decimal_of n) (decimal_of len ∷ result_words told)

-- N - LONG
unfoldable pub long_text : ℕ → List ℕ
long_text n = line_of (decimal_of n) ((0x2D ∷ []) ∷ (0x4C ∷ 0x4F ∷ 0x4E ∷ 0x47 ∷ []) ∷ [])

-- end, held count, mark as 0 or 1
unfoldable pub end_text : ℕ → Bool → List ℕ
end_text held mark = line_of (0x65 ∷ 0x6E ∷ 0x64 ∷ []) (decimal_of held ∷ decimal_of (cond mark 1 0) ∷ [])

-- request 6: the names of the splitter's five counts
abbrev pub name_of : Count → List ℕ
name_of Taken = 0x74 ∷ 0x61 ∷ 0x6B ∷ 0x65 ∷ 0x6E ∷ []
name_of Dropped = 0x64 ∷ 0x72 ∷ 0x6F ∷ 0x70 ∷ 0x70 ∷ 0x65 ∷ 0x64 ∷ []
name_of Framed = 0x66 ∷ 0x72 ∷ 0x61 ∷ 0x6D ∷ 0x65 ∷ 0x64 ∷ []
name_of Lost = 0x6C ∷ 0x6F ∷ 0x73 ∷ 0x74 ∷ []
name_of Held = 0x68 ∷ 0x65 ∷ 0x6C ∷ 0x64 ∷ []

-- a count's name, and the number
unfoldable pub count_text : Count → ℕ → List ℕ
count_text which n = line_of (name_of which) (decimal_of n ∷ [])

-- a text in a room: itself, or 8 with the room wanted and the room there is
unfoldable pub fitted : List ℕ → ℕ → Told (List ℕ)
fitted text room = cond (leb (length text) room) (yes text) (no 8 (length text ∷ room ∷ []))

-- what each line function promises of its text: old is the buffer at entry, new at exit
pub record Lined (text old : List ℕ) (told : Told ℕ) (new : List ℕ) : Type 0 where
  pub reply : told ≡ on_yes length (fitted text (length old))
  pub bytes : new ≡ filled (fitted text (length old)) old
  pub short : length text ≤ 128
