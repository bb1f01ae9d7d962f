-- Document 01, 'Frames to prove or run': what a stream's answers print, each on its line.
-- n is the number of the next event.
use Rattle.std.specs.Prelude.{ℕ, ◌+◌, ◌%◌, ◌^◌, cond, not, List, [], ◌∷◌, ◌++◌, length, nat_le}
use Rattle.error.specs.Refusal.{Told, yes, no}
use Rattle.frame.specs.declared.RawFrame.{RawFrame}
use Rattle.frame.specs.Rule.{open_rule}
use Rattle.splitter.specs.Feed.{more, overlong, frame}
use Rattle.stream.specs.Stream.{Said}
use Rattle.report.specs.Line.{frame_text, long_text, end_text}

-- the line of an answer, by what is told of a frame; More prints nothing, and what is refused is no event
abbrev pub line_by : (List ℕ → Told RawFrame) → ℕ → Said → List ℕ
line_by told n (yes more) = []
line_by told n (yes overlong) = long_text n
line_by told n (yes (frame w)) = frame_text n (length w) (told w)
line_by told n (no k vs) = []

-- the next event's number: 64 bits, which wrap
abbrev pub number_to : ℕ → Said → ℕ
number_to n (yes more) = n
number_to n (yes overlong) = (n + 1) % 2 ^ 64
number_to n (yes (frame w)) = (n + 1) % 2 ^ 64
number_to n (no k vs) = n

abbrev pub lines_by : (List ℕ → Told RawFrame) → ℕ → List Said → List ℕ
lines_by told n [] = []
lines_by told n (a ∷ l) = line_by told n a ++ lines_by told (number_to n a) l

-- a frame is opened
abbrev pub line_to : ℕ → Said → List ℕ
line_to n a = line_by open_rule n a

abbrev pub lines_of : ℕ → List Said → List ℕ
lines_of n l = lines_by open_rule n l

-- the line at the end, where the bytes w are left open: they are held where they fit the hold buffer's length H, else the mark is set
abbrev pub end_to : ℕ → List ℕ → List ℕ
end_to H w = end_text (cond (nat_le (length w) H) (length w) 0) (not (nat_le (length w) H))
