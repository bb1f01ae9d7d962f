-- Condition 3: `Condition3` is the whole statement, its hypotheses too, in the condition's own words and order.
-- The theorem `condition-3` (proofs/Recovery) has this type. What a call is, and what it says: stream, specs/Stream.
use Rattle.std.specs.Prelude.{ℕ, ◌≤◌, ◌≡◌, cond, not, ◌&&◌, List, [], ◌∷◌, ◌++◌, map, length, eqb}
use Rattle.error.specs.Refusal.{yes}
use Rattle.frame.specs.Wire.{Fields}
use Rattle.frame.specs.Rule.{encode_rule, header_of, open_rule, copy_rule}
use Rattle.search.specs.First.{has}
use Rattle.splitter.specs.declared.FrameSplitter.{FrameSplitter}
use Rattle.splitter.specs.Feed.{frame, new}
use Rattle.stream.specs.Stream.{Said, Call, call, Feeds, joined, taken_by, answers, answer_to}
use Rattle.stream.specs.Rust.{rust_frames}

-- ---- the stream

-- "sound frames, each written by our encoder and no longer than the hold buffer", which has H bytes
pub record Sent (H : ℕ) : Type 0 where
  pub fields : Fields
  pub room : ℕ
  pub wire : List ℕ
  pub written : encode_rule fields room ≡ yes wire
  pub fits : length wire ≤ H

abbrev pub wires : {H : ℕ} → List (Sent H) → List ℕ
wires [] = []
wires (f ∷ fs) = f.wire ++ wires fs

-- the "unclosed start" that is pending after some bytes: from the first F0 with no F1 behind it, all of them; or none
abbrev pub pending : List ℕ → List ℕ
pending [] = []
pending (b ∷ l) = cond (eqb b 0xF0 && not (has 0xF1 l)) (b ∷ l) (pending l)

-- ---- what the calls do

-- what some bytes are answered by themselves: the Rust's frames, those longer than H replaced
abbrev pub answers_for : ℕ → List ℕ → List Said
answers_for H b = map (answer_to H) (rust_frames [] (b ∷ []))

-- "with no answer but More between, by the very call that takes its end marker": calls that take the bytes b between them; the last of them
-- takes the end marker that b ends with, and answers a; those before it answer More
pub record Takes (b : List ℕ) (a : Said) (t : List Call) : Type 0 where
  pub before : List Call
  pub part : List ℕ
  pub calls : t ≡ before ++ (call (part ++ (0xF1 ∷ [])) a ∷ [])
  pub bytes : taken_by before ++ (part ++ (0xF1 ∷ [])) ≡ b
  pub between : answers before ≡ []

-- "handed over whole, in order": frame after frame, each by calls of its own; then the calls over what follows, which say what it calls for
pub data InOrder {H : ℕ} (rest : List ℕ) : List (Sent H) → List Call → Type 0 where
  end : {t : List Call} → taken_by t ≡ rest → answers t ≡ answers_for H rest → InOrder rest [] t
  then : {f : Sent H} {fs : List (Sent H)} {t u : List Call} → Takes f.wire (yes (frame f.wire)) t → InOrder rest fs u → InOrder rest (f ∷ fs) (t ++ u)

-- the calls t over noise, the frames f ∷ fs, and whatever follows them
pub record HandedOver {H : ℕ} (noise : List ℕ) (f : Sent H) (fs : List (Sent H)) (rest : List ℕ) (t : List Call) : Type 0 where
  -- the calls up to the noise's last answer took bytes of the noise alone, and said all that it calls for; they left some of it, or none
  pub noisy : List Call
  pub left : List ℕ
  pub apart : taken_by noisy ++ left ≡ noise
  pub says : answers noisy ≡ answers_for H noise
  -- the calls from there to the first frame's end marker: an unclosed start that was pending and the frame are answered as one
  pub first : List Call
  pub meets : Takes (left ++ f.wire) (answer_to H (pending noise ++ f.wire)) first
  -- "so is the first, unless an unclosed start was pending"
  pub clear : pending noise ≡ [] → Takes (left ++ f.wire) (yes (frame f.wire)) first
  -- "Every frame from the second on"
  pub later : List Call
  pub others : InOrder rest fs later
  -- these are all calls
  pub calls : t ≡ noisy ++ (first ++ later)
  -- "Each then parses to the fields it was written from, given room for its payload." Request 9 made parsing two operations:
  -- it opens to its header and its payload's length, and copies to its payload
  pub opens : (g : Sent H) → open_rule g.wire ≡ yes (header_of g.fields)
  pub copies : (g : Sent H) (room : ℕ) → length g.fields.payload ≤ room → copy_rule g.wire room ≡ yes g.fields.payload

-- ---- the condition

abbrev pub Condition3 : Type 0
Condition3 =
    -- "Take a fresh splitter whose state and hold buffer only its own calls touch, every untaken rest being offered again until none is left."
    (hold hold' : List ℕ) (state : FrameSplitter) (chunks : List (List ℕ)) (calls : List Call) → Feeds new hold chunks calls state hold'
    -- "First come any bytes, cut anywhere; then sound frames, each written by our encoder and no longer than the hold buffer, again cut anywhere."
    -- (What follows them may be any bytes too.)
    → (noise : List ℕ) (f : Sent (length hold)) (fs : List (Sent (length hold))) (rest : List ℕ) → joined chunks ≡ noise ++ (wires (f ∷ fs) ++ rest)
    → HandedOver noise f fs rest calls
