-- Document 01, 'Frames', as request 2 amends it: unstuffing goes left to right, and refuses the first wrong escape (4, its code and offset;
-- 12, its offset, if it is cut off). `step_at` is one step of it, `unstuff` all of them: each unstuffed byte with the offset where it starts.
use Rattle.std.specs.Prelude.{ℕ, ◌+◌, cond, List, [], ◌∷◌, map, ◌==◌, slice_index_or}
use Rattle.error.specs.Refusal.{Told, yes, no, on_yes}
use Rattle.stuffing.specs.Stuff.{unescape_of}

-- what is told of a wrong escape at offset i, by what stands behind its FD: nothing, or a byte that is no code
abbrev pub wrong_escape : {A : Type 0} → ℕ → List ℕ → Told A
wrong_escape i [] = no 12 (i ∷ [])
wrong_escape i (c ∷ l) = no 4 (c ∷ i ∷ [])

-- ---- unstuffing, by what is told of a wrong escape

-- what an FD at offset i stands for, by what follows it
unfoldable pub escape_by : (ℕ → List ℕ → Told ℕ) → ℕ → List ℕ → Told ℕ
escape_by wrong i [] = wrong i []
escape_by wrong i (c ∷ l) = cond (unescape_of c == 0) (wrong i (c ∷ l)) (yes (unescape_of c))

-- the unstuffing step: what the byte b at offset i stands for, l following it; raw F0, F1 and FA stand for themselves
unfoldable pub step_by : (ℕ → List ℕ → Told ℕ) → ℕ → ℕ → List ℕ → Told ℕ
step_by wrong i b l = cond (b == 0xFD) (escape_by wrong i l) (yes b)

-- the unstuffed byte of a step, with its offset, in front of the others
abbrev pub after : ℕ → Told ℕ → Told (List (ℕ × ℕ)) → Told (List (ℕ × ℕ))
after i (yes b) t = on_yes (λ us. (b, i) ∷ us) t
after i (no k vs) t = no k vs

-- the bytes from offset i on: a step at FD takes two of them, each other one
abbrev pub unstuff_by : (ℕ → List ℕ → Told ℕ) → ℕ → List ℕ → Told (List (ℕ × ℕ))
unstuff_by wrong i [] = yes []
unstuff_by wrong i (b ∷ []) = after i (step_by wrong i b []) (yes [])
unstuff_by wrong i (b ∷ c ∷ l) =
    after i (step_by wrong i b (c ∷ l)) (cond (b == 0xFD) (unstuff_by wrong (i + 2) l) (unstuff_by wrong (i + 1) (c ∷ l)))

-- ---- as the client orders it

abbrev pub step_at : ℕ → ℕ → List ℕ → Told ℕ
step_at i b l = step_by wrong_escape i b l

abbrev pub unstuff : ℕ → List ℕ → Told (List (ℕ × ℕ))
unstuff i s = unstuff_by wrong_escape i s

-- the unstuffed bytes without their offsets; the one with number k, and its offset
abbrev pub unit_bytes : List (ℕ × ℕ) → List ℕ
unit_bytes us = map (λ (u : ℕ × ℕ). u.0) us

abbrev pub byte_at : List (ℕ × ℕ) → ℕ → ℕ
byte_at us k = (slice_index_or us k (0, 0)).0

abbrev pub offset_at : List (ℕ × ℕ) → ℕ → ℕ
offset_at us k = (slice_index_or us k (0, 0)).1
