-- Document 01, 'Fields': big-endian, two's complement, each definition once over the width.
-- A field is k bytes wide and stands at a place of a list of bytes.
use Rattle.std.specs.Prelude.{ℕ, zero, suc, min, ◌+◌, ◌-◌, ◌*◌, ◌^◌, cond, List, [], ◌∷◌, ltb, leb, length, get_or, ℤ, pos, Float}
use Rattle.std.proofs.Math.IntN.{sub_ℕ}
use Rattle.std.specs.Float.{binary64}
use Rattle.std.specs.Float.Ieee.{div, of_int}
use Rattle.error.specs.Refusal.{Told, yes, no}

-- the big-endian number of k bytes from a place on; a byte past the end counts as 0
unfoldable pub be_at : ℕ → List ℕ → ℕ → ℕ
be_at zero s at = 0
be_at (suc k) s at = be_at k s at * 256 + get_or s (at + k) 0

-- the number that w bits stand for in two's complement: from half of 2 ^ w on, it is 2 ^ w less
unfoldable pub signed : ℕ → ℕ → ℤ
signed w n = cond (ltb n (2 ^ (w - 1))) (pos n) (sub_ℕ n (2 ^ w))

-- the signed number of k bytes from a place on
unfoldable pub int_at : ℕ → List ℕ → ℕ → ℤ
unfolding be_at signed
int_at k s at = signed (8 * k) (be_at k s at)

-- place plus width, or the largest usize where that passes it
abbrev pub need_at : ℕ → ℕ → ℕ
need_at k at = min (at + k) (2 ^ 64 - 1)

-- reading a field of k bytes: its value, or refusal 7 with the field's kind
unfoldable pub reading : {A : Type 0} → ℕ → ℕ → (List ℕ → ℕ → A) → List ℕ → ℕ → Told A
reading kind k value s at =
    cond (leb (at + k) (length s)) (yes (value s at)) (no 7 (kind ∷ need_at k at ∷ length s ∷ []))

-- a scaled read divides once
abbrev pub scaled_by : Float → ℤ → Float
scaled_by scale z = div binary64 (of_int binary64 z) scale
