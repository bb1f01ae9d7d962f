-- Document 01, 'Fields', written: a value's low bytes, big-endian and two's complement, and where they go.
-- Each definition once over the width.
use Rattle.std.specs.Prelude.{ℕ, zero, suc, ◌+◌, ◌-◌, ◌*◌, ◌/◌, ◌%◌, ◌^◌, cond, List, [], ◌∷◌, leb, length, ℤ, pos, negsuc}
use Rattle.std.proofs.lemmas.List.Edits.{sets}
use Rattle.error.specs.Refusal.{Told, yes, no}
use Rattle.integer.specs.Fields.{need_at}

-- the k low bytes of a number, the highest first
unfoldable pub bytes_of : ℕ → ℕ → List ℕ
bytes_of zero n = []
bytes_of (suc k) n = n / 256 ^ k % 256 ∷ bytes_of k n

-- the w low bits of a signed number in two's complement
unfoldable pub unsigned : ℕ → ℤ → ℕ
unsigned w (pos n) = n % 2 ^ w
unsigned w (negsuc n) = 2 ^ w - suc (n % 2 ^ w)

-- the k low bytes of a signed number
unfoldable pub int_bytes : ℕ → ℤ → List ℕ
unfolding bytes_of unsigned
int_bytes k z = bytes_of k (unsigned (8 * k) z)

-- writing some bytes at a place: the reply, refusal 8 where they do not fit
unfoldable pub writing : List ℕ → List ℕ → ℕ → Told Unit
writing bs s at =
    cond (leb (at + length bs) (length s)) (yes tt) (no 8 (need_at (length bs) at ∷ length s ∷ []))

-- and the buffer then: they stand at the place and every other byte is kept; a refusal writes nothing
unfoldable pub written : List ℕ → List ℕ → ℕ → List ℕ
written bs s at = cond (leb (at + length bs) (length s)) (sets s at bs) s
