-- Document 01's worked FLOAT40 examples, (h) to (l), each under its letter, computed from the rules that the contracts cite.
-- Crate `examples` has them in its list.
use Prim.Native.Nat.{ℕ}
use mathlib.Core.Path.{◌≡◌, refl}
use mathlib.Core.Bool.{true, false}
use mathlib.Core.List.{List, [], ◌∷◌}
use lib.Count.{count_trailing_zeros}
use lib.IntN.{pos, negsuc}
use lib.Ieee.{Float, fin, size, span, climb, odd, units, round, mul, of_int, to_bits}
use Rattle.error.specs.Refusal.{yes}
use Rattle.integer.specs.Fields.{be_at, signed, int_at, reading}
use Rattle.integer_write.specs.Writing.{bytes_of, unsigned, int_bytes, writing, written}
use Rattle.float40.specs.Float40.{pow2, value40, float40_at}
use Rattle.general.specs.Number.{zero_float}
use Rattle.float40_write.specs.Writing.{size_of, exp40, man40, bytes40, bits64}

-- reading five bytes, and writing a float over five others
abbrev reads : List ℕ → Float → Type 0
reads bytes x = reading 7 5 float40_at bytes 0 ≡ yes x

abbrev others : List ℕ
others = 0xFF ∷ 0xFF ∷ 0xFF ∷ 0xFF ∷ 0xFF ∷ []

abbrev writes : Float → List ℕ → Type 0
writes x bytes = (writing (bytes40 (bits64 x)) others 0 ≡ yes tt) × (written (bytes40 (bits64 x)) others 0 ≡ bytes)

pub record Float40Examples : Type 0 where
  -- 1.0
  pub h : reads (0x00 ∷ 0x01 ∷ 0x40 ∷ 0x00 ∷ 0x00 ∷ []) (fin false 1 (pos 0))
  -- -0.5
  pub i : writes (fin true 1 (negsuc 0)) (0x00 ∷ 0x00 ∷ 0xC0 ∷ 0x00 ∷ 0x00 ∷ [])
  -- 0.0
  pub j : reads (0x7F ∷ 0xFF ∷ 0x00 ∷ 0x00 ∷ 0x00 ∷ []) zero_float
  -- 2 ^ -1052
  pub k : reads (0xFB ∷ 0xE5 ∷ 0x40 ∷ 0x00 ∷ 0x00 ∷ []) (fin false 1 (negsuc 1051))
  -- 0.0
  pub l : reads (0xFB ∷ 0xE4 ∷ 0x40 ∷ 0x00 ∷ 0x00 ∷ []) zero_float

pub examples-float40 : Float40Examples
unfolding reading float40_at int_at be_at signed value40 pow2 mul of_int round units odd size span
    climb count_trailing_zeros writing written bytes40 int_bytes bytes_of unsigned exp40 man40 size_of to_bits
examples-float40 = record { h = refl; i = (refl, refl); j = refl; k = refl; l = refl }
