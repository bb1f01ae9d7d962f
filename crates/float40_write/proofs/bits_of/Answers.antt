-- What is left of `bits_of`: every NaN has the same bits.
-- `to_bits` is asked of no NaN, whose bits are not known.
use Rattle.std.proofs.Common.{◌≡◌, refl, sym, ◌∙◌, true, ℕ}
use lib.Ieee.{Float, nan, inf, fin, is_nan, to_bits}
use mathlib.Core.Bool.{false≢true}
use Rattle.float40_write.specs.Writing.{bits64}
use Rattle.float40_write.proofs.bits_of.Goals as goal

nan-bits : (x : Float) → is_nan x ≡ true → ◌≡◌ {A = ℕ} 0x7FF8000000000000 (bits64 x)
unfolding is_nan to_bits
nan-bits nan h = refl
nan-bits (inf s) h = absurd (false≢true h)
nan-bits (fin s m e) h = absurd (false≢true h)

pub returns-then-is_nan : goal.returns-then-is_nan
returns-then-is_nan c = nan-bits c.args.value (sym c.is_nan.ensures.value ∙ c.if-is_nan.true)
