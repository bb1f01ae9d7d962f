-- `rank` meets its contract: where it is not 0, the byte is none of the four.
-- Each of the four makes one of the three differences 0.
use Rattle.std.proofs.Common.{◌≡◌, ℕ, ne_eqb, arith}
use Rattle.stuffing.specs.Stuff.{escape_of}
use Rattle.encoding.proofs.ranking.rank.Goals as goal

no-code : (b : ℕ) → (b ≡ 0xF0 → ⊥) → (b ≡ 0xF1 → ⊥) → (b ≡ 0xFD → ⊥) → (b ≡ 0xFA → ⊥) → escape_of b ≡ 0
unfolding escape_of
no-code b p q r s = rw (ne_eqb b 0xF0 p, ne_eqb b 0xF1 q, ne_eqb b 0xFD r, ne_eqb b 0xFA s)

pub returns : goal.returns
returns c h =
    no-code c.args.b
    (λ e. omega (arith, c.min.ensures, c.min-2.ensures, e, h))
    (λ e. omega (arith, c.min.ensures, c.min-2.ensures, e, h))
    (λ e. omega (arith, c.min.ensures, c.min-2.ensures, e, h))
    (λ e. omega (arith, c.min.ensures, c.min-2.ensures, e, h))
