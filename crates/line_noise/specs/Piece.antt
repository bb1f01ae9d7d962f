-- One piece of the input: the splitter is fed until all of it is taken.
-- The rule fixes the reply, the splitter, and every byte of the hold buffer.
use Rattle.std.specs.Prelude.{ℕ, zero, suc, cond, List, [], ◌∷◌, length, drop}
use Rattle.std.specs.Prelude.{Result}
use Rattle.error.specs.declared.WireError.{WireError}
use Rattle.error.specs.Refusal.{Told, yes, no}
use Rattle.error.specs.Result.{told}
use Rattle.splitter.specs.declared.FrameSplitter.{FrameSplitter}
use Rattle.splitter.specs.Feed.{Given, feed_rule, is_bad, is_full}

-- what is kept between two calls: the splitter and the hold buffer
pub record Between : Type 0 where
  pub splitter : FrameSplitter
  pub hold : List ℕ

abbrev pub between : FrameSplitter → List ℕ → Between
between s h = record { splitter = s; hold = h }

-- one call of the splitter
abbrev pub offered : Between → List ℕ → Given
offered t c = feed_rule t.splitter t.hold c

abbrev pub after_offer : Between → List ℕ → Between
after_offer t c = between (offered t c).state (offered t c).hold

-- what is not yet taken is offered again, k times at most
unfoldable pub wholly : ℕ → Between → List ℕ → Between
wholly zero t c = t
wholly (suc k) t [] = t
wholly (suc k) t (b ∷ c) = wholly k (after_offer t (b ∷ c)) (drop (offered t (b ∷ c)).taken (b ∷ c))

-- what a call fixes: the reply, and what is kept for the next
pub record Outcome : Type 0 where
  pub reply : Told Unit
  pub kept : Between

abbrev pub outcome : Told Unit → Between → Outcome
outcome a t = record { reply = a; kept = t }

abbrev pub outcome_of : Result Unit WireError → FrameSplitter → List ℕ → Outcome
outcome_of r s h = outcome (told r) (between s h)

-- a state that no call gives (9), then more bytes than can be counted (13), and nothing is altered; else all of the piece is taken
unfoldable pub take_rule : Between → List ℕ → Outcome
take_rule t c =
    cond (is_bad t.splitter (length t.hold)) (outcome (no 9 []) t)
    (cond (is_full t.splitter (length c)) (outcome (no 13 []) t)
    (outcome (yes tt) (wholly (length c) t c)))
