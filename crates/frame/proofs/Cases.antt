-- Which case of parsing's rule holds after which tests: one law for each return of `RawFrame::copy_payload`.
-- `opens`, `copies` and `refused-alike` say it of the two rules that contracts cite, from what checking tells.
use mathlib.Core.Path.{◌≡◌, refl, ap}
use mathlib.Core.List.{List, [], ◌∷◌}
use Prim.Native.Nat.{ℕ, ◌≤◌, ◌<◌}
use lib.ListN.{length}
use borrow.Author.Tests.{lt-ltb, le-ltb}
use Rattle.error.specs.Refusal.{yes, no, on_yes}
use Rattle.frame.specs.Wire.{Fields}
use Rattle.frame.specs.Rule.{check_rule, parse_rule, header_of, open_rule, payload_told, copy_rule}

module _ (w : List ℕ) (room : ℕ) where
  pub parse-refused : (k : ℕ) (vs : List ℕ) → check_rule w ≡ no k vs → parse_rule w room ≡ no k vs
  unfolding parse_rule
  parse-refused k vs e = rw e refl

  pub parse-room : (f : Fields) → check_rule w ≡ yes f → room < length f.payload → parse_rule w room ≡ no 8 (length f.payload ∷ room ∷ [])
  unfolding parse_rule
  parse-room f e h = rw (e, lt-ltb _ _ h) refl

  pub parse-fits : (f : Fields) → check_rule w ≡ yes f → length f.payload ≤ room → parse_rule w room ≡ yes f
  unfolding parse_rule
  parse-fits f e h = rw (e, le-ltb _ _ h) refl

-- ---- the two rules

pub opens : (w : List ℕ) (f : Fields) → check_rule w ≡ yes f → open_rule w ≡ yes (header_of f)
opens w f e = ap (on_yes header_of) e

pub copies : (w : List ℕ) (room : ℕ) (f : Fields) → check_rule w ≡ yes f → length f.payload ≤ room → copy_rule w room ≡ yes f.payload
copies w room f e h = ap payload_told (parse-fits w room f e h)

pub refused-alike : (w : List ℕ) (room k : ℕ) (vs : List ℕ) → check_rule w ≡ no k vs → (open_rule w ≡ no k vs) × (copy_rule w room ≡ no k vs)
refused-alike w room k vs e = (ap (on_yes header_of) e, ap payload_told (parse-refused w room k vs e))
