-- Request 2 by example: strings that end in FD, or in FD 00, computed from the rule that the contract of `unstuffed` cites.
-- The first wrong escape is told, so a cut behind another one is not.
use Rattle.std.proofs.Common.{◌≡◌, [], ◌∷◌, refl}
use Rattle.error.specs.Refusal.{no}
use Rattle.stuffing.specs.Stuff.{unescape_of}
use Rattle.unstuffing.specs.Unstuff.{escape_by, step_by, unstuff}

pub record Endings : Type 0 where
  pub cut : unstuff 0 (0xFD ∷ []) ≡ no 12 (0 ∷ [])
  pub cut-behind-escape : unstuff 0 (0xFD ∷ 0x03 ∷ 0xFD ∷ []) ≡ no 12 (2 ∷ [])
  pub zero : unstuff 0 (0xFD ∷ 0x00 ∷ []) ≡ no 4 (0x00 ∷ 0 ∷ [])
  pub two : unstuff 0 (0xFD ∷ 0xFD ∷ []) ≡ no 4 (0xFD ∷ 0 ∷ [])
  pub cut-behind-zero : unstuff 0 (0xFD ∷ 0x00 ∷ 0xFD ∷ []) ≡ no 4 (0x00 ∷ 0 ∷ [])

pub endings : Endings
unfolding step_by escape_by unescape_of
endings = record { cut = refl; cut-behind-escape = refl; zero = refl; two = refl; cut-behind-zero = refl }
