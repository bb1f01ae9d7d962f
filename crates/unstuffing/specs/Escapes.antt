-- Sound and wrong escapes, said of a string's bytes and of no walk over them.
-- `Proper` strings unstuff and no others do (proofs/Proper); of the others the first wrong escape is told (proofs/Wrong).
use Rattle.std.specs.Prelude.{◌≡◌, ℕ, List, [], ◌∷◌, ◌++◌, length, ◌≢◌}
use Rattle.stuffing.specs.Stuff.{unescape_of}

-- each FD in it is followed by a code
pub data Proper : List ℕ → Type 0 where
  none : Proper []
  byte : {b : ℕ} {l : List ℕ} → (b ≢ 0xFD) → Proper l → Proper (b ∷ l)
  escape : {b c : ℕ} {l : List ℕ} → b ≡ 0xFD → (unescape_of c ≢ 0) → Proper l → Proper (b ∷ c ∷ l)

-- what makes an escape wrong, by what stands behind its FD: nothing, or a byte that is no code
abbrev pub NoCode : List ℕ → Type 0
NoCode [] = Unit
NoCode (c ∷ l) = unescape_of c ≡ 0

-- the first wrong escape of a string is at an offset, with these bytes behind its FD: what is earlier is proper
pub record FirstWrong (s : List ℕ) (offset : ℕ) (behind : List ℕ) : Type 0 where
  pub earlier : List ℕ
  pub sound : Proper earlier
  pub is : s ≡ earlier ++ (0xFD ∷ behind)
  pub place : offset ≡ length earlier
  pub wrong : NoCode behind

-- it is FD and a byte that is no code
pub record FirstCode (s : List ℕ) (offset code : ℕ) : Type 0 where
  pub rest : List ℕ
  pub first : FirstWrong s offset (code ∷ rest)
