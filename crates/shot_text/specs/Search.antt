-- Document 01, E5: the searches look at bytes. A word stands in a text where its bytes stand somewhere in it.
-- An answer says yes exactly where that holds.
use Rattle.std.specs.Prelude.{ℕ, ◌≡◌, Bool, true, false, List, [], ◌∷◌, length, take, drop}
use Prim.Native.Char.{code}
use Prim.Native.String as string

pub record Says (P : Type 0) (answer : Bool) : Type 0 where
  pub yes : answer ≡ true → P
  pub no : answer ≡ false → P → ⊥

abbrev pub StandsAt : List ℕ → List ℕ → ℕ → Type 0
StandsAt word text k = take (length word) (drop k text) ≡ word

abbrev pub Stands : List ℕ → List ℕ → Type 0
Stands word text = (k : ℕ) × StandsAt word text k

-- the codes of a word's letters
abbrev pub bytes : string.String → List ℕ
bytes string.[] = []
bytes (string.◌∷◌ c s) = code c ∷ bytes s
