-- What is heard at each byte of a stream, whatever the calls' cuts: the measure by which two cuttings are alike.
-- A reader of the conditions needs only `Alike`; the proofs of `stream` and `recovery` go by `heard`.
use Rattle.std.specs.Prelude.{ℕ, zero, suc, ◌≡◌, List, [], ◌∷◌, ◌++◌, length, take, replicate}
use Rattle.error.specs.Refusal.{yes}
use Rattle.splitter.specs.declared.FrameSplitter.{FrameSplitter}
use Rattle.splitter.specs.Feed.{more}
use Rattle.stream.specs.Stream.{Said, Call, unless_more, answers}

-- one answer for each of n bytes: a at the last of them, More at those before it
abbrev pub at_last : ℕ → Said → List Said
at_last zero a = unless_more a
at_last (suc n) a = replicate n (yes more) ++ (a ∷ [])

-- what is heard at each byte of the stream: at the last byte that a call took its answer, More at those before it
abbrev pub heard : List Call → List Said
heard [] = []
heard (c ∷ t) = at_last (length c.took) c.said ++ heard t

-- two runs of calls, however they are cut: the same is heard at each byte, and the states and the held bytes at the end are the same
pub record Alike (t₁ t₂ : List Call) (s₁ s₂ : FrameSplitter) (h₁ h₂ : List ℕ) : Type 0 where
  pub hears : heard t₁ ≡ heard t₂
  pub says : answers t₁ ≡ answers t₂
  pub state : s₁ ≡ s₂
  pub held : take s₁.count h₁ ≡ take s₂.count h₂
