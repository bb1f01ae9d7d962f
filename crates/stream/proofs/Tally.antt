-- What the counts k become over some bytes: `Moves` by the frames that end in them and the bytes outside, `Tallied` by the line.
-- Two stretches, one behind the other, count as one (`tallied-append`).
use mathlib.Core.Path.{◌≡◌, sym, ◌∙◌}
use mathlib.Core.List.{List, [], ◌∷◌, ◌++◌}
use Prim.Native.Nat.{ℕ, ◌+◌}
use native.Mathlib.Omega.{arith}
use lib.Dec.{leb}
use lib.ListN.{length, length-append}
use Rattle.general.proofs.Cases.{by-test}
use Rattle.splitter.specs.declared.Counts.{Counts}
use Rattle.stream.specs.Noise.{outside, within, beyond, sum_over}
use Rattle.stream.proofs.Line.{opened, frames_in, begun, opened-append, frames-append, outside-append}

module _ (H : ℕ) where
  -- n bytes are taken, d of them outside; the frames fs end; w was open before them, w' is after them. The bytes of w are in lost already where they
  -- are more than H
  pub record Moves (k : Counts) (w : List ℕ) (n d : ℕ) (fs : List (List ℕ)) (w' : List ℕ) (k' : Counts) : Type 0 where
    pub taken : k'.taken ≡ k.taken + n
    pub dropped : k'.dropped ≡ k.dropped + d
    pub framed : k'.framed ≡ k.framed + sum_over (within H) fs
    pub lost : k'.lost + beyond H w ≡ k.lost + sum_over (beyond H) fs + beyond H w'
    pub held : k'.held ≡ within H w'

  -- over the bytes b of a line
  abbrev pub Tallied : Counts → List ℕ → List ℕ → Counts → Type 0
  Tallied k w b k' = Moves k w (length b) (outside (begun w) b) (frames_in w b) (opened w b) k'

  -- nothing is neither held nor lost
  pub within_none : within H [] ≡ 0
  within_none = by-test (leb 0 H) (λ e. rw e) (λ e. rw e)

  pub beyond-none : beyond H [] ≡ 0
  beyond-none = by-test (leb 0 H) (λ e. rw e) (λ e. rw e)

  sum-append : (f : List ℕ → ℕ) (a b : List (List ℕ)) → sum_over f (a ++ b) ≡ sum_over f a + sum_over f b
  sum-append f [] b = omega arith
  sum-append f (w ∷ a) b = let r = sum-append f a b in omega arith

  pub tallied-append : {k k' k'' : Counts} (w x y : List ℕ) → Tallied k w x k' → Tallied k' (opened w x) y k'' → Tallied k w (x ++ y) k''
  tallied-append w x y p q =
      let v = opened w x in
      let fs = frames_in w x in
      let gs = frames_in v y in
      rw (length-append x y, outside-append w x y, frames-append w x y, opened-append w x y)
      (record {
        taken = omega (arith, p.taken, q.taken);
        dropped = omega (arith, p.dropped, q.dropped);
        framed = omega (arith, p.framed, q.framed, sum-append (within H) fs gs);
        lost = omega (arith, p.lost, q.lost, sum-append (beyond H) fs gs);
        held = q.held;
      })

  -- the counts then are decided
  pub one-tallied : {k k₁ k₂ : Counts} (w b : List ℕ) → Tallied k w b k₁ → Tallied k w b k₂ → k₁ ≡ k₂
  one-tallied {k} {k₁} {k₂} w b p q =
      let lost : k₁.lost ≡ k₂.lost = omega (arith, p.lost, q.lost) in
      λ i. record {
        taken = (p.taken ∙ sym q.taken) i;
        dropped = (p.dropped ∙ sym q.dropped) i;
        framed = (p.framed ∙ sym q.framed) i;
        lost = lost i;
        held = (p.held ∙ sym q.held) i;
      }
