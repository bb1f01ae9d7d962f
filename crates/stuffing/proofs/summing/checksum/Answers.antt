-- `checksum`: wrapping at each step of the fold is wrapping the whole sum once.
use Rattle.std.proofs.Common.{◌≡◌, ℕ, ◌+◌, ◌%◌, ◌<◌, List, [], ◌∷◌, ◌∙◌, arith, fold, rules}
use Rattle.std.proofs.lemmas.Iterator.{YieldsList-from_slice}
use Rattle.std.proofs.lemmas.Iterator.Consumers.{fold_from_yields_List}
use Rattle.stuffing.specs.Stuff.{total, sum16}
use Rattle.stuffing.proofs.summing.checksum.Goals as goal

abbrev wrapped : ℕ → ℕ → ℕ
wrapped a b = (a + b) % 65536

fold-wrapped : (a : ℕ) (s : List ℕ) → a < 65536 → fold wrapped a s ≡ (a + total s) % 65536
fold-wrapped a [] h = omega arith
fold-wrapped a (b ∷ s) h = fold-wrapped (wrapped a b) s (omega arith) ∙ omega arith

pub returns : goal.returns
unfolding sum16
returns c =
    fold_from_yields_List _ wrapped 0 _ c.fold.ensures.ran (YieldsList-from_slice c.args.s.now cc) (λ a x b q k. search rules)
    ∙ fold-wrapped 0 c.args.s.now (omega arith) ∙ omega arith
