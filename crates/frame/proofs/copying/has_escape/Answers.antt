-- `has_escape`: a test that is false was false at each byte, so each byte is kept.
use Rattle.std.proofs.Common.{◌≡◌, ℕ, Bool, false, ◌||◌, eqb, List, [], ◌∷◌, length, sym, refl, ◌∙◌, fold, arith, rules}
use Rattle.std.proofs.lemmas.Bool.{or_parts}
use Rattle.std.proofs.lemmas.Iterator.{YieldsList-from_slice}
use Rattle.std.proofs.lemmas.Iterator.Consumers.{fold_from_yields_List}
use Rattle.unstuffing.specs.Private.{kept}
use Rattle.frame.proofs.copying.has_escape.Goals as goal

abbrev or_escape : Bool → ℕ → Bool
or_escape any b = any || eqb b 0xFD

all_kept : (any : Bool) (a : List ℕ) → fold or_escape any a ≡ false → (any ≡ false) × (kept a ≡ length a)
all_kept any [] h = (h, refl)
all_kept any (b ∷ a) h =
    let rest = all_kept (or_escape any b) a h in
    let parts = or_parts any (eqb b 0xFD) rest.0 in
    (parts.0, rw parts.1 (omega (arith, rest.1)))

pub returns : goal.returns
returns c h =
    let a = c.args.block.now in
    let is = fold_from_yields_List _ or_escape false _ c.fold.ensures.ran (YieldsList-from_slice a cc) (λ any b r q k. search rules) in
    (all_kept false a (sym is ∙ h)).1 ∙ c.told-block
