-- `prc_figures` meets its contract: the six peak values are the record's list.
-- Six reads at constant places make the row that the record holds.
use Rattle.std.proofs.Common.{◌≡◌, List, ◌∷◌, length, rules, ap}
use lib.Ieee.{Float}
use Rattle.layout.proofs.Spread.{spread}
use Rattle.abi_prc.proofs.prc_figures.Goals as goal

pub returns : goal.returns
returns c =
    let p = c.args.p in
    let n : length p.pk ≡ 6 = search rules in
    ap (λ (l : List Float). p.n ∷ p.az ∷ p.el ∷ p.vel ∷ p.dist ∷ p.az1 ∷ p.az2 ∷ p.az3 ∷ p.el1 ∷ p.el2 ∷ l) (spread 6 p.pk _ n)
