-- Two replies that the contract of `take_all` allows for one input are equal, and so are the splitter and every byte of the hold buffer
-- at exit, by the contract as the check reads it off src/ (`Post`).
use Rattle.std.proofs.Common.{◌≡◌, refl, ap}
use Rattle.general.proofs.One.{plain}
use Rattle.error.proofs.Decides.{one-told}
use Rattle.line_noise.specs.Piece.{Outcome}
use Rattle.line_noise.proofs.take_all.Reads as take_all

pub one-take-all : (κs a r s x y : _) → take_all.Post κs a r x → take_all.Post κs a s y
    → (r ≡ s) × (x.0.now ≡ y.0.now) × (x.1.0.now ≡ y.1.0.now)
one-take-all κs a r s x y p q =
    let same = plain p q in
    (one-told (ap (λ (o : Outcome). o.reply) same) refl, ap (λ (o : Outcome). o.kept.splitter) same, ap (λ (o : Outcome). o.kept.hold) same)
