-- Two replies that a contract of `session` allows for one input are equal, and so is every lent byte at exit, by the contract as the
-- check reads it off src/ (`Post`). A returned reference also has a ghost name, of which no contract speaks.
use Rattle.std.proofs.Common.{◌≡◌, refl, ap}
use Rattle.general.proofs.One.{plain}
use Rattle.error.proofs.Decides.{one-told}
use Rattle.session.specs.Piece.{Done}
use Rattle.session.proofs.Session.new.Reads as new
use Rattle.session.proofs.Session.piece.Reads as piece
use Rattle.session.proofs.text_of.Reads as text_of

pub one-new : (κs a r s x y : _) → new.Post κs a r x → new.Post κs a s y → r ≡ s
one-new κs a r s x y = plain

-- the reply, the session, then the bytes of the hold buffer and of the buffer of lines
pub one_piece : (κs a r s x y : _) → piece.Post κs a r x → piece.Post κs a s y
    → (r ≡ s) × (x.0.now ≡ y.0.now) × (x.1.0.now ≡ y.1.0.now) × (x.1.1.1.0.now ≡ y.1.1.1.0.now)
one_piece κs a r s x y p q =
    let same = plain p q in (
      one-told (ap (λ (d : Done). d.reply) same) refl,
      ap (λ (d : Done). d.stage.session) same,
      ap (λ (d : Done). d.stage.hold) same,
      ap (λ (d : Done). d.out) same,
    )

pub one-text-of : (κs a r s x y : _) → text_of.Post κs a r x → text_of.Post κs a s y → (r.now ≡ s.now) × (r.ref_ptr ≡ s.ref_ptr)
one-text-of κs a r s x y p q = (plain p.0 q.0, plain p.1 q.1)
