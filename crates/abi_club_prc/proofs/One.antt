-- Two replies that a call of `abi_club_prc` may give for one input are equal, and so is every lent place at exit, by the contract as the
-- check reads it off src/ (`Post`).
use mathlib.Core.Path.{◌≡◌}
use Rattle.general.proofs.One.{plain}
use Rattle.abi.proofs.OnePassing.{one-passing-two, one-stored}
use Rattle.abi_club_prc.proofs.mvd_club_prc.Reads as club-prc
use Rattle.abi_club_prc.proofs.mvd_club_prc_point.Reads as club-prc-point
use Rattle.abi_club_prc.proofs.mvd_encode_request.Reads as encode-request

pub one-club-prc : (κs a r s x y : _) → club-prc.Post κs a r x → club-prc.Post κs a s y → r ≡ s
one-club-prc κs a r s x y = plain

pub one-club-prc-point : (κs a r s x y : _) → club-prc-point.Post κs a r x → club-prc-point.Post κs a s y
    → (r ≡ s) × (x.1.1.0.now ≡ y.1.1.0.now) × (x.1.1.1.0.now ≡ y.1.1.1.0.now) × (x.1.1.1.1.0.now ≡ y.1.1.1.1.0.now)
one-club-prc-point κs a r s x y = one-passing-two

pub one-encode-request : (κs a r s x y : _) → encode-request.Post κs a r x → encode-request.Post κs a s y
    → (r ≡ s) × (x.1.0.now ≡ y.1.0.now) × (x.1.1.0.now ≡ y.1.1.0.now)
one-encode-request κs a r s x y = one-stored
