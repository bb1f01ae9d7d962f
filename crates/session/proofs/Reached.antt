-- A session that some calls of `piece` lead to, from fresh, and one call more: what a loop over pieces keeps.
-- The call's own equation is its contract; the room is the caller's to see to.
use Rattle.std.proofs.Common.{◌≡◌, ℕ, ◌≤◌, List, [], ◌∷◌, ◌++◌, length, append_assoc}
use Rattle.error.specs.Result.{told}
use Rattle.std.specs.Prelude.{Result}
use Rattle.error.specs.declared.WireError.{WireError}
use Rattle.session.specs.declared.Session.{Session}
use Rattle.session.specs.Piece.{Stage, stage, room_for, piece_rule, done_by, front_of}
use Rattle.session.specs.Program.{first, Pieces, done, piece, Reached}

behind-last : {t t' t'' : Stage} {cs : List (List ℕ)} {text text'' c : List ℕ} → Pieces t cs text t' → Pieces t' (c ∷ []) text'' t''
    → Pieces t (cs ++ (c ∷ [])) (text ++ text'') t''
behind-last done next = next
behind-last {text'' = text''} (piece {text = text} out r s h out' room e rest) next =
    rw (append_assoc (front_of (told r) out') text text'') (piece out r s h out' room e (behind-last rest next))

pub starts : (h : List ℕ) → Reached h (first h)
starts h = record { cs = []; text = []; pieces = done }

pub goes_further : {h : List ℕ} (t : Stage) (c out : List ℕ) (r : Result ℕ WireError) (s : Session) (h' out' : List ℕ)
    → done_by r s h' out' ≡ piece_rule t c out → room_for (length c) ≤ length out → Reached h t → Reached h (stage s h')
goes_further t c out r s h' out' e room before =
    record { cs = _; text = _; pieces = behind-last before.pieces (piece out r s h' out' room e done) }
