-- There are calls as a run of the program has them (specs/Program), from fresh, whatever the pieces of a line shorter than 2^64 and the hold
-- buffer are. So the theorems of proofs/Printed are about something.
use Rattle.std.proofs.Common.{ℕ, zero, suc, ◌+◌, ◌^◌, ◌<◌, ◌≤◌, List, [], ◌∷◌, length, drop, replicate, not-suc-le-zero, arith, length-append, length-drop}
use lib.ListN.{length-replicate}
use Rattle.error.specs.Refusal.{yes, filled}
use Rattle.std.specs.declared.result.Result.TheVariants.{Ok}
use Rattle.splitter.proofs.Laws.{CanCount, can-take, counts-on}
use Rattle.stream.specs.Stream.{joined}
use Rattle.stream.proofs.Calls.{Stands, stands-fresh, stands_good, one-call}
use Rattle.session.specs.Piece.{Stage, fed, stage_after, works, room_for}
use Rattle.session.specs.Program.{first, Pieces, done, piece}
use Rattle.session.proofs.Rules.{piece-fits}

-- where the work on a piece ends: the state stands for some open bytes, and n bytes behind the piece can still be counted
record Ready (t : Stage) (n : ℕ) : Type 0 where
  bytes : List ℕ
  stands : Stands t.session.splitter t.hold bytes
  count : CanCount t.session.splitter n

still-ready : (k : ℕ) (t : Stage) (c : List ℕ) (n : ℕ) → Ready t (length c + n) → length c ≤ k → Ready (works k t c).stage n
unfolding works
still-ready zero t [] n r l = record { bytes = r.bytes; stands = r.stands; count = omega (arith, r.count) }
still-ready zero t (b ∷ c) n r l = absurd (not-suc-le-zero l)
still-ready (suc k) t [] n r l = record { bytes = r.bytes; stands = r.stands; count = omega (arith, r.count) }
still-ready (suc k) t (b ∷ c) n r l =
    let d : List ℕ = b ∷ c in
    let a = one-call r.bytes d r.stands (can-take t.session.splitter (length d) (length d + n) (omega arith) r.count) in
    let m : length (drop (fed t d).taken d) ≤ k = rw (length-drop (fed t d).taken d) (omega (arith, a.moves (omega arith))) in
    let count = counts-on t.session.splitter t.hold d (stands_good r.stands) a.within n r.count in
    still-ready k (stage_after t d) (drop (fed t d).taken d) n (record { bytes = _; stands = a.stands; count = count }) m

goes_on : (t : Stage) (cs : List (List ℕ)) → Ready t (length (joined cs)) → (text : List ℕ) × ((t' : Stage) × Pieces t cs text t')
goes_on t [] s = ([], (t, done))
goes_on t (c ∷ cs) s =
    let w = works (length c) t c in
    let out : List ℕ = replicate (room_for (length c)) 0 in
    let room : room_for (length c) ≤ length out = omega (arith, length-replicate {0} {A = ℕ} (room_for (length c)) 0) in
    let count : CanCount t.session.splitter (length c + length (joined cs)) = rw (length-append c (joined cs)) at s.count in
    let now : Ready t (length c + length (joined cs)) = record { bytes = s.bytes; stands = s.stands; count = count } in
    let rest = goes_on w.stage cs (still-ready (length c) t c (length (joined cs)) now (omega arith)) in
    let fits = piece-fits t c out (stands_good s.stands) (can-take t.session.splitter (length c) (length c + length (joined cs)) (omega arith) count) room in
    (_, (rest.1.0, piece out (Ok (length w.text)) w.stage.session w.stage.hold (filled (yes w.text) out) room fits rest.1.1))

pub goes : (h : List ℕ) (cs : List (List ℕ)) → length (joined cs) < 2 ^ 64 → (text : List ℕ) × ((t : Stage) × Pieces (first h) cs text t)
goes h cs below = goes_on (first h) cs (record { bytes = []; stands = stands-fresh h; count = omega arith })
