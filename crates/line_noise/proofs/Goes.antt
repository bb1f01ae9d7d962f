-- There are calls as a run of the program has them (specs/Program), from fresh, whatever the hold buffer is and whatever the pieces are,
-- while all of them are less than can be counted. So the theorems of proofs/Printed are about something.
use Rattle.std.proofs.Common.{ℕ, ◌^◌, ◌<◌, ◌≡◌, refl, List, [], ◌∷◌, ◌++◌, append_assoc, append-nil, arith, length}
use Rattle.std.specs.declared.result.Result.TheVariants.{Ok}
use Rattle.stream.specs.Stream.{joined}
use Rattle.line_noise.specs.Piece.{Between, wholly}
use Rattle.line_noise.specs.Program.{first, Pieces, done, piece}
use Rattle.line_noise.proofs.Rules.{take-free}
use Rattle.line_noise.proofs.Printed.{still-good, not-refused, joined_length}
use Rattle.line_noise.proofs.Reached.{behind-last}

goes_on : (h : List ℕ) (cs ds : List (List ℕ)) (t : Between) → Pieces (first h) cs t → length (joined (cs ++ ds)) < 2 ^ 64
    → (t' : Between) × Pieces (first h) (cs ++ ds) t'
goes_on h cs [] t p l = (t, rw (append-nil cs) p)
goes_on h cs (d ∷ ds) t p l =
    let free = not-refused p d (omega (arith, joined_length cs d ds)) in
    let w = wholly (length d) t d in
    let q = behind-last p (piece (Ok tt) w.splitter w.hold (take-free t d (still-good p) free) refl done) in
    let same : (cs ++ (d ∷ [])) ++ ds ≡ cs ++ (d ∷ ds) = append_assoc cs (d ∷ []) ds in
    let r = goes_on h (cs ++ (d ∷ [])) ds w q (rw same l) in
    (r.0, rw same at r.1)

pub goes : (h : List ℕ) (cs : List (List ℕ)) → length (joined cs) < 2 ^ 64 → (t : Between) × Pieces (first h) cs t
goes h cs l = goes_on h [] cs (first h) done l
