-- What the program prints is the line of each of the Rust's frames, those longer than H replaced, however its input is cut.
-- `prints` says which lines, `any-cut` that two cuttings print the same to the last byte; both of any run that the contracts allow.
use Rattle.std.proofs.Common.{◌≡◌, ℕ, zero, suc, ◌+◌, ◌^◌, ◌<◌, ◌≤◌, false, List, [], ◌∷◌, ◌++◌, map, length, drop, sym, refl, ap, ◌∙◌, subst, append_assoc, not-suc-le-zero, arith, length-append, length-drop, le-leb}
use lib.Seq.{take-append_seam}
use borrow.Author.Tests.{lt-leb}
use Rattle.std.specs.Prelude.{Result}
use Rattle.error.specs.declared.WireError.{WireError}
use Rattle.error.specs.Refusal.{Told, yes, no, on_yes, filled}
use Rattle.error.specs.Result.{told}
use Rattle.splitter.specs.declared.FrameSplitter.{FrameSplitter}
use Rattle.splitter.specs.Feed.{Given, new, told_event, taken_of, is_bad, is_full, more, overlong, frame}
use Rattle.stream.specs.Stream.{Said, said_of, Call, Calls, Feeds, joined, unless_more, answers, answer_to}
use Rattle.stream.specs.Stream as stream
use Rattle.stream.specs.Rust.{rust_frames, rust_left}
use Rattle.stream.proofs.Calls.{Stands, fits, long, stands-fresh, stands_good, Agrees, one-call}
use Rattle.splitter.proofs.One.{reply_of}
use Rattle.splitter.proofs.Laws.{CanCount, can-take, counts-on}
use Rattle.stream.proofs.Ends.{allowed, replied, feeds-calls}
use Rattle.stream.proofs.Stream.{follows-fresh}
use Rattle.stream.proofs.Rust.{as-the-rust, line-leaves}
use Rattle.report.specs.Line.{end_text, fitted, Lined}
use Rattle.session.specs.declared.Session.{Session}
use Rattle.session.specs.Lines.{line_to, number_to, lines_of, end_to}
use Rattle.session.specs.Piece.{Stage, stage, fed, said, stage_after, event_text}
use Rattle.session.specs.Piece.{Work, work, behind, works, room_for, Done, piece_rule, front_of, done_by}
use Rattle.session.specs.Program.{first, Pieces, Run}
use Rattle.session.specs.Program as program
use Rattle.session.proofs.Rules.{piece-fits}

-- an answer's line, in front of those of the answers after it
said-first : (n : ℕ) (a : Said) (l : List Said) → line_to n a ++ lines_of (number_to n a) l ≡ lines_of n (unless_more a ++ l)
said-first n (yes more) l = refl
said-first n (yes overlong) l = refl
said-first n (yes (frame w)) l = refl
said-first n (no k vs) l = refl

-- ---- what is read back from a buffer of lines

front : (text rest : List ℕ) → front_of (yes (length text)) (text ++ rest) ≡ text
front text rest =
    let l : length text ≤ length (text ++ rest) = rw (length-append text rest) (omega arith) in
    rw (le-leb _ _ l, take-append_seam text rest)

-- of a line that fits, the line
pub line-shown : {text old new : List ℕ} {told : Told ℕ} → Lined text old told new → length text ≤ length old → front_of told new ≡ text
unfolding fitted
line-shown {text} {old} l h =
    let f : fitted text (length old) ≡ yes text = rw (le-leb _ _ h) in
    let r = l.reply ∙ ap (on_yes length) f in
    let b = l.bytes ∙ ap (λ (x : Told (List ℕ)). filled x old) f in
    (λ i. front_of (r i) (b i)) ∙ front text (drop (length text) old)

-- A piece that is not refused: what is read back are its lines, and the session and the hold buffer at exit are where the work ends.
pub piece-does :
    (t : Stage) (c out : List ℕ) (r : Result ℕ WireError) (s : Session) (h out' : List ℕ) → done_by r s h out' ≡ piece_rule t c out
    → is_bad t.session.splitter (length t.hold) ≡ false → is_full t.session.splitter (length c) ≡ false → room_for (length c) ≤ length out
    → (front_of (told r) out' ≡ (works (length c) t c).text) × (stage s h ≡ (works (length c) t c).stage)
piece-does t c out r s h out' e good free room =
    let q = e ∙ sym (piece-fits t c out good free room) in
    let text = (works (length c) t c).text in
    ((λ i. front_of (q i).reply (q i).out) ∙ front text (drop (length text) out), ap (λ (d : Done). d.stage) q)

-- ---- the pieces are calls of the splitter

-- some work is that of calls of the splitter over the pieces cs, and its text is their lines
record Traced (t : Stage) (cs : List (List ℕ)) (w : Work) : Type 0 where
  trace : List Call
  feeds : Feeds t.session.splitter t.hold cs trace w.stage.session.splitter w.stage.hold
  text : w.text ≡ lines_of t.session.number (answers trace)

-- what comes after a piece, wherever the work then stands
abbrev After : Stage → List (List ℕ) → Work → Type 0
After t cs w = (v : List ℕ) → Stands t.session.splitter t.hold v → CanCount t.session.splitter (length (joined cs)) → Traced t cs w

past : {t : Stage} {cs : List (List ℕ)} {w : Work} → Traced t cs w → Traced t ([] ∷ cs) w
past r = record { trace = r.trace; feeds = stream.Feeds.used r.feeds; text = r.text }

one_piece : (k : ℕ) (t : Stage) (c : List ℕ) (cs : List (List ℕ)) (w : Work) (v : List ℕ) → Stands t.session.splitter t.hold v → length c ≤ k
    → CanCount t.session.splitter (length c + length (joined cs)) → After (works k t c).stage cs w → Traced t (c ∷ cs) (behind (works k t c).text w)
unfolding works
one_piece zero t [] cs w v s l n rest = past (rest v s (omega arith))
one_piece zero t (b ∷ c) cs w v s l n rest = absurd (not-suc-le-zero l)
one_piece (suc k) t [] cs w v s l n rest = past (rest v s (omega arith))
one_piece (suc k) t (b ∷ c) cs w v s l count rest =
    let d : List ℕ = b ∷ c in
    let g : Given = fed t d in
    let free = can-take t.session.splitter (length d) (length d + length (joined cs)) (omega arith) count in
    let a : Agrees t.session.splitter t.hold d v g = one-call v d s free in
    let t' : Stage = stage_after t d in
    let le : length (drop g.taken d) ≤ k = rw (length-drop g.taken d) (omega (arith, a.moves (omega arith))) in
    let count' = counts-on t.session.splitter t.hold d (stands_good s) a.within (length (joined cs)) count in
    let r : Traced t' (drop g.taken d ∷ cs) (behind (works k t' (drop g.taken d)).text w) =
    one_piece k t' (drop g.taken d) cs w _ a.stands le count' rest
    in
    let e = allowed t.session.splitter t.hold d in
    let reply = reply_of g.answer g.taken in
    let w' : Work = behind (works k t' (drop g.taken d)).text w in
    let rest : Feeds g.state g.hold (drop (taken_of reply) d ∷ cs) r.trace w'.stage.session.splitter w'.stage.hold =
    rw (replied t.session.splitter t.hold d).1 r.feeds
    in
    let q : said_of d g.hold (told_event reply) ≡ said t d = ap (λ (x : Given). said_of d g.hold x.answer) e in
    let n = t.session.number in
    record {
      trace = _;
      feeds = stream.Feeds.feed reply g.state g.hold e rest;
      text =
          append_assoc (event_text t d) (works k t' (drop g.taken d)).text w.text
          ∙ ap (λ (x : List ℕ). event_text t d ++ x) r.text
          ∙ said-first n (said t d) (answers r.trace)
          ∙ ap (λ (x : Said). lines_of n (unless_more x ++ answers r.trace)) (sym q);
    }

traced : {t t' : Stage} {cs : List (List ℕ)} {text : List ℕ} → Pieces t cs text t' → After t cs (work text t')
traced program.Pieces.done v s n = record { trace = []; feeds = stream.Feeds.done; text = refl }
traced {t} {t'} (program.Pieces.piece {c = c} {cs = cs} {text = text} out r s' h out' room e rest) v s n =
    let count : CanCount t.session.splitter (length c + length (joined cs)) = rw (length-append c (joined cs)) at n in
    let d = piece-does t c out r s' h out' e (stands_good s) (can-take t.session.splitter (length c) (length c + length (joined cs)) (omega arith) count) room in
    let after : After (works (length c) t c).stage cs (work text t') = subst (λ (y : Stage). After y cs (work text t')) d.1 (λ v' s' n'. traced rest v' s' n') in
    rw d.0 (one_piece (length c) t c cs (work text t') v s (omega arith) count after)

-- ---- the theorems

-- (the line is shorter than 2^64: a longer one is refused where the count would pass that)
module _ {h : List ℕ} {cs : List (List ℕ)} {text : List ℕ} {t : Stage} (c : Pieces (first h) cs text t) (below : length (joined cs) < 2 ^ 64) where
  traces : Traced (first h) cs (work text t)
  traces = traced c [] (stands-fresh h) (omega arith)

  calls : Calls new h (joined cs) traces.trace t.session.splitter t.hold
  calls = feeds-calls traces.feeds

-- the line at the end is that of the bytes that are left open
stands-end : {s : FrameSplitter} {h w : List ℕ} → Stands s h w → end_text s.count s.skipping ≡ end_to (length h) w
stands-end (fits l n m k g) = rw (le-leb _ _ l, n, m)
stands-end (long l n m g) = rw (lt-leb _ _ l, n, m)

-- H is the hold buffer's length; the Rust is fed the same bytes, cut in any other way
pub prints : {h : List ℕ} {cs : List (List ℕ)} {printed : List ℕ} (ds : List (List ℕ)) → joined cs ≡ joined ds → length (joined ds) < 2 ^ 64 → Run h cs printed
    → printed ≡ lines_of 0 (map (answer_to (length h)) (rust_frames [] ds)) ++ end_to (length h) (rust_left [] ds)
prints {h} ds e below r =
    let b = rw (← e) at below in
    let c : Calls new h (joined ds) _ r.stage.session.splitter r.stage.hold = rw e at (calls r.pieces b) in
    let f = follows-fresh c in
    let lines = (traces r.pieces b).text ∙ ap (lines_of 0) (as-the-rust ds c) in
    let shown = line-shown r.last (omega (arith, r.last.short, r.room)) in
    let last = shown ∙ stands-end f.stands ∙ (λ i. end_to (f.size i) (line-leaves ds i)) in
    r.whole ∙ (λ i. lines i ++ last i)

-- pieces of one stream, cut in two ways, with hold buffers of equal lengths, whatever they hold
pub any-cut : {h h' : List ℕ} {cs cs' : List (List ℕ)} {printed printed' : List ℕ} → length h ≡ length h' → joined cs ≡ joined cs'
    → length (joined cs') < 2 ^ 64 → Run h cs printed → Run h' cs' printed' → printed ≡ printed'
any-cut {cs' = ds} eh e below r r' =
    prints ds e below r
    ∙ (λ i. lines_of 0 (map (answer_to (eh i)) (rust_frames [] ds)) ++ end_to (eh i) (rust_left [] ds))
    ∙ sym (prints ds refl below r')
