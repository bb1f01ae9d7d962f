-- What the program `noise` prints are the five counts of the bytes that it read, by what request 6 means by each, however they are cut.
-- `prints` says which lines, `prints-none` when there are none, `any-cut` that two cuttings print the same: of any run that the contracts allow.
use Rattle.std.proofs.Common.{ℕ, zero, suc, ◌+◌, ◌^◌, ◌<◌, ◌≤◌, ◌≡◌, refl, sym, ap, ◌∙◌, subst, false, List, [], ◌∷◌, ◌++◌, append_assoc, not-suc-le-zero, arith, length, drop, length-append, length-drop, le-ltb}
use Rattle.general.proofs.Cases.{by-test}
use Rattle.error.specs.Refusal.{yes, no}
use Rattle.splitter.specs.declared.Counts.{Counts}
use Rattle.splitter.specs.Feed.{Given, new, taken_of, is_bad, is_full}
use Rattle.splitter.proofs.One.{reply_of}
use Rattle.splitter.proofs.Laws.{can-take}
use Rattle.stream.specs.Stream.{Call, Calls, Feeds, joined}
use Rattle.stream.specs.Stream as stream
use Rattle.stream.specs.Noise.{counts_over}
use Rattle.stream.proofs.Ends.{good-call, feed-moves, allowed, replied, feeds-calls}
use Rattle.stream.proofs.Noise.{counts-are, line-below}
use Rattle.session.proofs.Printed.{line-shown}
use Rattle.line_noise.specs.Piece.{Between, offered, after_offer, wholly, Outcome, take_rule, outcome_of}
use Rattle.line_noise.specs.Program.{first, Pieces, Shown, in_order, text_over, noise_text, Lines, Run}
use Rattle.line_noise.specs.Program as program
use Rattle.line_noise.proofs.Rules.{take-full, take-free}
use Rattle.line_noise.proofs.Pieces.{Open, open_after}

-- ---- the pieces are calls of the splitter

-- between two calls that lead from one to the other over the pieces cs: the splitter's calls, and that the next is not refused for the state
record Traced (t : Between) (cs : List (List ℕ)) (t' : Between) : Type 0 where
  trace : List Call
  feeds : Feeds t.splitter t.hold cs trace t'.splitter t'.hold
  good : is_bad t'.splitter (length t'.hold) ≡ false

-- what comes after a piece, where the state is not refused
abbrev After : Between → List (List ℕ) → Between → Type 0
After t cs t' = is_bad t.splitter (length t.hold) ≡ false → Traced t cs t'

past : {t t' : Between} {cs : List (List ℕ)} → Traced t cs t' → Traced t ([] ∷ cs) t'
past r = record { trace = r.trace; feeds = stream.Feeds.used r.feeds; good = r.good }

one_piece : (k : ℕ) (t : Between) (c : List ℕ) (cs : List (List ℕ)) (t' : Between) → Open t (length c) → length c ≤ k
    → After (wholly k t c) cs t' → Traced t (c ∷ cs) t'
unfolding wholly
one_piece zero t [] cs t' o l rest = past (rest o.good)
one_piece zero t (b ∷ c) cs t' o l rest = absurd (not-suc-le-zero l)
one_piece (suc k) t [] cs t' o l rest = past (rest o.good)
one_piece (suc k) t (b ∷ c) cs t' o l rest =
    let d : List ℕ = b ∷ c in
    let g : Given = offered t d in
    let some = feed-moves t.splitter t.hold d o.good o.free (omega arith) in
    let le : length (drop g.taken d) ≤ k = rw (length-drop g.taken d) (omega (arith, some)) in
    let next = open_after t d o (good-call t.splitter t.hold o.good d o.free).size in
    let r : Traced (after_offer t d) (drop g.taken d ∷ cs) t' = one_piece k (after_offer t d) (drop g.taken d) cs t' next le rest in
    let reply = reply_of g.answer g.taken in
    let feeds : Feeds g.state g.hold (drop (taken_of reply) d ∷ cs) r.trace t'.splitter t'.hold = rw (replied t.splitter t.hold d).1 r.feeds in
    record { trace = _; feeds = stream.Feeds.feed reply g.state g.hold (allowed t.splitter t.hold d) feeds; good = r.good }

-- a reply that is no refusal: there was room to count the piece, and all of it is taken
module _ (t : Between) (c : List ℕ) (good : is_bad t.splitter (length t.hold) ≡ false) (o : Outcome) (e : o ≡ take_rule t c) (y : o.reply ≡ yes tt) where
  taken_free : is_full t.splitter (length c) ≡ false
  taken_free =
      by-test (is_full t.splitter (length c))
      (λ f. let z : no 13 [] ≡ yes tt = sym (ap (λ (x : Outcome). x.reply) (e ∙ sym (take-full t c good f))) ∙ y in cc)
      (λ f. f)

  taken-all : o.kept ≡ wholly (length c) t c
  taken-all = ap (λ (x : Outcome). x.kept) (e ∙ sym (take-free t c good taken_free))

traced : {t t' : Between} {cs : List (List ℕ)} → Pieces t cs t' → After t cs t'
traced program.Pieces.done good = record { trace = []; feeds = stream.Feeds.done; good = good }
traced {t} {t'} (program.Pieces.piece {c = c} {cs = cs} r s h e y rest) good =
    let after : After (wholly (length c) t c) cs t' = subst (λ (x : Between). After x cs t') (taken-all t c good (outcome_of r s h) e y) (λ g. traced rest g) in
    one_piece (length c) t c cs t' (record { good = good; free = taken_free t c good (outcome_of r s h) e y }) (omega arith) after

-- ---- the theorems

fresh-good : (h : List ℕ) → is_bad new (length h) ≡ false
fresh-good h = rw (le-ltb (length h) 0 (omega arith))

module _ {h : List ℕ} {cs : List (List ℕ)} {t : Between} (p : Pieces (first h) cs t) where
  traces : Traced (first h) cs t
  traces = traced p (fresh-good h)

  pub still-good : is_bad t.splitter (length t.hold) ≡ false
  still-good = traces.good

  -- the counts after any pieces that were taken
  pub counts-after : t.splitter.counts ≡ counts_over (length h) (joined cs)
  counts-after = counts-are (feeds-calls traces.feeds)

  -- and the next piece is taken too, while all of them are less than can be counted
  pub not-refused : (c : List ℕ) → length (joined cs) + length c < 2 ^ 64 → is_full t.splitter (length c) ≡ false
  not-refused c l =
      let n : t.splitter.counts.taken ≡ length (joined cs) = ap (λ (k : Counts). k.taken) counts-after in
      can-take t.splitter (length c) (length c) (omega arith) (omega arith)

lines-shown : {l : List Shown} {text : List ℕ} → Lines l text → text ≡ text_over l
lines-shown program.Lines.none = refl
lines-shown (program.Lines.line out reply out' room e rest) =
    let one = line-shown e (omega (arith, e.short)) in
    λ i. one i ++ lines-shown rest i

joined-append : (cs ds : List (List ℕ)) → joined (cs ++ ds) ≡ joined cs ++ joined ds
joined-append [] ds = refl
joined-append (c ∷ cs) ds = rw (joined-append cs ds, append_assoc)

pub joined_length : (cs : List (List ℕ)) (d : List ℕ) (ds : List (List ℕ))
    → length (joined (cs ++ (d ∷ ds))) ≡ length (joined cs) + (length d + length (joined ds))
joined_length cs d ds = rw (joined-append cs (d ∷ ds), length-append (joined cs) (d ++ joined ds), length-append d (joined ds))

-- H is the hold buffer's length, and the line is shorter than 2 ^ 64 bytes
pub prints : {h : List ℕ} {cs : List (List ℕ)} {printed : List ℕ} → length (joined cs) < 2 ^ 64 → Run h cs printed
    → printed ≡ noise_text (counts_over (length h) (joined cs))
prints l (program.Run.whole p lines) = lines-shown lines ∙ ap noise_text (counts-after p)
prints l (program.Run.stopped {cs = cs} {t = t} {k = k} {vs = vs} c rest r s h p e refused) =
    let free = not-refused p c (omega (arith, joined_length cs c rest)) in
    let z : no k vs ≡ yes tt = sym refused ∙ ap (λ (o : Outcome). o.reply) (e ∙ sym (take-free t c (still-good p) free)) in
    cc

-- of a longer one nothing is printed: some piece of it is refused
pub prints-none : {h : List ℕ} {cs : List (List ℕ)} {printed : List ℕ} → 2 ^ 64 ≤ length (joined cs) → Run h cs printed → printed ≡ []
prints-none l (program.Run.whole p lines) = absurd (let x : ⊥ = omega (arith, line-below (feeds-calls (traces p).feeds)) in x)
prints-none l (program.Run.stopped c rest r s h p e refused) = refl

-- pieces of one stream, cut in two ways, with hold buffers of equal lengths, whatever they hold
pub any-cut : {h h' : List ℕ} {cs cs' : List (List ℕ)} {printed printed' : List ℕ} → length h ≡ length h' → joined cs ≡ joined cs'
    → length (joined cs) < 2 ^ 64 → Run h cs printed → Run h' cs' printed' → printed ≡ printed'
any-cut eh e l r r' = prints l r ∙ (λ i. noise_text (counts_over (eh i) (e i))) ∙ sym (prints (rw e at l) r')
