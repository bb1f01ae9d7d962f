-- A whole piece: what holds after each call of the splitter, from the first to the last.
-- `Going` is the invariant of that loop; where all is taken it is the rule's own answer (`finished`).
use Rattle.std.proofs.Common.{◌≡◌, ℕ, zero, suc, ◌+◌, ◌-◌, ◌*◌, ◌<◌, ◌≤◌, true, false, List, [], ◌∷◌, ◌++◌, length, take, drop, sym, refl, ap, ◌∙◌, append_assoc, append-nil, not-suc-le-zero, arith, length-append, length-drop, drop_of_length-le, drop-drop, take_at, drop_at, eqb-true}
use Rattle.std.specs.Prelude.{Result, IsOk, ◌==◌}
use Rattle.std.specs.declared.result.Result.TheVariants.{Ok, Err}
use Rattle.error.specs.declared.WireError.{WireError}
use Rattle.error.specs.Refusal.{yes}
use Rattle.splitter.specs.declared.FrameSplitter.{FrameSplitter}
use Rattle.splitter.specs.declared.Fed.{Fed}
use Rattle.splitter.specs.Feed.{Given, is_bad, is_full, given_by, taken_of, answer_of}
use Rattle.splitter.proofs.Laws.{good-after, free-after}
use Rattle.stream.specs.Stream.{said_of}
use Rattle.stream.proofs.Ends.{feed-within, feed-moves, fed-within}
use Rattle.session.specs.declared.Session.{Session}
use Rattle.session.specs.Lines.{line_to, number_to}
use Rattle.session.specs.Piece.{Stage, stage, fed, said, stage_after, Work, work, behind, works, done, all_lines, event_text}
use Rattle.session.specs.Private.{Wrote, numbered}

works-end : (k : ℕ) (t : Stage) → works k t [] ≡ work [] t
unfolding works
works-end zero t = refl
works-end (suc k) t = refl

works-step : (k : ℕ) (t : Stage) (c : List ℕ) → 0 < length c → works (suc k) t c ≡ behind (event_text t c) (works k (stage_after t c) (drop (fed t c).taken c))
unfolding works
works-step k t [] h = absurd (not-suc-le-zero h)
works-step k t (b ∷ c) h = refl

-- a length that was tested
pub some : (n : ℕ) → (n == 0) ≡ false → 0 < n
some zero e = cc
some (suc n) e = omega arith

pub none : (l : List ℕ) → (length l == 0) ≡ true → l ≡ []
none [] e = refl
none (b ∷ l) e = absurd (let q : ⊥ = omega (arith, eqb-true (suc (length l)) 0 e) in q)

-- where a byte is taken, the call was not refused
pub answered : (r : Result Fed WireError) → 0 < taken_of r → IsOk r
answered (Ok f) h = refl
answered (Err e) h = absurd (not-suc-le-zero h)

-- ---- the loop over a piece c, from the stage t₀ and the buffer out₀

module _ (t₀ : Stage) (c out₀ : List ℕ) where
  -- the lines of what is taken are put, and what is left is still to be fed; k calls are enough for it
  pub record Going (t : Stage) (left : List ℕ) (written : ℕ) (out : List ℕ) : Type 0 where
    pub text : List ℕ
    pub calls : ℕ
    pub enough : length left ≤ calls
    pub rest : works (length c) t₀ c ≡ behind text (works calls t left)
    pub count : written ≡ length text
    pub bytes : out ≡ text ++ drop (length text) out₀
    pub few : written + 128 * length left ≤ 128 * length c
    pub good : is_bad t.session.splitter (length t.hold) ≡ false
    pub free : is_full t.session.splitter (length left) ≡ false
    pub held : length t.hold ≡ length t₀.hold

  pub going : is_bad t₀.session.splitter (length t₀.hold) ≡ false → is_full t₀.session.splitter (length c) ≡ false → Going t₀ c 0 out₀
  going good free =
      record {
        text = [];
        calls = length c;
        enough = omega arith;
        rest = refl;
        count = refl;
        bytes = refl;
        few = omega arith;
        good = good;
        free = free;
        held = refl;
      }

  module _ {t : Stage} {left : List ℕ} {written : ℕ} {out : List ℕ} (g : Going t left written out) (h : 0 < length left) where
    -- a call of the splitter, with any reply that its contract allows: it is not refused, and takes a part of what is left
    module _ (r : Result Fed WireError) (s : FrameSplitter) (hold : List ℕ) (e : given_by r s hold ≡ fed t left) where
      takes : taken_of r ≡ (fed t left).taken
      takes = ap (λ (x : Given). x.taken) e

      pub moves : 0 < taken_of r
      moves = rw takes (feed-moves t.session.splitter t.hold left g.good g.free h)

      pub is_fed : IsOk r
      is_fed = answered r moves

  module _ (room : 128 * length c ≤ length out₀) {t : Stage} {left : List ℕ} {written : ℕ} {out : List ℕ} (g : Going t left written out) (h : 0 < length left) where
    size : length out ≡ length out₀
    size =
        let l : length g.text ≤ length out₀ = omega (arith, g.few, g.count) in
        ap length g.bytes ∙ simp (length-append, length-drop) (omega arith)

    pub space : written + 128 ≤ length out
    space = omega (arith, size, g.few)

    -- what is put lies in front, and the rest is as it was
    front : take written out ≡ g.text
    front = rw g.bytes (take_at g.text (drop (length g.text) out₀) written (sym g.count))

    back : drop written out ≡ drop (length g.text) out₀
    back = rw g.bytes (drop_at g.text (drop (length g.text) out₀) written (sym g.count))

    -- the line of the event is put
    module _ (f : Fed) (s : FrameSplitter) (hold : List ℕ) (e : given_by (Ok f) s hold ≡ fed t left)
        (n : Session) (w : ℕ) (new : List ℕ) (after : n ≡ numbered (record t.session { splitter = s }) (said_of left hold (yes (answer_of f.event))))
        (line : Wrote (line_to t.session.number (said_of left hold (yes (answer_of f.event)))) (drop written out) w new) where
      told : said_of left hold (yes (answer_of f.event)) ≡ said t left
      told = ap (λ (x : Given). said_of left x.hold x.answer) e

      stage-is : stage n hold ≡ stage_after t left
      stage-is = λ i. stage ((after ∙ same) i) (e i).hold
        where
          same : numbered (record t.session { splitter = s }) (said_of left hold (yes (answer_of f.event))) ≡ (stage_after t left).session
          same = λ i. record { splitter = (e i).state; number = number_to t.session.number (told i) }

      taken : f.taken ≡ (fed t left).taken
      taken = ap (λ (x : Given). x.taken) e

      abbrev later : ℕ → Work
      later k = works k (stage n hold) (drop f.taken left)

      more : (k : ℕ) → g.calls ≡ suc k → works (length c) t₀ c ≡ behind (g.text ++ event_text t left) (later k)
      more k q =
          g.rest
          ∙ ap (λ (m : ℕ). behind g.text (works m t left)) q
          ∙ ap (behind g.text) (works-step k t left h)
          ∙ rw (← stage-is, ← taken)
          (ap (λ (l : List ℕ). work l (later k).stage) (sym (append_assoc g.text (event_text t left) (later k).text)))

      -- the part of the buffer that was lent comes back
      abbrev back_in : ℕ → List ℕ
      back_in k = take written out ++ (new ++ drop k (drop written out))

      pub goes_on : (k : ℕ) → length out ≤ written + k → length hold ≡ length t.hold
          → Going (stage n hold) (drop f.taken left) (written + w) (back_in k)
      goes_on k l eh = with-calls g.calls refl
        where
          put : Wrote (event_text t left) (drop written out) w new
          put = rw told at line

          lent : let text = g.text ++ event_text t left in back_in k ≡ text ++ drop (length text) out₀
          lent =
              let x = event_text t left in
              let past : length (drop written out) ≤ k = simp length-drop (omega arith) in
              let none : drop k (drop written out) ≡ [] = drop_of_length-le (drop written out) past in
              rw (none, append-nil, front, put.bytes, back, drop-drop (length x) (length g.text) out₀, length-append, append_assoc)

          still-free : is_full n.splitter (length (drop f.taken left)) ≡ false
          still-free =
              let s₀ = t.session.splitter in
              rw (ap (λ (y : Stage). y.session.splitter) stage-is, taken)
              (free-after s₀ t.hold left g.good (feed-within s₀ t.hold left) g.free)

          with-calls : (m : ℕ) → g.calls ≡ m → Going (stage n hold) (drop f.taken left) (written + w) (back_in k)
          with-calls zero q = absurd (let x : ⊥ = omega (arith, g.enough) in x)
          with-calls (suc m) q =
              let x = event_text t left in
              let size : length (drop f.taken left) ≡ length left - f.taken = length-drop f.taken left in
              record {
                text = g.text ++ x;
                calls = m;
                enough = omega (arith, g.enough, moves g h (Ok f) s hold e);
                rest = more m q;
                count = omega (arith, g.count, put.count, length-append g.text x);
                bytes = lent;
                few = omega (arith, g.few, put.count, put.short, moves g h (Ok f) s hold e, fed-within (Ok f) s hold t.session.splitter t.hold left e);
                good = rw (eh, ap (λ (y : Stage). y.session.splitter) stage-is) (good-after t.session.splitter t.hold left g.good);
                free = still-free;
                held = eh ∙ g.held;
              }

  pub finished : {t : Stage} {left : List ℕ} {written : ℕ} {out : List ℕ} → Going t left written out → left ≡ []
      → record { reply = yes written; stage = t; out = out } ≡ all_lines t₀ c out₀
  finished {t} {left} {written} {out} g none =
      let gone : works (length c) t₀ c ≡ work g.text t =
      g.rest ∙ ap (λ (l : List ℕ). behind g.text (works g.calls t l)) none
      ∙ ap (behind g.text) (works-end g.calls t)
      ∙ ap (λ (l : List ℕ). work l t) (append-nil g.text)
      in
      (λ i. record { reply = yes (g.count i); stage = t; out = g.bytes i }) ∙ sym (ap (λ (w : Work). done (yes w.text) w.stage out₀) gone)
