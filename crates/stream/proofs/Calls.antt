-- One call beside the line: over the bytes that it takes, the two say and count the same, and the state stands for the frame that is open.
-- So nothing that a call says or counts depends on where the chunk was cut.
use mathlib.Core.Path.{◌≡◌, refl, sym, ap, ◌∙◌}
use mathlib.Core.Bool.{true, false}
use mathlib.Core.List.{List, [], ◌∷◌, ◌++◌, append_assoc}
use Prim.Native.Nat.{ℕ, suc, ◌+◌, ◌-◌, ◌≤◌, ◌<◌, zero-le}
use native.Mathlib.Omega.{arith}
use native.Mathlib.Nat.{not-suc-le-zero, zero-add, add-zero}
use lib.Dec.{eqb, leb}
use lib.ListN.{length, take, drop, length-append, length-take, length-drop, take-append-drop, drop_of_length-le, replicate-append-replicate}
use lib.Seq.{take-add, take_all, take_at, take-length, length-take-le}
use borrow.Author.Tests.{ne_eqb, eqb-true, le-leb, lt-leb, leb-true, leb-false}
use Rattle.general.proofs.Cases.{by-test, by-lt}
use Rattle.splitter.specs.declared.FrameSplitter.{FrameSplitter}
use Rattle.search.specs.First.{index_of}
use Rattle.search.proofs.First.{found, index-le}
use Rattle.splitter.specs.Feed.{Given, new, is_bad, is_full, start_in, part, laid, ends, going_on, feed_rule, length_with, more}
use Rattle.splitter.specs.Feed.{counted, handed, given_up, holding, marked}
use Rattle.error.specs.Refusal.{yes}
use Rattle.stream.specs.Stream.{Said, said_of, answer_to}
use Rattle.stream.specs.Heard.{at_last}
use Rattle.stream.specs.Noise.{outside, within, beyond, sum_over}
use Rattle.splitter.proofs.Laws.{Good, is-good, handed-good, given-up-good, holding-good, marked-good, feed-ends, feed-goes-on}
use Rattle.stream.proofs.Line.{opened, hear, frames_in, begun, silence, hear-append, opened-append, frames-append, outside-append}
use Rattle.stream.proofs.Line.{at-last-add, silent, dropped, goes_on, closes, opens-goes-on, opens-closes}
use Rattle.stream.proofs.Tally.{Moves, Tallied, within_none, beyond-none}

-- the state s and the hold buffer h stand for the open bytes w: they are at the hold's front, or there are more than it has room for
pub data Stands (s : FrameSplitter) (h w : List ℕ) : Type 0 where
  fits : length w ≤ length h → s.count ≡ length w → s.skipping ≡ false → take (length w) h ≡ w → Good s (length h) → Stands s h w
  long : length h < length w → s.count ≡ 0 → s.skipping ≡ true → Good s (length h) → Stands s h w

-- between frames
stands-between : (s : FrameSplitter) (h : List ℕ) → s.count ≡ 0 → s.skipping ≡ false → Good s (length h) → Stands s h []
stands-between s h n m g = fits zero-le n m refl g

pub stands-fresh : (h : List ℕ) → Stands new h []
stands-fresh h = stands-between new h refl refl (record { fits = zero-le; empty = λ m. refl; sum = refl; held = refl })

pub stands_good : {s : FrameSplitter} {h w : List ℕ} → Stands s h w → is_bad s (length h) ≡ false
stands_good {s} {h} (fits l n m k g) = is-good s (length h) g
stands_good {s} {h} (long l n m g) = is-good s (length h) g

-- ---- the line over a chunk, from where the frame's bytes start

abbrev pub from : List ℕ → List ℕ → ℕ
from [] c = index_of 0xF0 c
from (x ∷ w) c = 0

from_le : (w c : List ℕ) → from w c ≤ length c
from_le [] c = index-le 0xF0 c
from_le (x ∷ w) c = zero-le

pub start_is : {s : FrameSplitter} {h : List ℕ} (w c : List ℕ) → Stands s h w → start_in s c ≡ from w c
start_is [] c (fits l n m k g) = rw (n, m, zero-add (index_of 0xF0 c))
start_is (x ∷ w) c (fits l n m k g) = rw (n, m, ne_eqb (suc (length w)) 0 (λ e. omega arith))
start_is [] c (long l n m g) = absurd (not-suc-le-zero l)
start_is (x ∷ w) c (long l n m g) = rw m

module _ (H : ℕ) where
  pub record Closed (w c : List ℕ) (n : ℕ) (p : List ℕ) : Type 0 where
    pub heard : hear H w (take n c) ≡ at_last n (answer_to H (w ++ p))
    pub shut : opened w (take n c) ≡ []
    pub frames : frames_in w (take n c) ≡ (w ++ p) ∷ []
    pub out : outside (begun w) (take n c) ≡ from w c

  pub record Unclosed (w c p : List ℕ) : Type 0 where
    pub heard : hear H w c ≡ silence (length c)
    pub still : opened w c ≡ w ++ p
    pub frames : frames_in w c ≡ []
    pub out : outside (begun w) c ≡ from w c

  pub closes_at : (w c : List ℕ) → let i = from w c in let x = index_of 0xF1 (drop i c) in i + x < length c → Closed w c (i + suc x) (take (suc x) (drop i c))
  closes_at [] c l =
      let i = index_of 0xF0 c in
      let r : List ℕ = drop (suc i) c in
      let f : drop i c ≡ 0xF0 ∷ r = found 0xF0 c (omega arith) in
      let x = index_of 0xF1 (0xF0 ∷ r) in
      let m : x < suc (length r) = simp length-drop (omega (arith, rw f at l)) in
      let q = opens-closes H r m in
      let d = dropped H c in
      rw f (record {
        heard = rw (take-add i (suc x) c, f, hear-append, d.0, d.1, q.0, at-last-add i x);
        shut = rw (take-add i (suc x) c, f, opened-append, d.1, q.1);
        frames = rw (take-add i (suc x) c, f, frames-append, d.2, d.1, q.2);
        out = rw (take-add i (suc x) c, f, outside-append [] (take i c) (take (suc x) (0xF0 ∷ r)), d.3, d.1, q.3, add-zero i);
      })
  closes_at (y ∷ w) c l =
      let m : index_of 0xF1 c < length c = omega arith in
      let q = closes H y w c m in
      rw (zero-add (suc (index_of 0xF1 c))) (record { heard = q.0; shut = q.1; frames = q.2; out = q.3 })

  pub goes_at : (w c : List ℕ) → let i = from w c in length c ≤ i + index_of 0xF1 (drop i c) → Unclosed w c (drop i c)
  goes_at [] c l =
      let i = index_of 0xF0 c in
      let d = dropped H c in
      by-lt i (length c)
      (λ k.
      let r : List ℕ = drop (suc i) c in
      let f : drop i c ≡ 0xF0 ∷ r = found 0xF0 c k in
      let e : c ≡ take i c ++ (0xF0 ∷ r) = sym (take-append-drop i c) ∙ rw f in
      let n : length c ≡ i + suc (length r) = simp length-drop (omega arith) in
      let q = opens-goes-on H r (simp length-drop (omega (arith, rw f at l))) in
      rw f (record {
        heard = ap (hear H []) e ∙ hear-append H [] (take i c) (0xF0 ∷ r) ∙ rw (d.0, d.1, q.0, n) (replicate-append-replicate i (suc (length r)) (yes more));
        still = ap (opened []) e ∙ opened-append [] (take i c) (0xF0 ∷ r) ∙ rw (d.1, q.1);
        frames = ap (frames_in []) e ∙ frames-append [] (take i c) (0xF0 ∷ r) ∙ rw (d.2, d.1, q.2);
        out = ap (outside false) e ∙ outside-append [] (take i c) (0xF0 ∷ r) ∙ rw (d.3, d.1, q.3, add-zero i);
      }))
      (λ k.
      let n : i ≡ length c = omega (arith, index-le 0xF0 c) in
      let e : take i c ≡ c = take_all i c k in
      rw (drop_of_length-le c k) (record {
        heard = rw (e, n) at d.0;
        still = rw e at d.1;
        frames = rw e at d.2;
        out = rw e at d.3;
      }))
  goes_at (y ∷ w) c l =
      let m : length c ≤ index_of 0xF1 c = omega arith in
      let q = goes_on H y w c m in
      record { heard = q.0; still = q.1; frames = q.2; out = q.3 }

-- ---- the rule, beside the bytes that are open

-- what a call does, where w was open: says a, takes n bytes, i of them outside, ends the frames fs and leaves w' open
record Does (s : FrameSplitter) (h c w : List ℕ) (i : ℕ) (g : Given) (a : Said) (n : ℕ) (fs : List (List ℕ)) (w' : List ℕ) : Type 0 where
  says : said_of c g.hold g.answer ≡ a
  takes : g.taken ≡ n
  stands : Stands g.state g.hold w'
  size : length g.hold ≡ length h
  counts : Moves (length h) s.counts w n i fs w' g.state.counts

module _ (s : FrameSplitter) (h c w : List ℕ) (i e : ℕ) (lo : i ≤ e) (hi : e ≤ length c) where
  abbrev H : ℕ
  H = length h

  -- the frame's bytes up to here
  abbrev all : List ℕ
  all = w ++ part c i e

  part-long : length (part c i e) ≡ e - i
  part-long = simp (length-take, length-drop) (omega arith)

  open-long : s.count ≡ length w → length all ≡ length_with s (e - i)
  open-long n = length-append w (part c i e) ∙ rw (n, part-long)

  -- what was skipped is not counted twice
  skip-long : s.count ≡ 0 → length all ≡ length w + length_with s (e - i)
  skip-long n = length-append w (part c i e) ∙ rw (n, part-long, zero-add (e - i))

  module _ (n : s.count ≡ length w) (k : take (length w) h ≡ w) (t : length_with s (e - i) ≤ H) where
    laid-is : laid h s.count (part c i e) ≡ all ++ drop (length_with s (e - i)) h
    laid-is = rw (part-long, n, k, append_assoc)

    laid-front : take (length_with s (e - i)) (laid h s.count (part c i e)) ≡ all
    laid-front = rw laid-is (take_at all (drop (length_with s (e - i)) h) (length_with s (e - i)) (open-long n))

    laid-long : length (laid h s.count (part c i e)) ≡ H
    laid-long = rw (laid-is, length-append all (drop (length_with s (e - i)) h), open-long n, length-drop) (omega arith)

  -- ---- its counts: what is handed over now, what is lost and what is held, by the frames that end and the bytes left open

  moves : (fs : List (List ℕ)) (w' : List ℕ) (framed lost held : ℕ) → framed ≡ sum_over (within H) fs
      → lost + beyond H w ≡ sum_over (beyond H) fs + beyond H w' → held ≡ within H w' → Moves H s.counts w e i fs w' (counted s i e framed lost held)
  moves fs w' framed lost held f l k =
      record { taken = refl; dropped = refl; framed = ap (λ (n : ℕ). s.counts.framed + n) f; lost = omega (arith, l); held = k }

  -- by whether the frame's bytes before it, and those up to here, are no more than H
  module _ (l : length w ≤ H) (n : s.count ≡ length w) where
    module _ (t : length_with s (e - i) ≤ H) where
      fits_all : leb (length all) H ≡ true
      fits_all = le-leb (length all) H (rw (open-long n) t)

      hands : Moves H s.counts w e i (all ∷ []) [] (handed s i e).counts
      hands =
          moves (all ∷ []) [] (length_with s (e - i)) 0 0 (rw (fits_all, open-long n) (omega arith)) (rw (fits_all, le-leb _ _ l, beyond-none H))
          (sym (within_none H))

      holds : Moves H s.counts w e i [] all (holding s i e).counts
      holds = moves [] all 0 0 (length_with s (e - i)) refl (rw (fits_all, le-leb _ _ l)) (rw (fits_all, open-long n))

    module _ (t : H < length_with s (e - i)) where
      long-all : leb (length all) H ≡ false
      long-all = lt-leb (length all) H (rw (open-long n) t)

      passes : Moves H s.counts w e i (all ∷ []) [] (given_up s i e).counts
      passes =
          moves (all ∷ []) [] 0 (length_with s (e - i)) 0 (rw long-all) (rw (long-all, le-leb _ _ l, beyond-none H, open-long n) (omega arith))
          (sym (within_none H))

      marks : Moves H s.counts w e i [] all (marked s i e).counts
      marks = moves [] all 0 (length_with s (e - i)) 0 refl (rw (long-all, le-leb _ _ l, open-long n) (omega arith)) (rw long-all)

  module _ (l : H < length w) (n : s.count ≡ 0) where
    still-long : H < length all
    still-long = simp length-append (omega arith)

    skips-past : Moves H s.counts w e i (all ∷ []) [] (given_up s i e).counts
    skips-past =
        moves (all ∷ []) [] 0 (length_with s (e - i)) 0 (rw (lt-leb _ _ still-long))
        (rw (lt-leb _ _ still-long, lt-leb _ _ l, beyond-none H, skip-long n) (omega arith)) (sym (within_none H))

    skips-on : Moves H s.counts w e i [] all (marked s i e).counts
    skips-on =
        moves [] all 0 (length_with s (e - i)) 0 refl (rw (lt-leb _ _ still-long, lt-leb _ _ l, skip-long n) (omega arith)) (rw (lt-leb _ _ still-long))

  ended : Stands s h w → Does s h c w i (ends s h c i e) (answer_to H all) e (all ∷ []) []
  unfolding ends
  ended (fits l n m k g) =
      by-test (leb (length_with s (e - i)) H)
      (λ b.
      let t : length_with s (e - i) ≤ H = leb-true _ _ b in
      let z₀ : (k : List ℕ) → length k ≡ H → Stands (handed s i e) k [] = λ k q. stands-between (handed s i e) k refl refl (rw q (handed-good g lo)) in
      by-test (eqb s.count 0)
      (λ z.
      let o : s.count ≡ 0 = eqb-true s.count 0 z in
      let v : w ≡ [] = sym k ∙ ap (λ (x : ℕ). take x h) (sym n ∙ o) in
      let u : i + (e - i) ≤ length c = omega arith in
      rw (open-long n, m, b, z) (record { says = rw (le-leb _ _ u, v); takes = refl; stands = z₀ h refl; size = refl; counts = hands l n t }))
      (λ z.
      let u : 0 + length_with s (e - i) ≤ length (laid h s.count (part c i e)) = rw (laid-long n k t) (omega arith) in
      rw (open-long n, m, b, z) (record {
        says = rw (le-leb _ _ u, laid-front n k t);
        takes = refl;
        stands = z₀ (laid h s.count (part c i e)) (laid-long n k t);
        size = laid-long n k t;
        counts = hands l n t;
      })))
      (λ b.
      rw (open-long n, m, b) (record {
        says = refl;
        takes = refl;
        stands = stands-between (given_up s i e) h refl refl (given-up-good g lo);
        size = refl;
        counts = passes l n (leb-false _ _ b);
      }))
  ended (long l n m g) =
      rw (m, lt-leb _ _ (still-long l n)) (record {
        says = refl;
        takes = refl;
        stands = stands-between (given_up s i e) h refl refl (given-up-good g lo);
        size = refl;
        counts = skips-past l n;
      })

  went_on : Stands s h w → Does s h c w i (going_on s h c i e) (yes more) e [] all
  unfolding going_on
  went_on (fits l n m k g) =
      by-test (leb (length_with s (e - i)) H)
      (λ b.
      let t : length_with s (e - i) ≤ H = leb-true _ _ b in
      let held : Good (holding s i e) (length (laid h s.count (part c i e))) = rw (laid-long n k t) (holding-good g lo t) in
      rw (m, b) (record {
        says = refl;
        takes = refl;
        stands = fits (rw (open-long n, laid-long n k t) t) (sym (open-long n)) refl (rw (open-long n) (laid-front n k t)) held;
        size = laid-long n k t;
        counts = holds l n t;
      }))
      (λ b.
      let t : H < length_with s (e - i) = leb-false _ _ b in
      rw (m, b) (record { says = refl; takes = refl; stands = long (rw (open-long n) t) refl refl (marked-good g lo); size = refl; counts = marks l n t }))
  went_on (long l n m g) =
      rw m (record { says = refl; takes = refl; stands = long (still-long l n) refl refl (marked-good g lo); size = refl; counts = skips-on l n })

-- ---- one call

-- over the bytes that a call takes, it and the line say and count the same, and its state stands for what the line leaves open
pub record Agrees (s : FrameSplitter) (h c w : List ℕ) (g : Given) : Type 0 where
  pub within : g.taken ≤ length c
  pub heard : at_last g.taken (said_of c g.hold g.answer) ≡ hear (length h) w (take g.taken c)
  pub stands : Stands g.state g.hold (opened w (take g.taken c))
  pub size : length g.hold ≡ length h
  pub moves : 0 < length c → 0 < g.taken
  pub counts : Tallied (length h) s.counts w (take g.taken c) g.state.counts

agree : (s : FrameSplitter) (h c w : List ℕ) (i : ℕ) (g : Given) (a : Said) (n : ℕ) (fs : List (List ℕ)) (w' : List ℕ) → Does s h c w i g a n fs w'
    → n ≤ length c → hear (length h) w (take n c) ≡ at_last n a
    → opened w (take n c) ≡ w' → frames_in w (take n c) ≡ fs → outside (begun w) (take n c) ≡ i → (0 < length c → 0 < n) → Agrees s h c w g
agree s h c w i g a n fs w' d l p q f o m =
    record {
      within = rw d.takes l;
      heard = rw (d.takes, d.says, p);
      stands = rw (d.takes, q) d.stands;
      size = d.size;
      moves = rw d.takes m;
      counts = rw (d.takes, q, f, o, length-take-le n c l) d.counts;
    }

pub one-call : {s : FrameSplitter} {h : List ℕ} (w c : List ℕ) → Stands s h w → is_full s (length c) ≡ false → Agrees s h c w (feed_rule s h c)
one-call {s} {h} w c k free =
    let H = length h in
    let good = stands_good k in
    let i = from w c in
    let x = index_of 0xF1 (drop i c) in
    let start : i ≡ start_in s c = sym (start_is w c k) in
    by-lt (i + x) (length c)
    (λ l.
    let e : i + x + 1 ≡ i + suc x = omega arith in
    let n : i + suc x - i ≡ suc x = omega arith in
    let p : List ℕ = take (suc x) (drop i c) in
    let y : Closed H w c (i + suc x) p = closes_at H w c l in
    let d : Does s h c w i (ends s h c i (i + suc x)) (answer_to H (w ++ p)) (i + suc x) ((w ++ p) ∷ []) [] =
    rw n at (ended s h c w i (i + suc x) (omega arith) (omega arith) k) in
    rw (← feed-ends s h c good free i (i + x) start refl l, e)
    (agree s h c w i (ends s h c i (i + suc x)) (answer_to H (w ++ p)) (i + suc x) ((w ++ p) ∷ []) [] d (omega arith)
    y.heard y.shut y.frames y.out (λ z. omega arith)))
    (λ l.
    let y : Unclosed H w c (drop i c) = goes_at H w c l in
    let lo : i ≤ length c = from_le w c in
    let p : part c i (length c) ≡ drop i c = take_all (length c - i) (drop i c) (simp length-drop (omega arith)) in
    let all : take (length c) c ≡ c = take-length c in
    let d : Does s h c w i (going_on s h c i (length c)) (yes more) (length c) [] (w ++ drop i c) = rw p at (went_on s h c w i (length c) lo (omega arith) k) in
    rw (← feed-goes-on s h c good free i (i + x) start refl l)
    (agree s h c w i (going_on s h c i (length c)) (yes more) (length c) [] (w ++ drop i c) d (omega arith)
    (rw all (y.heard ∙ sym (silent (length c)))) (rw all y.still) (rw all y.frames) (rw all y.out) (λ z. z)))
