-- Laws of specs/Feed that the proofs cite: a frame that is kept, the cases of `ends`, `going_on` and `feed_rule`.
-- And two for callers: no call gives a state that the next would refuse (`good-after`), and what it takes is counted (`taken-after`).
use mathlib.Core.Path.{◌≡◌, refl, sym, ap, ◌∙◌}
use mathlib.Core.Bool.{Bool, true, false, cond, not, ◌&&◌, ◌||◌}
use mathlib.Core.List.{List, ◌++◌}
use Prim.Native.Nat.{ℕ, ◌+◌, ◌-◌, ◌^◌, ◌≤◌, ◌<◌, zero-le}
use native.Mathlib.Omega.{arith}
use native.Mathlib.Nat.{zero-add}
use lib.Dec.{eqb, leb, ltb}
use lib.ListN.{length, take, drop, replicate, length-drop}
use lib.Seq.{take_at, sets, sets-eq}
use borrow.Author.Tests.{eq-eqb, ne_eqb, lt-ltb, le-ltb, le-leb, ltb-false, leb-true, eqb-true, not-true, not-false}
use Rattle.std.specs.declared.result.Result.TheVariants.{Ok}
use Rattle.general.proofs.Cases.{by-test}
use Rattle.search.specs.First.{index_of, first_from}
use Rattle.search.proofs.First.{index-le}
use Rattle.splitter.specs.declared.Counts.{Counts}
use Rattle.splitter.specs.declared.FrameSplitter.{FrameSplitter}
use Rattle.splitter.specs.declared.Fed.{Fed}
use Rattle.splitter.specs.declared.Event.TheVariants.{More, Frame, Overlong}
use Rattle.splitter.specs.Feed.{Given, given_by, is_bad, is_full, is_open, is_kept, balances, start_in, part, laid, length_with}
use Rattle.splitter.specs.Feed.{counted, handed, given_up, holding, marked, ends, going_on, runs, refused_as, feed_rule}

-- sixteen that are stored as a block
pub block-laid : (d x : List ℕ) (at : ℕ) (s a : List ℕ) → length s ≡ 16 → at + length s ≤ length d → a ≡ take 16 (s ++ replicate 16 0)
    → x ≡ cond (leb (at + 16) (length d)) (sets d at a) d → x ≡ laid d at s
block-laid d x at s a e l is p =
    let all : a ≡ s = is ∙ take_at s (replicate 16 0) 16 e in
    let fits : at + 16 ≤ length d = omega arith in
    p ∙ rw (le-leb (at + 16) (length d) fits, all) (sets-eq s d at l)

-- both of two tests
and-true : (a b : Bool) → a && b ≡ true → (a ≡ true) × (b ≡ true)
and-true true b e = (refl, e)
and-true false b e = let z : false ≡ true = e in (z, cc)

-- n bytes more can be counted: so a chunk of as many, or of fewer, is not refused
abbrev pub CanCount : FrameSplitter → ℕ → Type 0
CanCount s n = s.counts.taken + n < 2 ^ 64

pub can-take : (s : FrameSplitter) (m n : ℕ) → m ≤ n → CanCount s n → is_full s m ≡ false
can-take s m n l b = le-ltb (2 ^ 64 - 1) (s.counts.taken + m) (omega arith)

pub can-count : (s : FrameSplitter) (n : ℕ) → is_full s n ≡ false → CanCount s n
can-count s n f = let k : s.counts.taken + n ≤ 2 ^ 64 - 1 = ltb-false _ _ f in omega arith

-- a frame that is kept has no mark, and fits
pub kept-is : (s : FrameSplitter) (H n : ℕ) → is_kept s H n ≡ true → (s.skipping ≡ false) × (length_with s n ≤ H)
kept-is s H n e =
    let k = and-true (not s.skipping) (leb (length_with s n) H) e in
    (not-true s.skipping k.0, leb-true (length_with s n) H k.1)

-- ---- a reply r, with the state s', its counts k and the hold buffer h' after it, where a frame ends or goes on

module _ (s : FrameSplitter) (h c : List ℕ) (i e : ℕ) (r : Fed) (s' : FrameSplitter) (k : Counts) where
  -- count and mark after a frame's end
  abbrev over : FrameSplitter
  over = record { count = 0; skipping = false; counts = k }

  -- the frame's length up to here
  abbrev all : ℕ
  all = length_with s (e - i)

  module _ (t : is_kept s (length h) (e - i) ≡ false) (q : k ≡ counted s i e 0 all 0) where
    pub ends-lost : r ≡ record { event = Overlong; taken = e } → s' ≡ over → given_by (Ok r) s' h ≡ ends s h c i e
    unfolding ends
    ends-lost p o = rw (p, o, q, t)

    pub goes-lost : r ≡ record { event = More; taken = e } → s' ≡ record { count = 0; skipping = true; counts = k }
        → given_by (Ok r) s' h ≡ going_on s h c i e
    unfolding going_on
    goes-lost p o = rw (p, o, q, t)

  module _ (t : is_kept s (length h) (e - i) ≡ true) where
    pub ends-shown : k ≡ counted s i e all 0 0
        → r ≡ record { event = Frame (record { in_hold = false; start = i; len = e - i }); taken = e } → s' ≡ over → s.count ≡ 0
        → given_by (Ok r) s' h ≡ ends s h c i e
    unfolding ends
    ends-shown q p o z = rw (p, o, q, t, (kept-is s (length h) (e - i) t).0, eq-eqb s.count 0 z)

    module _ (h' : List ℕ) (d : h' ≡ laid h s.count (part c i e)) where
      pub ends_held : k ≡ counted s i e all 0 0
          → r ≡ record { event = Frame (record { in_hold = true; start = 0; len = all }); taken = e } → s' ≡ over
          → (s.count ≡ 0 → ⊥) → given_by (Ok r) s' h' ≡ ends s h c i e
      unfolding ends
      ends_held q p o n = rw (p, o, q, d, t, (kept-is s (length h) (e - i) t).0, ne_eqb s.count 0 n)

      pub goes-held : k ≡ counted s i e 0 0 all
          → r ≡ record { event = More; taken = e } → s' ≡ record { count = all; skipping = false; counts = k }
          → given_by (Ok r) s' h' ≡ going_on s h c i e
      unfolding going_on
      goes-held q p o = rw (p, o, q, d, t)

-- ---- feed

-- what a state that is not refused is: its count fits, a mark has none, taken is the sum of the others and held is the count
pub record Good (s : FrameSplitter) (H : ℕ) : Type 0 where
  pub fits : s.count ≤ H
  pub empty : s.skipping ≡ true → s.count ≡ 0
  pub sum : s.counts.taken ≡ s.counts.dropped + s.counts.framed + s.counts.lost + s.counts.held
  pub held : s.counts.held ≡ s.count

none_of : (a b c : Bool) → a || not b || c ≡ false → (a ≡ false) × (b ≡ true) × (c ≡ false)
none_of true b c e = let z : true ≡ false = e in (z, cc, cc)
none_of false true c e = (refl, refl, e)
none_of false false c e = let z : true ≡ false = e in (refl, cc, cc)

pub good-is : (s : FrameSplitter) (H : ℕ) → is_bad s H ≡ false → Good s H
good-is s H e =
    let n = none_of (ltb H s.count) (balances s.counts s.count) (s.skipping && not (eqb s.count 0)) e in
    let b = and-true _ _ n.1 in
    record {
      fits = ltb-false H s.count n.0;
      empty = λ m. eqb-true _ _ (not-false _ (rw m at n.2));
      sum = eqb-true _ _ b.0;
      held = eqb-true _ _ b.1;
    }

pub is-good : (s : FrameSplitter) (H : ℕ) → Good s H → is_bad s H ≡ false
is-good s H g =
    rw (le-ltb _ _ g.fits, eq-eqb _ _ g.sum, eq-eqb _ _ g.held)
    (by-test s.skipping (λ m. rw (m, eq-eqb _ _ (g.empty m))) (λ m. rw m))

module _ (s : FrameSplitter) (h c : List ℕ) where
  pub feed-bad : is_bad s (length h) ≡ true → feed_rule s h c ≡ refused_as 9 s h
  unfolding feed_rule
  feed-bad e = rw e

  module _ (good : is_bad s (length h) ≡ false) where
    pub feed-full : is_full s (length c) ≡ true → feed_rule s h c ≡ refused_as 13 s h
    unfolding feed_rule
    feed-full e = rw (good, e)

    module _ (free : is_full s (length c) ≡ false) where
      pub feed-runs : feed_rule s h c ≡ runs s h c (start_in s c)
      unfolding feed_rule
      feed-runs = rw (good, free)

      module _ (i j : ℕ) (ei : i ≡ start_in s c) (ej : j ≡ first_from 241 i c) where
        at-start : runs s h c i ≡ feed_rule s h c
        at-start = ap (runs s h c) ei ∙ sym feed-runs

        pub feed-ends : j < length c → ends s h c i (j + 1) ≡ feed_rule s h c
        unfolding runs
        feed-ends l = rw (← at-start, ← ej, lt-ltb _ _ l)

        pub feed-goes-on : length c ≤ j → going_on s h c i (length c) ≡ feed_rule s h c
        unfolding runs
        feed-goes-on l = rw (← at-start, ← ej, le-ltb _ _ l)

-- ---- the state after a call

-- what is taken is counted once: outside frames, or with the frame's bytes
module _ {s : FrameSplitter} {H i e : ℕ} (g : Good s H) (l : i ≤ e) where
  counts-sum : (framed lost held : ℕ) → framed + lost + held ≡ length_with s (e - i) → let k = counted s i e framed lost held in
      k.taken ≡ k.dropped + k.framed + k.lost + k.held
  counts-sum framed lost held p = omega (arith, g.sum, g.held)

  pub handed-good : Good (handed s i e) H
  handed-good = record { fits = zero-le; empty = λ m. refl; sum = counts-sum (length_with s (e - i)) 0 0 (omega arith); held = refl }

  pub given-up-good : Good (given_up s i e) H
  given-up-good = record { fits = zero-le; empty = λ m. refl; sum = counts-sum 0 (length_with s (e - i)) 0 (omega arith); held = refl }

  pub marked-good : Good (marked s i e) H
  marked-good = record { fits = zero-le; empty = λ m. refl; sum = counts-sum 0 (length_with s (e - i)) 0 (omega arith); held = refl }

  pub holding-good : length_with s (e - i) ≤ H → Good (holding s i e) H
  holding-good k = record { fits = k; empty = λ (m : false ≡ true). cc; sum = counts-sum 0 0 (length_with s (e - i)) (omega arith); held = refl }

-- a call that is not refused: the next state is good, and it has counted what was taken
record Next (s : FrameSplitter) (H : ℕ) (g : Given) : Type 0 where
  good : Good g.state H
  takes : g.state.counts.taken ≡ s.counts.taken + g.taken

start-le : (s : FrameSplitter) (c : List ℕ) → start_in s c ≤ length c
start-le s c = by-test (is_open s) (λ o. rw o zero-le) (λ o. rw (o, zero-add (index_of 0xF0 c)) (index-le 0xF0 c))

module _ (s : FrameSplitter) (h c : List ℕ) (good : is_bad s (length h) ≡ false) where
  runs-next : (i : ℕ) → i ≤ length c → Next s (length h) (runs s h c i)
  unfolding runs ends going_on
  runs-next i n =
      let j = first_from 0xF1 i c in
      let g = good-is s (length h) good in
      let m : i ≤ j + 1 = omega arith in
      by-test (ltb j (length c))
      (λ l.
      by-test (is_kept s (length h) (j + 1 - i))
      (λ k.
      by-test (is_open s)
      (λ o. rw (l, k, o) (record { good = handed-good g m; takes = refl }))
      (λ o. rw (l, k, o) (record { good = handed-good g m; takes = refl })))
      (λ k. rw (l, k) (record { good = given-up-good g m; takes = refl })))
      (λ l.
      by-test (is_kept s (length h) (length c - i))
      (λ k. rw (l, k) (record { good = holding-good g n (kept-is s (length h) (length c - i) k).1; takes = refl }))
      (λ k. rw (l, k) (record { good = marked-good g n; takes = refl })))

  next-state : is_full s (length c) ≡ false → Next s (length h) (feed_rule s h c)
  next-state free = rw (feed-runs s h c good free) (runs-next (start_in s c) (start-le s c))

  -- a state that is not refused gives one that is not refused
  pub good-after : is_bad (feed_rule s h c).state (length h) ≡ false
  good-after =
      by-test (is_full s (length c))
      (λ f. rw (feed-full s h c good f) good)
      (λ f. is-good _ _ (next-state f).good)

  pub taken-after : is_full s (length c) ≡ false → (feed_rule s h c).state.counts.taken ≡ s.counts.taken + (feed_rule s h c).taken
  taken-after f = (next-state f).takes

  -- what a call takes is counted: so the rest of its chunk, and n bytes behind it, can still be
  module _ (within : (feed_rule s h c).taken ≤ length c) where
    pub counts-on : (n : ℕ) → CanCount s (length c + n) → CanCount (feed_rule s h c).state (length (drop (feed_rule s h c).taken c) + n)
    counts-on n b =
        let t = taken-after (can-take s (length c) (length c + n) (omega arith) b) in
        rw (length-drop (feed_rule s h c).taken c) (omega (arith, t, within, b))

    pub free-after : is_full s (length c) ≡ false → is_full (feed_rule s h c).state (length (drop (feed_rule s h c).taken c)) ≡ false
    free-after f =
        let b : CanCount s (length c + 0) = omega (arith, can-count s (length c) f) in
        let g = feed_rule s h c in
        let n = length (drop g.taken c) in
        can-take g.state n (n + 0) (omega arith) (counts-on 0 b)
