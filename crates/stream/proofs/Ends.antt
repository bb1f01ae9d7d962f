-- Every offer is answered, and takes at least one byte of a chunk that is not empty, unless it is refused: so a caller's loop ends.
-- An empty chunk changes nothing. For every cutting of a line shorter than 2^64 there are such calls, and none is refused.
use mathlib.Core.Path.{◌≡◌, refl, sym, ap, ◌∙◌}
use mathlib.Core.Bool.{true, false, cond}
use mathlib.Core.List.{List, [], ◌∷◌, ◌++◌, append-nil}
use Prim.Native.Nat.{ℕ, zero, suc, ◌+◌, ◌-◌, ◌^◌, ◌≤◌, ◌<◌, zero-le}
use native.Mathlib.Omega.{arith}
use native.Mathlib.Nat.{not-suc-le-zero, add-zero}
use lib.Dec.{ltb}
use lib.ListN.{length, take, drop, length-append, length-drop, length-replicate, replicate, take-append-drop}
use lib.Seq.{take_at, take-append-le, drop-append-le, length-take-le}
use borrow.Author.Tests.{le-leb}
use Rattle.std.specs.Prelude.{Result}
use Rattle.error.specs.Refusal.{yes, no, refused}
use Rattle.error.specs.declared.WireError.{WireError}
use Rattle.error.specs.declared.WireError.TheVariants.{BadState, CounterFull}
use Rattle.general.proofs.Cases.{by-test}
use Rattle.error.proofs.Decides.{there}
use Rattle.splitter.specs.declared.FrameSplitter.{FrameSplitter}
use Rattle.splitter.specs.declared.Fed.{Fed}
use Rattle.splitter.specs.declared.Place.{Place}
use Rattle.search.specs.First.{index_of, first_from}
use Rattle.splitter.specs.Feed.{Given, Answer, given, more, told_event, taken_of, is_bad, is_full, is_open, is_kept, start_in, laid, given_by}
use Rattle.splitter.specs.Feed.{counted, holding, marked, ends, going_on, runs, feed_rule}
use Rattle.stream.specs.Stream.{Call, Calls, Feeds, Through, joined}
use Rattle.stream.specs.Stream as stream
use Rattle.splitter.proofs.Laws.{Good, good-is, feed-bad, feed-full, feed-goes-on, CanCount, can-take, counts-on}
use Rattle.stream.proofs.Calls.{Stands, fits, long, stands_good, Agrees, one-call}
use Rattle.splitter.proofs.One.{event_of, reply_of}

-- ---- a state that is not refused stands for some open bytes

module _ (s : FrameSplitter) (h : List ℕ) (good : is_bad s (length h) ≡ false) where
  abbrev pub open_bytes : List ℕ
  open_bytes = cond s.skipping (replicate (suc (length h)) 0) (take s.count h)

  good-stands : Stands s h open_bytes
  good-stands =
      let g = good-is s (length h) good in
      by-test s.skipping
      (λ m.
      let o : open_bytes ≡ replicate (suc (length h)) 0 = rw m in
      let l : length h < length open_bytes = rw o (simp length-replicate (omega arith)) in
      long l (g.empty m) m g)
      (λ m.
      let o : open_bytes ≡ take s.count h = rw m in
      let n : length open_bytes ≡ s.count = ap length o ∙ length-take-le s.count h g.fits in
      fits (rw n g.fits) (sym n) m (rw n (sym o)) g)

  pub good-call : (c : List ℕ) → is_full s (length c) ≡ false → Agrees s h c open_bytes (feed_rule s h c)
  good-call c = one-call open_bytes c good-stands

-- ---- how many bytes are taken

module _ (s : FrameSplitter) (h c : List ℕ) where
  pub feed-within : (feed_rule s h c).taken ≤ length c
  feed-within =
      by-test (is_bad s (length h))
      (λ b. rw (feed-bad s h c b) zero-le)
      (λ b. by-test (is_full s (length c)) (λ f. rw (feed-full s h c b f) zero-le) (λ f. (good-call s h b c f).within))

  pub feed-moves : is_bad s (length h) ≡ false → is_full s (length c) ≡ false → 0 < length c → 0 < (feed_rule s h c).taken
  feed-moves b f = (good-call s h b c f).moves

-- the same of any reply that the contract of `feed` allows: at most the chunk, and at least a byte of one that is not empty, unless it is refused
pub fed-within : (r : Result Fed WireError) (s' : FrameSplitter) (h' : List ℕ) (s : FrameSplitter) (h c : List ℕ) → given_by r s' h' ≡ feed_rule s h c
    → taken_of r ≤ length c
fed-within r s' h' s h c e =
    let t : taken_of r ≡ (feed_rule s h c).taken = ap (λ (g : Given). g.taken) e in
    rw t (feed-within s h c)

never : {A : Type 0} (n : ℕ) (vs : List ℕ) (a : A) → no n vs ≡ yes a → ⊥
never n vs a e = let z : ◌≡◌ {A = ℕ} 0 1 = cc in omega arith

pub fed-moves : (r : Result Fed WireError) (a : Answer Place) (s' : FrameSplitter) (h' : List ℕ) (s : FrameSplitter) (h c : List ℕ)
    → given_by r s' h' ≡ feed_rule s h c → told_event r ≡ yes a → 0 < length c → 0 < taken_of r
fed-moves r a s' h' s h c e y p =
    let t : taken_of r ≡ (feed_rule s h c).taken = ap (λ (g : Given). g.taken) e in
    let z : (feed_rule s h c).answer ≡ yes a = sym (ap (λ (g : Given). g.answer) e) ∙ y in
    rw t
    (by-test (is_bad s (length h))
    (λ b. absurd (never 9 [] a (rw (feed-bad s h c b) at z)))
    (λ b. by-test (is_full s (length c)) (λ k. absurd (never 13 [] a (rw (feed-full s h c b k) at z))) (λ k. feed-moves s h c b k p)))

-- ---- an empty chunk

-- no 64-bit count is too full for it
pub empty-fits : (s : FrameSplitter) → s.counts.taken < 2 ^ 64 → is_full s 0 ≡ false
empty-fits s l = can-take s 0 0 (omega arith) (omega arith)

laid_none : (h : List ℕ) (n : ℕ) → laid h n [] ≡ h
laid_none h n = rw (append-nil, add-zero n, take-append-drop)

-- nothing is counted
module _ (s : FrameSplitter) (H : ℕ) (g : Good s H) where
  abbrev same-counts : ℕ → ℕ → ℕ → Type 0
  same-counts framed lost held = counted s 0 0 framed lost held ≡ s.counts

  none-counted : (lost held : ℕ) → lost ≡ 0 → held ≡ s.counts.held → same-counts 0 lost held
  none-counted lost held l e =
      λ i. record {
        taken = add-zero s.counts.taken i;
        dropped = add-zero s.counts.dropped i;
        framed = add-zero s.counts.framed i;
        lost = (ap (λ (n : ℕ). s.counts.lost + n) l ∙ add-zero s.counts.lost) i;
        held = e i;
      }

  held-still : s.skipping ≡ false → holding s 0 0 ≡ s
  held-still m = λ i. record { count = add-zero s.count i; skipping = sym m i; counts = none-counted 0 (s.count + 0) refl (add-zero s.count ∙ sym g.held) i }

  marked-still : s.skipping ≡ true → marked s 0 0 ≡ s
  marked-still m =
      let z : s.count ≡ 0 = g.empty m in
      λ i. record { count = sym z i; skipping = sym m i; counts = none-counted (s.count + 0) 0 (add-zero s.count ∙ z) (sym (g.held ∙ z)) i }

pub feed-empty : (s : FrameSplitter) (h : List ℕ) → is_bad s (length h) ≡ false → s.counts.taken < 2 ^ 64 → feed_rule s h [] ≡ given (yes more) 0 s h
unfolding index_of going_on
feed-empty s h good small =
    let g = good-is s (length h) good in
    let z : 0 ≡ start_in s [] = by-test (is_open s) (λ o. rw o) (λ o. rw o) in
    sym (feed-goes-on s h [] good (empty-fits s small) 0 0 z refl zero-le)
    ∙ by-test s.skipping
    (λ m.
    let k : is_kept s (length h) 0 ≡ false = rw m in
    rw k (ap (λ (x : FrameSplitter). given (yes more) 0 x h) (marked-still s (length h) g m)))
    (λ m.
    let l : s.count + 0 ≤ length h = rw (add-zero s.count) g.fits in
    let k : is_kept s (length h) 0 ≡ true = rw (m, le-leb _ _ l) in
    rw (k, laid_none h s.count) (ap (λ (x : FrameSplitter). given (yes more) 0 x h) (held-still s (length h) g m)))

-- ---- there is a reply to every offer

-- a reply tells what it was made of: an answer, or one of the two refusals, which takes nothing
pub replied : (s : FrameSplitter) (h c : List ℕ) → let g = feed_rule s h c in
    (told_event (reply_of g.answer g.taken) ≡ g.answer) × (taken_of (reply_of g.answer g.taken) ≡ g.taken)
unfolding feed_rule runs ends going_on event_of reply_of
replied s h c =
    let i = start_in s c in
    let j = first_from 0xF1 i c in
    by-test (is_bad s (length h))
    (λ b. rw b (ap refused (there BadState), refl))
    (λ b.
    by-test (is_full s (length c))
    (λ f. rw (b, f) (ap refused (there CounterFull), refl))
    (λ f.
    by-test (ltb j (length c))
    (λ l.
    by-test (is_kept s (length h) (j + 1 - i))
    (λ k. by-test (is_open s) (λ o. rw (b, f, l, k, o) (refl, refl)) (λ o. rw (b, f, l, k, o) (refl, refl)))
    (λ k. rw (b, f, l, k) (refl, refl)))
    (λ l. by-test (is_kept s (length h) (length c - i)) (λ k. rw (b, f, l, k) (refl, refl)) (λ k. rw (b, f, l, k) (refl, refl)))))

pub allowed : (s : FrameSplitter) (h c : List ℕ) → let g = feed_rule s h c in
    given_by (reply_of g.answer g.taken) g.state g.hold ≡ g
allowed s h c =
    let g = feed_rule s h c in
    let e = replied s h c in
    λ i. given (e.0 i) (e.1 i) g.state g.hold

-- ---- chunks

pub feeds-calls : {s s' : FrameSplitter} {h h' : List ℕ} {cs : List (List ℕ)} {t : List Call} → Feeds s h cs t s' h' → Calls s h (joined cs) t s' h'
feeds-calls stream.Feeds.done = stream.Calls.done
feeds-calls (stream.Feeds.used f) = feeds-calls f
feeds-calls {s} {s'} {h} {h'} (stream.Feeds.feed {c = c} {cs = cs} {t = t} r s₁ h₁ e f) =
    let n₁ = taken_of r in
    let l : n₁ ≤ length c = fed-within r s₁ h₁ s h c e in
    let n : take (length c) (c ++ joined cs) ≡ c = take_at c (joined cs) (length c) refl in
    let d : drop n₁ (c ++ joined cs) ≡ drop n₁ c ++ joined cs = drop-append-le n₁ c (joined cs) l in
    let k : take n₁ (c ++ joined cs) ≡ take n₁ c = take-append-le n₁ c (joined cs) l in
    let x : Calls s₁ h₁ (drop n₁ (c ++ joined cs)) t s' h' = rw d (feeds-calls f) in
    let y = stream.Calls.next {s = s} {h = h} {b = c ++ joined cs} (length c) r s₁ h₁ (rw n e) x in
    rw (k, n) at y

unfoldable pub past : {s : FrameSplitter} {h : List ℕ} {cs : List (List ℕ)} → Through s h cs → Through s h ([] ∷ cs)
past r = record { trace = r.trace; state = r.state; held = r.held; feeds = stream.Feeds.used r.feeds }

-- what follows a chunk, wherever the calls over it lead to: n bytes more can be counted
abbrev Onward : ℕ → List (List ℕ) → Type 0
Onward n cs = (s : FrameSplitter) (h : List ℕ) → is_bad s (length h) ≡ false → CanCount s n → Through s h cs

unfoldable pub one_chunk : (n : ℕ) (s : FrameSplitter) (h c : List ℕ) (cs : List (List ℕ)) → is_bad s (length h) ≡ false
    → CanCount s (length c + length (joined cs)) → length c ≤ n → Onward (length (joined cs)) cs → Through s h (c ∷ cs)
one_chunk zero s h [] cs good below l go = past (go s h good (omega arith))
one_chunk zero s h (x ∷ c) cs good below l go = absurd (not-suc-le-zero l)
one_chunk (suc n) s h [] cs good below l go = past (go s h good (omega arith))
one_chunk (suc n) s h (x ∷ c) cs good below l go =
    let g : Given = feed_rule s h (x ∷ c) in
    let free = can-take s (length (x ∷ c)) (length (x ∷ c) + length (joined cs)) (omega arith) below in
    let t : 0 < g.taken = feed-moves s h (x ∷ c) good free (omega arith) in
    let d : length (drop g.taken (x ∷ c)) ≤ n = rw (length-drop g.taken (x ∷ c)) (omega arith) in
    let b = counts-on s h (x ∷ c) good (feed-within s h (x ∷ c)) (length (joined cs)) below in
    let r = one_chunk n g.state g.hold (drop g.taken (x ∷ c)) cs (stands_good (good-call s h good (x ∷ c) free).stands) b d go in
    let reply = reply_of g.answer g.taken in
    let rest : Feeds g.state g.hold (drop (taken_of reply) (x ∷ c) ∷ cs) r.trace r.state r.held = rw (replied s h (x ∷ c)).1 r.feeds in
    record { trace = _; state = r.state; held = r.held; feeds = stream.Feeds.feed reply g.state g.hold (allowed s h (x ∷ c)) rest }

-- however a line shorter than 2^64 is cut into chunks, offering each untaken rest again comes to an end
unfoldable pub all_end : (cs : List (List ℕ)) → Onward (length (joined cs)) cs
all_end [] s h good below = record { trace = []; state = s; held = h; feeds = stream.Feeds.done }
all_end (c ∷ cs) s h good below =
    one_chunk (length c) s h c cs good (rw (length-append c (joined cs)) at below) (omega arith) (all_end cs)
