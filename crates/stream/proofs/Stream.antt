-- Calls over a stream: what is heard, and what is held at the end, is the stream's alone, however it is cut.
-- A call on bytes that are there takes at least one, so the calls come to an end.
use mathlib.Core.Path.{◌≡◌, refl, sym, ap, ◌∙◌}
use mathlib.Core.Bool.{false, cond, not}
use mathlib.Core.List.{List, [], ◌∷◌, ◌++◌, append_assoc, append-nil}
use Prim.Native.Nat.{ℕ, zero, suc, ◌+◌, ◌≤◌}
use native.Mathlib.Omega.{arith}
use lib.Dec.{leb}
use lib.ListN.{length, take, drop, length-take, length-drop, take-append-drop}
use lib.Seq.{take-take, length-take-le}
use borrow.Author.Tests.{le-leb, lt-leb}
use Rattle.general.proofs.Cases.{by-test}
use Rattle.splitter.specs.declared.FrameSplitter.{FrameSplitter}
use Rattle.splitter.specs.Feed.{Given, new, is_full, refused_as, told_event, taken_of, given_by, more, overlong, frame}
use Rattle.splitter.proofs.Laws.{CanCount, can-take, can-count, feed-full}
use Rattle.error.specs.Refusal.{yes, no}
use Rattle.stream.specs.Stream.{Said, said_of, Call, Calls, done, next, taken_by, unless_more, answers}
use Rattle.stream.specs.Heard.{at_last, heard, Alike}
use Rattle.stream.specs.Noise.{within}
use Rattle.stream.proofs.Line.{opened, hear, silence, hear-append, opened-append}
use Rattle.stream.proofs.Calls.{Stands, fits, long, stands-fresh, stands_good, Agrees, one-call}
use Rattle.stream.proofs.Tally.{Tallied, tallied-append, one-tallied}

-- ---- the calls beside the line

-- a call that takes nothing says More
abbrev pub Plain : List Call → Type 0
Plain [] = Unit
Plain (c ∷ t) = (c.took ≡ [] → c.said ≡ yes more) × Plain t

only-more : (a : Said) → unless_more a ≡ [] → a ≡ yes more
only-more (yes more) e = refl
only-more (yes overlong) e = cc
only-more (yes (frame w)) e = cc
only-more (no n vs) e = cc

-- ---- a line that all calls took is shorter than 2^64

-- a chunk of bytes that can be counted is not refused
pub free : (s : FrameSplitter) (b : List ℕ) (n : ℕ) → CanCount s (length b) → is_full s (length (take n b)) ≡ false
free s b n l = can-take s (length (take n b)) (length b) (omega (arith, length-take n b)) l

-- the bytes behind a call that took n of them, where its next state has counted those
rest_below : (s s' : FrameSplitter) (b : List ℕ) (n : ℕ) → n ≤ length b → s'.counts.taken ≡ s.counts.taken + n → CanCount s (length b) → CanCount s' (length (drop n b))
rest_below s s' b n l e k = omega (arith, length-drop n b)

-- A call that would pass 2^64 takes nothing, so no calls use up a line that is longer.
pub taken-below : {s s' : FrameSplitter} {h h' b : List ℕ} {t : List Call} (w : List ℕ) → Stands s h w → CanCount s 0 → Calls s h b t s' h' → CanCount s (length b)
taken-below w k l done = l
taken-below {s} {h = h} {b = b} w k l (next n r s₁ h₁ e rest) =
    let c : List ℕ = take n b in
    by-test (is_full s (length c))
    (λ f.
    let z : given_by r s₁ h₁ ≡ refused_as 13 s h = e ∙ feed-full s h c (stands_good k) f in
    let state : s₁ ≡ s = ap (λ (g : Given). g.state) z in
    let hold : h₁ ≡ h = ap (λ (g : Given). g.hold) z in
    let none : taken_of r ≡ 0 = ap (λ (g : Given). g.taken) z in
    let u : CanCount s₁ (length (drop (taken_of r) b)) = taken-below w (rw (state, hold) k) (rw state l) rest in
    rw (none, state) at u)
    (λ f.
    let a : Agrees s h c w (given_by r s₁ h₁) = rw e (one-call w c k f) in
    let most : CanCount s (length c) = can-count s (length c) f in
    let size : length (take (taken_of r) c) ≡ taken_of r = length-take-le (taken_of r) c a.within in
    let taken : s₁.counts.taken ≡ s.counts.taken + taken_of r = omega (arith, a.counts.taken) in
    let within : taken_of r ≤ length c = a.within in
    let u : CanCount s₁ (length (drop (taken_of r) b)) = taken-below _ a.stands (omega arith) rest in
    omega (arith, length-drop (taken_of r) b, length-take n b))

-- ---- the calls follow the line

pub record Follows (s₀ : FrameSplitter) (h w b : List ℕ) (t : List Call) (s : FrameSplitter) (h' : List ℕ) : Type 0 where
  pub hears : heard t ≡ hear (length h) w b
  pub takes : taken_by t ≡ b
  pub plain : Plain t
  pub stands : Stands s h' (opened w b)
  pub size : length h' ≡ length h
  pub counts : Tallied (length h) s₀.counts w b s.counts

-- nothing is taken, and what is held is the open bytes, where they fit
held-is : {s : FrameSplitter} {h w : List ℕ} → Stands s h w → s.counts.held ≡ within (length h) w
held-is (fits l n m k g) = rw (le-leb _ _ l) (g.held ∙ n)
held-is (long l n m g) = rw (lt-leb _ _ l) (g.held ∙ n)

no-moves : {s : FrameSplitter} {h w : List ℕ} → Stands s h w → Tallied (length h) s.counts w [] s.counts
no-moves k = record { taken = omega arith; dropped = omega arith; framed = omega arith; lost = omega arith; held = held-is k }

pub follows : {s s' : FrameSplitter} {h h' b : List ℕ} {t : List Call} (w : List ℕ) → Stands s h w → CanCount s (length b) → Calls s h b t s' h' → Follows s h w b t s' h'
follows w k l done = record { hears = refl; takes = refl; plain = tt; stands = k; size = refl; counts = no-moves k }
follows {s} {h = h} {b = b} w k l (next {t = t} n r s₁ h₁ e rest) =
    let c : List ℕ = take n b in
    let a : Agrees s h c w (given_by r s₁ h₁) = rw e (one-call w c k (free s b n l)) in
    let said : Said = said_of c h₁ (told_event r) in
    let m : List ℕ = take (taken_of r) b in
    let d : List ℕ = drop (taken_of r) b in
    let le : taken_of r ≤ n = omega (arith, a.within, length-take n b) in
    let same : take (taken_of r) c ≡ m = take-take (taken_of r) n b le in
    let long : taken_of r ≤ length b = omega (arith, a.within, length-take n b) in
    let size : length m ≡ taken_of r = length-take-le (taken_of r) b long in
    let all : m ++ d ≡ b = take-append-drop (taken_of r) b in
    let counts : Tallied (length h) s.counts w m s₁.counts = rw same at a.counts in
    let l' : CanCount s₁ (length d) = rest_below s s₁ b (taken_of r) long (rw size at counts.taken) l in
    let f = follows (opened w m) (rw same at a.stands) l' rest in
    record {
      hears = rw (size, a.heard, same, f.hears, a.size) (sym (hear-append (length h) w m d) ∙ ap (hear (length h) w) all);
      takes = ap (λ (x : List ℕ). m ++ x) f.takes ∙ all;
      plain = (λ z. only-more said (ap (λ (x : ℕ). at_last x said) (sym (ap length z) ∙ size) ∙ a.heard ∙ ap (hear (length h) w) (same ∙ z)), f.plain);
      stands = rw (ap (opened w) (sym all) ∙ opened-append w m d) f.stands;
      size = f.size ∙ a.size;
      counts = rw all at (tallied-append (length h) w m d counts (rw a.size at f.counts));
    }

-- from fresh
pub follows-fresh : {s : FrameSplitter} {h k b : List ℕ} {t : List Call} → Calls new h b t s k → Follows new h [] b t s k
follows-fresh {h = h} c = follows [] (stands-fresh h) (taken-below [] (stands-fresh h) (omega arith) c) c

-- ---- any cutting

-- what a state and a hold buffer that stand for w are, by w and the hold's length
module _ {s : FrameSplitter} {h w : List ℕ} where
  stands-count : Stands s h w → s.count ≡ cond (leb (length w) (length h)) (length w) 0
  stands-count (fits l n m k g) = rw (le-leb _ _ l) n
  stands-count (long l n m g) = rw (lt-leb _ _ l) n

  stands-mark : Stands s h w → s.skipping ≡ not (leb (length w) (length h))
  stands-mark (fits l n m k g) = rw (le-leb _ _ l) m
  stands-mark (long l n m g) = rw (lt-leb _ _ l) m

  stands-held : Stands s h w → take s.count h ≡ cond (leb (length w) (length h)) w []
  stands-held (fits l n m k g) = rw (le-leb _ _ l, n) k
  stands-held (long l n m g) = rw (lt-leb _ _ l, n)

-- the calls' answers but More are those that are heard
abbrev pub spoken : List Said → List Said
spoken [] = []
spoken (a ∷ l) = unless_more a ++ spoken l

pub spoken-append : (a b : List Said) → spoken (a ++ b) ≡ spoken a ++ spoken b
spoken-append [] b = refl
spoken-append (x ∷ a) b = rw (spoken-append a b, append_assoc)

pub spoken-silence : (n : ℕ) → spoken (silence n) ≡ []
spoken-silence zero = refl
spoken-silence (suc n) = spoken-silence n

pub spoken-last : (n : ℕ) (a : Said) → spoken (at_last n a) ≡ unless_more a
spoken-last zero (yes more) = refl
spoken-last zero (yes overlong) = refl
spoken-last zero (yes (frame w)) = refl
spoken-last zero (no k vs) = refl
spoken-last (suc n) a = rw (spoken-append (silence n) (a ∷ []), spoken-silence n, append-nil)

pub answers-heard : (t : List Call) → answers t ≡ spoken (heard t)
answers-heard [] = refl
answers-heard (c ∷ t) = rw (spoken-append (at_last (length c.took) c.said) (heard t), spoken-last (length c.took) c.said, answers-heard t)

-- Two cuttings of one stream, from fresh, with hold buffers of one length.
pub any-cutting : {h₁ h₂ b : List ℕ} {t₁ t₂ : List Call} {s₁ s₂ : FrameSplitter} {k₁ k₂ : List ℕ} → length h₁ ≡ length h₂
    → Calls new h₁ b t₁ s₁ k₁ → Calls new h₂ b t₂ s₂ k₂ → Alike t₁ t₂ s₁ s₂ k₁ k₂
any-cutting {h₁} {h₂} {b} {t₁} {t₂} {s₁} {s₂} {k₁} {k₂} e c₁ c₂ =
    let f₁ = follows-fresh c₁ in
    let f₂ = follows-fresh c₂ in
    let n : length k₁ ≡ length k₂ = f₁.size ∙ e ∙ sym f₂.size in
    let same : heard t₁ ≡ heard t₂ = f₁.hears ∙ ap (λ (H : ℕ). hear H [] b) e ∙ sym f₂.hears in
    record {
      hears = same;
      says = answers-heard t₁ ∙ ap spoken same ∙ sym (answers-heard t₂);
      state = λ i. record {
        count = (rw n at (stands-count f₁.stands) ∙ sym (stands-count f₂.stands)) i;
        skipping = (rw n at (stands-mark f₁.stands) ∙ sym (stands-mark f₂.stands)) i;
        counts = one-tallied (length h₂) [] b (rw e at f₁.counts) f₂.counts i;
      };
      held = rw n at (stands-held f₁.stands) ∙ sym (stands-held f₂.stands);
    }
