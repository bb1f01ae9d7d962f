-- Request 14: the same session over two cables. `TwoCables` is the whole statement, its hypotheses too, in the request's own words.
-- The theorem `two-cables` (proofs/Cables) has this type. What a call is, and what it says: specs/Stream.
use Rattle.std.specs.Prelude.{ℕ, ◌^◌, ◌<◌, ◌≡◌, List, [], ◌∷◌, length, take}
use Rattle.error.specs.Refusal.{yes, no}
use Rattle.splitter.specs.declared.FrameSplitter.{FrameSplitter}
use Rattle.splitter.specs.Feed.{new}
use Rattle.stream.specs.Stream.{Said, Call, Calls, Feeds, Through, joined, answers}

-- frames and Overlong answers alone: "CounterFull cannot occur", nor any other refusal
abbrev pub Unrefused : List Said → Type 0
Unrefused [] = Unit
Unrefused (yes a ∷ l) = Unrefused l
Unrefused (no n vs ∷ l) = ⊥

-- Two runs of calls, t and t', that end in the states s and s' and the hold buffers k and k'. "More answers are left out of the comparison":
-- `answers` leaves them out. "Bytes of the hold buffer past the count may differ": only those before it are compared.
pub record SameSession (t t' : List Call) (s s' : FrameSplitter) (k k' : List ℕ) : Type 0 where
  -- "the same sequence of frames, byte by byte, the same Overlong answers among them,"
  pub events : answers t ≡ answers t'
  pub unrefused : Unrefused (answers t)
  -- "and at the end the same count, mark, noise counts and held bytes."
  pub count : s.count ≡ s'.count
  pub mark : s.skipping ≡ s'.skipping
  pub counts : s.counts ≡ s'.counts
  pub held : take s.count k ≡ take s'.count k'

-- "For the same bytes from fresh, with hold buffers of equal length, and every untaken rest offered again, any two cuttings must give" that
pub record TwoCables : Type 0 where
  -- by calls, each of which is offered the next n bytes of what is not yet taken, for any n
  pub by_calls : {h h' b : List ℕ} {t t' : List Call} {s s' : FrameSplitter} {k k' : List ℕ} → length h ≡ length h'
      → Calls new h b t s k
      → Calls new h' b t' s' k'
      → SameSession t t' s s' k k'
  -- by chunks, each of which is offered until nothing of it is left
  pub by_chunks : {h h' : List ℕ} {cs cs' : List (List ℕ)} {t t' : List Call} {s s' : FrameSplitter} {k k' : List ℕ} → length h ≡ length h'
      → joined cs ≡ joined cs'
      → Feeds new h cs t s k
      → Feeds new h' cs' t' s' k'
      → SameSession t t' s s' k k'
  -- "and the line is short enough": over each that is shorter than 2^64 bytes, however it is cut, there are such calls
  pub there_are : (h : List ℕ) (cs : List (List ℕ)) → length (joined cs) < 2 ^ 64 → Through new h cs
