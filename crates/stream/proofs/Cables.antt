-- Request 14: any two cuttings of one stream, from fresh, with hold buffers of one length, make the same session (`two-cables`).
-- More than that: at each byte of the stream both hear the same (`any-cutting`, proofs/Stream).
use mathlib.Core.Path.{◌≡◌, ap}
use mathlib.Core.List.{List, [], ◌∷◌, map, append-nil}
use Prim.Native.Nat.{ℕ, ◌^◌, ◌<◌}
use native.Mathlib.Omega.{arith}
use lib.Dec.{leb}
use lib.ListN.{length}
use Rattle.general.proofs.Cases.{by-test}
use Rattle.splitter.specs.declared.FrameSplitter.{FrameSplitter}
use Rattle.splitter.specs.Feed.{new}
use Rattle.stream.specs.Stream.{Call, Calls, Through, joined, answers, answer_to}
use Rattle.stream.specs.Rust.{rust_frames}
use Rattle.stream.specs.Cables.{Unrefused, SameSession, TwoCables}
use Rattle.stream.proofs.Calls.{stands-fresh, stands_good}
use Rattle.stream.proofs.Stream.{any-cutting}
use Rattle.stream.proofs.Rust.{as-the-rust}
use Rattle.stream.proofs.Ends.{feeds-calls, all_end}

-- ---- no call is refused

of-frames : (H : ℕ) (fs : List (List ℕ)) → Unrefused (map (answer_to H) fs)
of-frames H [] = tt
of-frames H (w ∷ fs) = by-test (leb (length w) H) (λ e. rw e (of-frames H fs)) (λ e. rw e (of-frames H fs))

none-refused : {h b : List ℕ} {t : List Call} {s : FrameSplitter} {k : List ℕ} → Calls new h b t s k → Unrefused (answers t)
none-refused {h} {b} {t} {s} {k} c =
    let all : Calls new h (joined (b ∷ [])) t s k = rw (append-nil b) c in
    rw (as-the-rust (b ∷ []) all) (of-frames (length h) (rust_frames [] (b ∷ [])))

-- ---- two cuttings

-- what the two cuttings share is `any-cutting`'s, and that no call is refused
same-session : {h h' b : List ℕ} {t t' : List Call} {s s' : FrameSplitter} {k k' : List ℕ} → length h ≡ length h'
    → Calls new h b t s k
    → Calls new h' b t' s' k'
    → SameSession t t' s s' k k'
same-session e c c' =
    let a = any-cutting e c c' in
    record {
      events = a.says;
      unrefused = none-refused c;
      count = ap (λ (s : FrameSplitter). s.count) a.state;
      mark = ap (λ (s : FrameSplitter). s.skipping) a.state;
      counts = ap (λ (s : FrameSplitter). s.counts) a.state;
      held = a.held;
    }

through-fresh : (h : List ℕ) (cs : List (List ℕ)) → length (joined cs) < 2 ^ 64 → Through new h cs
through-fresh h cs l = all_end cs new h (stands_good (stands-fresh h)) (omega arith)

pub two-cables : TwoCables
two-cables =
    record {
      by_calls = same-session;
      by_chunks = λ e j c c'. same-session e (rw j at (feeds-calls c)) (feeds-calls c');
      there_are = through-fresh;
    }
