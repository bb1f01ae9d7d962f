-- However the stream is cut, for the Rust and for the port, the port's answers are the Rust's frames, those longer than H replaced.
-- `line-says` has what a stream calls for, `as-the-rust` what calls over it answer.
use mathlib.Core.Path.{◌≡◌, refl, sym, ap, subst, ◌∙◌}
use mathlib.Core.Bool.{false}
use mathlib.Core.List.{List, [], ◌∷◌, ◌++◌, map, map-append}
use Prim.Native.Nat.{ℕ, zero, suc, ◌+◌, ◌≤◌, ◌<◌}
use native.Mathlib.Omega.{arith}
use native.Mathlib.Nat.{not-suc-le-zero}
use native.Mathlib.Numerals.{add-one}
use lib.Dec.{eqb, leb}
use lib.ListN.{length, take, drop, length-drop, drop_of_length-le, take-append-drop}
use lib.Seq.{drop-drop}
use borrow.Author.Tests.{eqb-true, lt-ltb, le-ltb}
use Rattle.general.proofs.Cases.{by-test, by-lt}
use Rattle.splitter.specs.declared.FrameSplitter.{FrameSplitter}
use Rattle.search.specs.First.{index_of}
use Rattle.search.proofs.First.{found}
use Rattle.splitter.specs.Feed.{new}
use Rattle.stream.specs.Rust.{Rust, left, push, turn, turns, rust_feed, rust_frames, rust_left}
use Rattle.stream.specs.Stream.{Call, Calls, joined, unless_more, answers, answer_to}
use Rattle.stream.proofs.Line.{after, opened, heard_at, hear, frame_at, frames_in, opened-append, frames-append}
use Rattle.stream.proofs.Calls.{Closed, Unclosed, closes_at, goes_at}
use Rattle.stream.proofs.Stream.{follows-fresh, spoken, answers-heard}

-- ---- one turn of the loop

-- an F0 is no F1
end_of : (d r : List ℕ) → d ≡ 0xF0 ∷ r → index_of 0xF1 d ≡ suc (index_of 0xF1 (drop 1 d))
unfolding index_of
end_of d r e = rw e

-- the start marker, and how far behind it the end marker is
abbrev start : List ℕ → ℕ
start b = index_of 0xF0 b

abbrev end : List ℕ → ℕ
end b = index_of 0xF1 (drop (start b) b)

module _ (again : List ℕ → Rust) (b : List ℕ) where
  end_is : start b < length b → 1 + index_of 0xF1 (drop 1 (drop (start b) b)) ≡ end b
  end_is l = omega (arith, end_of (drop (start b) b) (drop (suc (start b)) b) (found 0xF0 b l))

  turn-closes : start b + end b < length b → turn again b ≡ push (take (suc (end b)) (drop (start b) b)) (again (drop (start b + suc (end b)) b))
  turn-closes l =
      let i = start b in
      let x = end b in
      let k : i < length b = omega arith in
      let m : x < length (drop i b) = simp length-drop (omega arith) in
      rw (lt-ltb _ _ k, end_is k, lt-ltb _ _ m, add-one x, drop-drop (suc x) i b)

  turn-goes : length b ≤ start b + end b → turn again b ≡ left [] (drop (start b) b)
  turn-goes l =
      let i = start b in
      let x = end b in
      by-lt i (length b)
      (λ k.
      let m : length (drop i b) ≤ x = simp length-drop (omega arith) in
      rw (lt-ltb _ _ k, end_is k, le-ltb _ _ m))
      (λ k. rw (le-ltb _ _ k, drop_of_length-le b k))

-- ---- the loop beside the line

module _ (H : ℕ) where
  said-to : (w : List ℕ) → unless_more (answer_to H w) ≡ answer_to H w ∷ []
  said-to w = by-test (leb (length w) H) (λ e. rw e) (λ e. rw e)

  -- what is heard over some bytes, but More, are the answers to the frames that end in them
  said_at : (w : List ℕ) (b : ℕ) → unless_more (heard_at H w b) ≡ map (answer_to H) (frame_at w b)
  said_at [] b = refl
  said_at (x ∷ w) b = by-test (eqb b 0xF1) (λ e. rw e (said-to (x ∷ (w ++ (b ∷ []))))) (λ e. rw e)

  says-frames : (w b : List ℕ) → spoken (hear H w b) ≡ map (answer_to H) (frames_in w b)
  says-frames w [] = refl
  says-frames w (b ∷ c) = rw (said_at w b, says-frames (after w b) c) (sym (map-append (answer_to H) (frame_at w b) (frames_in (after w b) c)))

record Loops (b : List ℕ) (r : Rust) : Type 0 where
  frames : frames_in [] b ≡ r.frames
  leaves : opened [] b ≡ r.buf

-- (where a frame lies does not depend on H: any will do)
loops : (n : ℕ) (b : List ℕ) → length b < n → Loops b (turns n b)
unfolding turns
loops zero b l = absurd (not-suc-le-zero l)
loops (suc n) b l =
    let i = start b in
    let x = end b in
    let m = i + suc x in
    by-lt (i + x) (length b)
    (λ k.
    let p : List ℕ = take (suc x) (drop i b) in
    let c : Closed 0 [] b m p = closes_at 0 [] b k in
    let again : Loops (drop m b) (turns n (drop m b)) = loops n (drop m b) (simp length-drop (omega arith)) in
    let all : b ≡ take m b ++ drop m b = sym (take-append-drop m b) in
    rw (turn-closes (turns n) b k) (record {
      frames = ap (frames_in []) all ∙ rw (frames-append, c.frames, c.shut, again.frames);
      leaves = ap (opened []) all ∙ rw (opened-append, c.shut) again.leaves;
    }))
    (λ k.
    let c : Unclosed 0 [] b (drop i b) = goes_at 0 [] b k in
    rw (turn-goes (turns n) b k) (record { frames = c.frames; leaves = c.still }))

-- ---- the buffer that the Rust keeps is the frame that is open

-- in such bytes no frame ends, and they stay open
record Begun (w : List ℕ) : Type 0 where
  quiet : frames_in [] w ≡ []
  still : opened [] w ≡ w

longer : (x : ℕ) (w : List ℕ) (b : ℕ) → eqb b 0xF1 ≡ false → Begun (x ∷ w) → Begun ((x ∷ w) ++ (b ∷ []))
longer x w b e k =
    record {
      quiet = frames-append [] (x ∷ w) (b ∷ []) ∙ rw k.quiet (ap (λ (v : List ℕ). frames_in v (b ∷ [])) k.still ∙ rw e);
      still = opened-append [] (x ∷ w) (b ∷ []) ∙ rw (k.still, e);
    }

begins : (w : List ℕ) (b : ℕ) → Begun w → Begun (after w b)
begins [] b k =
    by-test (eqb b 0xF0)
    (λ e. rw (e, eqb-true b 0xF0 e) (record { quiet = refl; still = refl }))
    (λ e. rw e k)
begins (x ∷ w) b k =
    by-test (eqb b 0xF1)
    (λ e. rw e (record { quiet = refl; still = refl }))
    (λ e. rw e (longer x w b e k))

has-begun : (w b : List ℕ) → Begun w → Begun (opened w b)
has-begun w [] k = k
has-begun w (b ∷ c) k = has-begun (after w b) c (begins w b k)

-- one `feed` of the Rust, whose buffer holds w, beside the line
feeds : (w d : List ℕ) → Begun w → (frames_in w d ≡ (rust_feed w d).frames) × (opened w d ≡ (rust_feed w d).buf)
feeds w d k =
    let r : Loops (w ++ d) (rust_feed w d) = loops (suc (length (w ++ d))) (w ++ d) (omega arith) in
    (rw (frames-append, k.still, k.quiet) at r.frames, rw (opened-append, k.still) at r.leaves)

rust-frames : (w : List ℕ) (ds : List (List ℕ)) → Begun w → frames_in w (joined ds) ≡ rust_frames w ds
rust-frames w [] k = refl
rust-frames w (d ∷ ds) k =
    let f = feeds w d k in
    let rest = rust-frames (opened w d) ds (has-begun w d k) in
    frames-append w d (joined ds) ∙ rw (f.0, rest, f.1)

rust-leaves : (w : List ℕ) (ds : List (List ℕ)) → Begun w → opened w (joined ds) ≡ rust_left w ds
rust-leaves w [] k = refl
rust-leaves w (d ∷ ds) k =
    let f = feeds w d k in
    opened-append w d (joined ds)
    ∙ ap (λ (b : List ℕ). opened b (joined ds)) f.1
    ∙ rust-leaves (rust_feed w d).buf ds (subst Begun f.1 (has-begun w d k))

-- ---- the line, whole

-- the frames that end in it are the Rust's
pub line-frames : (ds : List (List ℕ)) → frames_in [] (joined ds) ≡ rust_frames [] ds
line-frames ds = rust-frames [] ds (record { quiet = refl; still = refl })

pub line-says : (H : ℕ) (ds : List (List ℕ)) → spoken (hear H [] (joined ds)) ≡ map (answer_to H) (rust_frames [] ds)
line-says H ds = says-frames H [] (joined ds) ∙ ap (map (answer_to H)) (line-frames ds)

-- what is left open is the buffer that the Rust keeps
pub line-leaves : (ds : List (List ℕ)) → opened [] (joined ds) ≡ rust_left [] ds
line-leaves ds = rust-leaves [] ds (record { quiet = refl; still = refl })

-- The Rust is fed the data ds, one after the other; the port the same bytes, from fresh, cut in any way.
pub as-the-rust : {h : List ℕ} {t : List Call} {s : FrameSplitter} {k : List ℕ} (ds : List (List ℕ)) → Calls new h (joined ds) t s k
    → answers t ≡ map (answer_to (length h)) (rust_frames [] ds)
as-the-rust {h} {t} ds c = answers-heard t ∙ ap spoken (follows-fresh c).hears ∙ line-says (length h) ds
