-- The line after noise, and over a wire: an unclosed start that is pending is what is open, and a wire is answered at its end marker.
-- A sound frame fits, so with nothing open it is answered whole.
use mathlib.Core.Path.{◌≡◌, refl, sym, ap, subst}
use mathlib.Core.Bool.{true, false, cond}
use mathlib.Core.List.{List, [], ◌∷◌, ◌++◌, append_assoc, append-nil}
use Prim.Native.Nat.{ℕ, suc, ◌≤◌}
use native.Mathlib.Omega.{arith}
use lib.Dec.{eqb}
use lib.ListN.{length, take, length-append}
use lib.Seq.{take-length}
use borrow.Author.Tests.{eqb-true, le-leb}
use Rattle.general.proofs.Cases.{by-test}
use Rattle.frame.proofs.Wires.{Framed, wire-framed, written_is}
use Rattle.error.specs.Refusal.{yes}
use Rattle.search.specs.First.{index_of, has}
use Rattle.splitter.specs.Feed.{frame}
use Rattle.stream.specs.Stream.{answer_to}
use Rattle.stream.specs.Heard.{at_last}
use Rattle.stream.proofs.Line.{opened, hear, closes, opens-closes}
use Rattle.recovery.specs.Recovery.{Sent, pending}

-- ---- after noise

record After (l : List ℕ) : Type 0 where
  shut : opened [] l ≡ pending l
  inside : (x : ℕ) (w : List ℕ) → opened (x ∷ w) l ≡ cond (has 0xF1 l) (pending l) (x ∷ (w ++ l))

after_noise : (l : List ℕ) → After l
after_noise [] = record { shut = refl; inside = λ x w. ap (λ (v : List ℕ). x ∷ v) (sym (append-nil w)) }
after_noise (b ∷ l) =
    let r = after_noise l in
    record {
      shut =
          by-test (eqb b 0xF0)
          (λ e. rw (e, r.inside b []) (by-test (has 0xF1 l) (λ t. rw t) (λ t. rw t)))
          (λ e. rw e r.shut);
      inside = λ x w.
          by-test (eqb b 0xF1)
          (λ e.
          let n : eqb b 0xF0 ≡ false = rw (eqb-true b 0xF1 e) in
          rw (e, n) r.shut)
          (λ e.
          rw (e, r.inside x (w ++ (b ∷ [])))
          (by-test (has 0xF1 l) (λ t. rw t (by-test (eqb b 0xF0) (λ y. rw y) (λ y. rw y))) (λ t. rw (t, append_assoc))));
    }

-- an unclosed start that is pending is the frame that is open
pub open_after : (noise : List ℕ) → opened [] noise ≡ pending noise
open_after noise = (after_noise noise).shut

-- ---- over a wire

end-at : (m : List ℕ) → has 0xF1 m ≡ false → index_of 0xF1 (m ++ (0xF1 ∷ [])) ≡ length m
unfolding index_of
end-at [] e = refl
end-at (b ∷ m) e =
    by-test (eqb b 0xF1)
    (λ t.
    let z : true ≡ false = rw t at e in
    cc)
    (λ t. rw (t, end-at m (rw t at e)))

-- an end marker at the end of w, and none before
end_is : {w : List ℕ} → (k : Framed w) → suc (index_of 0xF1 w) ≡ length w
end_is {w} k =
    let m : List ℕ = 0xF0 ∷ k.inner in
    let e : index_of 0xF1 (m ++ (0xF1 ∷ [])) ≡ length m = end-at m k.no_end in
    rw k.is (omega (arith, e, length-append m (0xF1 ∷ [])))

module _ (H : ℕ) where
  pub record Over (o w : List ℕ) : Type 0 where
    pub hears : hear H o w ≡ at_last (length w) (answer_to H (o ++ w))
    pub shut : opened o w ≡ []

  all_of : (o w : List ℕ) (n : ℕ) → n ≡ length w → hear H o (take n w) ≡ at_last n (answer_to H (o ++ take n w)) → opened o (take n w) ≡ [] → Over o w
  all_of o w n e p q =
      record {
        hears = rw (take-length w) at (subst (λ (k : ℕ). hear H o (take k w) ≡ at_last k (answer_to H (o ++ take k w))) e p);
        shut = rw (take-length w) at (subst (λ (k : ℕ). opened o (take k w) ≡ []) e q);
      }

  pub over-wire : (o : List ℕ) {w : List ℕ} → Framed w → Over o w
  over-wire [] {w} k =
      let c : List ℕ = k.inner ++ (0xF1 ∷ []) in
      let n : suc (index_of 0xF1 (0xF0 ∷ c)) ≡ length (0xF0 ∷ c) = rw k.is at (end_is k) in
      let r = opens-closes H c (omega arith) in
      rw k.is (all_of [] (0xF0 ∷ c) (suc (index_of 0xF1 (0xF0 ∷ c))) n r.0 r.1)
  over-wire (y ∷ o) {w} k =
      let n = end_is k in
      let r = closes H y o w (omega arith) in
      all_of (y ∷ o) w (suc (index_of 0xF1 w)) n r.0 r.1

  pub fits_said : {w : List ℕ} → length w ≤ H → answer_to H w ≡ yes (frame w)
  fits_said {w} l = rw (le-leb (length w) H l)

pub sent-framed : {H : ℕ} (f : Sent H) → Framed f.wire
sent-framed f = rw (written_is f.fields f.room f.written) (wire-framed f.fields)
