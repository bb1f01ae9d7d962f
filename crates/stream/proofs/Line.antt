-- The line, byte by byte, with no state but the bytes w of the frame that is open: none between two frames.
-- What it says at each byte is what the calls say, and the frames that end in it are what they count, however they are cut (proofs/Calls).
use mathlib.Core.Path.{◌≡◌, refl, sym, ap, ◌∙◌}
use mathlib.Core.Bool.{Bool, true, false, cond}
use mathlib.Core.List.{List, [], ◌∷◌, ◌++◌, append_assoc, append-nil}
use Prim.Native.Nat.{ℕ, zero, suc, ◌+◌, ◌≤◌, ◌<◌}
use native.Mathlib.Nat.{not-suc-le-zero, le_of_suc-le-suc, add-suc, zero-add, suc-add}
use native.Mathlib.Numerals.{add-one}
use lib.Dec.{eqb}
use lib.ListN.{length, take, replicate, replicate-append-replicate}
use Rattle.general.proofs.Cases.{by-test}
use Rattle.search.specs.First.{index_of}
use Rattle.splitter.specs.Feed.{more}
use Rattle.error.specs.Refusal.{yes}
use Rattle.stream.specs.Stream.{Said, answer_to}
use Rattle.stream.specs.Heard.{at_last}
use Rattle.stream.specs.Noise.{outside}

-- the open frame after one more byte
abbrev pub after : List ℕ → ℕ → List ℕ
after [] b = cond (eqb b 0xF0) (b ∷ []) []
after (x ∷ w) b = cond (eqb b 0xF1) [] (x ∷ (w ++ (b ∷ [])))

-- what is said at that byte
abbrev pub heard_at : ℕ → List ℕ → ℕ → Said
heard_at H [] b = yes more
heard_at H (x ∷ w) b = cond (eqb b 0xF1) (answer_to H (x ∷ (w ++ (b ∷ [])))) (yes more)

abbrev pub opened : List ℕ → List ℕ → List ℕ
opened w [] = w
opened w (b ∷ c) = opened (after w b) c

abbrev pub hear : ℕ → List ℕ → List ℕ → List Said
hear H w [] = []
hear H w (b ∷ c) = heard_at H w b ∷ hear H (after w b) c

-- the frame that ends at a byte, and those that end in some bytes
abbrev pub frame_at : List ℕ → ℕ → List (List ℕ)
frame_at [] b = []
frame_at (x ∷ w) b = cond (eqb b 0xF1) ((x ∷ (w ++ (b ∷ []))) ∷ []) []

abbrev pub frames_in : List ℕ → List ℕ → List (List ℕ)
frames_in w [] = []
frames_in w (b ∷ c) = frame_at w b ++ frames_in (after w b) c

-- whether a frame is open
abbrev pub begun : List ℕ → Bool
begun [] = false
begun (x ∷ w) = true

abbrev pub silence : ℕ → List Said
silence n = replicate n (yes more)

-- ---- stretches of bytes

pub opened-append : (w x y : List ℕ) → opened w (x ++ y) ≡ opened (opened w x) y
opened-append w [] y = refl
opened-append w (b ∷ x) y = opened-append (after w b) x y

pub frames-append : (w x y : List ℕ) → frames_in w (x ++ y) ≡ frames_in w x ++ frames_in (opened w x) y
frames-append w [] y = refl
frames-append w (b ∷ x) y = rw (frames-append (after w b) x y, append_assoc)

pub outside-append : (w x y : List ℕ) → outside (begun w) (x ++ y) ≡ outside (begun w) x + outside (begun (opened w x)) y
outside-append w [] y = sym (zero-add (outside (begun w) y))
outside-append [] (b ∷ x) y =
    by-test (eqb b 0xF0)
    (λ e. rw e (outside-append (b ∷ []) x y))
    (λ e. rw e (ap suc (outside-append [] x y) ∙ sym (suc-add (outside false x) (outside (begun (opened [] x)) y))))
outside-append (z ∷ w) (b ∷ x) y =
    by-test (eqb b 0xF1)
    (λ e. rw e (outside-append [] x y))
    (λ e. rw e (outside-append (z ∷ (w ++ (b ∷ []))) x y))

module _ (H : ℕ) where
  pub hear-append : (w x y : List ℕ) → hear H w (x ++ y) ≡ hear H w x ++ hear H (opened w x) y
  hear-append w [] y = refl
  hear-append w (b ∷ x) y = rw (hear-append (after w b) x y)

  pub hear-length : (w x : List ℕ) → length (hear H w x) ≡ length x
  hear-length w [] = refl
  hear-length w (b ∷ x) = ap suc (hear-length (after w b) x)

pub silent : (n : ℕ) → at_last n (yes more) ≡ silence n
silent zero = refl
silent (suc n) = replicate-append-replicate n 1 (yes more) ∙ rw (add-one n)

pub at-last-add : (i n : ℕ) (a : Said) → at_last (i + suc n) a ≡ silence i ++ at_last (suc n) a
at-last-add i n a = rw (add-suc i n, ← replicate-append-replicate {A = Said} i n (yes more), append_assoc)

-- ---- one frame

-- what is heard over the bytes c, what they leave open, the frames that end in them, and how many stand outside
abbrev pub Stretch : ℕ → List ℕ → List ℕ → List Said → List ℕ → List (List ℕ) → ℕ → Type 0
Stretch H w c heard left frames n = (hear H w c ≡ heard) × (opened w c ≡ left) × (frames_in w c ≡ frames) × (outside (begun w) c ≡ n)

-- between frames, up to the first F0
pub dropped : (H : ℕ) (c : List ℕ) → let i = index_of 0xF0 c in Stretch H [] (take i c) (silence i) [] [] i
unfolding index_of
dropped H [] = (refl, refl, refl, refl)
dropped H (b ∷ c) =
    by-test (eqb b 0xF0)
    (λ e. (simp e, simp e, simp e, simp e))
    (λ e.
    let r = dropped H c in (
      simp (e, r.0),
      rw e (ap (λ (t : Bool). opened (cond t (b ∷ []) []) (take (index_of 0xF0 c) c)) e ∙ r.1),
      rw e (ap (λ (t : Bool). frames_in (cond t (b ∷ []) []) (take (index_of 0xF0 c) c)) e ∙ r.2),
      simp (e, r.3),
    ))

module _ (H : ℕ) where
  -- an open frame that meets no F1
  pub goes_on : (x : ℕ) (w c : List ℕ) → length c ≤ index_of 0xF1 c → Stretch H (x ∷ w) c (silence (length c)) (x ∷ (w ++ c)) [] 0
  unfolding index_of
  goes_on x w [] l = (refl, rw append-nil, refl, refl)
  goes_on x w (b ∷ c) l =
      by-test (eqb b 0xF1)
      (λ e. absurd (not-suc-le-zero (rw e at l)))
      (λ e.
      let r = goes_on x (w ++ (b ∷ [])) c (le_of_suc-le-suc (rw e at l)) in
      (simp (e, r.0), simp (e, r.1, append_assoc), simp (e, r.2), simp (e, r.3)))

  -- an open frame up to its F1
  pub closes : (x : ℕ) (w c : List ℕ) → index_of 0xF1 c < length c → let n = suc (index_of 0xF1 c) in
      let f : List ℕ = x ∷ (w ++ take n c) in
      Stretch H (x ∷ w) (take n c) (at_last n (answer_to H f)) [] (f ∷ []) 0
  unfolding index_of
  closes x w [] l = absurd (not-suc-le-zero l)
  closes x w (b ∷ c) l =
      by-test (eqb b 0xF1)
      (λ e. (simp e, simp e, simp e, simp e))
      (λ e.
      let r = closes x (w ++ (b ∷ [])) c (le_of_suc-le-suc (rw e at l)) in
      (simp (e, r.0, append_assoc), simp (e, r.1), simp (e, r.2, append_assoc), simp (e, r.3)))

  -- the same of a frame that opens at the first byte
  pub opens-goes-on : (c : List ℕ) → suc (length c) ≤ index_of 0xF1 (0xF0 ∷ c) → Stretch H [] (0xF0 ∷ c) (silence (suc (length c))) (0xF0 ∷ c) [] 0
  unfolding index_of
  opens-goes-on c l =
      let r = goes_on 0xF0 [] c (le_of_suc-le-suc l) in
      (rw r.0, r.1, r.2, r.3)

  pub opens-closes : (c : List ℕ) → index_of 0xF1 (0xF0 ∷ c) < suc (length c) → let n = suc (index_of 0xF1 (0xF0 ∷ c)) in
      let f : List ℕ = take n (0xF0 ∷ c) in
      Stretch H [] f (at_last n (answer_to H f)) [] (f ∷ []) 0
  unfolding index_of
  opens-closes c l =
      let r = closes 0xF0 [] c (le_of_suc-le-suc l) in
      (rw r.0, r.1, r.2, r.3)
