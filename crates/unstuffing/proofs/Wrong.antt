-- A string that does not unstuff has a first wrong escape, and that is what is told: `first-told` and `first_found` are the two directions.
-- So 12 is told exactly where its FD has nothing behind it, and 4 with a code exactly where that code is behind it, 00 or another.
use Rattle.std.proofs.Common.{◌≡◌, ℕ, ◌+◌, List, [], ◌∷◌, ◌++◌, length, sym, refl, ap, ◌∙◌, subst, append_assoc, add-zero, zero-add, arith, length-append, eq-eqb}
use Rattle.error.specs.Refusal.{no, on_yes}
use Rattle.error.proofs.Tells.{part-refused}
use Rattle.general.proofs.Cases.{by-eq}
use Rattle.stuffing.specs.Stuff.{unescape_of}
use Rattle.unstuffing.specs.Unstuff.{wrong_escape, escape_by, step_by, unstuff}
use Rattle.unstuffing.specs.Escapes.{Proper, none, byte, escape, NoCode, FirstWrong, FirstCode}
use Rattle.unstuffing.proofs.Proper.{units}
use Rattle.unstuffing.proofs.Parting.{proper-append, unstuff-join}

-- ---- the first wrong escape is told

-- where it stands first
wrong-here : (i : ℕ) (l : List ℕ) → NoCode l → unstuff i (0xFD ∷ l) ≡ wrong_escape i l
unfolding step_by escape_by
wrong-here i [] w = refl
wrong-here i (c ∷ l) w = rw (eq-eqb (unescape_of c) 0 w)

-- it is a refusal: nothing is made of it
no_part : {A B : Type 0} (f : A → B) (o : ℕ) (l : List ℕ) → on_yes f (wrong_escape o l) ≡ wrong_escape o l
no_part f o [] = refl
no_part f o (c ∷ l) = refl

pub first-told : {s : List ℕ} {o : ℕ} {l : List ℕ} → FirstWrong s o l → unstuff 0 s ≡ wrong_escape o l
first-told {o = o} {l} f =
    let n : 0 + length f.earlier ≡ o = zero-add (length f.earlier) ∙ sym f.place in
    ap (unstuff 0) f.is ∙ unstuff-join 0 f.sound (0xFD ∷ l)
    ∙ ap (on_yes (λ us. units 0 f.sound ++ us)) (ap (λ (i : ℕ). unstuff i (0xFD ∷ l)) n ∙ wrong-here o l f.wrong)
    ∙ no_part (λ us. units 0 f.sound ++ us) o l

-- ---- what is told is the first wrong escape

-- the first wrong escape of the bytes from offset i on, and that it is what is told
pub record Found (i : ℕ) (s : List ℕ) (k : ℕ) (vs : List ℕ) : Type 0 where
  pub offset : ℕ
  pub behind : List ℕ
  pub first : FirstWrong s offset behind
  pub told : wrong_escape {A = List (ℕ × ℕ)} (i + offset) behind ≡ no k vs

found_here : (i b : ℕ) (l : List ℕ) (k : ℕ) (vs : List ℕ) → b ≡ 0xFD → NoCode l → unstuff i (b ∷ l) ≡ no k vs → Found i (b ∷ l) k vs
found_here i b l k vs h w e =
    record {
      offset = 0;
      behind = l;
      first = record { earlier = []; sound = none; is = ap (λ (x : ℕ). x ∷ l) h; place = refl; wrong = w };
      told = rw (add-zero i) (sym (wrong-here i l w) ∙ ap (λ (x : ℕ). unstuff i (x ∷ l)) (sym h) ∙ e);
    }

-- behind a proper string
found-behind : (i : ℕ) {a : List ℕ} → Proper a → (s : List ℕ) (k : ℕ) (vs : List ℕ) → Found (i + length a) s k vs → Found i (a ++ s) k vs
found-behind i {a} p s k vs f =
    let g = f.first in
    let n : i + (length a + f.offset) ≡ i + length a + f.offset = omega arith in
    record {
      offset = length a + f.offset;
      behind = f.behind;
      first =
          record {
            earlier = a ++ g.earlier;
            sound = proper-append p g.sound;
            is = ap (λ (r : List ℕ). a ++ r) g.is ∙ sym (append_assoc a g.earlier (0xFD ∷ f.behind));
            place = ap (λ (x : ℕ). length a + x) g.place ∙ sym (length-append a g.earlier);
            wrong = g.wrong;
          };
      told = rw n f.told;
    }

-- a refusal of both is one of what is behind
rest-no : (i : ℕ) {a : List ℕ} (p : Proper a) (s : List ℕ) (k : ℕ) (vs : List ℕ) → unstuff i (a ++ s) ≡ no k vs → unstuff (i + length a) s ≡ no k vs
rest-no i {a} p s k vs e = part-refused (λ us. units i p ++ us) (unstuff (i + length a) s) k vs (sym (unstuff-join i p s) ∙ e)

pub first_found : (i : ℕ) (s : List ℕ) (k : ℕ) (vs : List ℕ) → unstuff i s ≡ no k vs → Found i s k vs
first_found i [] k vs e = let z : ◌≡◌ {A = ℕ} 0 1 = cc in absurd (let q : ⊥ = omega arith in q)
first_found i (b ∷ []) k vs e =
    by-eq b 0xFD (λ h. found_here i b [] k vs h tt e)
    (λ h. let p = byte h none in found-behind i p [] k vs (first_found (i + 1) [] k vs (rest-no i p [] k vs e)))
first_found i (b ∷ c ∷ l) k vs e =
    by-eq b 0xFD
    (λ h.
    by-eq (unescape_of c) 0 (λ g. found_here i b (c ∷ l) k vs h g e)
    (λ g. let p = escape h g none in found-behind i p l k vs (first_found (i + 2) l k vs (rest-no i p l k vs e))))
    (λ h. let p = byte h none in found-behind i p (c ∷ l) k vs (first_found (i + 1) (c ∷ l) k vs (rest-no i p (c ∷ l) k vs e)))

-- ---- 12, and 4 with its code

-- what tells 12 has nothing behind its FD
only-cut : (s : List ℕ) (i j : ℕ) (l : List ℕ) → FirstWrong s i l → wrong_escape {A = List (ℕ × ℕ)} i l ≡ no 12 (j ∷ []) → FirstWrong s j []
only-cut s i j [] f e = let n : i ≡ j = cc in subst (λ (x : ℕ). FirstWrong s x []) n f
only-cut s i j (c ∷ l) f e = let z : ◌≡◌ {A = ℕ} 4 12 = cc in absurd (let q : ⊥ = omega arith in q)

-- what tells 4 has the code behind its FD
only_code : (s : List ℕ) (i j k : ℕ) (l : List ℕ) → FirstWrong s i l → wrong_escape {A = List (ℕ × ℕ)} i l ≡ no 4 (k ∷ j ∷ []) → FirstCode s j k
only_code s i j k [] f e = let z : ◌≡◌ {A = ℕ} 12 4 = cc in absurd (let q : ⊥ = omega arith in q)
only_code s i j k (c ∷ l) f e =
    let n : i ≡ j = cc in
    let m : c ≡ k = cc in
    record { rest = l; first = subst (λ (x : ℕ). FirstWrong s x (k ∷ l)) n (subst (λ (x : ℕ). FirstWrong s i (x ∷ l)) m f) }

pub told-cut : (s : List ℕ) (o : ℕ) → unstuff 0 s ≡ no 12 (o ∷ []) → FirstWrong s o []
told-cut s o e =
    let f = first_found 0 s 12 (o ∷ []) e in
    only-cut s f.offset o f.behind f.first (rw (zero-add f.offset) at f.told)

pub cut-told : (s : List ℕ) (o : ℕ) → FirstWrong s o [] → unstuff 0 s ≡ no 12 (o ∷ [])
cut-told s o f = first-told f

pub told-code : (s : List ℕ) (o c : ℕ) → unstuff 0 s ≡ no 4 (c ∷ o ∷ []) → FirstCode s o c
told-code s o c e =
    let f = first_found 0 s 4 (c ∷ o ∷ []) e in
    only_code s f.offset o c f.behind f.first (rw (zero-add f.offset) at f.told)

pub code-told : (s : List ℕ) (o c : ℕ) → FirstCode s o c → unstuff 0 s ≡ no 4 (c ∷ o ∷ [])
code-told s o c f = first-told f.first
