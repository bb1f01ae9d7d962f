-- What is heard at a byte, but More, is the answer of the one call that took this byte last.
-- `split` cuts a run of calls at such an answer.
use mathlib.Core.Path.{◌≡◌, refl, sym, ap, ◌∙◌}
use mathlib.Core.List.{List, [], ◌∷◌, ◌++◌, append_assoc}
use Prim.Native.Nat.{ℕ, zero, suc, ◌+◌, ◌<◌}
use native.Mathlib.Omega.{arith}
use lib.ListN.{length, length-append}
use Rattle.splitter.specs.Feed.{more}
use Rattle.error.specs.Refusal.{yes}
use Rattle.stream.specs.Stream.{Said, Call, call, taken_by, unless_more, answers}
use Rattle.stream.specs.Heard.{at_last, heard}
use Rattle.stream.proofs.Line.{silence}
use Rattle.stream.proofs.Stream.{Plain, spoken}

-- an answer s behind m bytes of silence, in a list where a stands behind x: it is that answer, or it stands before it, or a is More
data Where (m : ℕ) (s : Said) (u x : List Said) (a : Said) (y : List Said) : Type 0 where
  here : s ≡ a → u ≡ y → length x ≡ m → spoken x ≡ [] → Where m s u x a y
  before : (x' : List Said) → length x ≡ suc m + length x' → spoken x ≡ unless_more s ++ spoken x' → u ≡ x' ++ (a ∷ y) → Where m s u x a y
  silent : a ≡ yes more → Where m s u x a y

later : (m : ℕ) (s : Said) (u : List Said) (z : Said) (x : List Said) (a : Said) (y : List Said) → yes more ≡ z → Where m s u x a y
    → Where (suc m) s u (z ∷ x) a y
later m s u z x a y e (here p q n k) = here p q (ap suc n) (rw (← e) k)
later m s u z x a y e (before x' n k r) = before x' (omega arith) (rw (← e) k) r
later m s u z x a y e (silent p) = silent p

find : (m : ℕ) (s : Said) (u x : List Said) (a : Said) (y : List Said) → silence m ++ (s ∷ u) ≡ x ++ (a ∷ y) → Where m s u x a y
find zero s u [] a y e = here (cc) (cc) refl refl
find zero s u (z ∷ x) a y e =
    let p : s ≡ z = cc in
    before x (omega arith) (rw p) (cc)
find (suc m) s u [] a y e = silent (let p : yes more ≡ a = cc in sym p)
find (suc m) s u (z ∷ x) a y e = later m s u z x a y (cc) (find m s u x a y (cc))

-- the call that a is the answer of: those before it say what is heard in x; it and those before it take one byte for each of x, and one more
pub record Split (x : List Said) (a : Said) (y : List Said) (t : List Call) : Type 0 where
  pub before : List Call
  pub took : List ℕ
  pub after : List Call
  pub calls : t ≡ before ++ (call took a ∷ after)
  pub said : answers before ≡ spoken x
  pub size : length (taken_by before ++ took) ≡ suc (length x)
  pub some : 0 < length took
  pub rest : heard after ≡ y
  pub plain : Plain after

one_more : (l : List ℕ) (s : Said) (t : List Call) (x x' : List Said) (a : Said) (y : List Said) → length x ≡ length l + length x'
    → spoken x ≡ unless_more s ++ spoken x'
    → Split x' a y t → Split x a y (call l s ∷ t)
one_more l s t x x' a y n k r =
    record {
      before = call l s ∷ r.before;
      took = r.took;
      after = r.after;
      calls = ap (λ (v : List Call). call l s ∷ v) r.calls;
      said = rw (r.said, k);
      size = ap length (append_assoc l (taken_by r.before) r.took) ∙ length-append l (taken_by r.before ++ r.took) ∙ omega (arith, r.size);
      some = r.some;
      rest = r.rest;
      plain = r.plain;
    }

at_call : (b : ℕ) (l : List ℕ) (s : Said) (t : List Call) (x : List Said) (a : Said) (y : List Said) → Plain t → (a ≡ yes more → ⊥)
    → ((x' : List Said) → heard t ≡ x' ++ (a ∷ y) → Split x' a y t) → Where (length l) s (heard t) x a y → Split x a y (call (b ∷ l) s ∷ t)
at_call b l s t x a y p n again (here e u m k) =
    record { before = []; took = b ∷ l; after = t; calls = rw e; said = sym k; size = ap suc (sym m); some = omega arith; rest = u; plain = p }
at_call b l s t x a y p n again (before x' m k u) = one_more (b ∷ l) s t x x' a y m k (again x' u)
at_call b l s t x a y p n again (silent e) = absurd (n e)

at_first : (l : List ℕ) (s : Said) (t : List Call) (x : List Said) (a : Said) (y : List Said) → (l ≡ [] → s ≡ yes more) → Plain t → (a ≡ yes more → ⊥)
    → ((x' : List Said) → heard t ≡ x' ++ (a ∷ y) → Split x' a y t) → at_last (length l) s ++ heard t ≡ x ++ (a ∷ y) → Split x a y (call l s ∷ t)
at_first [] s t x a y q p n again e =
    let m : s ≡ yes more = q refl in
    one_more [] s t x x a y (omega arith) (rw m) (again x (rw m at e))
at_first (b ∷ l) s t x a y q p n again e =
    at_call b l s t x a y p n again (find (length l) s (heard t) x a y (sym (append_assoc (silence (length l)) (s ∷ []) (heard t)) ∙ e))

pub split : (t : List Call) → Plain t → (x : List Said) (a : Said) (y : List Said) → (a ≡ yes more → ⊥) → heard t ≡ x ++ (a ∷ y) → Split x a y t
split [] p x a y n e = absurd (omega (arith, ap length e, length-append x (a ∷ y)))
split (c ∷ t) p x a y n e = at_first c.took c.said t x a y p.0 p.1 n (λ x' e'. split t p.1 x' a y n e') e
