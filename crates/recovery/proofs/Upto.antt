-- From what is heard at each byte to the calls: those up to an answer that falls at the end of some bytes, and those after it.
-- `upto` is for a frame's end marker after silence, `past` for noise, up to its last answer.
use mathlib.Core.Path.{◌≡◌, refl, sym, ap, ◌∙◌}
use mathlib.Core.List.{List, [], ◌∷◌, ◌++◌, append_assoc, append-nil}
use Prim.Native.Nat.{ℕ, suc, ◌+◌, ◌<◌}
use native.Mathlib.Omega.{arith}
use lib.ListN.{length, take, drop, length-append, length-drop, length-replicate, take-append-drop}
use lib.Seq.{take_at, drop_at, length-take-le}
use Rattle.error.specs.Refusal.{yes, no}
use Rattle.splitter.specs.Feed.{more, overlong, frame}
use Rattle.stream.specs.Stream.{Said, Call, call, taken_by, unless_more, answers}
use Rattle.stream.specs.Heard.{heard}
use Rattle.stream.proofs.Line.{silence}
use Rattle.stream.proofs.Stream.{Plain, spoken, spoken-append, spoken-silence}
use Rattle.stream.proofs.Heard.{Split, split}
use Rattle.recovery.specs.Recovery.{Takes}

-- ---- lists

same-front : (a b c d : List ℕ) → length a ≡ length c → a ++ b ≡ c ++ d → (a ≡ c) × (b ≡ d)
same-front a b c d n e = (
  sym (take_at a b (length c) n) ∙ ap (take (length c)) e ∙ take_at c d (length c) refl,
  sym (drop_at a b (length c) n) ∙ ap (drop (length c)) e ∙ drop_at c d (length c) refl,
)

-- what stands at the end of a string ends as it does
record Ends (l : List ℕ) (z : ℕ) : Type 0 where
  front : List ℕ
  is : l ≡ front ++ (z ∷ [])

ends_with : (u l p : List ℕ) (z : ℕ) → 0 < length l → u ++ l ≡ p ++ (z ∷ []) → Ends l z
ends_with [] l p z h e = record { front = p; is = e }
ends_with (x ∷ u) l [] z h e = absurd (omega (arith, ap length e, length-append u l))
ends_with (x ∷ u) l (y ∷ p) z h e = ends_with u l p z h (cc)

taken-append : (a b : List Call) → taken_by (a ++ b) ≡ taken_by a ++ taken_by b
taken-append [] b = refl
taken-append (c ∷ a) b = rw (taken-append a b, append_assoc)

answers-append : (a b : List Call) → answers (a ++ b) ≡ answers a ++ answers b
answers-append [] b = refl
answers-append (c ∷ a) b = rw (answers-append a b, append_assoc)

-- ---- the calls up to the answer a that falls at the end of the bytes v; what they take, and what those after them take and hear

module _ {x y : List Said} {a : Said} {t : List Call} (s : Split x a y t) (v r : List ℕ) (n : length v ≡ suc (length x)) (b : taken_by t ≡ v ++ r) where
  abbrev upto-calls : List Call
  upto-calls = s.before ++ (call s.took a ∷ [])

  upto_is : t ≡ upto-calls ++ s.after
  upto_is = s.calls ∙ sym (append_assoc s.before (call s.took a ∷ []) s.after)

  upto-bytes : (taken_by s.before ++ s.took ≡ v) × (taken_by s.after ≡ r)
  upto-bytes =
      let u = taken_by s.before in
      let k : u ++ (s.took ++ taken_by s.after) ≡ v ++ r = sym (ap taken_by s.calls ∙ taken-append s.before (call s.took a ∷ s.after)) ∙ b in
      same-front (u ++ s.took) (taken_by s.after) v r (s.size ∙ sym n) (append_assoc u s.took (taken_by s.after) ∙ k)

-- ---- a frame's end after silence

pub record Upto (v : List ℕ) (a : Said) (r : List ℕ) (y : List Said) (t : List Call) : Type 0 where
  pub first : List Call
  pub later : List Call
  pub calls : t ≡ first ++ later
  pub takes : Takes v a first
  pub rest : taken_by later ≡ r
  pub hears : heard later ≡ y
  pub plain : Plain later

taking : (before : List Call) (took v : List ℕ) (a : Said) → taken_by before ++ took ≡ v → answers before ≡ [] → Ends took 0xF1
    → Takes v a (before ++ (call took a ∷ []))
taking before took v a e k l =
    record {
      before = before;
      part = l.front;
      calls = ap (λ (x : List ℕ). before ++ (call x a ∷ [])) l.is;
      bytes = ap (λ (x : List ℕ). taken_by before ++ x) (sym l.is) ∙ e;
      between = k;
    }

pub said-as : {v : List ℕ} {a b : Said} {t : List Call} → Takes v a t → a ≡ b → Takes v b t
said-as k e = rw (← e) k

pub upto : (p r : List ℕ) (a : Said) (y : List Said) (t : List Call) → Plain t → (a ≡ yes more → ⊥)
    → heard t ≡ silence (length p) ++ (a ∷ y) → taken_by t ≡ (p ++ (0xF1 ∷ [])) ++ r → Upto (p ++ (0xF1 ∷ [])) a r y t
upto p r a y t plain h e b =
    let v : List ℕ = p ++ (0xF1 ∷ []) in
    let s = split t plain (silence (length p)) a y h e in
    let n : length v ≡ suc (length (silence (length p))) = omega (arith, length-append p (0xF1 ∷ []), length-replicate {A = Said} (length p) (yes more)) in
    let f = upto-bytes s v r n b in
    record {
      first = upto-calls s v r n b;
      later = s.after;
      calls = upto_is s v r n b;
      takes =
          taking s.before s.took v a f.0 (s.said ∙ spoken-silence (length p))
          (ends_with (taken_by s.before) s.took p 0xF1 s.some f.0);
      rest = f.1;
      hears = s.rest;
      plain = s.plain;
    }

-- ---- the last answer in what is heard

data LastSaid (x : List Said) : Type 0 where
  silent : x ≡ silence (length x) → LastSaid x
  said : (y : List Said) (a : Said) (n : ℕ) → (a ≡ yes more → ⊥) → unless_more a ≡ a ∷ [] → x ≡ y ++ (a ∷ silence n) → LastSaid x

one-before : (s : Said) (x : List Said) → LastSaid x → LastSaid (s ∷ x)
one-before s x (said y a n h k e) = said (s ∷ y) a n h k (ap (λ (l : List Said). s ∷ l) e)
one-before (yes more) x (silent e) = silent (ap (λ (l : List Said). yes more ∷ l) e)
one-before (yes overlong) x (silent e) =
    said [] (yes overlong) (length x) (λ q. let z : ◌≡◌ {A = ℕ} 0 1 = cc in omega arith) refl (ap (λ (l : List Said). yes overlong ∷ l) e)
one-before (yes (frame w)) x (silent e) =
    said [] (yes (frame w)) (length x) (λ q. let z : ◌≡◌ {A = ℕ} 0 1 = cc in omega arith) refl (ap (λ (l : List Said). yes (frame w) ∷ l) e)
one-before (no k vs) x (silent e) =
    said [] (no k vs) (length x) (λ q. let z : ◌≡◌ {A = ℕ} 0 1 = cc in omega arith) refl (ap (λ (l : List Said). no k vs ∷ l) e)

last-said : (x : List Said) → LastSaid x
last-said [] = silent refl
last-said (s ∷ x) = one-before s x (last-said x)

-- ---- over noise that hears x: the calls up to its last answer, and those after it

pub record Past (noise : List ℕ) (x : List Said) (r : List ℕ) (y : List Said) (t : List Call) : Type 0 where
  pub noisy : List Call
  pub after : List Call
  pub left : List ℕ
  pub calls : t ≡ noisy ++ after
  pub apart : taken_by noisy ++ left ≡ noise
  pub says : answers noisy ≡ spoken x
  pub hears : heard after ≡ silence (length left) ++ y
  pub rest : taken_by after ≡ left ++ r
  pub plain : Plain after

module _ (noise r : List ℕ) (y : List Said) (t : List Call) (plain : Plain t) (b : taken_by t ≡ noise ++ r) where
  past-last : (x : List Said) → length x ≡ length noise → heard t ≡ x ++ y → LastSaid x → Past noise x r y t
  past-last x m e (silent q) =
      record {
        noisy = [];
        after = t;
        left = noise;
        calls = refl;
        apart = refl;
        says = sym (ap spoken q ∙ spoken-silence (length x));
        hears = e ∙ ap (λ (l : List Said). l ++ y) q ∙ ap (λ (n : ℕ). silence n ++ y) m;
        rest = b;
        plain = plain;
      }
  past-last x m e (said z a n h u q) =
      let k = suc (length z) in
      let size : length x ≡ k + n = ap length q ∙ omega (arith, length-append z (a ∷ silence n), length-replicate {A = Said} n (yes more)) in
      let s : Split z a (silence n ++ y) t = split t plain z a (silence n ++ y) h (e ∙ ap (λ (l : List Said). l ++ y) q ∙ append_assoc z (a ∷ silence n) y) in
      let front : length (take k noise) ≡ k = length-take-le k noise (omega arith) in
      let back : length (drop k noise) ≡ n = length-drop k noise ∙ omega arith in
      let all : take k noise ++ drop k noise ≡ noise = take-append-drop k noise in
      let c : taken_by t ≡ take k noise ++ (drop k noise ++ r) = b ∙ ap (λ (l : List ℕ). l ++ r) (sym all) ∙ append_assoc (take k noise) (drop k noise) r in
      let f = upto-bytes s (take k noise) (drop k noise ++ r) front c in
      record {
        noisy = upto-calls s (take k noise) (drop k noise ++ r) front c;
        after = s.after;
        left = drop k noise;
        calls = upto_is s (take k noise) (drop k noise ++ r) front c;
        apart =
            ap (λ (l : List ℕ). l ++ drop k noise) (taken-append s.before (call s.took a ∷ []))
            ∙ rw append-nil (ap (λ (l : List ℕ). l ++ drop k noise) f.0)
            ∙ all;
        says =
            answers-append s.before (call s.took a ∷ [])
            ∙ rw (s.said, append-nil)
            (sym (ap spoken q ∙ spoken-append z (a ∷ silence n) ∙ rw (spoken-silence n, append-nil)));
        hears = s.rest ∙ ap (λ (i : ℕ). silence i ++ y) (sym back);
        rest = f.1;
        plain = s.plain;
      }

  pub past : (x : List Said) → length x ≡ length noise → heard t ≡ x ++ y → Past noise x r y t
  past x m e = past-last x m e (last-said x)
