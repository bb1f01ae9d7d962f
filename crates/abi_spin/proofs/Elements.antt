-- The numbers of a row of antenna elements: two whole ones for each, and its peak; one more element adds its own at the end.
-- The loops that list them keep these laws.
use Prim.Native.Nat.{ℕ, suc, ◌+◌, ◌*◌, ◌<◌}
use mathlib.Core.Path.{◌≡◌, refl, sym, ap, ◌∙◌}
use mathlib.Core.List.{List, [], ◌∷◌, ◌++◌}
use native.Mathlib.Omega.{arith}
use native.Mathlib.Numerals.{add-one}
use lib.IntN.{ℤ}
use lib.Ieee.{Float}
use lib.ListN.{length, get_or, set, take, length-take, length-append}
use lib.Seq.{sets, take-suc, set_comm}
use Rattle.spin.specs.declared.AntennaElement.{AntennaElement}
use Rattle.abi_spin.specs.Numbers.{elements_whole, peaks}
use Rattle.general.proofs.Stores.{sets-append}
use Rattle.abi.proofs.Laid.{step}
use Rattle.abi_spin.proofs.Filled.{filled}

append : (es fs : List AntennaElement) → elements_whole (es ++ fs) ≡ elements_whole es ++ elements_whole fs
append [] fs = refl
append (e ∷ es) fs = ap (λ (t : List ℤ). e.spin_rpm ∷ e.snr ∷ t) (append es fs)

two-each : (es : List AntennaElement) → length (elements_whole es) ≡ length es * 2
two-each [] = refl
two-each (e ∷ es) = omega (arith, two-each es)

one_more : (es : List AntennaElement) (l : List ℤ) (i : ℕ) (d : AntennaElement) → i < length es
    → set (set (sets l 1 (elements_whole (take i es))) (1 + i * 2) (get_or es i d).spin_rpm) (2 + i * 2) (get_or es i d).snr
    ≡ sets l 1 (elements_whole (take (i + 1) es))
one_more es l i d h =
    let e = get_or es i d in
    let w = elements_whole (take i es) in
    let n : length w ≡ i * 2 = omega (arith, two-each (take i es), length-take i es) in
    let two = elements_whole (e ∷ []) in
    let now : sets (sets l 1 w) (1 + i * 2) two ≡ sets l 1 (w ++ two) = rw (← n) (sets-append w two l 1) in
    let more : elements_whole (take (i + 1) es) ≡ w ++ two = rw (add-one, take-suc es i d h) (append (take i es) (e ∷ [])) in
    let next : 2 + i * 2 ≡ suc (1 + i * 2) = omega arith in
    rw next (now ∙ ap (sets l 1) (sym more))

module _ {A : Type 0} where
  -- a store before a run of stores
  before : (vs l : List A) (j k : ℕ) (x : A) → k < j → set (sets l j vs) k x ≡ sets (set l k x) j vs
  before [] l j k x h = refl
  before (v ∷ vs) l j k x h =
      before vs (set l j v) (suc j) k x (omega arith) ∙ ap (λ (m : List A). sets m (suc j) vs) (set_comm l j k v x (λ e. omega arith))

-- one more element, and one more of the rest
pub both-more : (es : List AntennaElement) (rest l : List ℤ) (i : ℕ) (d : AntennaElement) (z : ℤ) → i < 15 → i < length es → i < length rest
    → set (set (set (sets (sets l 1 (elements_whole (take i es))) 31 (take i rest)) (1 + i * 2) (get_or es i d).spin_rpm)
    (2 + i * 2) (get_or es i d).snr) (31 + i) (get_or rest i z)
    ≡ sets (sets l 1 (elements_whole (take (i + 1) es))) 31 (take (i + 1) rest)
both-more es rest l i d z h p q =
    let e = get_or es i d in
    let m = sets l 1 (elements_whole (take i es)) in
    let t = take i rest in
    let n = get_or rest i z in
    ap (λ (k : List ℤ). set (set k (2 + i * 2) e.snr) (31 + i) n) (before t m 31 (1 + i * 2) e.spin_rpm (omega arith))
    ∙ ap (λ (k : List ℤ). set k (31 + i) n) (before t (set m (1 + i * 2) e.spin_rpm) 31 (2 + i * 2) e.snr (omega arith))
    ∙ ap (λ (k : List ℤ). set (sets k 31 t) (31 + i) n) (one_more es l i d p)
    ∙ step rest (sets l 1 (elements_whole (take (i + 1) es))) 31 i z q

-- the peaks
peaks-append : (es fs : List AntennaElement) → peaks (es ++ fs) ≡ peaks es ++ peaks fs
peaks-append [] fs = refl
peaks-append (e ∷ es) fs = ap (λ (t : List Float). e.peak ∷ t) (peaks-append es fs)

one_each : (es : List AntennaElement) → length (peaks es) ≡ length es
one_each [] = refl
one_each (e ∷ es) = ap suc (one_each es)

pub peak-more : (es : List AntennaElement) (l : List Float) (i : ℕ) (d : AntennaElement) → i < length es
    → set (sets l 0 (peaks (take i es))) i (get_or es i d).peak ≡ sets l 0 (peaks (take (i + 1) es))
peak-more es l i d h =
    let e = get_or es i d in
    let w = peaks (take i es) in
    let n : i ≡ 0 + length w = omega (arith, one_each (take i es), length-take i es) in
    let more : peaks (take (i + 1) es) ≡ w ++ e.peak ∷ [] = rw (add-one, take-suc es i d h) (peaks-append (take i es) (e ∷ [])) in
    ap (λ (k : ℕ). set (sets l 0 w) k e.peak) n ∙ sets-append w (e.peak ∷ []) l 0 ∙ ap (sets l 0) (sym more)

-- a number, the elements' and the rest, stored one after another, are the whole list
pub joined : (v : ℤ) (es : List AntennaElement) (rest old : List ℤ) → length es ≡ 15 → length rest ≡ 15 → length old ≡ 46
    → sets (sets (set old 0 v) 1 (elements_whole es)) 31 rest ≡ v ∷ elements_whole es ++ rest
joined v es rest old h k n =
    let w = elements_whole es in
    let at : 31 ≡ 1 + length w = omega (arith, two-each es) in
    rw at (sets-append w rest (set old 0 v) 1 ∙ filled (v ∷ w ++ rest) old (omega (arith, length-append w rest)))
