-- Laws of specs/First: the cases of a search, and what is known of the index that is found.
-- `first-hit`, `first-miss` and `first-end` are the three cases of a step.
use mathlib.Core.Path.{◌≡◌, refl}
use mathlib.Core.List.{List, [], ◌∷◌}
use Prim.Native.Nat.{ℕ, zero, suc, ◌+◌, ◌-◌, ◌≤◌, ◌<◌, zero-le, suc-le-suc}
use native.Mathlib.Omega.{arith}
use native.Mathlib.Nat.{not-suc-le-zero}
use native.Mathlib.Numerals.{add-one}
use Rattle.std.specs.Prelude.{Bool, true, false, ◌||◌, fold}
use lib.Dec.{eqb}
use lib.ListN.{length, take, drop, get_or, length-drop, drop_of_length-le}
use lib.Seq.{drop-cons, drop-drop}
use borrow.Author.Tests.{eq-eqb, ne_eqb, eqb-true}
use Rattle.general.proofs.Cases.{by-test}
use Rattle.search.specs.First.{index_of, first_from, has}

-- ---- one step

-- b is at i
pub first-hit : (b i : ℕ) (l : List ℕ) → i < length l → get_or l i 0 ≡ b → first_from b i l ≡ i
unfolding index_of
first-hit b i l h e = rw (drop-cons l i 0 h, eq-eqb _ _ e) (omega arith)

-- b is not at i
pub first-miss : (b i : ℕ) (l : List ℕ) → i < length l → (get_or l i 0 ≡ b → ⊥) → first_from b i l ≡ first_from b (i + 1) l
unfolding index_of
first-miss b i l h n = rw (drop-cons l i 0 h, ne_eqb _ _ n, add-one i) (omega arith)

-- b is not among the n bytes from i on
past : (b n : ℕ) (l : List ℕ) → n ≤ length l → has b (take n l) ≡ false → index_of b l ≡ n + index_of b (drop n l)
unfolding index_of
past b zero l h e = omega arith
past b (suc n) [] h e = absurd (not-suc-le-zero h)
past b (suc n) (x ∷ l) h e =
    by-test (eqb x b)
    (λ t.
    let z : true ≡ false = rw t at e in
    cc)
    (λ t. rw t (omega (arith, past b n l (omega arith) (rw t at e))))

pub first-past : (b i n : ℕ) (l : List ℕ) → i + n ≤ length l → has b (take (i + n - i) (drop i l)) ≡ false → first_from b i l ≡ first_from b (i + n) l
first-past b i n l h e =
    let m : i + n - i ≡ n = omega arith in
    let k : n ≤ length (drop i l) = rw length-drop (omega arith) in
    rw (past b n (drop i l) k (rw m at e), drop-drop) (omega arith)

-- i is the end, or past it
pub first-end : (b i : ℕ) (l : List ℕ) → length l ≤ i → first_from b i l ≡ i
unfolding index_of
first-end b i l h = rw (drop_of_length-le l h) (omega arith)

-- ---- what is found

-- what stands at an index that was found
pub found : (b : ℕ) (c : List ℕ) → index_of b c < length c → drop (index_of b c) c ≡ b ∷ drop (suc (index_of b c)) c
unfolding index_of
found b [] l = absurd (not-suc-le-zero l)
found b (x ∷ c) l =
    by-test (eqb x b)
    (λ e. rw (e, eqb-true x b e))
    (λ e.
    let m : index_of b c < length c = omega (arith, rw e at l) in
    rw (e, found b c m))

pub index-le : (b : ℕ) (c : List ℕ) → index_of b c ≤ length c
unfolding index_of
index-le b [] = zero-le
index-le b (x ∷ c) = by-test (eqb x b) (λ e. rw e zero-le) (λ e. rw e (suc-le-suc (index-le b c)))

-- from a start in the list: no later than its end
pub first-le : (b i : ℕ) (l : List ℕ) → i ≤ length l → first_from b i l ≤ length l
first-le b i l h =
    let k : index_of b (drop i l) ≤ length l - i = rw (← length-drop i l) (index-le b (drop i l)) in
    omega arith

-- ---- what the library's words say of a list

-- whether one of the bytes is b, each looked at
fold_hit : (b : ℕ) (l : List ℕ) (hit : Bool) → fold (λ h x. h || eqb x b) hit l ≡ hit || has b l
fold_hit b [] true = refl
fold_hit b [] false = refl
fold_hit b (x ∷ l) true = fold_hit b l true
fold_hit b (x ∷ l) false = fold_hit b l (eqb x b)

pub has_is : (b : ℕ) (l : List ℕ) → fold (λ h x. h || eqb x b) false l ≡ has b l
has_is b l = fold_hit b l false
