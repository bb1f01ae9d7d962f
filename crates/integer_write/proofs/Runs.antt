-- Runs of bytes: two, one behind the other, are one; and one laid over a part, put back, stands at the part's place.
-- Each once over the bytes.
use Prim.Native.Nat.{ℕ, ◌+◌, ◌-◌, ◌≤◌}
use mathlib.Core.Path.{◌≡◌, sym, ap, ◌∙◌}
use mathlib.Core.List.{List, ◌++◌, append_assoc}
use native.Mathlib.Omega.{arith}
use lib.ListN.{length, take, drop, length-append}
use lib.Seq.{sets, length-sets, sets-eq}
use borrow.Rule.Slice.PartMut.{put_mid, Post-is}
use Rattle.general.proofs.Stores.{sets-append}
use Rattle.integer_write.specs.Writing.{written}
use Rattle.integer_write.proofs.Cases.{writes}

pub joined : (xs ys s : List ℕ) (at : ℕ) → at + length xs + length ys ≤ length s → written ys (written xs s at) (at + length xs) ≡ written (xs ++ ys) s at
joined xs ys s at room =
    ap (λ (l : List ℕ). written ys l (at + length xs)) (writes xs s at (omega arith)).1
    ∙ (writes ys (sets s at xs) (at + length xs) (omega (arith, length-sets s at xs))).1
    ∙ sets-append xs ys s at
    ∙ sym (writes (xs ++ ys) s at (omega (arith, length-append xs ys))).1

pub put_back : (bs s : List ℕ) (at e : ℕ) → e ≡ at + length bs → e ≤ length s → put_mid at (e - at) s bs ≡ written bs s at
put_back bs s at e q h =
    let p : drop e s ≡ drop (at + length bs) s = ap (λ (k : ℕ). drop k s) q in
    ap (λ (l : List ℕ). take at s ++ (bs ++ l)) (Post-is at e s (omega arith) ∙ p)
    ∙ sym (append_assoc (take at s) bs (drop (at + length bs) s))
    ∙ sym (sets-eq bs s at (omega arith))
    ∙ sym (writes bs s at (omega arith)).1
