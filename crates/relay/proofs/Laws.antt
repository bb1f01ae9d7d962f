-- The relay's laws hold: each is a theorem of `stuffing` or of `unstuffing`, cited.
-- Only where the byte with number k stands stuffed is worked out here.
use mathlib.Core.Path.{◌≡◌, refl, sym, ap, ◌∙◌}
use mathlib.Core.List.{List}
use Prim.Native.Nat.{ℕ, suc, ◌<◌}
use native.Mathlib.Omega.{arith}
use native.Mathlib.Nat.{zero-add}
use lib.ListN.{length, take, drop, get_or}
use lib.Seq.{split_at, length-take-le}
use Rattle.error.specs.Refusal.{yes, on_yes}
use Rattle.stuffing.specs.Stuff.{stuff}
use Rattle.stuffing.proofs.Stuffing.{stuff-append}
use Rattle.stuffing.proofs.Sums.{sum-append, sum-either}
use Rattle.unstuffing.specs.Unstuff.{offset_at}
use Rattle.unstuffing.proofs.Unstuffing.{placed, unstuff-stuff, unstuffed, stuff-apart, offset-placed}
use Rattle.relay.specs.Laws.{Laws}

offset-of : (s : List ℕ) (k : ℕ) → k < length s → offset_at (placed 0 s) k ≡ length (stuff (take k s))
offset-of s k h =
    let n : length (take k s) ≡ k = length-take-le k s (omega arith) in
    ap (λ (l : List ℕ). offset_at (placed 0 l) k) (split_at s k 0 h)
    ∙ rw n at (offset-placed 0 (take k s) (get_or s k 0) (drop (suc k) s))
    ∙ zero-add (length (stuff (take k s)))

pub laws : Laws
laws =
    record {
      joins = λ s t. sym (stuff-append s t);
      empty = refl;
      sums = sum-append;
      either = λ s t. sum-either s t ∙ sum-append t s;
      back = unstuffed 0;
      offsets = λ s k h. ap (on_yes (λ us. offset_at us k)) (unstuff-stuff 0 s) ∙ ap yes (offset-of s k h);
      apart = stuff-apart;
    }
