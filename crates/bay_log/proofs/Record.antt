-- The record is its nine fields, each written behind the one before.
-- It has 32 bytes, fills the front of a buffer, and leaves the rest as it was.
use Prim.Native.Nat.{ℕ, ◌+◌, ◌≤◌}
use mathlib.Core.Path.{◌≡◌, refl, sym, ◌∙◌, ap}
use mathlib.Core.List.{List, [], ◌∷◌, ◌++◌, flatten}
use native.Mathlib.Omega.{arith}
use lib.ListN.{length, set, drop}
use lib.Seq.{sets, sets-eq}
use Rattle.integer_write.specs.Writing.{bytes_of, int_bytes, written}
use Rattle.integer_write.proofs.Cases.{writes}
use Rattle.integer_write.proofs.Back.{length-written}
use Rattle.numbers.specs.declared.Message.TheVariants.{FlightResult}
use Rattle.numbers.specs.Numbers.{whole_of}
use Rattle.bay_log.specs.Log.{shown_of, log_fields}
use Rattle.bay_log.proofs.Laid.{laid, laid-is, field}

pub record-length : (event : ℕ) (p : List ℕ) → length (flatten (log_fields event p)) ≡ 32
unfolding flatten log_fields bytes_of int_bytes
record-length event p = refl

-- it fills the front, and the rest keeps its bytes
pub record-front : (event : ℕ) (p buf : List ℕ) → 32 ≤ length buf → sets buf 0 (flatten (log_fields event p)) ≡ flatten (log_fields event p) ++ drop 32 buf
record-front event p buf h =
    let l = record-length event p in
    let k : 0 + length (flatten (log_fields event p)) ≡ 32 = omega arith in
    sets-eq (flatten (log_fields event p)) buf 0 (rw l h) ∙ ap (λ (k : ℕ). flatten (log_fields event p) ++ drop k buf) k

module _ (event : ℕ) (p : List ℕ) (b0 : List ℕ) (room : 32 ≤ length b0) where
  -- the byte D4, stored behind the event number
  kind : {b1 : List ℕ} → b1 ≡ written (bytes_of 4 event) b0 0 → set b1 4 0xD4 ≡ written (0xD4 ∷ []) b1 4
  kind {b1} e =
      let l : length b1 ≡ length b0 = ap length e ∙ length-written (bytes_of 4 event) b0 0 in
      sym (writes (0xD4 ∷ []) b1 4 (omega arith)).1

  module _ (b1 b3 b4 b5 b6 b7 b8 b9 : List ℕ)
      (e1 : b1 ≡ written (bytes_of 4 event) b0 0)
      (e3 : b3 ≡ written (int_bytes 3 (whole_of FlightResult p 0)) (set b1 4 0xD4) 5)
      (e4 : b4 ≡ written (int_bytes 4 (shown_of (whole_of FlightResult p 5))) b3 8)
      (e5 : b5 ≡ written (int_bytes 4 (shown_of (whole_of FlightResult p 6))) b4 12)
      (e6 : b6 ≡ written (int_bytes 4 (shown_of (whole_of FlightResult p 7))) b5 16)
      (e7 : b7 ≡ written (int_bytes 4 (shown_of (whole_of FlightResult p 8))) b6 20)
      (e8 : b8 ≡ written (int_bytes 4 (shown_of (whole_of FlightResult p 10))) b7 24)
      (e9 : b9 ≡ written (int_bytes 4 (whole_of FlightResult p 14)) b8 28) where
    pub record-laid : b9 ≡ sets b0 0 (flatten (log_fields event p))
    unfolding laid log_fields bytes_of int_bytes
    record-laid =
        let fs = log_fields event p in
        field _ (drop 9 fs) 28 b8 e9
        ∙ field _ (drop 8 fs) 24 b7 e8
        ∙ field _ (drop 7 fs) 20 b6 e7
        ∙ field _ (drop 6 fs) 16 b5 e6
        ∙ field _ (drop 5 fs) 12 b4 e5
        ∙ field _ (drop 4 fs) 8 b3 e4
        ∙ field _ (drop 3 fs) 5 (set b1 4 0xD4) e3
        ∙ field _ (drop 2 fs) 4 b1 (kind e1)
        ∙ field _ (drop 1 fs) 0 b0 e1
        ∙ laid-is fs b0 0 (rw (record-length event p) room)
