-- Which case of a rule holds after which tests.
-- One law for each return of `check` and of the tests that it calls.
use mathlib.Core.Path.{◌≡◌, refl}
use mathlib.Core.List.{List, [], ◌∷◌}
use Prim.Native.Nat.{ℕ, ◌-◌, ◌≤◌, ◌<◌}
use lib.ListN.{length, get_or}
use borrow.Author.Tests.{eq-eqb, ne_eqb, lt-ltb, le-ltb}
use Rattle.error.specs.Refusal.{yes, no, and_then}
use Rattle.addr.specs.declared.BusAddr.{BusAddr}
use Rattle.addr.specs.Address.{address_rule}
use Rattle.unstuffing.specs.Unstuff.{unstuff, byte_at}
use Rattle.encoding.specs.Wire.{fields}
use Rattle.checking.specs.Rule.{interior, received_of, computed_of, payload_of, addresses_rule, sum_rule, units_rule, check_rule}

module _ (us : List (ℕ × ℕ)) where
  pub bad-dest : (k : ℕ) (vs : List ℕ) → address_rule (byte_at us 0) ≡ no k vs → addresses_rule us ≡ no k vs
  unfolding addresses_rule
  bad-dest k vs e = rw e refl

  pub bad-src : (a : BusAddr) (k : ℕ) (vs : List ℕ) → address_rule (byte_at us 0) ≡ yes a → address_rule (byte_at us 1) ≡ no k vs → addresses_rule us ≡ no k vs
  unfolding addresses_rule
  bad-src a k vs e g = rw (e, g) refl

  pub both-known : (a b : BusAddr) → address_rule (byte_at us 0) ≡ yes a → address_rule (byte_at us 1) ≡ yes b
      → addresses_rule us ≡ yes (fields a b (byte_at us 2) (payload_of us))
  unfolding addresses_rule
  both-known a b e g = rw (e, g) refl

  module _ (inner : List ℕ) where
    pub mismatch : (received_of us ≡ computed_of inner us → ⊥) → sum_rule inner us ≡ no 5 (received_of us ∷ computed_of inner us ∷ [])
    unfolding sum_rule
    mismatch g = rw (ne_eqb _ _ g) refl

    pub matching : received_of us ≡ computed_of inner us → sum_rule inner us ≡ addresses_rule us
    unfolding sum_rule
    matching g = rw (eq-eqb _ _ g) refl

    pub few : (n : ℕ) → length us < 5 → units_rule n inner us ≡ no 1 (n ∷ [])
    unfolding units_rule
    few n h = rw (lt-ltb _ _ h) refl

    pub many : (n : ℕ) → 5 ≤ length us → units_rule n inner us ≡ sum_rule inner us
    unfolding units_rule
    many n h = rw (le-ltb _ _ h) refl

module _ (w : List ℕ) where
  pub short : length w < 7 → check_rule w ≡ no 1 (length w ∷ [])
  unfolding check_rule
  short h = rw (lt-ltb _ _ h) refl

  pub bad-start : 7 ≤ length w → (get_or w 0 0 ≡ 0xF0 → ⊥) → check_rule w ≡ no 2 (get_or w 0 0 ∷ [])
  unfolding check_rule
  bad-start h g = rw (le-ltb _ _ h, ne_eqb _ _ g) refl

  pub bad-end : 7 ≤ length w → get_or w 0 0 ≡ 0xF0 → (get_or w (length w - 1) 0 ≡ 0xF1 → ⊥) → check_rule w ≡ no 3 []
  unfolding check_rule
  bad-end h g k = rw (le-ltb _ _ h, eq-eqb _ _ g, ne_eqb _ _ k) refl

  pub framed : 7 ≤ length w → get_or w 0 0 ≡ 0xF0 → get_or w (length w - 1) 0 ≡ 0xF1
      → check_rule w ≡ and_then (unstuff 0 (interior w)) (units_rule (length w) (interior w))
  unfolding check_rule
  framed h g k = rw (le-ltb _ _ h, eq-eqb _ _ g, eq-eqb _ _ k) refl
