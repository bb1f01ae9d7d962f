-- Checking is the Rust's parsing, read as the Rust's: an escape that is cut off is its code 00 at the same offset.
-- `units-tell` says which numbers are not told behind the escapes.
use mathlib.Core.Path.{◌≡◌, refl, ap, ◌∙◌}
use mathlib.Core.Bool.{false}
use mathlib.Core.List.{List}
use Prim.Native.Nat.{ℕ, ◌-◌}
use lib.Dec.{eqb, ltb}
use lib.ListN.{length, get_or}
use Rattle.general.proofs.Cases.{by-test}
use Rattle.error.specs.Refusal.{Told, and_then}
use Rattle.error.specs.Rust.{as_rust}
use Rattle.error.proofs.Tells.{is_told, then-tells}
use Rattle.error.proofs.Rust.{read-then}
use Rattle.addr.specs.Address.{address_rule}
use Rattle.unstuffing.specs.Unstuff.{unstuff, byte_at}
use Rattle.unstuffing.proofs.Rust.{unstuff-as-rust}
use Rattle.checking.specs.Rule.{interior, received_of, computed_of, addresses_rule, sum_rule, units_rule, check_rule}
use Rattle.checking.specs.Rust.{rust_parse}

-- ---- behind the escapes only 1, 5 and 6 are told

module _ (n : ℕ) (not-1 : eqb 1 n ≡ false) (not-5 : eqb 5 n ≡ false) (not-6 : eqb 6 n ≡ false) where
  address-tells : (b : ℕ) → is_told n (address_rule b) ≡ false
  unfolding address_rule
  address-tells b =
      by-test (eqb b 0x10) (λ e. rw e)
      (λ e. by-test (eqb b 0x12) (λ f. rw (e, f)) (λ f. by-test (eqb b 0x30) (λ g. rw (e, f, g)) (λ g. by-test (eqb b 0x40) (λ h. rw (e, f, g, h)) (λ h. rw (e, f, g, h) not-6))))

  addresses-tell : (us : List (ℕ × ℕ)) → is_told n (addresses_rule us) ≡ false
  unfolding addresses_rule
  addresses-tell us =
      then-tells n (address_rule (byte_at us 0)) _ (address-tells (byte_at us 0)) (λ d. then-tells n (address_rule (byte_at us 1)) _ (address-tells (byte_at us 1)) (λ s. refl))

  pub units-tell : (m : ℕ) (inner : List ℕ) (us : List (ℕ × ℕ)) → is_told n (units_rule m inner us) ≡ false
  unfolding units_rule sum_rule
  units-tell m inner us =
      by-test (ltb (length us) 5) (λ e. rw e not-1)
      (λ e. by-test (eqb (received_of us) (computed_of inner us)) (λ f. rw (e, f) (addresses-tell us)) (λ f. rw (e, f) not-5))

-- ---- the whole

pub check-as-rust : (w : List ℕ) → as_rust (check_rule w) ≡ rust_parse w
unfolding check_rule rust_parse
check-as-rust w =
    by-test (ltb (length w) 7) (λ e. rw e)
    (λ e.
    by-test (eqb (get_or w 0 0) 0xF0)
    (λ f.
    by-test (eqb (get_or w (length w - 1) 0) 0xF1)
    (λ g.
    rw (e, f, g)
    (read-then (unstuff 0 (interior w)) (units_rule (length w) (interior w)) (units-tell 12 refl refl refl (length w) (interior w))
    ∙ ap (λ (t : Told (List (ℕ × ℕ))). and_then t (units_rule (length w) (interior w))) (unstuff-as-rust 0 (interior w))))
    (λ g. rw (e, f, g)))
    (λ f. rw (e, f)))
