-- `check_sum`: the checksum is tested against the stuffed bytes before it, and then the head is read.
-- Where the checksum starts parts the interior in two proper strings.
use Rattle.std.proofs.Common.{◌≡◌, ℕ, ◌+◌, ◌-◌, ◌*◌, ◌≤◌, List, [], ◌∷◌, ◌++◌, length, get_or, take, drop, sym, ap, ◌∙◌, arith, length-take-le}
use Rattle.error.specs.Refusal.{Told, no, on_yes, and_then}
use Rattle.stuffing.specs.Stuff.{sum16}
use Rattle.unstuffing.specs.Unstuff.{unstuff}
use Rattle.unstuffing.specs.Private.{kept, width_of, value_of}
use Rattle.unstuffing.proofs.Proper.{unstuff-proper}
use Rattle.encoding.specs.Wire.{Fields}
use Rattle.checking.specs.Rule.{received_of, computed_of, addresses_rule, sum_rule, head_at}
use Rattle.checking.specs.Private.{Ends, front_rule}
use Rattle.checking.proofs.Cases.{mismatch, matching}
use Rattle.checking.proofs.Reading.{received_is, computed-is, head-is, body-units, units-are, body_kept, length-body}
use Rattle.checking.proofs.check_sum.Goals as goal

-- an interior, with its checksum found
module _ (s : List ℕ) (at n : ℕ) (e : Ends s at) (count : n ≡ kept s) (five : 5 ≤ n) where
  abbrev low : ℕ
  low = at + width_of (get_or s at 0)

  abbrev ub : List (ℕ × ℕ)
  ub = body-units s at e

  abbrev us : List (ℕ × ℕ)
  us = ub ++ ((value_of (drop at s), at) ∷ (value_of (drop low s), low) ∷ [])

  counted : length ub + 2 ≡ n
  counted = omega (arith, length-body s at e, body_kept s at e)

  three : 3 ≤ length ub
  three = omega (arith, counted)

  rule : (t : Told Fields) → sum_rule s us ≡ t → and_then (unstuff 0 s) (λ vs. on_yes (head_at vs) (sum_rule s vs)) ≡ on_yes (head_at us) t
  rule t q =
      ap (λ (x : Told (List (ℕ × ℕ))). and_then x (λ vs. on_yes (head_at vs) (sum_rule s vs))) (units-are s at e)
      ∙ ap (on_yes (head_at us)) q

  whole : length (take at s) ≡ at
  whole = length-take-le at s e.inside

  received : value_of (drop at s) * 256 + value_of (drop low s) ≡ received_of us
  received = sym (received_is ub (value_of (drop at s)) at (value_of (drop low s)) low three)

  computed : sum16 (take at s) ≡ computed_of s us
  computed = sym (computed-is ub (value_of (drop at s)) at (value_of (drop low s)) low three s)

  -- the two sums differ
  differ : (r k : ℕ) → r ≡ value_of (drop at s) * 256 + value_of (drop low s) → k ≡ sum16 (take at s) → (r ≡ k → ⊥)
      → no 5 (r ∷ k ∷ []) ≡ and_then (unstuff 0 s) (λ vs. on_yes (head_at vs) (sum_rule s vs))
  differ r k re ke d =
      let x = re ∙ received in
      let y = ke ∙ computed in
      let off : received_of us ≡ computed_of s us → ⊥ = λ q. d (x ∙ q ∙ sym y) in
      let told : no 5 (r ∷ k ∷ []) ≡ no 5 (received_of us ∷ computed_of s us ∷ []) = λ j. no 5 (x j ∷ y j ∷ []) in
      told ∙ sym (rule (no 5 (received_of us ∷ computed_of s us ∷ [])) (mismatch us s off))

  -- the two sums are one
  same : (r k : ℕ) → r ≡ value_of (drop at s) * 256 + value_of (drop low s) → k ≡ sum16 (take at s) → r ≡ k
      → and_then (unstuff 0 (take at s)) (front_rule (n - 5) (length (take at s)))
      ≡ and_then (unstuff 0 s) (λ vs. on_yes (head_at vs) (sum_rule s vs))
  same r k re ke d =
      let on : received_of us ≡ computed_of s us = sym (re ∙ received) ∙ d ∙ (ke ∙ computed) in
      ap (λ (m : ℕ). and_then (unstuff 0 (take at s)) (front_rule (n - 5) m)) whole
      ∙ ap (λ (x : Told (List (ℕ × ℕ))). and_then x (front_rule (n - 5) at)) (unstuff-proper 0 e.body)
      ∙ sym (head-is ub (value_of (drop at s)) at (value_of (drop low s)) low three (n - 5) (omega (arith, counted)))
      ∙ sym (rule (addresses_rule us) (matching us s on))

pub returns-then-expected-computed : goal.returns-then-expected-computed
returns-then-expected-computed c =
    differ c.args.s.now c.checksum_at-at.result c.args.n c.checksum_at-at.ensures c.requires.1 c.requires.2
    c.received-expected.result c.checksum-computed.result c.received-expected.ensures c.checksum-computed.ensures c.if-expected-computed.true

pub check_head-requires : goal.check_head-requires
check_head-requires c =
    let s = c.args.s.now in
    let e = c.checksum_at-at.ensures in
    (e.body, omega (arith, body_kept s c.checksum_at-at.result e, c.requires.1, c.requires.2))

pub returns : goal.returns
returns c =
    c.check_head.ensures
    ∙ same c.args.s.now c.checksum_at-at.result c.args.n c.checksum_at-at.ensures c.requires.1 c.requires.2
    c.received-expected.result c.checksum-computed.result c.received-expected.ensures c.checksum-computed.ensures c.if-expected-computed.false
