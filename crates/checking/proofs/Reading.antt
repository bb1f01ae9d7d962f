-- An interior taken apart: the header's bytes from the front, the checksum's from the back.
-- Both ends are found by the widths of unstuffed bytes, so nothing is copied.
use mathlib.Core.Path.{◌≡◌, refl, sym, ap, ◌∙◌}
use mathlib.Core.List.{List, [], ◌∷◌, ◌++◌}
use Prim.Native.Nat.{ℕ, zero, suc, ◌+◌, ◌-◌, ◌*◌, ◌≤◌, ◌<◌}
use native.Mathlib.Nat.{zero-add}
use native.Mathlib.Numerals.{add-one}
use native.Mathlib.Omega.{arith}
use lib.ListN.{length, take, drop, get_or, length-append, length-drop, length-map, take-append-drop, get_or-append}
use lib.Seq.{drop-cons, drop-append-le, take-take, length-take-le, get_or-append-add, take_at}
use borrow.Author.Tests.{eq-eqb}
use Rattle.error.specs.Refusal.{Told, yes, no, on_yes, and_then}
use Rattle.addr.specs.declared.BusAddr.{BusAddr}
use Rattle.addr.specs.Address.{address_rule}
use Rattle.stuffing.specs.Stuff.{unescape_of, sum16}
use Rattle.unstuffing.specs.Unstuff.{after, unstuff, byte_at, offset_at, unit_bytes}
use Rattle.unstuffing.specs.Escapes.{Proper, none, byte, escape}
use Rattle.unstuffing.specs.Private.{kept, width_of, value_of}
use Rattle.unstuffing.proofs.Proper.{units, unstuff-proper, is_yes, proper-of, length-units, kept-most}
use Rattle.unstuffing.proofs.Parting.{proper-append, kept_append, kept-none, unstuff-join, value-plain, FrontAt, front_at, cut_of, Back, back}
use Rattle.encoding.specs.Wire.{Fields, fields}
use Rattle.checking.specs.Rule.{received_of, computed_of, payload_of, addresses_rule, head, head_at, units_of}
use Rattle.checking.specs.Private.{Ends, front_rule}

-- ---- a byte

pub value-one : (s : List ℕ) (i : ℕ) → i < length s → (get_or s i 0 ≡ 0xFD → ⊥) → value_of (drop i s) ≡ get_or s i 0
value-one s i h n = rw (drop-cons s i 0 h) (value-plain (get_or s i 0) (drop (suc i) s) n)

pub escape-inside : (s : List ℕ) (i : ℕ) → Proper (drop i s) → i < length s → get_or s i 0 ≡ 0xFD → i + 1 < length s
escape-inside s i p h e = omega (arith, rw (eq-eqb (get_or s i 0) 0xFD e) at (front_at s i p h).inside)

pub value-two : (s : List ℕ) (i : ℕ) → i + 1 < length s → get_or s i 0 ≡ 0xFD → value_of (drop i s) ≡ unescape_of (get_or s (i + 1) 0)
value-two s i h e =
    rw (drop-cons s i 0 (omega arith), ← add-one i, drop-cons s (i + 1) 0 h, eq-eqb (get_or s i 0) 0xFD e)

-- where there is something to unstuff, there is a byte
pub some_left : (s : List ℕ) (i n : ℕ) → 1 ≤ n → kept (drop i s) ≡ n → i < length s
some_left s i n h e = omega (arith, kept-most (drop i s), length-drop i s)

-- ---- from the back

pub ends : (s : List ℕ) (low at : ℕ) → Proper s → 5 ≤ kept s → low ≡ cut_of s → at ≡ cut_of (take low s) → (low < length s) × (2 ≤ low) × (Ends s at)
ends s low at p five e f =
    let b : Back s low = rw e (back s p (omega (arith, kept-most s))) in
    let k : kept s ≡ kept (take low s) + kept (drop low s) = ap kept (sym (take-append-drop low s)) ∙ kept_append (take low s) (drop low s) in
    let n : length (take low s) ≡ low = length-take-le low s (omega (arith, b.inside)) in
    let long : 2 ≤ low = omega (arith, kept-most (take low s), b.one) in
    let c : Back (take low s) at = rw f (back (take low s) b.left (omega arith)) in
    let d : drop at s ≡ drop at (take low s) ++ drop low s =
    ap (drop at) (sym (take-append-drop low s)) ∙ drop-append-le at (take low s) (drop low s) (omega (arith, c.inside)) in (
      b.inside,
      long,
      record {
        inside = omega (arith, c.inside, b.inside);
        body = rw (take-take at low s (omega (arith, c.inside))) at c.left;
        sum = rw d (proper-append c.right b.right);
        two = rw d (kept_append (drop at (take low s)) (drop low s) ∙ omega (arith, b.one, c.one));
      },
    )

-- ---- from the front

-- after one byte, where more are left
pub record Next (s : List ℕ) (i j : ℕ) : Type 0 where
  pub proper : Proper (drop j s)
  pub inside : j ≤ length s
  pub one : kept (drop i s) ≡ 1 + kept (drop j s)
  pub is : unstuff i (drop i s) ≡ after i (yes (value_of (drop i s))) (unstuff j (drop j s))

pub next-is : (s : List ℕ) (i j : ℕ) → Proper (drop i s) → i < length s → j ≡ i + width_of (get_or s i 0) → Next s i j
next-is s i j p h e =
    let f : FrontAt s i = front_at s i p h in
    rw e (record { proper = f.rest; inside = f.inside; one = f.one; is = f.is })

-- what a string unstuffs to starts where the string does, or where it ends
first-offset : (i n : ℕ) {s : List ℕ} (p : Proper s) → i + length s ≡ n → offset_at (units i p ++ (0, n) ∷ []) 0 ≡ i
unfolding units
first-offset i n none e = omega (arith, e)
first-offset i n (byte h p) e = refl
first-offset i n (escape x h p) e = refl

-- three bytes are there, and the places behind them
module _ (s : List ℕ) (p : Proper s) (three : 3 ≤ kept s) where
  pub dest-inside : 0 < length s
  dest-inside = some_left s 0 (kept s) (omega arith) refl

  module _ (a : ℕ) (ea : a ≡ 0 + width_of (get_or s 0 0)) where
    past-dest : Next s 0 a
    past-dest = next-is s 0 a p dest-inside ea

    pub src-proper : Proper (drop a s)
    src-proper = past-dest.proper

    pub src-inside : a < length s
    src-inside = some_left s a (kept (drop a s)) (omega (arith, past-dest.one)) refl

    module _ (b : ℕ) (eb : b ≡ a + width_of (get_or s a 0)) where
      past-src : Next s a b
      past-src = next-is s a b src-proper src-inside eb

      pub type-proper : Proper (drop b s)
      type-proper = past-src.proper

      pub type-inside : b < length s
      type-inside = some_left s b (kept (drop b s)) (omega (arith, past-dest.one, past-src.one)) refl

      module _ (c : ℕ) (ec : c ≡ b + width_of (get_or s b 0)) where
        past-type : Next s b c
        past-type = next-is s b c type-proper type-inside ec

        pub payload-inside : c ≤ length s
        payload-inside = past-type.inside

        head-units : unstuff 0 s ≡ yes ((value_of s, 0) ∷ (value_of (drop a s), a) ∷ (value_of (drop b s), b) ∷ units c past-type.proper)
        head-units =
            past-dest.is
            ∙ ap (after 0 (yes (value_of s)))
            (past-src.is
            ∙ ap (after a (yes (value_of (drop a s)))) (past-type.is ∙ ap (after b (yes (value_of (drop b s)))) (unstuff-proper c past-type.proper)))

      -- what the three of them tell, and the place behind them
      pub head-told : (len t from : ℕ) (dest src : Told BusAddr)
          → dest ≡ address_rule (value_of s) → src ≡ address_rule (value_of (drop a s)) → t ≡ value_of (drop b s) → from ≡ b + width_of (get_or s b 0)
          → and_then dest (λ d. and_then src (λ r. yes (head d r t len (from + 1) (length s + 1)))) ≡ and_then (unstuff 0 s) (front_rule len (length s))
      unfolding front_rule
      head-told len t from dest src de se te fe =
          let n = b + width_of (get_or s b 0) in
          let past = past-type n refl in
          let behind : n + length (drop n s) ≡ length s = omega (arith, past.inside, length-drop n s) in
          let o : from ≡ offset_at (units n past.proper ++ (0, length s) ∷ []) 0 = fe ∙ sym (first-offset n (length s) past.proper behind) in
          let same : and_then dest (λ d. and_then src (λ r. yes (head d r t len (from + 1) (length s + 1))))
          ≡ and_then (address_rule (value_of s)) (λ d. and_then (address_rule (value_of (drop a s)))
          (λ r. yes (head d r (value_of (drop b s)) len (offset_at (units n past.proper ++ (0, length s) ∷ []) 0 + 1) (length s + 1))))
          = λ i. and_then (de i) (λ d. and_then (se i) (λ r. yes (head d r (te i) len (o i + 1) (length s + 1)))) in
          same ∙ ap (λ (x : Told (List (ℕ × ℕ))). and_then x (front_rule len (length s))) (sym (head-units n refl))

-- ---- the two rules of the checksum and the head, by what precedes the checksum

bytes-append : (a b : List (ℕ × ℕ)) → unit_bytes (a ++ b) ≡ unit_bytes a ++ unit_bytes b
bytes-append [] b = refl
bytes-append (u ∷ a) b = ap (λ (l : List ℕ). u.0 ∷ l) (bytes-append a b)

-- what a rule answers, with the places and lengths that it is told
head-parts : (us : List (ℕ × ℕ)) (d s : Told BusAddr) (type n from to : ℕ) (p : List ℕ) → length p ≡ n → offset_at us 3 ≡ from → offset_at us (length us - 2) ≡ to
    → on_yes (head_at us) (and_then d (λ dest. and_then s (λ src. yes (fields dest src type p))))
    ≡ and_then d (λ dest. and_then s (λ src. yes (head dest src type n (from + 1) (to + 1))))
head-parts us (yes d) (yes s) type n from to p e f g = λ i. yes (head d s type (e i) (f i + 1) (g i + 1))
head-parts us (yes d) (no k vs) type n from to p e f g = refl
head-parts us (no k vs) s type n from to p e f g = refl

-- the offset of a byte of the front, or of the first behind it
next-offset : (u v : ℕ × ℕ) (r q ub : List (ℕ × ℕ)) (k : ℕ) → k ≤ length ub → u.1 ≡ v.1 → offset_at (ub ++ u ∷ r) k ≡ offset_at (ub ++ v ∷ q) k
next-offset u v r q [] zero h e = e
next-offset u v r q [] (suc k) h e = absurd (let x : ⊥ = omega arith in x)
next-offset u v r q (w ∷ ub) zero h e = refl
next-offset u v r q (w ∷ ub) (suc k) h e = next-offset u v r q ub k (omega arith) e

module _ (ub : List (ℕ × ℕ)) (hi at lo o : ℕ) (three : 3 ≤ length ub) where
  abbrev tail : List (ℕ × ℕ)
  tail = (hi, at) ∷ (lo, o) ∷ []

  abbrev us : List (ℕ × ℕ)
  us = ub ++ tail

  length-us : length us ≡ length ub + 2
  length-us = length-append ub tail

  at-end : (k n : ℕ) → k ≡ length ub + n → get_or us k (0, 0) ≡ get_or tail n (0, 0)
  at-end k n e = rw e (get_or-append-add ub tail n (0, 0))

  pub received_is : received_of us ≡ hi * 256 + lo
  received_is =
      let h : get_or us (length us - 2) (0, 0) ≡ (hi, at) = at-end (length us - 2) 0 (omega (arith, length-us)) in
      let l : get_or us (length us - 1) (0, 0) ≡ (lo, o) = at-end (length us - 1) 1 (omega (arith, length-us)) in
      λ i. (h i).0 * 256 + (l i).0

  pub computed-is : (s : List ℕ) → computed_of s us ≡ sum16 (take at s)
  computed-is s = ap (λ (u : ℕ × ℕ). sum16 (take u.1 s)) (at-end (length us - 2) 0 (omega (arith, length-us)))

  in-front : (k : ℕ) → k < 3 → get_or us k (0, 0) ≡ get_or ub k (0, 0)
  in-front k h = get_or-append ub tail (0, 0) k (omega arith)

  pub payload-is : payload_of us ≡ drop 3 (unit_bytes ub)
  payload-is =
      let m : unit_bytes us ≡ unit_bytes ub ++ (hi ∷ lo ∷ []) = bytes-append ub tail in
      let d : drop 3 (unit_bytes us) ≡ drop 3 (unit_bytes ub) ++ (hi ∷ lo ∷ []) =
      rw m (drop-append-le 3 (unit_bytes ub) (hi ∷ lo ∷ []) (rw (length-map ub (λ (u : ℕ × ℕ). u.0)) three)) in
      rw d
      (take_at (drop 3 (unit_bytes ub)) (hi ∷ lo ∷ []) (length us - 5)
      (omega (arith, length-drop 3 (unit_bytes ub), length-map ub (λ (u : ℕ × ℕ). u.0), length-us)))

  pub head-is : (n : ℕ) → n ≡ length ub - 3 → on_yes (head_at us) (addresses_rule us) ≡ front_rule n at ub
  unfolding addresses_rule front_rule
  head-is n e =
      let p : length (payload_of us) ≡ n = ap length payload-is ∙ omega (arith, length-drop 3 (unit_bytes ub), length-map ub (λ (u : ℕ × ℕ). u.0)) in
      let d = in-front 0 (omega arith) in
      let s = in-front 1 (omega arith) in
      let y = in-front 2 (omega arith) in
      let from : offset_at us 3 ≡ offset_at (ub ++ (0, at) ∷ []) 3 = next-offset (hi, at) (0, at) ((lo, o) ∷ []) [] ub 3 three refl in
      let to : offset_at us (length us - 2) ≡ at = ap (λ (u : ℕ × ℕ). u.1) (at-end (length us - 2) 0 (omega (arith, length-us))) in
      let same : on_yes (head_at us) (addresses_rule us)
      ≡ on_yes (head_at us)
      (and_then (address_rule (byte_at ub 0)) (λ dest. and_then (address_rule (byte_at ub 1)) (λ src. yes (fields dest src (byte_at ub 2) (payload_of us)))))
      = λ i. on_yes (head_at us)
      (and_then (address_rule (d i).0) (λ dest. and_then (address_rule (s i).0) (λ src. yes (fields dest src (y i).0 (payload_of us))))) in
      same ∙ head-parts us (address_rule (byte_at ub 0)) (address_rule (byte_at ub 1)) (byte_at ub 2) n (offset_at (ub ++ (0, at) ∷ []) 3) at (payload_of us) p from to

-- ---- an interior with its checksum found

module _ (s : List ℕ) (at : ℕ) (e : Ends s at) where
  abbrev pub body-units : List (ℕ × ℕ)
  body-units = units 0 e.body

  abbrev low : ℕ
  low = at + width_of (get_or s at 0)

  first : Next s at low
  first = next-is s at low e.sum (some_left s at 2 (omega arith) e.two) refl

  pub high-inside : at < length s
  high-inside = some_left s at 2 (omega arith) e.two

  pub low-proper : Proper (drop low s)
  low-proper = first.proper

  low-one : kept (drop low s) ≡ 1
  low-one = omega (arith, first.one, e.two)

  pub low-inside : low < length s
  low-inside = some_left s low 1 (omega arith) low-one

  second : Next s low (low + width_of (get_or s low 0))
  second = next-is s low (low + width_of (get_or s low 0)) low-proper low-inside refl

  sum-units : unstuff at (drop at s) ≡ yes ((value_of (drop at s), at) ∷ (value_of (drop low s), low) ∷ [])
  sum-units =
      let end = low + width_of (get_or s low 0) in
      let none : drop end s ≡ [] = kept-none second.proper (omega (arith, second.one, low-one)) in
      first.is ∙ ap (after at (yes (value_of (drop at s)))) (second.is ∙ ap (after low (yes (value_of (drop low s)))) (ap (unstuff end) none))

  body-long : length (take at s) ≡ at
  body-long = length-take-le at s e.inside

  pub units-are : unstuff 0 s ≡ yes (body-units ++ ((value_of (drop at s), at) ∷ (value_of (drop low s), low) ∷ []))
  units-are =
      ap (unstuff 0) (sym (take-append-drop at s))
      ∙ unstuff-join 0 e.body (drop at s)
      ∙ ap (on_yes (λ us. body-units ++ us)) (ap (λ (k : ℕ). unstuff k (drop at s)) (zero-add (length (take at s)) ∙ body-long) ∙ sum-units)

  pub body_kept : kept s ≡ kept (take at s) + 2
  body_kept = ap kept (sym (take-append-drop at s)) ∙ kept_append (take at s) (drop at s) ∙ ap (λ (n : ℕ). kept (take at s) + n) e.two

  pub length-body : length body-units ≡ kept (take at s)
  length-body = length-units 0 e.body

-- ---- an interior whose bytes were counted

pub record Counted (s : List ℕ) (n : ℕ) : Type 0 where
  pub us : List (ℕ × ℕ)
  pub is : unstuff 0 s ≡ yes us
  pub length : n ≡ lib.ListN.length us
  pub proper : Proper s
  pub count : n ≡ kept s

is-yes : (t : Told (List (ℕ × ℕ))) (n : ℕ) → yes n ≡ on_yes length t → is_yes t
is-yes (yes us) n e = tt
is-yes (no k vs) n e = let z : ◌≡◌ {A = ℕ} 0 1 = cc in absurd (let q : ⊥ = omega arith in q)

pub counted-yes : (s : List ℕ) (n : ℕ) → yes n ≡ on_yes length (unstuff 0 s) → Counted s n
counted-yes s n e =
    let p : Proper s = proper-of 0 s (is-yes (unstuff 0 s) n e) in
    let u = unstuff-proper 0 p in
    let l : n ≡ length (units 0 p) = (let q : yes n ≡ yes (length (units 0 p)) = e ∙ ap (on_yes length) u in cc) in
    record { us = units 0 p; is = u; length = l; proper = p; count = l ∙ length-units 0 p }

-- what is told of an interior's units, told of the interior
pub head-through : (t : Told (List (ℕ × ℕ))) (rule : List (ℕ × ℕ) → Told Fields)
    → on_yes (head_at (units_of t)) (and_then t rule) ≡ and_then t (λ us. on_yes (head_at us) (rule us))
head-through (yes ws) rule = refl
head-through (no k vs) rule = refl
