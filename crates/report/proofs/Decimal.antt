-- The decimal text of a number: its two cases, how long it is, that it decides the number, that no zero is spare.
-- A proof about a number goes by its last digit and the tenth part before it (`by-tens`).
use Rattle.std.proofs.Common.{ℕ, zero, suc, ◌+◌, ◌-◌, ◌*◌, ◌/◌, ◌%◌, ◌^◌, ◌<◌, ◌≤◌, ◌≡◌, refl, sym, ap, ◌∙◌, List, [], ◌∷◌, ◌++◌, arith, pow-suc, div-lt_iff_lt-mul, lit<, length, get_or, length-append, lt-ltb, le-ltb}
use lib.ListN.{get_or-append}
use Rattle.general.proofs.Cases.{by-lt}
use Rattle.std.proofs.lemmas.Fmt.{decimal_digit, decimal_step}
use Rattle.std.specs.Fmt.{decimal}
use Rattle.report.specs.Text.{decimal_in, decimal_of}

-- ---- the two cases

small-in : (k n : ℕ) → n < 10 → decimal_in k n ≡ (0x30 + n) ∷ []
unfolding decimal_in
small-in zero n h = let e : n % 10 ≡ n = omega arith in rw e
small-in (suc k) n h = simp (lt-ltb n 10 h)

large-in : (k n : ℕ) → 10 ≤ n → decimal_in (suc k) n ≡ decimal_in k (n / 10) ++ ((0x30 + n % 10) ∷ [])
unfolding decimal_in
large-in k n h = simp (le-ltb n 10 h)

-- steps enough are as good as more
enough : (k j n : ℕ) → n ≤ k → n ≤ j → decimal_in k n ≡ decimal_in j n
enough zero j n hk hj = let h : n < 10 = omega arith in small-in zero n h ∙ sym (small-in j n h)
enough (suc k) zero n hk hj = let h : n < 10 = omega arith in small-in (suc k) n h ∙ sym (small-in zero n h)
enough (suc k) (suc j) n hk hj =
    by-lt n 10
    (λ h. small-in (suc k) n h ∙ sym (small-in (suc j) n h))
    (λ h.
    let a : n / 10 ≤ k = omega arith in
    let b : n / 10 ≤ j = omega arith in
    large-in k n h ∙ ap (λ (l : List ℕ). l ++ ((0x30 + n % 10) ∷ [])) (enough k j (n / 10) a b) ∙ sym (large-in j n h))

pub decimal-small : (n : ℕ) → n < 10 → decimal_of n ≡ (0x30 + n) ∷ []
unfolding decimal_of
decimal-small n h = small-in n n h

pub decimal-large : (n : ℕ) → 10 ≤ n → decimal_of n ≡ decimal_of (n / 10) ++ ((0x30 + n % 10) ∷ [])
unfolding decimal_of
decimal-large n h =
    let a : n / 10 ≤ n = omega arith in
    let b : n ≤ suc n = omega arith in
    let c : n / 10 ≤ n / 10 = omega arith in
    let d : n ≤ n = omega arith in
    enough n (suc n) n d b ∙ large-in n n h ∙ ap (λ (l : List ℕ). l ++ ((0x30 + n % 10) ∷ [])) (enough n (n / 10) (n / 10) a c)

-- ---- by steps of ten

by-tens-in : (P : ℕ → Type 0) → ((n : ℕ) → n < 10 → P n) → ((n : ℕ) → 10 ≤ n → P (n / 10) → P n) → (k n : ℕ) → n ≤ k → P n
by-tens-in P s l zero n h = s n (omega arith)
by-tens-in P s l (suc k) n h = by-lt n 10 (λ q. s n q) (λ q. l n q (by-tens-in P s l k (n / 10) (omega arith)))

pub by-tens : (P : ℕ → Type 0) → ((n : ℕ) → n < 10 → P n) → ((n : ℕ) → 10 ≤ n → P (n / 10) → P n) → (n : ℕ) → P n
by-tens P s l n = by-tens-in P s l n n (omega arith)

-- ---- its length

pub length-small : (n : ℕ) → n < 10 → length (decimal_of n) ≡ 1
length-small n h = ap length (decimal-small n h)

pub length-large : (n : ℕ) → 10 ≤ n → length (decimal_of n) ≡ length (decimal_of (n / 10)) + 1
length-large n h = ap length (decimal-large n h) ∙ length-append (decimal_of (n / 10)) ((0x30 + n % 10) ∷ [])

pub decimal-some : (n : ℕ) → 0 < length (decimal_of n)
decimal-some n = by-lt n 10 (λ h. omega (arith, length-small n h)) (λ h. omega (arith, length-large n h))

-- a number below 10 ^ k has at most k digits, where k is not 0
pub decimal-most : (k n : ℕ) → n < 10 ^ suc k → length (decimal_of n) ≤ suc k
decimal-most zero n h = let e : n < 10 = h in omega (arith, length-small n e)
decimal-most (suc k) n h =
    by-lt n 10
    (λ q. omega (arith, length-small n q))
    (λ q.
    let m : n / 10 < 10 ^ suc k = (div-lt_iff_lt-mul (lit< tt)).1 (rw (← pow-suc) h) in
    omega (arith, length-large n q, decimal-most k (n / 10) m))

pub three_digits : (n : ℕ) → n < 2 ^ 8 → length (decimal_of n) ≤ 3
three_digits n h = decimal-most 2 n (omega arith)

-- ---- it is what the library writes

pub as_written : (n : ℕ) → n < 2 ^ 64 → decimal n ≡ decimal_of n
as_written =
    by-tens (λ (n : ℕ). n < 2 ^ 64 → decimal n ≡ decimal_of n)
    (λ n h f. decimal_digit n h ∙ sym (decimal-small n h))
    (λ n h ih f.
    let e = ih (omega arith) in
    decimal_step n h f ∙ ap (λ (l : List ℕ). l ++ ((0x30 + n % 10) ∷ [])) e ∙ sym (decimal-large n h))

pub digits_20 : (n : ℕ) → n < 2 ^ 64 → length (decimal n) ≤ 20
digits_20 n h = omega (arith, ap length (as_written n h), decimal-most 19 n (omega arith))

-- ---- it decides the number, and has no spare zero

-- the number that digits stand for, behind those that stand for v
abbrev pub read_on : ℕ → List ℕ → ℕ
read_on v [] = v
read_on v (d ∷ ds) = read_on (v * 10 + (d - 0x30)) ds

read-last : (v : ℕ) (l : List ℕ) (d : ℕ) → read_on v (l ++ (d ∷ [])) ≡ read_on v l * 10 + (d - 0x30)
read-last v [] d = refl
read-last v (x ∷ l) d = read-last (v * 10 + (x - 0x30)) l d

pub decimal-back : (n : ℕ) → read_on 0 (decimal_of n) ≡ n
decimal-back =
    by-tens (λ (n : ℕ). read_on 0 (decimal_of n) ≡ n)
    (λ n h. ap (read_on 0) (decimal-small n h) ∙ omega arith)
    (λ n h ih.
    ap (read_on 0) (decimal-large n h)
    ∙ read-last 0 (decimal_of (n / 10)) (0x30 + n % 10)
    ∙ ap (λ (v : ℕ). v * 10 + (0x30 + n % 10 - 0x30)) ih
    ∙ omega arith)

pub decimal-decides : (n m : ℕ) → decimal_of n ≡ decimal_of m → n ≡ m
decimal-decides n m e = sym (decimal-back n) ∙ ap (read_on 0) e ∙ decimal-back m

-- a text that starts with `0` is that of 0 alone
pub no-spare-zero : (n : ℕ) → get_or (decimal_of n) 0 0 ≡ 0x30 → n ≡ 0
no-spare-zero =
    by-tens (λ (n : ℕ). get_or (decimal_of n) 0 0 ≡ 0x30 → n ≡ 0)
    (λ n h z. let e : 0x30 + n ≡ 0x30 = sym (ap (λ (l : List ℕ). get_or l 0 0) (decimal-small n h)) ∙ z in omega arith)
    (λ n h ih z.
    let a = get_or-append (decimal_of (n / 10)) ((0x30 + n % 10) ∷ []) 0 0 (decimal-some (n / 10)) in
    let e : n / 10 ≡ 0 = ih (sym a ∙ sym (ap (λ (l : List ℕ). get_or l 0 0) (decimal-large n h)) ∙ z) in
    absurd (let q : ⊥ = omega arith in q))
