-- A wire by its parts, as they are measured and as they are stored: the head, the payload, the checksum.
-- The three parts together are the wire, in length and byte by byte.
use Rattle.std.proofs.Common.{◌≡◌, ℕ, ◌+◌, ◌-◌, ◌*◌, ◌/◌, ◌%◌, ◌<◌, ◌≤◌, List, [], ◌∷◌, ◌++◌, length, take, drop, set, sym, refl, ap, ◌∙◌, append_assoc, arith, length-append, length-set}
use Rattle.std.specs.Int.{w16, to_be_bytes}
use lib.Seq.{sets}
use Rattle.stuffing.specs.Stuff.{stuff, sum16}
use Rattle.stuffing.proofs.Stuffing.{stuff-append, stuff-least, stuff-most}
use Rattle.stuffing.proofs.Sums.{sum-append}
use Rattle.encoding.specs.Wire.{Fields, body_of, checksum_of, wire_of}
use Rattle.encoding.specs.Parts.{head_of}
use Rattle.general.proofs.Stores.{sets-append}
use Rattle.encoding.proofs.Stores.{read_again}

-- what a tally counts of a string of at most 65,535 bytes
pub tallied : (s : List ℕ) {more : ℕ} → more ≡ (length (stuff s) - length s) % 65536 → length s ≤ 65535 → more + length s ≡ length (stuff s)
tallied s e h = omega (arith, stuff-least s, stuff-most s)

-- a checksum as it is sent: its high byte, then its low one
pub two-bytes : (n : ℕ) → n < 65536 → to_be_bytes w16 n ≡ n / 256 ∷ n % 256 ∷ []
two-bytes n h = let e : n / 256 % 256 ≡ n / 256 = omega arith in rw e

module _ (f : Fields) (head : List ℕ) (is : head ≡ head_of f) where
  body_is : body_of f ≡ stuff head ++ stuff f.payload
  unfolding body_of
  body_is = rw is (stuff-append (head_of f) f.payload)

  checksum-is : checksum_of f ≡ (sum16 (stuff head) + sum16 (stuff f.payload)) % 65536
  unfolding checksum_of
  checksum-is = rw body_is (sum-append (stuff head) (stuff f.payload))

  -- by the two tallies
  pub checksum-tallied : {h p n : ℕ} → h ≡ sum16 (stuff head) → p ≡ sum16 (stuff f.payload) → n ≡ (h + p) % 65536 → n ≡ checksum_of f
  checksum-tallied he pe e = e ∙ (λ j. (he j + pe j) % 65536) ∙ sym checksum-is

  -- by the stuffed bytes, where they were stored
  pub checksum-written : (old b1 b2 : List ℕ) (a1 a2 : ℕ) {n : ℕ} → a2 ≤ length old
      → b1 ≡ sets (set old 0 0xF0) 1 (stuff head) → a1 ≡ 1 + length (stuff head)
      → b2 ≡ sets b1 a1 (stuff f.payload) → a2 ≡ a1 + length (stuff f.payload)
      → n ≡ sum16 (take (a2 - 1) (drop 1 b2)) → n ≡ checksum_of f
  unfolding checksum_of
  checksum-written old b1 b2 a1 a2 room e1 f1 e2 f2 e =
      let w = stuff head ++ stuff f.payload in
      let l = set old 0 0xF0 in
      let x : b2 ≡ sets l 1 w = e2 ∙ (λ j. sets (e1 j) (f1 j) (stuff f.payload)) ∙ sets-append (stuff head) (stuff f.payload) l 1 in
      let n : length w ≡ a2 - 1 = omega (arith, length-append (stuff head) (stuff f.payload)) in
      let fits : 1 + (a2 - 1) ≤ length l = omega (arith, length-set old 0 0xF0) in
      e ∙ ap (λ (b : List ℕ). sum16 (take (a2 - 1) (drop 1 b))) x ∙ ap sum16 (read_again w l 1 (a2 - 1) fits n ∙ sym body_is)

  module _ (n : ℕ) (cs : n ≡ checksum_of f) where
    abbrev tail : List ℕ
    tail = n / 256 ∷ n % 256 ∷ []

    parts : wire_of f ≡ 0xF0 ∷ (stuff head ++ (stuff f.payload ++ (stuff tail ++ (0xF1 ∷ []))))
    unfolding wire_of
    parts = rw (← cs, body_is, append_assoc)

    pub wire-length : length (wire_of f) ≡ length (stuff head) + length (stuff f.payload) + length (stuff tail) + 2
    wire-length =
        rw parts
        (omega (
          arith,
          length-append (stuff head) (stuff f.payload ++ (stuff tail ++ (0xF1 ∷ []))),
          length-append (stuff f.payload) (stuff tail ++ (0xF1 ∷ [])),
          length-append (stuff tail) (0xF1 ∷ []),
        ))

    pub wire-measured : (h p t : ℕ) → length f.payload ≤ 65535
        → h ≡ (length (stuff head) - length head) % 65536
        → p ≡ (length (stuff f.payload) - length f.payload) % 65536
        → t ≡ (length (stuff tail) - length tail) % 65536
        → length f.payload + 7 + h + p + t ≡ length (wire_of f)
    wire-measured h p t few he pe te =
        let three : length head ≡ 3 = ap length is in
        omega (arith, wire-length, tallied head he (omega arith), tallied f.payload pe few, tallied tail te (omega arith))

    -- the stores of a wire, run after run
    pub wire-stores : (old b1 b2 b3 : List ℕ) (a1 a2 a3 : ℕ)
        → b1 ≡ sets (set old 0 0xF0) 1 (stuff head) → a1 ≡ 1 + length (stuff head)
        → b2 ≡ sets b1 a1 (stuff f.payload) → a2 ≡ a1 + length (stuff f.payload)
        → b3 ≡ sets b2 a2 (stuff tail) → a3 ≡ a2 + length (stuff tail)
        → set b3 a3 0xF1 ≡ sets old 0 (wire_of f)
    wire-stores old b1 b2 b3 a1 a2 a3 e1 f1 e2 f2 e3 f3 =
        let end : List ℕ = 0xF1 ∷ [] in
        let pay = stuff f.payload in
        let x1 : sets b3 a3 end ≡ sets b2 a2 (stuff tail ++ end) = cc (sets-append (stuff tail) end b2 a2) in
        let x2 : sets b2 a2 (stuff tail ++ end) ≡ sets b1 a1 (pay ++ (stuff tail ++ end)) = cc (sets-append pay (stuff tail ++ end) b1 a1) in
        let x3 : sets b1 a1 (pay ++ (stuff tail ++ end)) ≡ sets (set old 0 0xF0) 1 (stuff head ++ (pay ++ (stuff tail ++ end)))
        = cc (sets-append (stuff head) (pay ++ (stuff tail ++ end)) (set old 0 0xF0) 1) in
        rw parts (x1 ∙ x2 ∙ x3)

-- no wire is longer: each byte between the marks gets two
pub wire-most : (f : Fields) → length (wire_of f) ≤ 2 * length f.payload + 12
wire-most f =
    let head = head_of f in
    let tail : List ℕ = checksum_of f / 256 ∷ checksum_of f % 256 ∷ [] in
    omega (arith, wire-length f head refl (checksum_of f) refl, stuff-most head, stuff-most f.payload, stuff-most tail)
