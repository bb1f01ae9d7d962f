-- Document 01, 'Frames': what a wire is tested for, in the order given there, and what it carries.
-- A refusal is its number and values; `head_of` is what is answered of a wire that passes.
use Rattle.std.specs.Prelude.{ℕ, ◌+◌, ◌-◌, ◌*◌, cond, not, List, [], ◌∷◌, eqb, ltb, length, get_or, take, drop}
use Rattle.error.specs.Refusal.{Told, yes, no, and_then}
use Rattle.addr.specs.declared.BusAddr.{BusAddr}
use Rattle.addr.specs.Address.{address_rule}
use Rattle.stuffing.specs.Stuff.{sum16}
use Rattle.unstuffing.specs.Unstuff.{unstuff, byte_at, offset_at, unit_bytes}
use Rattle.encoding.specs.Wire.{Fields, fields}
use Rattle.checking.specs.declared.Head.{Head}

-- what stands between the first and the last byte
abbrev pub interior : List ℕ → List ℕ
interior wire = take (length wire - 2) (drop 1 wire)

-- the checksum that came, the last two unstuffed bytes; and the sum of the stuffed bytes before it
abbrev pub received_of : List (ℕ × ℕ) → ℕ
received_of us = byte_at us (length us - 2) * 256 + byte_at us (length us - 1)

abbrev pub computed_of : List ℕ → List (ℕ × ℕ) → ℕ
computed_of inner us = sum16 (take (offset_at us (length us - 2)) inner)

abbrev pub payload_of : List (ℕ × ℕ) → List ℕ
payload_of us = take (length us - 5) (drop 3 (unit_bytes us))

-- DEST, then SRC (6)
unfoldable pub addresses_rule : List (ℕ × ℕ) → Told Fields
addresses_rule us =
    and_then (address_rule (byte_at us 0)) (λ dest. and_then (address_rule (byte_at us 1)) (λ src. yes (fields dest src (byte_at us 2) (payload_of us))))

-- checksum (5)
unfoldable pub sum_rule : List ℕ → List (ℕ × ℕ) → Told Fields
sum_rule inner us =
    cond (not (eqb (received_of us) (computed_of inner us))) (no 5 (received_of us ∷ computed_of inner us ∷ [])) (addresses_rule us)

-- fewer than five unstuffed bytes (1, with the wire length)
unfoldable pub units_rule : ℕ → List ℕ → List (ℕ × ℕ) → Told Fields
units_rule whole inner us = cond (ltb (length us) 5) (no 1 (whole ∷ [])) (sum_rule inner us)

-- length below 7 (1); first byte (2); last byte (3); escapes, left to right, by how an interior unstuffs
abbrev pub check_by : (List ℕ → Told (List (ℕ × ℕ))) → List ℕ → Told Fields
check_by unstuffed wire =
    cond (ltb (length wire) 7) (no 1 (length wire ∷ []))
    (cond (not (eqb (get_or wire 0 0) 0xF0)) (no 2 (get_or wire 0 0 ∷ []))
    (cond (not (eqb (get_or wire (length wire - 1) 0) 0xF1)) (no 3 [])
    (and_then (unstuffed (interior wire)) (units_rule (length wire) (interior wire)))))

-- a wrong escape is 4, or 12 if it is cut off
unfoldable pub check_rule : List ℕ → Told Fields
check_rule wire = check_by (unstuff 0) wire

-- ---- a wire as it is answered

-- its payload's stuffed bytes stand between two places of the wire: from its fourth unstuffed byte up to its last but one
abbrev pub head : BusAddr → BusAddr → ℕ → ℕ → ℕ → ℕ → Head
head dest src type len from to = record { dest = dest; src = src; type_id = type; len = len; from = from; to = to }

abbrev pub head_at : List (ℕ × ℕ) → Fields → Head
head_at us f = head f.dest f.src f.type (length f.payload) (offset_at us 3 + 1) (offset_at us (length us - 2) + 1)

-- what an interior unstuffs to; nothing where it does not
abbrev pub units_of : Told (List (ℕ × ℕ)) → List (ℕ × ℕ)
units_of (yes us) = us
units_of (no k vs) = []

abbrev pub head_of : List ℕ → Fields → Head
head_of wire f = head_at (units_of (unstuff 0 (interior wire))) f
