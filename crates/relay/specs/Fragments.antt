-- A payload that comes in fragments and is not held: a relay keeps a running sum and a count, and it sends what `RawFrame::encode` writes of the whole.
-- `Relayed` is what it does with each fragment; the theorem `fragments` (proofs/Fragments) has the type `Fragments`.
use Rattle.std.specs.Prelude.{ℕ, ◌+◌, ◌/◌, ◌%◌, ◌≤◌, ◌≡◌, List, [], ◌∷◌, ◌++◌, length}
use Rattle.addr.specs.declared.BusAddr.{BusAddr}
use Rattle.addr.specs.Address.{byte_of}
use Rattle.error.specs.Refusal.{yes}
use Rattle.stuffing.specs.declared.summing.Stuffed.{Stuffed}
use Rattle.encoding.specs.Wire.{fields}
use Rattle.encoding.specs.Encode.{encode_rule}
use Rattle.relay.specs.Operations.{Checksum, Tally, WrittenAs}

-- behind some fragments: what they join to, the running sum, the bytes that were sent, and how many these are; DEST, SRC and TYPE come first,
-- as a fragment like any other
pub data Relayed : List ℕ → ℕ → List ℕ → ℕ → Type 0 where
  begun : Relayed [] 0 [] 0
  fragment : {s t out w : List ℕ} {sum n : ℕ} {a : Stuffed} → Relayed s sum out n → length t ≤ 65535 → Tally t a → WrittenAs t w
      → Relayed (s ++ t) ((sum + a.sum) % 65536) (out ++ w) (n + (length t + a.more))

-- what is sent in all: F0, the fragments as they are written, the sum's two bytes as they are written, F1
abbrev pub wire_sent : List ℕ → List ℕ → List ℕ
wire_sent out end = 0xF0 ∷ (out ++ (end ++ (0xF1 ∷ [])))

pub record Fragments : Type 0 where
  -- each fragment of 65,535 bytes at most can be sent next
  pub sends-next : {s out : List ℕ} {sum n : ℕ} → Relayed s sum out n → (t : List ℕ) → length t ≤ 65535
      → (sum' : ℕ) × (out' : List ℕ) × (n' : ℕ) × Relayed (s ++ t) sum' out' n'
  -- however a string was cut, it is sent as if it came whole; the count is the length of that, and the sum its checksum
  pub whole : {s out : List ℕ} {sum n : ℕ} → Relayed s sum out n → WrittenAs s out
  pub measured : {s out : List ℕ} {sum n : ℕ} → Relayed s sum out n → n ≡ length out
  pub summed : {s out : List ℕ} {sum n c : ℕ} → Relayed s sum out n → Checksum out c → sum ≡ c
  -- between F0 and F1, with the sum's two bytes behind it, it is the wire that encoding the whole payload writes, wherever there is room for it
  pub encoded : (dest src : BusAddr) (type : ℕ) (payload : List ℕ) {out end : List ℕ} {sum n : ℕ}
      → Relayed (byte_of dest ∷ byte_of src ∷ type ∷ payload) sum out n → WrittenAs (sum / 256 ∷ sum % 256 ∷ []) end
      → length payload ≤ 65535 → (room : ℕ) → n + length end + 2 ≤ room
      → encode_rule (fields dest src type payload) room ≡ yes (wire_sent out end)
