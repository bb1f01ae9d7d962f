-- What a relay sends of a payload in fragments is the wire of the whole: each part is the relay's laws again, one fragment at a time.
-- So it is what `RawFrame::encode` writes, by its contract as the check reads it off src/ (`Post`).
use mathlib.Core.Path.{◌≡◌, refl, sym, ap, ◌∙◌}
use mathlib.Core.List.{List, [], ◌∷◌, ◌++◌}
use Prim.Native.Nat.{ℕ, ◌+◌, ◌/◌, ◌%◌, ◌≤◌}
use native.Mathlib.Omega.{arith}
use lib.ListN.{length, drop, length-append}
use Rattle.addr.specs.declared.BusAddr.{BusAddr}
use Rattle.addr.specs.Address.{byte_of}
use Rattle.error.specs.Refusal.{Told, yes, on_yes, filled}
use Rattle.std.specs.declared.result.Result.TheVariants.{Ok}
use Rattle.error.proofs.Decides.{one-told}
use Rattle.stuffing.specs.Stuff.{sum16}
use Rattle.encoding.specs.Wire.{fields, body_of, checksum_of, wire_of}
use Rattle.encoding.specs.Encode.{encode_rule}
use Rattle.encoding.proofs.Cases.{encode-fits}
use Rattle.frame.proofs.RawFrame.encode.Reads as encode
use Rattle.relay.specs.Operations.{WrittenAs, nothing}
use Rattle.relay.specs.Fragments.{Relayed, begun, fragment, wire_sent, Fragments}
use Rattle.relay.proofs.Laws.{laws}
use Rattle.relay.proofs.Operations.{checksum-answer, sum-answer, written-stuffed, operations}

-- ---- fragment by fragment

sends-next : {s out : List ℕ} {sum n : ℕ} → Relayed s sum out n → (t : List ℕ) → length t ≤ 65535
    → (sum' : ℕ) × (out' : List ℕ) × (n' : ℕ) × Relayed (s ++ t) sum' out' n'
sends-next r t l = (_, _, _, fragment r l (operations.answered t).1.1 (operations.written t).1)

whole : {s out : List ℕ} {sum n : ℕ} → Relayed s sum out n → WrittenAs s out
whole begun = nothing
whole (fragment r l a p) = operations.joins (whole r) p

measured : {s out : List ℕ} {sum n : ℕ} → Relayed s sum out n → n ≡ length out
measured begun = refl
measured (fragment {out = out} {w = w} r l a p) = omega (arith, measured r, operations.length_ahead l a p, length-append out w)

summed : {s out : List ℕ} {sum n : ℕ} → Relayed s sum out n → sum ≡ sum16 out
unfolding sum16
summed begun = refl
summed (fragment {out = out} {w = w} r l a p) = rw (summed r, sum-answer a, ← written-stuffed p) (sym (laws.sums out w))

-- ---- the wire

sent-length : (out end : List ℕ) → length (wire_sent out end) ≡ length out + length end + 2
sent-length out end = omega (arith, length-append out (end ++ (0xF1 ∷ [])), length-append end (0xF1 ∷ []))

module _ (dest src : BusAddr) (type : ℕ) (payload : List ℕ) {out end : List ℕ} {sum n : ℕ}
    (r : Relayed (byte_of dest ∷ byte_of src ∷ type ∷ payload) sum out n) (e : WrittenAs (sum / 256 ∷ sum % 256 ∷ []) end) where
  wire-relayed : wire_of (fields dest src type payload) ≡ wire_sent out end
  unfolding wire_of checksum_of body_of
  wire-relayed = rw (written-stuffed e, summed r, written-stuffed (whole r))

  encoded : length payload ≤ 65535 → (room : ℕ) → n + length end + 2 ≤ room → encode_rule (fields dest src type payload) room ≡ yes (wire_sent out end)
  encoded l room h =
      let fits : length (wire_of (fields dest src type payload)) ≤ room = omega (arith, ap length wire-relayed, sent-length out end, measured r) in
      encode-fits (fields dest src type payload) room l fits ∙ ap yes wire-relayed

pub fragments : Fragments
fragments = record { sends-next = sends-next; whole = whole; measured = measured; summed = λ r c. summed r ∙ sym (checksum-answer c); encoded = encoded }

-- A call of `RawFrame::encode` with DEST, SRC, TYPE, the whole payload and a wire buffer a that has room: at its front it writes what the relay sent.
pub encode-sends-alike : (κs a r x : _) → encode.Post κs a r x
    → {out end : List ℕ} {sum n : ℕ} → Relayed (byte_of a.0 ∷ byte_of a.1.0 ∷ a.1.1.0 ∷ a.1.1.1.0.now) sum out n
    → WrittenAs (sum / 256 ∷ sum % 256 ∷ []) end → length a.1.1.1.0.now ≤ 65535 → n + length end + 2 ≤ length a.1.1.1.1.0.now
    → (r ≡ Ok (n + length end + 2))
    × (x.1.1.1.1.0.now ≡ wire_sent out end ++ drop (n + length end + 2) a.1.1.1.1.0.now)
encode-sends-alike κs a r x p {out} {end} {sum} {n} s e l h =
    let old = a.1.1.1.1.0.now in
    let t : encode_rule (fields a.0 a.1.0 a.1.1.0 a.1.1.1.0.now) (length old) ≡ yes (wire_sent out end) =
    encoded a.0 a.1.0 a.1.1.0 a.1.1.1.0.now s e l (length old) h in
    let k : length (wire_sent out end) ≡ n + length end + 2 = sent-length out end ∙ rw (measured s) in
    let b : filled (yes (wire_sent out end)) old ≡ wire_sent out end ++ drop (n + length end + 2) old = ap (λ (m : ℕ). wire_sent out end ++ drop m old) k in
    (one-told (p.0 ∙ ap (on_yes length) t ∙ ap yes k) refl, p.1 ∙ ap (λ (u : Told (List ℕ)). filled u old) t ∙ b)
