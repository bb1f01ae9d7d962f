-- What the code of `frame` is proved to ensure, as the check reads it off src/lib.rt (`Post`), is what the theorem asks of a frame that
-- is sent and gives of one that is opened and copied. (That of `splitter` and of `view`: stream, proofs/Contract.)
use mathlib.Core.Path.{◌≡◌, sym, ap, ◌∙◌}
use mathlib.Core.List.{List, ◌++◌}
use Prim.Native.Nat.{ℕ, ◌≤◌}
use native.Mathlib.Omega.{arith}
use lib.ListN.{length, take, drop}
use lib.Seq.{take_at}
use Rattle.std.specs.declared.result.Result.TheVariants.{Ok}
use Rattle.error.specs.Refusal.{Told, yes, no, on_yes, filled}
use Rattle.error.specs.Result.{told}
use Rattle.encoding.proofs.Cases.{encode-fits}
use Rattle.frame.specs.Wire.{Fields, fields, wire_of}
use Rattle.frame.specs.Rule.{encode_rule, header_of, open_rule, copy_rule}
use Rattle.frame.proofs.Round.{open-back, copy-back}
use Rattle.recovery.specs.Recovery.{Sent}
use Rattle.frame.proofs.RawFrame.encode.Reads as encode
use Rattle.frame.proofs.RawFrame.open.Reads as opening
use Rattle.frame.proofs.RawFrame.copy_payload.Reads as copying

-- every frame that `encode` takes and the hold buffer has room for
pub sent : (H : ℕ) (f : Fields) → length f.payload ≤ 65535 → length (wire_of f) ≤ H → Sent H
sent H f l m = record { fields = f; room = H; wire = wire_of f; written = encode-fits f H l m; fits = omega arith }

-- an answer that is the length of what fills the front
filled-front : (T : Told (List ℕ)) (n : ℕ) (old new : List ℕ) → yes n ≡ on_yes length T → new ≡ filled T old → T ≡ yes (take n new)
filled-front (yes w) n old new e f =
    let k : length w ≡ n = cc in
    ap yes (sym (ap (take n) f ∙ take_at w (drop (length w) old) n k))
filled-front (no k vs) n old new e f = cc

-- A call of `encode` with DEST, SRC, TYPE, payload and wire buffer a that answers Ok n has written a wire at the buffer's front:
-- the n bytes there are what `Sent` asks for.
pub encode-sends : (κs a r x : _) → encode.Post κs a r x
    → (n : ℕ) → r ≡ Ok n
    → encode_rule (fields a.0 a.1.0 a.1.1.0 a.1.1.1.0.now) (length a.1.1.1.1.0.now) ≡ yes (take n x.1.1.1.1.0.now)
encode-sends κs a r x p n e =
    let f = fields a.0 a.1.0 a.1.1.0 a.1.1.1.0.now in
    filled-front (encode_rule f (length a.1.1.1.1.0.now)) n a.1.1.1.1.0.now x.1.1.1.1.0.now (sym (ap told e) ∙ p.0) p.1

-- A call of `open` with the wire g of a sound frame: the header that g was written from, and its payload's length.
pub open_gives : {H : ℕ} (g : Sent H) (κs a r x : _) → opening.Post κs a r x → a.0.now ≡ g.wire → told r ≡ yes (header_of g.fields)
open_gives g κs a r x p w = p ∙ ap open_rule w ∙ open-back g.fields g.room g.written

-- A call of `copy_payload` with that wire and a buffer that has room: the payload that g was written from, at the buffer's front.
pub copy_gives : {H : ℕ} (g : Sent H) (κs a r x : _) → copying.Post κs a r x
    → a.0.now ≡ g.wire → length g.fields.payload ≤ length a.1.0.now
    → (told r ≡ yes (length g.fields.payload)) × (x.1.0.now ≡ g.fields.payload ++ drop (length g.fields.payload) a.1.0.now)
copy_gives g κs a r x p w l =
    let old = a.1.0.now in
    let e : copy_rule a.0.now (length old) ≡ yes g.fields.payload =
    ap (λ (v : List ℕ). copy_rule v (length old)) w ∙ copy-back g.fields g.room (length old) g.written l in
    (p.0 ∙ ap (on_yes length) e, p.1 ∙ ap (λ (t : Told (List ℕ)). filled t old) e)
