-- Parsing is the Rust's, read as the Rust's, but for the room that a caller lends (8); so is whatever `RawFrame::open` and `copy_payload`
-- answer, by their contracts as the check reads them off src/ (`Post`). What either refuses, but for room, checking refuses.
use mathlib.Core.Path.{◌≡◌, refl, ap, ◌∙◌}
use mathlib.Core.Bool.{false}
use mathlib.Core.List.{List}
use Prim.Native.Nat.{ℕ}
use lib.Dec.{eqb, ltb}
use lib.ListN.{length}
use Rattle.general.proofs.Cases.{by-test}
use Rattle.error.specs.Refusal.{Told, no, on_yes, and_then}
use Rattle.error.specs.Rust.{as_rust}
use Rattle.error.proofs.Tells.{is_told, told-before, part-refused}
use Rattle.error.proofs.Rust.{read-part, read-then}
use Rattle.error.specs.Result.{told}
use Rattle.checking.specs.Rust.{rust_parse}
use Rattle.checking.proofs.Rust.{check-as-rust}
use Rattle.frame.specs.Wire.{Fields}
use Rattle.frame.specs.Rule.{check_rule, room_rule, parse_rule, header_of, open_rule, payload_told, copy_rule}
use Rattle.frame.proofs.RawFrame.open.Reads as opening
use Rattle.frame.proofs.RawFrame.copy_payload.Reads as copying

-- for room only 8 is told
room-tells : (n : ℕ) → eqb 8 n ≡ false → (room : ℕ) (f : Fields) → is_told n (room_rule room f) ≡ false
room-tells n not-8 room f = by-test (ltb room (length f.payload)) (λ e. rw e not-8) (λ e. rw e)

pub parse-as-rust : (w : List ℕ) (room : ℕ) → as_rust (parse_rule w room) ≡ and_then (rust_parse w) (room_rule room)
unfolding parse_rule
parse-as-rust w room =
    read-then (check_rule w) (room_rule room) (room-tells 12 refl room) ∙ ap (λ (t : Told Fields). and_then t (room_rule room)) (check-as-rust w)

pub opened-as-rust : (κs a r x : _) → opening.Post κs a r x → as_rust (told r) ≡ on_yes header_of (rust_parse a.0.now)
opened-as-rust κs a r x p =
    let w = a.0.now in
    ap as_rust p ∙ read-part header_of (check_rule w) ∙ ap (on_yes header_of) (check-as-rust w)

pub copied-as-rust : (κs a r x : _) → copying.Post κs a r x
    → as_rust (told r) ≡ on_yes length (payload_told (and_then (rust_parse a.0.now) (room_rule (length a.1.0.now))))
copied-as-rust κs a r x p =
    let room = length a.1.0.now in
    ap as_rust p.0
    ∙ read-part length (copy_rule a.0.now room)
    ∙ ap (on_yes length) (read-part (λ f. f.payload) (parse_rule a.0.now room) ∙ ap payload_told (parse-as-rust a.0.now room))

-- ---- what either refuses, but for room, checking refuses (the converse: `refused-alike`); so 12 and 4 are told where checking tells them

pub open-refused : (w : List ℕ) (k : ℕ) (vs : List ℕ) → open_rule w ≡ no k vs → check_rule w ≡ no k vs
open-refused w k vs e = part-refused header_of (check_rule w) k vs e

pub copy-refused : (w : List ℕ) (room k : ℕ) (vs : List ℕ) → eqb 8 k ≡ false → copy_rule w room ≡ no k vs → check_rule w ≡ no k vs
unfolding parse_rule
copy-refused w room k vs not-8 e =
    told-before (check_rule w) (room_rule room) k vs (room-tells k not-8 room) (part-refused (λ f. f.payload) (and_then (check_rule w) (room_rule room)) k vs e)
