-- Two replies that a line's contract allows for one input are equal, and so are the two buffers at exit, by the contract as the
-- check reads it off src/ (`Post`): the text and the buffer at entry decide both.
use Rattle.std.proofs.Common.{◌≡◌, sym, ◌∙◌, List, ℕ}
use Rattle.std.specs.Prelude.{Result}
use Rattle.error.proofs.Decides.{one-told}
use Rattle.error.specs.declared.WireError.{WireError}
use Rattle.error.specs.Result.{told}
use Rattle.report.specs.Line.{Lined}
use Rattle.report.proofs.frame_line.Reads as frame-line
use Rattle.report.proofs.long_line.Reads as long-line
use Rattle.report.proofs.end_line.Reads as end_line
use Rattle.report.proofs.count_line.Reads as count-line

one_line : {text old : List ℕ} {r s : Result ℕ WireError} {new new' : List ℕ}
    → Lined text old (told r) new → Lined text old (told s) new' → (r ≡ s) × (new ≡ new')
one_line p q = (one-told p.reply q.reply, p.bytes ∙ sym q.bytes)

pub one-frame-line : (κs a r s x y : _)
    → frame-line.Post κs a r x → frame-line.Post κs a s y → (r ≡ s) × (x.1.1.1.0.now ≡ y.1.1.1.0.now)
one-frame-line κs a r s x y = one_line

pub one-long-line : (κs a r s x y : _) → long-line.Post κs a r x → long-line.Post κs a s y → (r ≡ s) × (x.1.0.now ≡ y.1.0.now)
one-long-line κs a r s x y = one_line

pub one-end-line : (κs a r s x y : _) → end_line.Post κs a r x → end_line.Post κs a s y → (r ≡ s) × (x.1.1.0.now ≡ y.1.1.0.now)
one-end-line κs a r s x y = one_line

pub one-count-line : (κs a r s x y : _) → count-line.Post κs a r x → count-line.Post κs a s y → (r ≡ s) × (x.1.1.0.now ≡ y.1.1.0.now)
one-count-line κs a r s x y = one_line
