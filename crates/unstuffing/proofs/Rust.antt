-- Unstuffing is the Rust's, read as the Rust's: an escape that is cut off is its code 00 at the same offset, all else is told alike.
-- So is whatever `unstuffed` answers, by its contract as the check reads it off src/ (`Post`).
use Rattle.std.proofs.Common.{◌≡◌, ℕ, ◌+◌, eqb, List, [], ◌∷◌, length, refl, ap, ◌∙◌}
use Rattle.error.specs.Refusal.{yes, on_yes}
use Rattle.error.specs.Rust.{as_rust}
use Rattle.error.proofs.Rust.{read-part}
use Rattle.general.proofs.Cases.{by-test}
use Rattle.error.specs.Result.{told}
use Rattle.stuffing.specs.Stuff.{unescape_of}
use Rattle.unstuffing.specs.Unstuff.{escape_by, step_by, after, unstuff}
use Rattle.unstuffing.specs.Rust.{rust_unstuff}
use Rattle.unstuffing.proofs.unstuffed.Reads as unstuffed

pub unstuff-as-rust : (i : ℕ) (s : List ℕ) → as_rust (unstuff i s) ≡ rust_unstuff i s
unfolding step_by escape_by
unstuff-as-rust i [] = refl
unstuff-as-rust i (b ∷ []) = by-test (eqb b 0xFD) (λ e. rw e) (λ e. rw e)
unstuff-as-rust i (b ∷ c ∷ l) =
    by-test (eqb b 0xFD)
    (λ e.
    by-test (eqb (unescape_of c) 0) (λ f. rw (e, f))
    (λ f. rw (e, f) (read-part _ (unstuff (i + 2) l) ∙ ap (after i (yes (unescape_of c))) (unstuff-as-rust (i + 2) l))))
    (λ e. rw e (read-part _ (unstuff (i + 1) (c ∷ l)) ∙ ap (after i (yes b)) (unstuff-as-rust (i + 1) (c ∷ l))))

pub unstuffed-as-rust : (κs a r x : _) → unstuffed.Post κs a r x → as_rust (told r) ≡ on_yes length (rust_unstuff 0 a.0.now)
unstuffed-as-rust κs a r x p = ap as_rust p ∙ read-part length (unstuff 0 a.0.now) ∙ ap (on_yes length) (unstuff-as-rust 0 a.0.now)
