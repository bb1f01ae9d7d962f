-- One event's line is put: it is at most 128 bytes, so where 128 fit it is not refused (`is_put`), and it stands at the front (`wrote`).
-- Nothing is put where nothing is said.
use Rattle.std.proofs.Common.{◌≡◌, ℕ, ◌≤◌, List, [], length, sym, refl, ap, ◌∙◌, arith, lit≤, le-leb}
use Rattle.std.specs.Prelude.{Result, IsOk}
use Rattle.std.specs.declared.result.Result.TheVariants.{Ok, Err}
use Rattle.error.specs.declared.WireError.{WireError}
use Rattle.error.specs.Refusal.{Told, yes, on_yes, filled}
use Rattle.error.specs.Result.{told}
use Rattle.report.specs.Line.{Lined, fitted}
use Rattle.session.specs.Private.{Wrote}

told-ok : (r : Result ℕ WireError) (n : ℕ) → told r ≡ yes n → IsOk r
told-ok (Ok m) n e = refl
told-ok (Err x) n e = cc

module _ (text old : List ℕ) (r : Result ℕ WireError) (new : List ℕ) (l : Lined text old (told r) new) (h : 128 ≤ length old) where
  whole : fitted text (length old) ≡ yes text
  unfolding fitted
  whole = let s : length text ≤ length old = omega (arith, l.short) in rw (le-leb _ _ s)

  pub is_put : IsOk r
  is_put = told-ok r (length text) (l.reply ∙ ap (on_yes length) whole)

  pub wrote : (n : ℕ) → r ≡ Ok n → Wrote text old n new
  wrote n e =
      let same : yes n ≡ yes (length text) = sym (ap told e) ∙ l.reply ∙ ap (on_yes length) whole in
      record {
        count = cc;
        bytes = l.bytes ∙ ap (λ (x : Told (List ℕ)). filled x old) whole;
        short = l.short;
      }

pub silent : (out : List ℕ) → Wrote [] out 0 out
silent out = record { count = refl; bytes = refl; short = lit≤ tt }
