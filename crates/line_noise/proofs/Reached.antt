-- What calls of `take_all` lead to, from fresh, and one call more: what a loop over pieces keeps.
-- The call's own equation is its contract; one that is refused alters nothing, and leaves what was reached.
use Rattle.std.proofs.Common.{◌≡◌, refl, sym, ap, ◌∙◌, subst, List, [], ◌∷◌, ◌++◌, ℕ, length}
use Rattle.general.proofs.Cases.{by-test}
use Rattle.std.specs.Prelude.{Result}
use Rattle.error.specs.declared.WireError.{WireError}
use Rattle.splitter.specs.declared.FrameSplitter.{FrameSplitter}
use Rattle.splitter.specs.Feed.{is_bad, is_full}
use Rattle.line_noise.specs.Piece.{Between, between, Outcome, take_rule, outcome_of}
use Rattle.line_noise.specs.Program.{first, Pieces, done, piece, Reached}
use Rattle.line_noise.proofs.Rules.{take-bad, take-full, take-free}

pub behind-last : {t t' t'' : Between} {cs : List (List ℕ)} {c : List ℕ} → Pieces t cs t' → Pieces t' (c ∷ []) t'' → Pieces t (cs ++ (c ∷ [])) t''
behind-last done next = next
behind-last (piece r s h e y rest) next = piece r s h e y (behind-last rest next)

pub starts : (h : List ℕ) → Reached h (first h)
starts h = record { cs = []; pieces = done }

module _ {h : List ℕ} (t : Between) (c : List ℕ) (r : Result Unit WireError) (s : FrameSplitter) (h' : List ℕ)
    (e : outcome_of r s h' ≡ take_rule t c) (before : Reached h t) where
  stays : {o : Outcome} → o ≡ take_rule t c → o.kept ≡ t → Reached h (between s h')
  stays q k = subst (Reached h) (sym (ap (λ (x : Outcome). x.kept) (e ∙ sym q) ∙ k)) before

  pub goes_further : Reached h (between s h')
  goes_further =
      by-test (is_bad t.splitter (length t.hold))
      (λ b. stays (take-bad t c b) refl)
      (λ good.
      by-test (is_full t.splitter (length c))
      (λ f. stays (take-full t c good f) refl)
      (λ free.
      let y = ap (λ (x : Outcome). x.reply) (e ∙ sym (take-free t c good free)) in
      record { cs = _; pieces = behind-last before.pieces (piece r s h' e y done) }))
