-- A whole piece: what holds after each call of the splitter, from the first to the last.
-- `Going` is the invariant of that loop; where all is taken it is the rule's own answer (`finished`).
use Rattle.std.proofs.Common.{ℕ, zero, suc, ◌<◌, ◌≤◌, ◌≡◌, refl, sym, ap, ◌∙◌, false, List, [], ◌∷◌, not-suc-le-zero, arith, length, drop, length-drop}
use Rattle.splitter.specs.declared.Fed.{Fed}
use Rattle.std.specs.Prelude.{Result, IsOk}
use Rattle.error.specs.declared.WireError.{WireError}
use Rattle.splitter.specs.declared.FrameSplitter.{FrameSplitter}
use Rattle.splitter.specs.Feed.{Given, is_bad, is_full, given_by, taken_of}
use Rattle.session.proofs.Pieces.{answered}
use Rattle.splitter.proofs.Laws.{good-after, free-after}
use Rattle.stream.proofs.Ends.{feed-within, feed-moves}
use Rattle.line_noise.specs.Piece.{Between, between, offered, after_offer, wholly}

wholly-end : (k : ℕ) (t : Between) → wholly k t [] ≡ t
unfolding wholly
wholly-end zero t = refl
wholly-end (suc k) t = refl

wholly-step : (k : ℕ) (t : Between) (c : List ℕ) → 0 < length c → wholly (suc k) t c ≡ wholly k (after_offer t c) (drop (offered t c).taken c)
unfolding wholly
wholly-step k t [] h = absurd (not-suc-le-zero h)
wholly-step k t (b ∷ c) h = refl

-- a state that the next n bytes may be offered to: it is not refused
pub record Open (t : Between) (n : ℕ) : Type 0 where
  pub good : is_bad t.splitter (length t.hold) ≡ false
  pub free : is_full t.splitter n ≡ false

-- after a call it may be offered the rest: what was taken is counted, and it is no longer left
pub open_after : (t : Between) (c : List ℕ) → Open t (length c) → length (offered t c).hold ≡ length t.hold
    → Open (after_offer t c) (length (drop (offered t c).taken c))
open_after t c o size =
    record {
      good = rw size (good-after t.splitter t.hold c o.good);
      free = free-after t.splitter t.hold c o.good (feed-within t.splitter t.hold c) o.free;
    }

-- ---- the loop over a piece c, from t₀

module _ (t₀ : Between) (c : List ℕ) where
  -- what is left is still to be taken; k calls are enough for it
  pub record Going (t : Between) (left : List ℕ) : Type 0 where
    pub calls : ℕ
    pub enough : length left ≤ calls
    pub rest : wholly (length c) t₀ c ≡ wholly calls t left
    pub may : Open t (length left)
    pub held : length t.hold ≡ length t₀.hold

  pub going : Open t₀ (length c) → Going t₀ c
  going o = record { calls = length c; enough = omega arith; rest = refl; may = o; held = refl }

  -- a call of the splitter, with any reply that its contract allows: it is not refused, and takes a part of what is left
  module _ {t : Between} {left : List ℕ} (g : Going t left) (h : 0 < length left) (r : Result Fed WireError) (s : FrameSplitter) (hold : List ℕ)
      (e : given_by r s hold ≡ offered t left) where
    taken : taken_of r ≡ (offered t left).taken
    taken = ap (λ (x : Given). x.taken) e

    after : between s hold ≡ after_offer t left
    after = ap (λ (x : Given). between x.state x.hold) e

    pub moves : 0 < taken_of r
    moves = rw taken (feed-moves t.splitter t.hold left g.may.good g.may.free h)

    pub is_fed : IsOk r
    is_fed = answered r moves

    more : (k : ℕ) → g.calls ≡ suc k → wholly (length c) t₀ c ≡ wholly k (between s hold) (drop (taken_of r) left)
    more k q = g.rest ∙ ap (λ (n : ℕ). wholly n t left) q ∙ wholly-step k t left h ∙ rw (← after, ← taken)

    pub goes_on : length hold ≡ length t.hold → Going (between s hold) (drop (taken_of r) left)
    goes_on eh = with-calls g.calls refl
      where
        next : Open (between s hold) (length (drop (taken_of r) left))
        next = rw (after, taken) (open_after t left g.may (rw (← ap (λ (x : Given). x.hold) e) eh))

        with-calls : (n : ℕ) → g.calls ≡ n → Going (between s hold) (drop (taken_of r) left)
        with-calls zero q = absurd (let x : ⊥ = omega (arith, g.enough) in x)
        with-calls (suc m) q =
            record {
              calls = m;
              enough = omega (arith, g.enough, moves, length-drop (taken_of r) left);
              rest = more m q;
              may = next;
              held = eh ∙ g.held;
            }

  -- all is taken
  pub finished : {t : Between} {left : List ℕ} → Going t left → left ≡ [] → t ≡ wholly (length c) t₀ c
  finished {t} {left} g none = sym (g.rest ∙ ap (wholly g.calls t) none ∙ wholly-end g.calls t)
