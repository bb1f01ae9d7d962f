-- Condition 3, for every cutting: `condition-3`, whose type is the statement in specs/.
-- `recovered` is the same for calls that are each offered any number of the bytes that come next.
use mathlib.Core.Path.{◌≡◌, sym, ap, ◌∙◌}
use mathlib.Core.List.{List, [], ◌∷◌, ◌++◌, append_assoc, append-nil}
use Prim.Native.Nat.{ℕ, suc}
use native.Mathlib.Omega.{arith}
use lib.Dec.{leb}
use lib.ListN.{length, length-append, replicate-append-replicate}
use Rattle.general.proofs.Cases.{by-test}
use Rattle.error.specs.Refusal.{yes}
use Rattle.splitter.specs.declared.FrameSplitter.{FrameSplitter}
use Rattle.splitter.specs.Feed.{more, overlong, frame, new}
use Rattle.stream.specs.Stream.{Said, Call, Calls, taken_by, answer_to}
use Rattle.stream.specs.Heard.{heard}
use Rattle.stream.proofs.Line.{hear, silence, hear-append, hear-length}
use Rattle.stream.proofs.Stream.{Plain, Follows, follows-fresh, spoken, answers-heard}
use Rattle.stream.proofs.Rust.{line-says}
use Rattle.stream.proofs.Ends.{feeds-calls}
use Rattle.frame.proofs.Round.{open-back, copy-back}
use Rattle.frame.proofs.Wires.{Framed}
use Rattle.recovery.specs.Recovery.{Sent, wires, pending, answers_for, InOrder, end, then, HandedOver, Condition3}
use Rattle.recovery.proofs.Upto.{Upto, upto, said-as, past}
use Rattle.recovery.proofs.Wires.{open_after, Over, over-wire, fits_said, sent-framed}

-- ---- a wire's answer falls at its end

module _ (H : ℕ) where
  not_more : (w : List ℕ) → answer_to H w ≡ yes more → ⊥
  not_more w e =
      by-test (leb (length w) H)
      (λ b.
      let z : ◌≡◌ {A = Said} (yes (frame w)) (yes more) = rw b at e in
      let n : ◌≡◌ {A = ℕ} 0 1 = cc in
      omega arith)
      (λ b.
      let z : ◌≡◌ {A = Said} (yes overlong) (yes more) = rw b at e in
      let n : ◌≡◌ {A = ℕ} 0 1 = cc in
      omega arith)

  -- what is heard of some bytes by themselves, but More
  says-alone : (b : List ℕ) → spoken (hear H [] b) ≡ answers_for H b
  says-alone b = rw append-nil at (line-says H (b ∷ []))

  -- the calls up to the end of a wire: before it come bytes that are left over and say nothing, and an unclosed start may have begun
  up-to-wire : (left begun : List ℕ) {w : List ℕ} → Framed w → (r : List ℕ) (t : List Call) → Plain t → heard t ≡ silence (length left) ++ hear H begun (w ++ r)
      → taken_by t ≡ left ++ (w ++ r) → Upto (left ++ w) (answer_to H (begun ++ w)) r (hear H [] r) t
  up-to-wire left begun {w} k r t plain e b =
      let m : List ℕ = 0xF0 ∷ k.inner in
      let a : Said = answer_to H (begun ++ w) in
      let o : Over H begun w = over-wire H begun k in
      let size : length w ≡ suc (length m) = rw k.is (omega (arith, length-append k.inner (0xF1 ∷ []))) in
      let over : hear H begun (w ++ r) ≡ silence (length m) ++ (a ∷ hear H [] r) =
      hear-append H begun w r ∙ rw (o.hears, o.shut, size) (append_assoc (silence (length m)) (a ∷ []) (hear H [] r)) in
      let quiet : silence (length left) ++ silence (length m) ≡ silence (length (left ++ m)) =
      replicate-append-replicate {A = Said} (length left) (length m) (yes more) ∙ ap silence (sym (length-append left m)) in
      let h : heard t ≡ silence (length (left ++ m)) ++ (a ∷ hear H [] r) =
      e ∙ ap (λ (l : List Said). silence (length left) ++ l) over
      ∙ sym (append_assoc (silence (length left)) (silence (length m)) (a ∷ hear H [] r))
      ∙ ap (λ (l : List Said). l ++ (a ∷ hear H [] r)) quiet in
      let v : left ++ w ≡ (left ++ m) ++ (0xF1 ∷ []) = rw k.is (sym (append_assoc left m (0xF1 ∷ []))) in
      let c : taken_by t ≡ ((left ++ m) ++ (0xF1 ∷ [])) ++ r = b ∙ sym (append_assoc left w r) ∙ ap (λ (l : List ℕ). l ++ r) v in
      rw v (upto (left ++ m) r a (hear H [] r) t plain (not_more (begun ++ w)) h c)

in_order : {H : ℕ} (fs : List (Sent H)) (rest : List ℕ) (t : List Call) → Plain t → heard t ≡ hear H [] (wires fs ++ rest) → taken_by t ≡ wires fs ++ rest
    → InOrder rest fs t
in_order {H} [] rest t p e b = end b (answers-heard t ∙ ap spoken e ∙ says-alone H rest)
in_order {H} (f ∷ fs) rest t p e b =
    let after : List ℕ = wires fs ++ rest in
    let i : wires (f ∷ fs) ++ rest ≡ f.wire ++ after = append_assoc f.wire (wires fs) rest in
    let u = up-to-wire H [] [] (sent-framed f) after t p (e ∙ ap (hear H []) i) (b ∙ i) in
    rw u.calls (then (said-as u.takes (fits_said H f.fits)) (in_order fs rest u.later u.plain u.hears u.rest))

-- ---- the condition

pub recovered : {h k : List ℕ} {s : FrameSplitter} {t : List Call} (noise : List ℕ) (f : Sent (length h)) (fs : List (Sent (length h))) (rest : List ℕ)
    → Calls new h (noise ++ (wires (f ∷ fs) ++ rest)) t s k → HandedOver noise f fs rest t
recovered {h} {k} {s} {t} noise f fs rest c =
    let H = length h in
    let after : List ℕ = wires fs ++ rest in
    let i : noise ++ (wires (f ∷ fs) ++ rest) ≡ noise ++ (f.wire ++ after) = ap (λ (x : List ℕ). noise ++ x) (append_assoc f.wire (wires fs) rest) in
    let l : Follows new h [] (noise ++ (wires (f ∷ fs) ++ rest)) t s k = follows-fresh c in
    let e : heard t ≡ hear H [] noise ++ hear H (pending noise) (f.wire ++ after) =
    l.hears ∙ ap (hear H []) i ∙ hear-append H [] noise (f.wire ++ after)
    ∙ ap (λ (x : List ℕ). hear H [] noise ++ hear H x (f.wire ++ after)) (open_after noise) in
    let behind = hear H (pending noise) (f.wire ++ after) in
    let p = past noise (f.wire ++ after) behind t l.plain (l.takes ∙ i) (hear H [] noise) (hear-length H [] noise) e in
    let u = up-to-wire H p.left (pending noise) (sent-framed f) after p.after p.plain p.hears p.rest in
    record {
      noisy = p.noisy;
      left = p.left;
      apart = p.apart;
      says = p.says ∙ says-alone H noise;
      first = u.first;
      meets = u.takes;
      clear = λ z. said-as u.takes (ap (λ (x : List ℕ). answer_to H (x ++ f.wire)) z ∙ fits_said H f.fits);
      later = u.later;
      others = in_order fs rest u.later u.plain u.hears u.rest;
      calls = p.calls ∙ ap (λ (x : List Call). p.noisy ++ x) u.calls;
      opens = λ g. open-back g.fields g.room g.written;
      copies = λ g room. copy-back g.fields g.room room g.written;
    }

pub condition-3 : Condition3
condition-3 hold hold' state chunks calls c noise f fs rest e = recovered noise f fs rest (rw e at (feeds-calls c))
