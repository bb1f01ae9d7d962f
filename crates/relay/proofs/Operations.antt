-- The relay's laws hold of what the operations answer: a string is written as it is stuffed, and each answer is the rule that its contract cites.
-- So each is one of the laws over the definitions, or a law of a stuffed string's length.
use mathlib.Core.Path.{◌≡◌, refl, sym, ap, ◌∙◌}
use mathlib.Core.List.{List, [], ◌∷◌, ◌++◌}
use Prim.Native.Nat.{ℕ, ◌+◌, ◌-◌, ◌%◌}
use native.Mathlib.Omega.{arith}
use lib.ListN.{length, length-append}
use base.Fml.{Lft}
use denote.Ref.{Bor}
use Rattle.general.proofs.Cases.{by-eq}
use Rattle.general.proofs.One.{plain}
use Rattle.error.specs.Refusal.{yes, on_yes}
use Rattle.std.specs.Prelude.{Result}
use Rattle.std.specs.declared.result.Result.TheVariants.{Ok}
use Rattle.error.specs.declared.WireError.{WireError}
use Rattle.error.proofs.Decides.{one-told}
use Rattle.error.specs.Result.{told}
use Rattle.stuffing.specs.Stuff.{escape_of, stuff, sum16}
use Rattle.stuffing.specs.declared.summing.Stuffed.{Stuffed}
use Rattle.stuffing.proofs.Codes.{plain as stands, escaped}
use Rattle.stuffing.proofs.Stuffing.{stuff-append, stuff-least}
use Rattle.stuffing.proofs.checksum.Reads as checksum
use Rattle.stuffing.proofs.tally.Reads as tally
use Rattle.unstuffing.specs.Unstuff.{unstuff}
use Rattle.unstuffing.proofs.Unstuffing.{unstuff-stuff, length-placed}
use Rattle.unstuffing.proofs.unstuffed.Reads as unstuffed
use Rattle.encoding.proofs.Writing.{tallied}
use Rattle.relay.specs.Operations.{Allows, EscapeCode, Checksum, Tally, Unstuffed, WrittenAs, nothing, itself, coded, Operations}
use Rattle.relay.proofs.Laws.{laws}

-- ---- each answer, by its contract

code-answer : {b c : ℕ} → EscapeCode b c → c ≡ escape_of b
code-answer p = p.4 ∙ ap escape_of p.3

pub checksum-answer : {s : List ℕ} {c : ℕ} → Checksum s c → c ≡ sum16 s
checksum-answer p = p.4 ∙ ap sum16 p.3

pub more-answer : {s : List ℕ} {a : Stuffed} → Tally s a → a.more ≡ (length (stuff s) - length s) % 65536
more-answer p = p.4.0 ∙ ap (λ (l : List ℕ). (length (stuff l) - length l) % 65536) p.3

pub sum-answer : {s : List ℕ} {a : Stuffed} → Tally s a → a.sum ≡ sum16 (stuff s)
sum-answer p = p.4.1 ∙ ap (λ (l : List ℕ). sum16 (stuff l)) p.3

unstuffed-answer : {w : List ℕ} (r : Result ℕ WireError) → Unstuffed w r → told r ≡ on_yes length (unstuff 0 w)
unstuffed-answer r p = p.4 ∙ ap (λ (l : List ℕ). on_yes length (unstuff 0 l)) p.3

-- ---- there is an answer: of a call's lifetime and of where its slice lies no contract here speaks

code_of : (b : ℕ) → EscapeCode b (escape_of b)
code_of b = (tt, (b, tt), (b, tt), refl, refl)

abbrev slice : List ℕ → Bor (List ℕ) × Unit {0}
slice s = (record { ref_ptr = (0, 0); now = s }, tt)

-- a call that is given a string and answers r, by any contract of such calls
called : {R : Type 0} (Post : (κs : Lft × Unit {0}) → Bor (List ℕ) × Unit {0} → R → Bor (List ℕ) × Unit {0} → Type 0) (s : List ℕ) (r : R)
    → Post ([], tt) (slice s) r (slice s) → Allows Post (λ κs a. a.0.now) s r
called Post s r p = (([], tt), slice s, slice s, refl, p)

abbrev tally_of : List ℕ → Stuffed
tally_of s = record { more = (length (stuff s) - length s) % 65536; sum = sum16 (stuff s) }

-- ---- a string as it is written

pub stuff-written : (s : List ℕ) → WrittenAs s (stuff s)
stuff-written [] = nothing
stuff-written (b ∷ s) =
    by-eq (escape_of b) 0
    (λ h. rw (stands b h) (itself (rw h at (code_of b)) (stuff-written s)))
    (λ h. rw (escaped b h) (coded (code_of b) h (stuff-written s)))

pub written-stuffed : {s w : List ℕ} → WrittenAs s w → w ≡ stuff s
written-stuffed nothing = refl
written-stuffed (itself {b} c p) = rw (stands b (sym (code-answer c)), written-stuffed p)
written-stuffed (coded {b} c h p) = rw (escaped b (λ e. h (code-answer c ∙ e)), code-answer c, written-stuffed p)

joins : {s t w v : List ℕ} → WrittenAs s w → WrittenAs t v → WrittenAs (s ++ t) (w ++ v)
joins nothing q = q
joins (itself c p) q = itself c (joins p q)
joins (coded c h p) q = coded c h (joins p q)

-- how many bytes stuffing adds to joined strings
more-joined : (s t : List ℕ) → length (stuff (s ++ t)) - length (s ++ t) ≡ length (stuff s) - length s + (length (stuff t) - length t)
more-joined s t =
    omega (arith, ap length (stuff-append s t), length-append (stuff s) (stuff t), length-append s t, stuff-least s, stuff-least t)

unstuffs-to : {s w : List ℕ} → WrittenAs s w → on_yes length (unstuff 0 w) ≡ yes (length s)
unstuffs-to {s} p = rw (written-stuffed p, unstuff-stuff 0 s, length-placed 0 s)

-- ---- the laws

pub operations : Operations
operations =
    record {
      written = λ s. (stuff s, stuff-written s);
      answered = λ s. ((sum16 s, called checksum.Post s (sum16 s) refl), (tally_of s, called tally.Post s (tally_of s) (refl, refl)));
      joins = joins;
      only = λ p q. plain (written-stuffed p) (written-stuffed q);
      checksums = λ {s} {t} a b c. rw (checksum-answer a, checksum-answer b, checksum-answer c) (laws.sums s t, laws.either s t);
      tallies = λ {s} {t} a b c. (
        rw (more-answer a, more-answer b, more-answer c) (omega (arith, more-joined s t), omega (arith, more-joined s t)),
        rw (sum-answer a, sum-answer b, sum-answer c, ← laws.joins s t) (laws.sums (stuff s) (stuff t), laws.either (stuff s) (stuff t)),
      );
      sum_ahead = λ a p c. rw (sum-answer a, checksum-answer c, written-stuffed p);
      length_ahead = λ {s} h a p. rw (written-stuffed p) (omega (arith, tallied s (more-answer a) h));
      back = λ {s} {w} p. (called unstuffed.Post w (Ok (length s)) (sym (unstuffs-to p)), λ r u. one-told (unstuffed-answer r u ∙ unstuffs-to p) refl);
      apart = λ {s} {t} p q. laws.apart s t (sym (written-stuffed p) ∙ written-stuffed q);
    }
