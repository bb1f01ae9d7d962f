-- A field asked for by number is the decoded record's field of that name, for every number of the three messages.
-- Proved once over the message: what differs is how its record lists its numbers again.
use mathlib.Core.Path.{◌≡◌, refl, sym, ◌∙◌, ap}
use mathlib.Core.List.{List}
use Prim.Native.Nat.{ℕ, ◌<◌, ◌≤◌}
use lib.IntN.{pos}
use lib.ListN.{length, get_or}
use borrow.Author.Tests.{lt-ltb, le-ltb}
use Rattle.error.specs.Refusal.{Told, yes}
use Rattle.layout.specs.Layout.{row, told_decoded}
use Rattle.numbers.specs.declared.Message.{Message}
use Rattle.numbers.specs.declared.Message.TheVariants as message
use Rattle.numbers.specs.Numbers.{shape_of, count_of, rule_of}
use Rattle.numbers.specs.Asked.{Number, whole, shown_by, field_rule, number_at}
use Rattle.layout.specs.declared.Decoded.{Decoded}
use Rattle.flight.specs.declared.flight_result.FlightResult.{FlightResult}
use Rattle.flight.specs.declared.flight_result_v1.FlightResultV1.{FlightResultV1}
use Rattle.flight.specs.declared.club_result.ClubResult.{ClubResult}
use Rattle.flight.specs.Decoding.{Numbers, numbers_of, decode_rule}
use Rattle.flight.specs.FlightResultFields.{flight_result, flight_result_numbers}
use Rattle.flight.specs.FlightResultV1Fields.{flight_result_v1, flight_result_v1_numbers}
use Rattle.flight.specs.ClubResultFields.{club_result, club_result_numbers}
use Rattle.flight.proofs.Row.{row_at}

-- the numbers of a message, each whole or as a figure, by number
abbrev numbered : Message → Numbers → ℕ → Number
numbered m n k = shown_by (rule_of m k) (n.whole k) (n.figure k)

-- the record of a payload that is long enough
module _ {A : Type 0} (m : Message) (p : List ℕ) (l : (shape_of m).least ≤ length p) where
  pub decoded : (fill : Numbers → A) (w : Told Unit × A) → w ≡ decode_rule m fill p → w.1 ≡ fill (numbers_of m p)
  unfolding decode_rule
  decoded fill w e = ap (λ (v : Told Unit × A). v.1) (rw (le-ltb (length p) (shape_of m).least l) at e)

module _ (m : Message) (p : List ℕ) (l : (shape_of m).least ≤ length p) (n : ℕ) (h : n < count_of m) where
  asked : field_rule m p n ≡ yes (number_at m p n)
  unfolding field_rule
  asked = simp (le-ltb (length p) (shape_of m).least l, lt-ltb n (count_of m) h)

  -- for any record that lists its numbers again
  pub by_number : {A : Type 0} (fill : Numbers → A) (numbers : A → List Number)
      → ((N : Numbers) → numbers (fill N) ≡ row (count_of m) (numbered m N))
      → (w : Told Unit × A) → w ≡ decode_rule m fill p → field_rule m p n ≡ yes (get_or (numbers w.1) n (whole (pos 0)))
  unfolding number_at
  by_number fill numbers again w e =
      asked
      ∙ ap yes (sym (ap (λ (k : List Number). get_or k n (whole (pos 0))) (ap numbers (decoded m p l fill w e) ∙ again (numbers_of m p))
      ∙ row_at (count_of m) (numbered m (numbers_of m p)) (whole (pos 0)) n h))

module _ (p : List ℕ) (n : ℕ) where
  pub flight-result : (shape_of message.FlightResult).least ≤ length p → n < count_of message.FlightResult → (r : Decoded FlightResult)
      → told_decoded r ≡ decode_rule message.FlightResult flight_result p
      → field_rule message.FlightResult p n ≡ yes (get_or (flight_result_numbers r.«record») n (whole (pos 0)))
  unfolding rule_of
  flight-result l h r = by_number message.FlightResult p l n h flight_result flight_result_numbers (λ N. refl) (told_decoded r)

  pub flight-result-v1 : (shape_of message.FlightResultV1).least ≤ length p → n < count_of message.FlightResultV1 → (r : Decoded FlightResultV1)
      → told_decoded r ≡ decode_rule message.FlightResultV1 flight_result_v1 p
      → field_rule message.FlightResultV1 p n ≡ yes (get_or (flight_result_v1_numbers r.«record») n (whole (pos 0)))
  unfolding rule_of
  flight-result-v1 l h r = by_number message.FlightResultV1 p l n h flight_result_v1 flight_result_v1_numbers (λ N. refl) (told_decoded r)

  pub club-result : (shape_of message.ClubResult).least ≤ length p → n < count_of message.ClubResult → (r : Decoded ClubResult)
      → told_decoded r ≡ decode_rule message.ClubResult club_result p
      → field_rule message.ClubResult p n ≡ yes (get_or (club_result_numbers r.«record») n (whole (pos 0)))
  unfolding rule_of
  club-result l h r = by_number message.ClubResult p l n h club_result club_result_numbers (λ N. refl) (told_decoded r)
