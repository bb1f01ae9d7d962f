-- Two replies that a contract of the splitter allows for one input are equal, and so is every byte of the hold buffer at exit,
-- by the contract as the check reads it off src/ (`Post`). An event, and so a whole reply, is decided by what it tells.
use mathlib.Core.Path.{◌≡◌, refl, ap, ◌∙◌, sym}
use Prim.Native.Nat.{ℕ}
use Rattle.general.proofs.One.{plain}
use Rattle.std.specs.Prelude.{Result}
use Rattle.std.specs.declared.result.Result.TheVariants.{Ok, Err}
use Rattle.error.specs.declared.WireError.{WireError}
use Rattle.error.specs.Refusal.{Told, yes, no}
use Rattle.error.proofs.Decides.{refusal, there}
use Rattle.splitter.specs.declared.Place.{Place}
use Rattle.splitter.specs.declared.Fed.{Fed}
use Rattle.splitter.specs.declared.Event.{Event}
use Rattle.splitter.specs.declared.Event.TheVariants.{More, Frame, Overlong}
use Rattle.splitter.specs.Feed.{Given, Answer, more, overlong, frame, answer_of, told_event, taken_of}
use Rattle.splitter.proofs.FrameSplitter.new.Reads as new
use Rattle.splitter.proofs.FrameSplitter.feed.Reads as feed
use Rattle.splitter.proofs.FrameSplitter.is_bad.Reads as is-bad
use Rattle.splitter.proofs.FrameSplitter.is_full.Reads as is-full

pub one-new : (κs a r s x y : _) → new.Post κs a r x → new.Post κs a s y → r ≡ s
one-new κs a r s x y = plain

pub one-is-full : (κs a r s x y : _) → is-full.Post κs a r x → is-full.Post κs a s y → r ≡ s
one-is-full κs a r s x y = plain

pub one-is-bad : (κs a r s x y : _) → is-bad.Post κs a r x → is-bad.Post κs a s y → r ≡ s
one-is-bad κs a r s x y = plain

-- ---- a reply, back from what it gives

unfoldable pub event_of : Answer Place → Event
event_of more = More
event_of overlong = Overlong
event_of (frame p) = Frame p

event-back : (e : Event) → event_of (answer_of e) ≡ e
unfolding event_of
event-back More = refl
event-back (Frame p) = refl
event-back Overlong = refl

unfoldable pub reply_of : Told (Answer Place) → ℕ → Result Fed WireError
reply_of (yes a) n = Ok (record { event = event_of a; taken = n })
reply_of (no k vs) n = Err (refusal k vs)

reply-back : (r : Result Fed WireError) → reply_of (told_event r) (taken_of r) ≡ r
unfolding reply_of
reply-back (Ok f) = ap (λ (e : Event). Ok (record { event = e; taken = f.taken })) (event-back f.event)
reply-back (Err e) = ap Err (there e)

-- the reply, the splitter after it and the hold buffer after it
pub one-feed : (κs a r s x y : _) → feed.Post κs a r x → feed.Post κs a s y → (r ≡ s) × (x.0.now ≡ y.0.now) × (x.1.0.now ≡ y.1.0.now)
one-feed κs a r s x y p q =
    let same = plain p q in (
      sym (reply-back r) ∙ ap (λ (g : Given). reply_of g.answer g.taken) same ∙ reply-back s,
      ap (λ (g : Given). g.state) same,
      ap (λ (g : Given). g.hold) same,
    )
