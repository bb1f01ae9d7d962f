-- Two replies that an exported call may give for one input are equal, and so is every lent place at exit, by the contract as the
-- check reads it off src/ (`Post`). The laws are those of the calls that they pass on to.
use mathlib.Core.Path.{◌≡◌, refl, sym, ap, ◌∙◌}
use Rattle.abi_error.proofs.Numbered.{one-counts}
use Rattle.abi.proofs.OnePassing.{one-passing, one-stored, one-passing-two, one-passing-three}
use Rattle.general.proofs.One.{plain}
use Prim.Native.Nat.{ℕ}
use Rattle.shot_text.proofs.One.{one_answer}
use Rattle.abi.specs.Answer.{flag_of}
use Rattle.abi_shot_text.specs.Flags.{Flags}
use Rattle.movaleduft.proofs.mvd_value_count.Reads as value-count
use Rattle.movaleduft.proofs.fields.mvd_read_int16.Reads as read-int16
use Rattle.movaleduft.proofs.fields.mvd_read_uint16.Reads as read-uint16
use Rattle.movaleduft.proofs.fields.mvd_read_int24.Reads as read-int24
use Rattle.movaleduft.proofs.fields.mvd_read_uint24.Reads as read-uint24
use Rattle.movaleduft.proofs.fields.mvd_read_int32.Reads as read-int32
use Rattle.movaleduft.proofs.fields.mvd_read_uint32.Reads as read-uint32
use Rattle.movaleduft.proofs.fields.mvd_read_int24_scaled.Reads as read-int24-scaled
use Rattle.movaleduft.proofs.fields.mvd_read_int16_scaled.Reads as read-int16-scaled
use Rattle.movaleduft.proofs.fields.mvd_read_float40.Reads as read-float40
use Rattle.movaleduft.proofs.fields.mvd_write_int16.Reads as write-int16
use Rattle.movaleduft.proofs.fields.mvd_write_uint16.Reads as write-uint16
use Rattle.movaleduft.proofs.fields.mvd_write_int24.Reads as write-int24
use Rattle.movaleduft.proofs.fields.mvd_write_uint24.Reads as write-uint24
use Rattle.movaleduft.proofs.fields.mvd_write_int32.Reads as write-int32
use Rattle.movaleduft.proofs.fields.mvd_write_uint32.Reads as write-uint32
use Rattle.movaleduft.proofs.fields.mvd_write_float40_bits.Reads as write-float40-bits
use Rattle.movaleduft.proofs.frames.mvd_open.Reads as opening
use Rattle.movaleduft.proofs.frames.mvd_copy_payload.Reads as copying
use Rattle.movaleduft.proofs.frames.mvd_encode.Reads as encode
use Rattle.movaleduft.proofs.frames.mvd_feed.Reads as feed
use Rattle.movaleduft.proofs.fields.mvd_field.Reads as field
use Rattle.movaleduft.proofs.messages.mvd_flight_result.Reads as flight-result
use Rattle.movaleduft.proofs.messages.mvd_flight_result_v1.Reads as flight-result-v1
use Rattle.movaleduft.proofs.messages.mvd_club_result.Reads as club-result
use Rattle.movaleduft.proofs.shots.mvd_is_failed.Reads as is-failed
use Rattle.movaleduft.proofs.shots.mvd_is_failed_v1.Reads as is-failed-v1
use Rattle.movaleduft.proofs.shots.mvd_is_model_failure.Reads as is-model-failure
use Rattle.movaleduft.proofs.shots.mvd_is_no_read.Reads as is-no-read
use Rattle.movaleduft.proofs.messages.mvd_spin_result.Reads as spin-result
use Rattle.movaleduft.proofs.messages.mvd_tracking_status.Reads as tracking-status
use Rattle.movaleduft.proofs.messages.mvd_speed_profile.Reads as speed-profile
use Rattle.movaleduft.proofs.messages.mvd_prc_data.Reads as prc-data
use Rattle.movaleduft.proofs.messages.mvd_prc_point.Reads as prc-point
use Rattle.movaleduft.proofs.messages.mvd_club_prc.Reads as club-prc
use Rattle.movaleduft.proofs.messages.mvd_club_prc_point.Reads as club-prc-point
use Rattle.movaleduft.proofs.messages.mvd_encode_request.Reads as encode-request
use Rattle.movaleduft.proofs.messages.mvd_shot_text.Reads as shot-text
use Rattle.movaleduft.proofs.messages.mvd_is_processed.Reads as is-processed
use Rattle.movaleduft.proofs.messages.mvd_is_idle.Reads as is-idle
use Rattle.movaleduft.proofs.messages.mvd_is_trigger.Reads as is-trigger
use Rattle.movaleduft.proofs.shots.mvd_bay_log.Reads as bay-log

pub one-value-count : (κs a r s x y : _) → value-count.Post κs a r x → value-count.Post κs a s y → r ≡ s
one-value-count κs a r s x y = one-counts

pub one-read-int16 : (κs a r s x y : _) → read-int16.Post κs a r x → read-int16.Post κs a s y
    → (r ≡ s) × (x.1.1.0.now ≡ y.1.1.0.now) × (x.1.1.1.0.now ≡ y.1.1.1.0.now)
one-read-int16 κs a r s x y = one-passing

pub one-read-uint16 : (κs a r s x y : _) → read-uint16.Post κs a r x → read-uint16.Post κs a s y
    → (r ≡ s) × (x.1.1.0.now ≡ y.1.1.0.now) × (x.1.1.1.0.now ≡ y.1.1.1.0.now)
one-read-uint16 κs a r s x y = one-passing

pub one-read-int24 : (κs a r s x y : _) → read-int24.Post κs a r x → read-int24.Post κs a s y
    → (r ≡ s) × (x.1.1.0.now ≡ y.1.1.0.now) × (x.1.1.1.0.now ≡ y.1.1.1.0.now)
one-read-int24 κs a r s x y = one-passing

pub one-read-uint24 : (κs a r s x y : _) → read-uint24.Post κs a r x → read-uint24.Post κs a s y
    → (r ≡ s) × (x.1.1.0.now ≡ y.1.1.0.now) × (x.1.1.1.0.now ≡ y.1.1.1.0.now)
one-read-uint24 κs a r s x y = one-passing

pub one-read-int32 : (κs a r s x y : _) → read-int32.Post κs a r x → read-int32.Post κs a s y
    → (r ≡ s) × (x.1.1.0.now ≡ y.1.1.0.now) × (x.1.1.1.0.now ≡ y.1.1.1.0.now)
one-read-int32 κs a r s x y = one-passing

pub one-read-uint32 : (κs a r s x y : _) → read-uint32.Post κs a r x → read-uint32.Post κs a s y
    → (r ≡ s) × (x.1.1.0.now ≡ y.1.1.0.now) × (x.1.1.1.0.now ≡ y.1.1.1.0.now)
one-read-uint32 κs a r s x y = one-passing

pub one-read-int24-scaled : (κs a r s x y : _) → read-int24-scaled.Post κs a r x → read-int24-scaled.Post κs a s y
    → (r ≡ s) × (x.1.1.1.0.now ≡ y.1.1.1.0.now) × (x.1.1.1.1.0.now ≡ y.1.1.1.1.0.now)
one-read-int24-scaled κs a r s x y = one-passing

pub one-read-int16-scaled : (κs a r s x y : _) → read-int16-scaled.Post κs a r x → read-int16-scaled.Post κs a s y
    → (r ≡ s) × (x.1.1.1.0.now ≡ y.1.1.1.0.now) × (x.1.1.1.1.0.now ≡ y.1.1.1.1.0.now)
one-read-int16-scaled κs a r s x y = one-passing

pub one-read-float40 : (κs a r s x y : _) → read-float40.Post κs a r x → read-float40.Post κs a s y
    → (r ≡ s) × (x.1.1.0.now ≡ y.1.1.0.now) × (x.1.1.1.0.now ≡ y.1.1.1.0.now)
one-read-float40 κs a r s x y = one-passing

pub one-write-int16 : (κs a r s x y : _) → write-int16.Post κs a r x → write-int16.Post κs a s y
    → (r ≡ s) × (x.0.now ≡ y.0.now) × (x.1.1.1.0.now ≡ y.1.1.1.0.now)
one-write-int16 κs a r s x y = one-stored

pub one-write-uint16 : (κs a r s x y : _) → write-uint16.Post κs a r x → write-uint16.Post κs a s y
    → (r ≡ s) × (x.0.now ≡ y.0.now) × (x.1.1.1.0.now ≡ y.1.1.1.0.now)
one-write-uint16 κs a r s x y = one-stored

pub one-write-int24 : (κs a r s x y : _) → write-int24.Post κs a r x → write-int24.Post κs a s y
    → (r ≡ s) × (x.0.now ≡ y.0.now) × (x.1.1.1.0.now ≡ y.1.1.1.0.now)
one-write-int24 κs a r s x y = one-stored

pub one-write-uint24 : (κs a r s x y : _) → write-uint24.Post κs a r x → write-uint24.Post κs a s y
    → (r ≡ s) × (x.0.now ≡ y.0.now) × (x.1.1.1.0.now ≡ y.1.1.1.0.now)
one-write-uint24 κs a r s x y = one-stored

pub one-write-int32 : (κs a r s x y : _) → write-int32.Post κs a r x → write-int32.Post κs a s y
    → (r ≡ s) × (x.0.now ≡ y.0.now) × (x.1.1.1.0.now ≡ y.1.1.1.0.now)
one-write-int32 κs a r s x y = one-stored

pub one-write-uint32 : (κs a r s x y : _) → write-uint32.Post κs a r x → write-uint32.Post κs a s y
    → (r ≡ s) × (x.0.now ≡ y.0.now) × (x.1.1.1.0.now ≡ y.1.1.1.0.now)
one-write-uint32 κs a r s x y = one-stored

pub one-write-float40-bits : (κs a r s x y : _) → write-float40-bits.Post κs a r x → write-float40-bits.Post κs a s y
    → (r ≡ s) × (x.0.now ≡ y.0.now) × (x.1.1.1.0.now ≡ y.1.1.1.0.now)
one-write-float40-bits κs a r s x y = one-stored

pub one-open : (κs a r s x y : _) → opening.Post κs a r x → opening.Post κs a s y
    → (r ≡ s) × (x.1.0.now ≡ y.1.0.now) × (x.1.1.0.now ≡ y.1.1.0.now)
one-open κs a r s x y = one-passing

pub one-copy-payload : (κs a r s x y : _) → copying.Post κs a r x → copying.Post κs a s y
    → (r ≡ s) × (x.1.0.now ≡ y.1.0.now) × (x.1.1.0.now ≡ y.1.1.0.now) × (x.1.1.1.0.now ≡ y.1.1.1.0.now)
one-copy-payload κs a r s x y p q =
    let e = one-passing p.0 q.0 in
    (e.0, plain p.1 q.1, e.1, e.2)

pub one-encode : (κs a r s x y : _) → encode.Post κs a r x → encode.Post κs a s y
    → (r ≡ s) × (x.1.1.1.1.0.now ≡ y.1.1.1.1.0.now) × (x.1.1.1.1.1.0.now ≡ y.1.1.1.1.1.0.now)
    × (x.1.1.1.1.1.1.0.now ≡ y.1.1.1.1.1.1.0.now)
one-encode κs a r s x y p q =
    let e = one-passing p.0 q.0 in
    (e.0, plain p.1 q.1, e.1, e.2)

pub one-feed : (κs a r s x y : _) → feed.Post κs a r x → feed.Post κs a s y
    → (r ≡ s) × (x.0.now ≡ y.0.now) × (x.1.0.now ≡ y.1.0.now)
    × (x.1.1.1.0.now ≡ y.1.1.1.0.now) × (x.1.1.1.1.0.now ≡ y.1.1.1.1.0.now)
one-feed κs a r s x y p q =
    let e = one-passing-two p.0 q.0 in
    (e.0, e.1, plain p.1 q.1, e.2, e.3)

pub one_field : (κs a r s x y : _) → field.Post κs a r x → field.Post κs a s y
    → (r ≡ s) × (x.1.1.1.0.now ≡ y.1.1.1.0.now) × (x.1.1.1.1.0.now ≡ y.1.1.1.1.0.now)
    × (x.1.1.1.1.1.0.now ≡ y.1.1.1.1.1.0.now) × (x.1.1.1.1.1.1.0.now ≡ y.1.1.1.1.1.1.0.now)
one_field κs a r s x y = one-passing-three

pub one-flight-result : (κs a r s x y : _) → flight-result.Post κs a r x → flight-result.Post κs a s y
    → (r ≡ s) × (x.1.0.now ≡ y.1.0.now) × (x.1.1.0.now ≡ y.1.1.0.now) × (x.1.1.1.0.now ≡ y.1.1.1.0.now)
one-flight-result κs a r s x y = one-passing-two

pub one-flight-result-v1 : (κs a r s x y : _) → flight-result-v1.Post κs a r x → flight-result-v1.Post κs a s y
    → (r ≡ s) × (x.1.0.now ≡ y.1.0.now) × (x.1.1.0.now ≡ y.1.1.0.now) × (x.1.1.1.0.now ≡ y.1.1.1.0.now)
one-flight-result-v1 κs a r s x y = one-passing-two

pub one-club-result : (κs a r s x y : _) → club-result.Post κs a r x → club-result.Post κs a s y
    → (r ≡ s) × (x.1.0.now ≡ y.1.0.now) × (x.1.1.0.now ≡ y.1.1.0.now) × (x.1.1.1.0.now ≡ y.1.1.1.0.now)
one-club-result κs a r s x y = one-passing-two

pub one-is-failed : (κs a r s x y : _) → is-failed.Post κs a r x → is-failed.Post κs a s y
    → (r ≡ s) × (x.1.1.0.now ≡ y.1.1.0.now) × (x.1.1.1.0.now ≡ y.1.1.1.0.now)
one-is-failed κs a r s x y = one-passing

pub one-is-failed-v1 : (κs a r s x y : _) → is-failed-v1.Post κs a r x → is-failed-v1.Post κs a s y
    → (r ≡ s) × (x.1.1.0.now ≡ y.1.1.0.now) × (x.1.1.1.0.now ≡ y.1.1.1.0.now)
one-is-failed-v1 κs a r s x y = one-passing

pub one-is-model-failure : (κs a r s x y : _) → is-model-failure.Post κs a r x → is-model-failure.Post κs a s y
    → (r ≡ s) × (x.1.0.now ≡ y.1.0.now) × (x.1.1.0.now ≡ y.1.1.0.now)
one-is-model-failure κs a r s x y = one-passing

pub one-is-no-read : (κs a r s x y : _) → is-no-read.Post κs a r x → is-no-read.Post κs a s y
    → (r ≡ s) × (x.1.0.now ≡ y.1.0.now) × (x.1.1.0.now ≡ y.1.1.0.now)
one-is-no-read κs a r s x y = one-passing

pub one-spin-result : (κs a r s x y : _) → spin-result.Post κs a r x → spin-result.Post κs a s y
    → (r ≡ s) × (x.1.0.now ≡ y.1.0.now) × (x.1.1.0.now ≡ y.1.1.0.now) × (x.1.1.1.0.now ≡ y.1.1.1.0.now)
one-spin-result κs a r s x y = one-passing-two

pub one-tracking-status : (κs a r s x y : _) → tracking-status.Post κs a r x → tracking-status.Post κs a s y
    → (r ≡ s) × (x.1.0.now ≡ y.1.0.now) × (x.1.1.0.now ≡ y.1.1.0.now) × (x.1.1.1.0.now ≡ y.1.1.1.0.now)
one-tracking-status κs a r s x y = one-passing-two

pub one-speed-profile : (κs a r s x y : _) → speed-profile.Post κs a r x → speed-profile.Post κs a s y
    → (r ≡ s) × (x.1.0.now ≡ y.1.0.now) × (x.1.1.0.now ≡ y.1.1.0.now) × (x.1.1.1.0.now ≡ y.1.1.1.0.now)
    × (x.1.1.1.1.0.now ≡ y.1.1.1.1.0.now) × (x.1.1.1.1.1.0.now ≡ y.1.1.1.1.1.0.now)
one-speed-profile κs a r s x y p q =
    let e = one-passing-three p.0 q.0 in
    (e.0, plain p.1 q.1, e.1, e.2, e.3, e.4)

pub one-prc-data : (κs a r s x y : _) → prc-data.Post κs a r x → prc-data.Post κs a s y
    → (r ≡ s) × (x.1.0.now ≡ y.1.0.now) × (x.1.1.0.now ≡ y.1.1.0.now) × (x.1.1.1.0.now ≡ y.1.1.1.0.now)
one-prc-data κs a r s x y = one-passing-two

pub one-prc-point : (κs a r s x y : _) → prc-point.Post κs a r x → prc-point.Post κs a s y
    → (r ≡ s) × (x.1.1.0.now ≡ y.1.1.0.now) × (x.1.1.1.0.now ≡ y.1.1.1.0.now) × (x.1.1.1.1.0.now ≡ y.1.1.1.1.0.now)
one-prc-point κs a r s x y = one-passing-two

pub one-club-prc : (κs a r s x y : _) → club-prc.Post κs a r x → club-prc.Post κs a s y → r ≡ s
one-club-prc κs a r s x y = plain

pub one-club-prc-point : (κs a r s x y : _) → club-prc-point.Post κs a r x → club-prc-point.Post κs a s y
    → (r ≡ s) × (x.1.1.0.now ≡ y.1.1.0.now) × (x.1.1.1.0.now ≡ y.1.1.1.0.now) × (x.1.1.1.1.0.now ≡ y.1.1.1.1.0.now)
one-club-prc-point κs a r s x y = one-passing-two

pub one-encode-request : (κs a r s x y : _) → encode-request.Post κs a r x → encode-request.Post κs a s y
    → (r ≡ s) × (x.1.0.now ≡ y.1.0.now) × (x.1.1.0.now ≡ y.1.1.0.now)
one-encode-request κs a r s x y = one-stored

pub one-shot-text : (κs a r s x y : _) → shot-text.Post κs a r x → shot-text.Post κs a s y
    → (r ≡ s) × (x.1.0.now ≡ y.1.0.now) × (x.1.1.0.now ≡ y.1.1.0.now)
one-shot-text κs a r s x y p q = (refl, plain p.0 q.0, plain p.1 q.1)

-- two flags of one question
one-flag : {P : Type 0} {r s : ℕ} → Flags P r → Flags P s → r ≡ s
one-flag (b, e, p) (c, f, q) = e ∙ ap flag_of (one_answer p q) ∙ sym f

pub one-is-processed : (κs a r s x y : _) → is-processed.Post κs a r x → is-processed.Post κs a s y → r ≡ s
one-is-processed κs a r s x y = one-flag

pub one-is-idle : (κs a r s x y : _) → is-idle.Post κs a r x → is-idle.Post κs a s y → r ≡ s
one-is-idle κs a r s x y = one-flag

pub one-is-trigger : (κs a r s x y : _) → is-trigger.Post κs a r x → is-trigger.Post κs a s y → r ≡ s
one-is-trigger κs a r s x y = one-flag

pub one-bay-log : (κs a r s x y : _) → bay-log.Post κs a r x → bay-log.Post κs a s y
    → (r ≡ s) × (x.1.1.0.now ≡ y.1.1.0.now) × (x.1.1.1.0.now ≡ y.1.1.1.0.now)
one-bay-log κs a r s x y = one-stored
