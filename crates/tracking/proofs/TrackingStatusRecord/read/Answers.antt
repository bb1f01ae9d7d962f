-- `read` meets its contract: each call answers a field of the table.
-- A signed number that is read is the number its bits hold; the part that is read is the first 82 bytes, or all where there are fewer.
use Rattle.std.proofs.Common.{ℕ, List, [], ◌∷◌, ◌≡◌, ◌∙◌, ap, take, w32}
use Rattle.layout.specs.Layout.{fields_of}
use Rattle.layout.proofs.Held.{held}
use Rattle.layout.proofs.Parts.{part_to}
use Rattle.tracking.specs.Table.{tracking_of}
use Rattle.tracking.proofs.TrackingStatusRecord.read.Goals as goal

pub returns : goal.returns
unfolding tracking_of
returns c =
    let m0 = held w32 c.int24_at-2.ensures c.int24_at-2.type_inv in
    let m1 = held w32 c.int24_at-3.ensures c.int24_at-3.type_inv in
    let m2 = held w32 c.int24_at-4.ensures c.int24_at-4.type_inv in
    let p = c.args.payload.now in
    let all : _ ≡ tracking_of (fields_of (take c.min.result p)) = λ i.
    record {
      state = c.byte_at.ensures i;
      flags = c.byte_at-2.ensures i;
      pre_trig_buf_start = c.uint24_at.ensures i;
      club_impact_idx = c.uint24_at-2.ensures i;
      trigger_idx = c.uint24_at-3.ensures i;
      radar_cal1 = c.uint24_at-4.ensures i;
      radar_cal2 = c.uint24_at-5.ensures i;
      radar_cal_avr = c.uint16_at.ensures i;
      processing_iteration = c.byte_at-3.ensures i;
      result_quality = c.byte_at-4.ensures i;
      detection_subtype = c.byte_at-5.ensures i;
      prc_tracking_count = c.byte_at-6.ensures i;
      radar_measurement = c.uint16_at-2.ensures i;
      trigger_flags = c.byte_at-7.ensures i;
      event_counter = c.uint16_at-3.ensures i;
      radar_baseline = held w32 c.int24_at.ensures c.int24_at.type_inv i;
      track_measure = m0 i ∷ m1 i ∷ m2 i ∷ [];
      track_measure4 = c.uint16_at-4.ensures i;
    } in
    all ∙ ap (λ (d : List ℕ). tracking_of (fields_of d)) (part_to p 82 c.min.ensures)
