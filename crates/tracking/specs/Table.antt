-- Document 01, E9: as the source. Its table: every field's place, width and scale, in the source's order.
-- (`uint 3 22` is the UINT24 at 22, `int 3 67` the INT24 at 67.)
use Rattle.std.specs.Prelude.{◌+◌, ◌*◌}
use Rattle.layout.specs.Layout.{Source, row}
use Rattle.tracking.specs.declared.TrackingStatus.{TrackingStatus}

unfoldable pub tracking_of : Source → TrackingStatus
tracking_of s =
    record {
      state = s.byte 1;
      flags = s.byte 2;
      pre_trig_buf_start = s.uint 3 22;
      club_impact_idx = s.uint 3 25;
      trigger_idx = s.uint 3 28;
      radar_cal1 = s.uint 3 32;
      radar_cal2 = s.uint 3 35;
      radar_cal_avr = s.uint 2 38;
      processing_iteration = s.byte 47;
      result_quality = s.byte 48;
      detection_subtype = s.byte 51;
      prc_tracking_count = s.byte 54;
      radar_measurement = s.uint 2 56;
      trigger_flags = s.byte 59;
      event_counter = s.uint 2 62;
      radar_baseline = s.int 3 67;
      track_measure = row 3 (λ n. s.int 3 (70 + n * 3));
      track_measure4 = s.uint 2 80;
    }
