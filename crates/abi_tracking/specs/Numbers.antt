-- The numbers of E9's record as C takes them: the unsigned ones, then the signed ones, in the record's order.
-- Each stands in a place of its own, of 64 bits or of 32.
use Rattle.std.specs.Prelude.{ℕ, List, [], ◌∷◌, ℤ}
use Rattle.tracking.specs.declared.TrackingStatus.{TrackingStatus}

abbrev pub tracking_counts : TrackingStatus → List ℕ
tracking_counts r =
    r.state ∷ r.flags ∷ r.pre_trig_buf_start ∷ r.club_impact_idx ∷ r.trigger_idx ∷ r.radar_cal1 ∷ r.radar_cal2
    ∷ r.radar_cal_avr ∷ r.processing_iteration ∷ r.result_quality ∷ r.detection_subtype ∷ r.prc_tracking_count
    ∷ r.radar_measurement ∷ r.trigger_flags ∷ r.event_counter ∷ r.track_measure4 ∷ []

abbrev pub tracking_whole : TrackingStatus → List ℤ
tracking_whole r = r.radar_baseline ∷ r.track_measure

abbrev pub tracking_numbers : TrackingStatus → List ℕ × List ℤ
tracking_numbers r = (tracking_counts r, tracking_whole r)
