-- The default record of E9 is the table of zeros, as the trait of records wants.
-- Each of its numbers is zero, and so is each of the three measures.
use Rattle.std.specs.Prelude.{◌≡◌, pos}
use Rattle.layout.specs.Layout.{zeros}
use Rattle.layout.proofs.Alike.{alike}
use Rattle.tracking.specs.declared.TrackingStatus.{TrackingStatus}
use Rattle.tracking.specs.contracts.TrackingStatusDefault.TheImpl as status
use Rattle.tracking.specs.Table.{tracking_of}

pub tracking-zeros : (r : TrackingStatus) → status.is_default-value.it r → r ≡ tracking_of zeros
unfolding tracking_of
tracking-zeros r (a, (b, (c, (d, (e, (f, (g, (h, (j, (k, (l, (m, (n, (o, (p, (q, (s, t))))))))))))))))) =
    λ i.
    record {
      state = a i;
      flags = b i;
      pre_trig_buf_start = c i;
      club_impact_idx = d i;
      trigger_idx = e i;
      radar_cal1 = f i;
      radar_cal2 = g i;
      radar_cal_avr = h i;
      processing_iteration = j i;
      result_quality = k i;
      detection_subtype = l i;
      prc_tracking_count = m i;
      radar_measurement = n i;
      trigger_flags = o i;
      event_counter = p i;
      radar_baseline = q i;
      track_measure = alike (λ x. x ≡ pos 0) r.track_measure 3 (λ _. pos 0) (λ x k e. e) s i;
      track_measure4 = t i;
    }
