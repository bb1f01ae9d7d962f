-- Only private contracts cite this, and a client may skip it: counts that have room for more.
-- `is_bad` and `is_full` are what a client reads.
use Rattle.std.specs.Prelude.{ℕ, ◌+◌, ◌<◌, ◌^◌, ◌≡◌}
use Rattle.splitter.specs.declared.FrameSplitter.{FrameSplitter}

-- the counts balance, and n more bytes can be counted
pub record Room (s : FrameSplitter) (n : ℕ) : Type 0 where
  pub sum : s.counts.taken ≡ s.counts.dropped + s.counts.framed + s.counts.lost + s.count
  pub below : s.counts.taken + n < 2 ^ 64
