-- The public contracts cite `integer` alone.
-- Private is for the kinds and widths inside.
pub mod Private
