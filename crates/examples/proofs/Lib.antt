-- The one list of worked examples.
-- It adds nothing to the two lists that it joins.
pub mod Examples
