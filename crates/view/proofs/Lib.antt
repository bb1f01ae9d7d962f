-- That the rule of the view fixes the part that is returned.
-- The check finds the rest by itself.
pub mod One
