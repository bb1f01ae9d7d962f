-- How an answer passes to C.
-- Every exported contract cites it.
pub mod Answer
