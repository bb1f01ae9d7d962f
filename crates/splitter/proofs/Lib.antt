-- The laws of the splitter's rule, and that it fixes the reply.
pub mod Laws
pub mod One
