-- The wire of a frame's fields, as `encoding` defines it: F0, stuffed(DEST SRC TYPE PAYLOAD CS_HI CS_LO), F1.
-- Given on from here, so that a client of frames names one crate.
pub use Rattle.encoding.specs.Wire.{Fields, fields}
unfoldable pub use Rattle.encoding.specs.Wire.{body_of, checksum_of, wire_of}
