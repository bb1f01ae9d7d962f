-- Laws of the reader: the places that a run of moves passes (`Next`), and that each contract allows one reply (`One`).
pub mod Next
pub mod One
