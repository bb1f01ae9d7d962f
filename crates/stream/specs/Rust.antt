-- The Rust's `FrameSplitter::feed`, frame.rs line by line: the frames that it answers, and the buffer that it leaves.
-- The port's frames are these, whatever both streams' cuts (proofs/Rust); only those longer than H are replaced.
use Rattle.std.specs.Prelude.{ℕ, zero, suc, ◌+◌, cond, List, [], ◌∷◌, ◌++◌, length, take, drop, ltb}
use Rattle.search.specs.First.{index_of}

pub record Rust : Type 0 where
  pub frames : List (List ℕ)
  pub buf : List ℕ

abbrev pub left : List (List ℕ) → List ℕ → Rust
left fs b = record { frames = fs; buf = b }

-- self.buf[..=end].to_vec() is pushed, drained, and the loop goes on with the rest
abbrev pub push : List ℕ → Rust → Rust
push f r = left (f ∷ r.frames) r.buf

-- the buffer d starts at its start marker: the end marker is sought from index 1 on; where there is none, the loop breaks
abbrev pub to_end : (List ℕ → Rust) → List ℕ → Rust
to_end next d =
    let end = 1 + index_of 0xF1 (drop 1 d) in
    cond (ltb end (length d)) (push (take (end + 1) d) (next (drop (end + 1) d))) (left [] d)

-- one turn: the start marker is sought; where there is none, the buffer is cleared and the loop breaks; bytes before it are drained
abbrev pub turn : (List ℕ → Rust) → List ℕ → Rust
turn next b =
    let start = index_of 0xF0 b in
    cond (ltb start (length b)) (to_end next (drop start b)) (left [] [])

-- the loop, at most n turns
unfoldable pub turns : ℕ → List ℕ → Rust
turns zero b = left [] b
turns (suc n) b = turn (turns n) b

-- `feed`: the data is put behind the buffer. Each turn but the last takes a frame out, so these turns are enough
abbrev pub rust_feed : List ℕ → List ℕ → Rust
rust_feed buf more = turns (suc (length (buf ++ more))) (buf ++ more)

-- all the frames of some calls, one after the other
abbrev pub rust_frames : List ℕ → List (List ℕ) → List (List ℕ)
rust_frames buf [] = []
rust_frames buf (d ∷ ds) = (rust_feed buf d).frames ++ rust_frames (rust_feed buf d).buf ds

-- the buffer after them: what is left open
abbrev pub rust_left : List ℕ → List (List ℕ) → List ℕ
rust_left buf [] = buf
rust_left buf (d ∷ ds) = rust_left (rust_feed buf d).buf ds
