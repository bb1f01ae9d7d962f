-- Document 01, 'Splitter': what is shown of a frame, a part of the buffer that carries it, and where that part lies.
-- A place that does not fit its buffer shows the empty start of the chunk.
use Rattle.std.specs.Prelude.{ℕ, ◌+◌, cond, List, [], length, take, drop, leb}
use Rattle.std.specs.Borrow.{Bor}
use Rattle.splitter.specs.declared.Place.{Place}

-- the len bytes from index i, or none where they do not fit
abbrev pub part_or_none : List ℕ → ℕ → ℕ → List ℕ
part_or_none l i len = cond (leb (i + len) (length l)) (take len (drop i l)) []

-- the bytes: c is the chunk, h the hold buffer
abbrev pub view_rule : List ℕ → List ℕ → Place → List ℕ
view_rule c h p = part_or_none (cond p.in_hold h c) p.start p.len

-- the address of index i of a lent buffer
abbrev pub part_at : Bor (List ℕ) → ℕ → ℕ × ℕ
part_at r i = (r.ref_ptr.0, i + r.ref_ptr.1)

-- where they lie
abbrev pub view_at : Bor (List ℕ) → Bor (List ℕ) → Place → ℕ × ℕ
view_at c h p =
    cond (leb (p.start + p.len) (length (cond p.in_hold h.now c.now)))
    (part_at (cond p.in_hold h c) p.start)
    (part_at c 0)
