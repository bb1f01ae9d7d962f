-- Writing at a place, by cases: the bytes fit, or they are refused.
-- Once over the bytes, for a test that passed or failed and for a length.
use Prim.Native.Nat.{ℕ, ◌+◌, ◌<◌, ◌≤◌}
use mathlib.Core.Path.{◌≡◌, ap}
use mathlib.Core.Bool.{Bool, true, false, cond}
use mathlib.Core.List.{List, [], ◌∷◌}
use borrow.Author.Tests.{le-leb, lt-leb}
use lib.Dec.{leb}
use lib.ListN.{length}
use lib.Seq.{sets}
use Rattle.error.specs.Refusal.{yes, no}
use Rattle.std.specs.Prelude.{Result}
use Rattle.error.specs.declared.WireError.{WireError}
use Rattle.error.specs.Result.{told}
use Rattle.integer.specs.Fields.{need_at}
use Rattle.integer_write.specs.Writing.{writing, written}

-- what a writer's contract says of its reply and of the buffer then
abbrev pub Wrote : Result Unit WireError → List ℕ → List ℕ → List ℕ → ℕ → Type 0
Wrote r b bs s at = (told r ≡ writing bs s at) × (b ≡ written bs s at)

module _ (bs s : List ℕ) (at : ℕ) where
  pub writes-where : leb (at + length bs) (length s) ≡ true → (writing bs s at ≡ yes tt) × (written bs s at ≡ sets s at bs)
  unfolding writing written
  writes-where h =
      (ap (λ (b : Bool). cond b (yes tt) (no 8 (need_at (length bs) at ∷ length s ∷ []))) h, ap (λ (b : Bool). cond b (sets s at bs) s) h)

  pub no-room-where : leb (at + length bs) (length s) ≡ false → (writing bs s at ≡ no 8 (need_at (length bs) at ∷ length s ∷ [])) × (written bs s at ≡ s)
  unfolding writing written
  no-room-where h =
      (ap (λ (b : Bool). cond b (yes tt) (no 8 (need_at (length bs) at ∷ length s ∷ []))) h, ap (λ (b : Bool). cond b (sets s at bs) s) h)

  pub writes : at + length bs ≤ length s → (writing bs s at ≡ yes tt) × (written bs s at ≡ sets s at bs)
  writes h = writes-where (le-leb (at + length bs) (length s) h)

  pub no_room : length s < at + length bs → (writing bs s at ≡ no 8 (need_at (length bs) at ∷ length s ∷ [])) × (written bs s at ≡ s)
  no_room h = no-room-where (lt-leb (at + length bs) (length s) h)
