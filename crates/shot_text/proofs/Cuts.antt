-- What the trims do at a byte: they stop at one of 20 hex or more, and pass one below.
-- Cut at the end and then at the start, a payload is the text that specs/Trim says, at the place that it says.
use Prim.Native.Nat.{ℕ, suc, ◌-◌, ◌≤◌, ◌<◌}
use mathlib.Core.Path.{◌≡◌, sym, ◌∙◌, ap}
use mathlib.Core.List.{List, [], ◌∷◌, ◌++◌, reverse, reverse-append, reverse-reverse}
use native.Mathlib.Omega.{arith}
use lib.ListN.{length, get_or, take, drop, length-drop}
use lib.Seq.{take-suc, drop-cons}
use borrow.Author.Tests.{lt-ltb, le-ltb}
use Rattle.shot_text.specs.Trim.{cut_front, cut_back, text_of, text_start}

-- the first of the bytes from a place on
module _ (s : List ℕ) (i : ℕ) (h : i < length s) where
  pub front-stops : 0x20 ≤ get_or s i 0 → drop i s ≡ cut_front (drop i s)
  unfolding cut_front
  front-stops t = rw (drop-cons s i 0 h, le-ltb (get_or s i 0) 0x20 t)

  pub front-passes : get_or s i 0 < 0x20 → cut_front (drop i s) ≡ cut_front (drop (suc i) s)
  unfolding cut_front
  front-passes t = rw (drop-cons s i 0 h, lt-ltb (get_or s i 0) 0x20 t)

-- the last of the bytes up to a place
module _ (s : List ℕ) (e : ℕ) (h : 0 < e) (l : e ≤ length s) where
  last : take e s ≡ take (e - 1) s ++ get_or s (e - 1) 0 ∷ []
  last =
      let n : e ≡ suc (e - 1) = omega arith in
      ap (λ (k : ℕ). take k s) n ∙ take-suc s (e - 1) 0 (omega arith)

  pub back-stops : 0x20 ≤ get_or s (e - 1) 0 → take e s ≡ cut_back (take e s)
  unfolding cut_front cut_back
  back-stops t =
      let kept : cut_front (reverse (take e s)) ≡ reverse (take e s) = rw (last, reverse-append, le-ltb (get_or s (e - 1) 0) 0x20 t) in
      sym (ap reverse kept ∙ reverse-reverse (take e s))

  pub back_passes : get_or s (e - 1) 0 < 0x20 → cut_back (take e s) ≡ cut_back (take (e - 1) s)
  unfolding cut_front cut_back
  back_passes t = rw (last, reverse-append, lt-ltb (get_or s (e - 1) 0) 0x20 t)

-- the back is cut at an end, and the front of what is left at a start
module _ (s t : List ℕ) (i : ℕ) (h : i ≤ length t) (b : t ≡ cut_back s) (f : drop i t ≡ cut_front t) where
  remains : drop i t ≡ text_of s
  unfolding text_of
  remains = f ∙ ap cut_front b

  pub long-is : length t - i ≡ length (text_of s)
  long-is = omega (arith, length-drop i t, ap length remains)

  pub start_is : i ≡ text_start s
  unfolding text_start
  start_is = omega (arith, length-drop i t, ap length b, ap length remains)
