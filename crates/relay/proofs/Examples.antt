-- The relay's laws by example, computed from the definitions; docs/RELAY.md has the same strings.
-- `no-simpler`: no law holds without its wrap, its order, the stuffed bytes that an offset counts, or the bound of `more`.
use mathlib.Core.Path.{◌≡◌, refl, ap}
use mathlib.Core.List.{List, [], ◌∷◌, ◌++◌}
use Prim.Native.Nat.{ℕ, zero, suc, ◌+◌, ◌*◌, ◌%◌, ◌/◌, ◌≤◌, ◌<◌}
use native.Mathlib.Omega.{arith}
use lib.ListN.{length, get_or, replicate, length-replicate}
use Rattle.error.specs.Refusal.{Told, yes, on_yes}
use Rattle.addr.specs.declared.BusAddr.TheVariants.{App, Dsp}
use Rattle.stuffing.specs.declared.summing.Stuffed.{Stuffed}
use Rattle.stuffing.specs.Stuff.{escape_of, unescape_of, stuff_byte, stuff, sum16}
use Rattle.unstuffing.specs.Unstuff.{escape_by, step_by, unstuff, offset_at}
use Rattle.encoding.specs.Wire.{fields, body_of, checksum_of, wire_of}
use Rattle.relay.specs.Operations.{Tally, WrittenAs}
use Rattle.relay.specs.Fragments.{wire_sent}
use Rattle.relay.proofs.Operations.{more-answer, stuff-written, operations}

-- DEST 40, SRC 10, TYPE 01, and document 01's 257 payload bytes FF
abbrev head : List ℕ
head = 0x40 ∷ 0x10 ∷ 0x01 ∷ []

abbrev long : List ℕ
long = replicate 257 0xFF

pub record RelayExamples : Type 0 where
  -- F0 05, then FA; and FA behind nothing
  pub joins : stuff (0xF0 ∷ 0x05 ∷ []) ++ stuff (0xFA ∷ []) ≡ 0xFD ∷ 0x01 ∷ 0x05 ∷ 0xFD ∷ 0x04 ∷ []
  pub joined : stuff (0xF0 ∷ 0x05 ∷ 0xFA ∷ []) ≡ 0xFD ∷ 0x01 ∷ 0x05 ∷ 0xFD ∷ 0x04 ∷ []
  pub empty : stuff [] ++ stuff (0xFA ∷ []) ≡ 0xFD ∷ 0x04 ∷ []
  -- 81 and 65,535 make 80, in either order
  pub first : sum16 head ≡ 81
  pub second : sum16 long ≡ 65535
  pub both : sum16 (head ++ long) ≡ 80
  pub either : sum16 (long ++ head) ≡ 80
  -- F0, 05 and FA are the bytes 0, 1 and 2 of their string, and stand stuffed at 0, 2 and 3
  pub back : unstuff 0 (0xFD ∷ 0x01 ∷ 0x05 ∷ 0xFD ∷ 0x04 ∷ []) ≡ yes ((0xF0, 0) ∷ (0x05, 2) ∷ (0xFA, 3) ∷ [])
  -- F0, and the bytes that it is stuffed to
  pub one : stuff (0xF0 ∷ []) ≡ 0xFD ∷ 0x01 ∷ []
  pub other : stuff (0xFD ∷ 0x01 ∷ []) ≡ 0xFD ∷ 0x03 ∷ 0x01 ∷ []
  -- the header, F0 05, nothing, FA, with the sums 81, 259, 0 and 257, which make 597: 02 55
  pub sum-front : sum16 (stuff (0xF0 ∷ 0x05 ∷ [])) ≡ 259
  pub sum-last : sum16 (stuff (0xFA ∷ [])) ≡ 257
  pub sum_both : sum16 (stuff (0xF0 ∷ 0x05 ∷ 0xFA ∷ [])) ≡ 516
  pub sent : wire_sent (stuff head ++ (stuff (0xF0 ∷ 0x05 ∷ []) ++ (stuff [] ++ stuff (0xFA ∷ [])))) (stuff (597 / 256 ∷ 597 % 256 ∷ []))
      ≡ 0xF0 ∷ 0x40 ∷ 0x10 ∷ 0x01 ∷ 0xFD ∷ 0x01 ∷ 0x05 ∷ 0xFD ∷ 0x04 ∷ 0x02 ∷ 0x55 ∷ 0xF1 ∷ []
  pub encoded : wire_of (fields Dsp App 0x01 (0xF0 ∷ 0x05 ∷ 0xFA ∷ []))
      ≡ 0xF0 ∷ 0x40 ∷ 0x10 ∷ 0x01 ∷ 0xFD ∷ 0x01 ∷ 0x05 ∷ 0xFD ∷ 0x04 ∷ 0x02 ∷ 0x55 ∷ 0xF1 ∷ []

pub examples-relay : RelayExamples
unfolding escape_of unescape_of stuff_byte sum16 escape_by step_by wire_of checksum_of body_of
examples-relay =
    record {
      joins = refl;
      joined = refl;
      empty = refl;
      first = refl;
      second = refl;
      both = refl;
      either = refl;
      back = refl;
      one = refl;
      other = refl;
      sum-front = refl;
      sum-last = refl;
      sum_both = refl;
      sent = refl;
      encoded = refl;
    }

-- ---- what no law can do without

-- `more` tells how long each string of so many bytes at most will be
abbrev LengthByMore : ℕ → Type 0
LengthByMore most = (s w : List ℕ) (a : Stuffed) → length s ≤ most → Tally s a → WrittenAs s w → length w ≡ length s + a.more

pub record NoSimpler : Type 0 where
  pub wrap : ((s t : List ℕ) → sum16 (s ++ t) ≡ sum16 s + sum16 t) → ⊥
  pub order : ((s t : List ℕ) → stuff s ++ stuff t ≡ stuff (t ++ s)) → ⊥
  pub offsets : ((s : List ℕ) (k : ℕ) → k < length s → on_yes (λ us. offset_at us k) (unstuff 0 (stuff s)) ≡ yes k) → ⊥
  pub bound : LengthByMore 65536 → ⊥

-- bytes F0, stuffed
twice : (n : ℕ) → length (stuff (replicate n 0xF0)) ≡ 2 * n
unfolding escape_of stuff_byte
twice zero = refl
twice (suc n) = omega (arith, twice n)

-- 65,536 of them; their number stays a variable, so that no list is made
too_many : (n : ℕ) → n ≡ 65536 → LengthByMore 65536 → ⊥
too_many n e h =
    let s = replicate {A = ℕ} n 0xF0 in
    let l : length s ≡ n = length-replicate n 0xF0 in
    let a = (operations.answered s).1 in
    omega (arith, l, twice n, more-answer a.1, h s (stuff s) a.0 (omega (arith, l)) a.1 (stuff-written s))

pub no-simpler : NoSimpler
unfolding escape_of unescape_of stuff_byte sum16 escape_by step_by
no-simpler =
    record {
      wrap = λ h. let q : ◌≡◌ {A = ℕ} 80 65616 = h head long in omega arith;
      order = λ h. let q : ◌≡◌ {A = ℕ} 0xFD 0x05 = ap (λ (l : List ℕ). get_or l 0 0) (h (0xF0 ∷ []) (0x05 ∷ [])) in omega arith;
      offsets = λ h.
          let p : ◌≡◌ {A = Told ℕ} (yes 2) (yes 1) = h (0xF0 ∷ 0x05 ∷ []) 1 (omega arith) in
          let q : ◌≡◌ {A = ℕ} 2 1 = cc in
          omega arith;
      bound = λ h. too_many 65536 refl h;
    }
