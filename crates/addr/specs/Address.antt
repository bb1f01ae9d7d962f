-- Document 01, 'Frames': the addresses are 10, 12, 30, 40 hex; any other byte is refused with 6 and the byte.
-- `byte_of` gives each address its byte; `address_rule` reads a byte as an address.
use Rattle.std.specs.Prelude.{ℕ, cond, [], ◌∷◌, eqb}
use Rattle.error.specs.Refusal.{Told, yes, no}
use Rattle.addr.specs.declared.BusAddr.{BusAddr}
use Rattle.addr.specs.declared.BusAddr.TheVariants.{App, Pi, Avr, Dsp}

abbrev pub byte_of : BusAddr → ℕ
byte_of App = 0x10
byte_of Pi = 0x12
byte_of Avr = 0x30
byte_of Dsp = 0x40

unfoldable pub address_rule : ℕ → Told BusAddr
address_rule b =
    cond (eqb b 0x10) (yes App) (cond (eqb b 0x12) (yes Pi) (cond (eqb b 0x30) (yes Avr) (cond (eqb b 0x40) (yes Dsp) (no 6 (b ∷ [])))))
