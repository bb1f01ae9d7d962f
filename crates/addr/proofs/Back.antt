-- An address's byte is read as that address.
-- So no address is refused, and no two share a byte.
use mathlib.Core.Path.{◌≡◌, refl}
use Rattle.error.specs.Refusal.{yes}
use Rattle.addr.specs.declared.BusAddr.{BusAddr}
use Rattle.addr.specs.declared.BusAddr.TheVariants.{App, Pi, Avr, Dsp}
use Rattle.addr.specs.Address.{byte_of, address_rule}

pub address-back : (a : BusAddr) → address_rule (byte_of a) ≡ yes a
unfolding address_rule
address-back App = refl
address-back Pi = refl
address-back Avr = refl
address-back Dsp = refl
