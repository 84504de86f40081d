-- A visit, property by property.
use Rattle.std.specs.Prelude.{ℕ}
use Rattle.rules.specs.Octets.{Bytes}
use Rattle.rules.specs.Events.{Property}

abbrev pub property_of : (place : ℕ) (name value : Bytes) → Property
property_of place name value = record { place = place; name = name; value = value }
