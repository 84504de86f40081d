-- How the rule table's answer is read.
use Rattle.std.proofs.Math.Option as math
use Rattle.std.specs.Prelude.{Bool, false, List, nat_eq, Option, None, Some}
use Rattle.std.specs.List.{list_any}
use Rattle.std.specs.Cmp.Lexicographic.{pointwise}
use denote.Ref.{Bor}
use Prim.Native.String.{String}
use Rattle.rules.specs.Octets.{Bytes, ascii, same}
use Rattle.references.specs.declared.rows.Cells.{Cells}
use Rattle.references.specs.declared.rows.Cells.TheVariants.{Clock, Reset, PowerDomain, Phy, Interrupt, Gpio, Dma, ThermalSensor, SoundDai, Mbox, Pwm}

-- this name is one of a table's
abbrev pub stands_in : Bytes → List (Bor Bytes) → Bool
stands_in n ys = list_any (λ (y : Bor Bytes). pointwise nat_eq y.now n) ys

-- the cells property's name
abbrev pub name_of : Cells → String
name_of Clock = "#clock-cells"
name_of Reset = "#reset-cells"
name_of PowerDomain = "#power-domain-cells"
name_of Phy = "#phy-cells"
name_of Interrupt = "#interrupt-cells"
name_of Gpio = "#gpio-cells"
name_of Dma = "#dma-cells"
name_of ThermalSensor = "#thermal-sensor-cells"
name_of SoundDai = "#sound-dai-cells"
name_of Mbox = "#mbox-cells"
name_of Pwm = "#pwm-cells"

abbrev pub meaning : Option Cells → math.Option String
meaning (Some c) = math.some (name_of c)
meaning None = math.none

-- this name is that of a property, if there is one
abbrev pub is_named : math.Option String → Bytes → Bool
is_named math.none n = false
is_named (math.some s) n = same (ascii s) n
