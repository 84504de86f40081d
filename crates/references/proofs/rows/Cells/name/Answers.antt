-- `name` meets its contract.
use mathlib.Core.Path.{refl}
use Rattle.rules.specs.Octets.{ascii}
use Rattle.references.proofs.rows.Cells.name.Goals as goal

pub returns-in-Clock : goal.returns-in-Clock
unfolding ascii
returns-in-Clock c = rw c.in-Clock.is refl

pub returns-in-Reset : goal.returns-in-Reset
unfolding ascii
returns-in-Reset c = rw c.in-Reset.is refl

pub returns-in-PowerDomain : goal.returns-in-PowerDomain
unfolding ascii
returns-in-PowerDomain c = rw c.in-PowerDomain.is refl

pub returns-in-Phy : goal.returns-in-Phy
unfolding ascii
returns-in-Phy c = rw c.in-Phy.is refl

pub returns-in-Interrupt : goal.returns-in-Interrupt
unfolding ascii
returns-in-Interrupt c = rw c.in-Interrupt.is refl

pub returns-in-Gpio : goal.returns-in-Gpio
unfolding ascii
returns-in-Gpio c = rw c.in-Gpio.is refl

pub returns-in-Dma : goal.returns-in-Dma
unfolding ascii
returns-in-Dma c = rw c.in-Dma.is refl

pub returns-in-ThermalSensor : goal.returns-in-ThermalSensor
unfolding ascii
returns-in-ThermalSensor c = rw c.in-ThermalSensor.is refl

pub returns-in-SoundDai : goal.returns-in-SoundDai
unfolding ascii
returns-in-SoundDai c = rw c.in-SoundDai.is refl

pub returns-in-Mbox : goal.returns-in-Mbox
unfolding ascii
returns-in-Mbox c = rw c.in-Mbox.is refl

pub returns-in-Pwm : goal.returns-in-Pwm
unfolding ascii
returns-in-Pwm c = rw c.in-Pwm.is refl
