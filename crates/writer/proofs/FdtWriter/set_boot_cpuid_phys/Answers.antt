-- `FdtWriter::set_boot_cpuid_phys` meets its contract.
use mathlib.Core.Path.{refl}
use Rattle.rules.specs.Writer.{set_boot_cpu}
use Rattle.writer.proofs.FdtWriter.set_boot_cpuid_phys.Goals as goal

pub returns : goal.returns
unfolding set_boot_cpu
returns c = refl
