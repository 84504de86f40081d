-- A host that is read, as contracts over its table say it. What follows from it stands in proofs/Laws/Host.antt.
use Rattle.std.proofs.Math.Path.{◌≡◌}
use mathlib.Core.List.{List}
use Rattle.std.specs.Prelude.{ℕ}
use Rattle.rules.specs.Octets.{Bytes}
use Rattle.rules.specs.Outcome.{passes}
use Rattle.rules.specs.Blob.{block_in}
use Rattle.rules.specs.Reader.{tree_read, blob_judged}
use Rattle.rules.specs.Laws.Kept.{Kept}
use Rattle.rules.specs.Laws.Tabled.{tree_in}

-- the host is accepted, and its table stands in the work space
pub record HostRead (host : Bytes) (ws : List ℕ) (count : ℕ) : Type 0 where
  pub accepted : blob_judged host ≡ passes
  pub kept : Kept (block_in host) ws count
  pub tree : tree_in (block_in host) ws count ≡ tree_read host
