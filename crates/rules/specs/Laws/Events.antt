-- The events of a structure block from a place on. The laws of the walk stand in proofs/Laws/Events.antt.
use Rattle.std.specs.Prelude.{List, ℕ}
use Rattle.rules.specs.Blob.{Block}
use Rattle.rules.specs.Events.{Event, events_of}
use Rattle.rules.specs.Laws.Tokens.{tokens_at}

-- ---- a turn

abbrev pub events_at : Block → ℕ → List Event
events_at b at = events_of b (tokens_at b.structure at)
