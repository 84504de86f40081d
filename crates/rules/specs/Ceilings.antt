-- 01, "Ceilings": every number of that section, once. A number is shut: what needs its value says `unfolding`, so that a later
-- change of a number is a change here and in src/lib.rt.
use Rattle.std.specs.Prelude.{ℕ}

-- "Blob 1,048,576 bytes."
unfoldable pub blob_ceiling : ℕ
blob_ceiling = 1048576

-- "Nodes 2,048."
unfoldable pub node_ceiling : ℕ
node_ceiling = 2048

-- "Open nodes 64, root included."
unfoldable pub open_ceiling : ℕ
open_ceiling = 64

-- "Node name before `@`, and property name: 1 to 31 bytes (DTSpec)."
unfoldable pub node_name_ceiling : ℕ
node_name_ceiling = 31

unfoldable pub property_name_ceiling : ℕ
property_name_ceiling = 31

-- "Configured paths, excluded paths, CPU ids: 64 each."
unfoldable pub entry_ceiling : ℕ
entry_ceiling = 64

-- "Given path 1,024 bytes, closing NUL not counted"
unfoldable pub path_ceiling : ℕ
path_ceiling = 1024

-- "Reservations 32."
unfoldable pub reservation_ceiling : ℕ
reservation_ceiling = 32

-- "Work space 16,384 words of 32 bits."
unfoldable pub work_words : ℕ
work_words = 16384

-- "four words a node"
unfoldable pub node_words : ℕ
node_words = 4

-- "The command program handles host, guest and list up to 65,536 bytes each", and input up to as many.
unfoldable pub program_ceiling : ℕ
program_ceiling = 65536
