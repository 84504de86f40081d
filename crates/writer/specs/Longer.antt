-- A state that has grown: what `with_property` hands back.
use Rattle.std.specs.Prelude.{ℕ, ◌+◌}
use Rattle.rules.specs.Writer.{State}

-- the state with `size` bytes of data and `more` of strings
abbrev pub longer : State → (size more : ℕ) → State
longer w size more =
    record {
      data_length = w.data_length + size;
      structure = w.structure;
      strings_length = w.strings_length + more;
      phandle_count = w.phandle_count;
      depth = w.depth;
      ended = w.ended;
      finished = w.finished;
      boot_cpu = w.boot_cpu;
    }
