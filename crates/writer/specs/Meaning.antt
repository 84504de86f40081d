-- What the writer's state and answers mean in the paper's words: "a definition gives this paper's number and values for
-- each of its cases".
use Rattle.std.specs.Prelude.{◌≡◌, refl, Result, Ok, Err}
use Rattle.std.proofs.Common.{sym, ap, ◌∙◌}
use Rattle.rules.specs.Outcome.{gives, refuses, Verdict, passes}
use Rattle.rules.specs.Writer.{State, Answer}
use Rattle.judge.specs.Meaning.{number_of, error_of, error_of_lem}
use Rattle.judge.specs.declared.Error.{Error}
use Rattle.writer.specs.declared.FdtWriter.{FdtWriter}
use Rattle.writer.specs.declared.Refused.{Refused}

abbrev pub state_of : FdtWriter → State
state_of w =
    record {
      data_length = w.data_len;
      structure = w.off_dt_struct;
      strings_length = w.strings_len;
      phandle_count = w.phandles_len;
      depth = w.node_depth;
      ended = w.node_ended;
      finished = w.finished;
      boot_cpu = w.boot_cpuid_phys;
    }

-- "Place is 0 throughout."
abbrev pub meaning : Result FdtWriter Refused → Answer
meaning (Ok w) = record { verdict = passes; state = state_of w }
meaning (Err r) = record { verdict = refuses (number_of r.error) 0; state = state_of r.writer }

-- ---- an answer means one thing only: two answers that a promise allows are one

writer_of : State → FdtWriter
writer_of w =
    record {
      data_len = w.data_length;
      off_dt_struct = w.structure;
      strings_len = w.strings_length;
      phandles_len = w.phandle_count;
      node_depth = w.depth;
      node_ended = w.ended;
      finished = w.finished;
      boot_cpuid_phys = w.boot_cpu;
    }

written : Verdict → State → Result FdtWriter Refused
written (gives u) w = Ok (writer_of w)
written (refuses n p) w = Err (record { writer = writer_of w; error = error_of n })

written_of : (r : Result FdtWriter Refused) → written (meaning r).verdict (meaning r).state ≡ r
unfolding written writer_of
written_of (Ok w) = refl
written_of (Err r) = ap (λ (e : Error). Err (record { writer = r.writer; error = e })) (error_of_lem r.error)

pub meaning_injective : (a b : Result FdtWriter Refused) → meaning a ≡ meaning b → a ≡ b
meaning_injective a b e = sym (written_of a) ∙ ap (λ (x : Answer). written x.verdict x.state) e ∙ written_of b
