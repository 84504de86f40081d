-- That each constant of src/lib.rt, as a number that computes, is the number of its definition (Ceilings, Space).
use Rattle.std.specs.Prelude.{◌≡◌, refl}
use Rattle.rules.specs.Ceilings.{node_ceiling, entry_ceiling, node_words, work_words}
use Rattle.rules.specs.Space.{table_words, marks_at, list_at, stack_at, names_at}
use Rattle.rules.specs.Laws.Constants.{NODE_CEILING, ENTRY_CEILING, WORK_WORDS, NODE_WORDS, MARKS_AT, LIST_AT, STACK_AT, NAMES_AT}

pub node_ceiling_lem : NODE_CEILING ≡ node_ceiling
unfolding node_ceiling
node_ceiling_lem = refl

pub entry_ceiling_lem : ENTRY_CEILING ≡ entry_ceiling
unfolding entry_ceiling
entry_ceiling_lem = refl

pub work_words_lem : WORK_WORDS ≡ work_words
unfolding work_words
work_words_lem = refl

pub node_words_lem : NODE_WORDS ≡ node_words
unfolding node_words
node_words_lem = refl

pub marks_at_lem : MARKS_AT ≡ marks_at
unfolding marks_at table_words node_ceiling node_words
marks_at_lem = refl

pub list_at_lem : LIST_AT ≡ list_at
unfolding list_at marks_at table_words node_ceiling node_words
list_at_lem = refl

pub stack_at_lem : STACK_AT ≡ stack_at
unfolding stack_at list_at marks_at table_words node_ceiling node_words
stack_at_lem = refl

pub names_at_lem : NAMES_AT ≡ names_at
unfolding names_at stack_at list_at marks_at table_words node_ceiling node_words
names_at_lem = refl
