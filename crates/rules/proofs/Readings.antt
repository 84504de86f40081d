-- The tables of Readings hold, by computation from the definitions.
use Rattle.std.specs.Prelude.{◌≡◌, refl, true}
use Rattle.rules.specs.Everything.{everything}
use Rattle.rules.specs.Bench.{hold_all, events_t, host_t}
use Rattle.rules.specs.Readings.{nest, writer_cases, header_cases, shape_cases, name_cases, limit_cases, double_cases, word_cases, cpu_events, request_cases, find_cases, slash_events, chain_events, list_cases, secret_tree, hidden_among, hidden_from, secret_cases, exact_cases, program_cases}

-- ---- the writer: the number that a run of calls is refused with, or 0

pub writer_reads : hold_all writer_cases ≡ true
unfolding hold_all writer_cases nest everything
writer_reads = refl

-- ---- the reader: 0 and the node count, or the refusal's number and place

pub header_reads : hold_all header_cases ≡ true
unfolding hold_all header_cases events_t host_t everything
header_reads = refl

pub shape_reads : hold_all shape_cases ≡ true
unfolding hold_all shape_cases everything
shape_reads = refl

pub name_reads : hold_all name_cases ≡ true
unfolding hold_all name_cases everything
name_reads = refl

pub limit_reads : hold_all limit_cases ≡ true
unfolding hold_all limit_cases everything
limit_reads = refl

pub double_reads : hold_all double_cases ≡ true
unfolding hold_all double_cases everything
double_reads = refl

pub word_reads : hold_all word_cases ≡ true
unfolding hold_all word_cases events_t host_t everything
word_reads = refl

-- ---- the derivation: 0, the count of paths and the lengths of list and guest, or the refusal's number and place

pub request_reads : hold_all request_cases ≡ true
unfolding hold_all request_cases cpu_events events_t host_t everything
request_reads = refl

-- ---- the list asked for alone: 0, the count of paths and the length of the list, or the refusal's number and place

pub find_reads : hold_all find_cases ≡ true
unfolding hold_all find_cases events_t host_t everything
find_reads = refl

-- ---- the list and the copy

pub list_reads : hold_all list_cases ≡ true
unfolding hold_all list_cases slash_events chain_events cpu_events everything
list_reads = refl

-- ---- what is withheld: how many bytes

pub secret_reads : hold_all secret_cases ≡ true
unfolding hold_all secret_cases secret_tree hidden_among hidden_from everything
secret_reads = refl

-- ---- what is not examined, the grammar's nodes, and the names of the strings block

pub exact_reads : hold_all exact_cases ≡ true
unfolding hold_all exact_cases everything
exact_reads = refl

-- ---- the program's text

pub program_reads : hold_all program_cases ≡ true
unfolding hold_all program_cases events_t host_t everything
program_reads = refl
