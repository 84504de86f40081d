-- What computes: every definition, by module, for a statement that says `unfolding everything`. It claims nothing.
use Rattle.rules.specs.Ceilings
use Rattle.rules.specs.Octets
use Rattle.rules.specs.Lists
use Rattle.rules.specs.Names
use Rattle.rules.specs.Reservations
use Rattle.rules.specs.Writer
use Rattle.rules.specs.Written
use Rattle.rules.specs.Blob
use Rattle.rules.specs.Tokens
use Rattle.rules.specs.Events
use Rattle.rules.specs.Tree
use Rattle.rules.specs.Reader
use Rattle.rules.specs.References
use Rattle.rules.specs.Listing
use Rattle.rules.specs.Copy
use Rattle.rules.specs.Derivation
use Rattle.rules.specs.Device
use Rattle.rules.specs.Program
use Rattle.rules.specs.Withheld
use Rattle.rules.specs.Exactly

unfoldable pub in_ceilings : Unit {0}
unfolding Ceilings.blob_ceiling Ceilings.node_ceiling Ceilings.open_ceiling Ceilings.node_name_ceiling Ceilings.property_name_ceiling Ceilings.entry_ceiling Ceilings.path_ceiling Ceilings.reservation_ceiling Ceilings.work_words Ceilings.node_words Ceilings.program_ceiling
in_ceilings = tt

unfoldable pub in_octets : Unit {0}
unfolding Octets.word_at Octets.long_at Octets.be32 Octets.be64 Octets.number_after Octets.words32 Octets.words64 Octets.filled Octets.put Octets.lay Octets.length_to Octets.ascii Octets.same Octets.begins Octets.holds Octets.before
in_octets = tt

unfoldable pub in_lists : Unit {0}
unfolding Lists.one_of Lists.every Lists.any Lists.keep Lists.insert Lists.sort Lists.fresh
in_lists = tt

unfoldable pub in_names : Unit {0}
unfolding Names.node_char Names.property_char Names.node_name_valid Names.property_name_valid Names.node_name_reads Names.property_name_reads
in_names = tt

unfoldable pub in_reservations : Unit {0}
unfolding Reservations.invalid Reservations.made Reservations.any_invalid Reservations.insert Reservations.sorted_from Reservations.neighbours Reservations.overlapping Reservations.entry_bytes Reservations.block
in_reservations = tt

unfoldable pub in_writer : Unit {0}
unfolding Writer.begin_bytes Writer.end_bytes Writer.property_bytes Writer.header_bytes Writer.name_from Writer.name_growth Writer.impossible Writer.start_bytes Writer.start_judged Writer.start Writer.start_data Writer.set_boot_cpu Writer.begin_judged Writer.begin_node Writer.begin_node_data Writer.end_judged Writer.end_node Writer.end_node_data Writer.property_judged Writer.property Writer.property_data Writer.property_strings Writer.bad_list Writer.phandle_judged Writer.phandle Writer.phandle_data Writer.phandle_strings Writer.phandle_table Writer.finish_judged Writer.finish Writer.finish_data
in_writer = tt

unfoldable pub in_written : Unit {0}
unfolding Written.write_event Written.write_events Written.blob_with Written.blob_of Written.property_call Written.call Written.run Written.finished Written.written Written.said Written.boot_said Written.spelled Written.unplaced
in_written = tt

unfoldable pub in_blob : Unit {0}
unfolding Blob.header_in Blob.entries_from Blob.entries_in Blob.misplaced Blob.header_judged Blob.block_in
in_blob = tt

unfoldable pub in_tokens : Unit {0}
unfolding Tokens.begin_at Tokens.prop_at Tokens.tagged Tokens.token_at Tokens.tokens_from Tokens.tokens
in_tokens = tt

unfoldable pub in_events : Unit {0}
unfolding Events.string_at Events.property_reads Events.opening Events.closing Events.holding Events.ending Events.judge Events.shape_judged Events.events_of Events.events_in Events.judge_events Events.events_judged
in_events = tt

unfoldable pub in_tree : Unit {0}
unfolding Tree.props_of Tree.nodes_from Tree.nodes_of Tree.value_of Tree.sibling Tree.named Tree.doubled_props Tree.doubled_from Tree.doubled_judged Tree.among Tree.phandle_names Tree.cells_names Tree.words_from Tree.words_judged Tree.phandle_prop Tree.shared_from Tree.shared_judged Tree.climb Tree.spell Tree.numbers_from
in_tree = tt

unfoldable pub in_reader : Unit {0}
unfolding Reader.events_read Reader.tree_read Reader.blob_judged Reader.space_judged Reader.read Reader.row_of Reader.rows_of Reader.space_of Reader.read_work
in_reader = tt

unfoldable pub in_references : Unit {0}
unfolding References.reference_names References.is_gpio References.is_reference References.cell_rows References.cells_in References.edition1 References.place_of References.lookup References.word_named References.cell_count References.scan_from References.scan References.references_of References.targets_in References.targets
in_references = tt

unfoldable pub in_listing : Unit {0}
unfolding Listing.nodes_below Listing.gather Listing.given_nodes Listing.starts Listing.work Listing.found Listing.reached_list Listing.within Listing.listed Listing.paths_bytes
in_listing = tt

unfoldable pub in_copy : Unit {0}
unfolding Copy.is_cpus Copy.cpu_child Copy.reg_of Copy.stranger Copy.near Copy.picked Copy.copied Copy.sieve Copy.guest_events Copy.guest_bytes
in_copy = tt

unfoldable pub in_derivation : Unit {0}
unfolding Derivation.given_from Derivation.given Derivation.path_at_fault Derivation.paths_judged Derivation.lists_judged Derivation.node_among Derivation.repeats Derivation.configured_from Derivation.configured_judged Derivation.nodes_named Derivation.asked Derivation.cpus_from Derivation.cpus_judged Derivation.met Derivation.ids_from Derivation.request_judged Derivation.listed_paths Derivation.list_of Derivation.guest_of Derivation.room_judged Derivation.derive Derivation.derive_list Derivation.derive_guest Derivation.derive_work
in_derivation = tt

unfoldable pub in_device : Unit {0}
unfolding Device.find Device.find_list
in_device = tt

unfoldable pub in_program : Unit {0}
unfolding Program.lines_from Program.lines_of Program.decimal_after Program.decimal_said Program.line_said Program.lines_judged Program.input_judged Program.configured_in Program.excluded_in Program.ids_in Program.request_in Program.digits_from Program.decimal Program.printed_paths Program.printed_answer Program.printed_refusal Program.host_judged Program.program_outcome Program.program
in_program = tt

unfoldable pub in_withheld : Unit {0}
unfolding Withheld.hidden Withheld.in_value Withheld.hidden_in Withheld.withheld
in_withheld = tt

unfoldable pub in_exactly : Unit {0}
unfolding Exactly.padding_in Exactly.gap Exactly.unexamined Exactly.preorder Exactly.names_used Exactly.is_among Exactly.first_uses
in_exactly = tt

unfoldable pub everything : Unit {0}
unfolding in_ceilings in_octets in_lists in_names in_reservations in_writer in_written in_blob in_tokens in_events in_tree in_reader in_references in_listing in_copy in_derivation in_device in_program in_withheld in_exactly
everything = tt
