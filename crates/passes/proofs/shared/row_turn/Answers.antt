-- `row_turn` meets its contract: a case for each kind.
use mathlib.Core.Path.{sym, ap, ◌∙◌}
use mathlib.Core.List.{List}
use Prim.Native.Nat.{ℕ}
use Rattle.rules.specs.Octets.{word_at}
use Rattle.passes.proofs.Phandles.{turn_begin, turn_end, turn_nop, turn_shut, turn-other, turn-give}
use Rattle.std.proofs.lemmas.Bool.{not-false, not-true}
use Rattle.passes.proofs.shared.row_turn.Goals as goal
use Rattle.passes.proofs.shared.row_turn.Goals.{then-not-search-via-then-not-search, then-not-search-via-else-not-search+then-not-is_phandle_name}

pub returns-in-Begin : goal.returns-in-Begin
returns-in-Begin c = turn_begin c.args.block.now.structure.now c.args.block.now.strings.now c.args.kind c.args.search c.args.work.now _ c.next_node.result c.in-Begin.is c.next_node.ensures

pub returns-in-EndNode : goal.returns-in-EndNode
returns-in-EndNode c = turn_end c.args.block.now.structure.now c.args.block.now.strings.now c.args.kind c.args.search c.args.work.now c.next_node-in-EndNode.result c.in-EndNode.is c.next_node-in-EndNode.ensures

pub returns-in-Nop : goal.returns-in-Nop
returns-in-Nop c = turn_nop c.args.block.now.structure.now c.args.block.now.strings.now c.args.kind c.args.search c.args.work.now c.in-Nop.is

pub returns-else-not-is_phandle_name : goal.returns-else-not-is_phandle_name
returns-else-not-is_phandle_name c = turn-give c.args.block.now.structure.now c.args.block.now.strings.now c.args.kind c.args.search c.args.work.now c.in-Prop.len c.in-Prop.name c.in-Prop.value c.in-Prop.is ((not-false _ c.if-not-search.false)) c.string_at.result.now c.string_at.ensures c.word-v.result c.give.result c.give.new.work (sym c.is_phandle_name.ensures ∙ c.if-not-is_phandle_name.false) (c.word-v.ensures ∙ ap (λ (l : List ℕ). word_at l 0) c.part.ensures) c.give.ensures

pub returns-then-not-search : goal.returns-then-not-search
returns-then-not-search c = elim c.then-not-search.branch [
  | then-not-search-via-then-not-search w ↦ turn_shut c.args.block.now.structure.now c.args.block.now.strings.now c.args.kind c.args.search c.args.work.now c.in-Prop.len c.in-Prop.name c.in-Prop.value c.in-Prop.is (not-true _ w.if-not-search.true)
  | then-not-search-via-else-not-search+then-not-is_phandle_name w ↦ turn-other c.args.block.now.structure.now c.args.block.now.strings.now c.args.kind c.args.search c.args.work.now c.in-Prop.len c.in-Prop.name c.in-Prop.value c.in-Prop.is (not-false _ w.if-not-search.false) w.string_at.result.now w.string_at.ensures (sym w.is_phandle_name.ensures ∙ w.if-not-is_phandle_name.true)
]
