-- `node_name_valid` meets its contract.
use Rattle.std.proofs.Common.{◌≡◌, ◌+◌, ◌&&◌, refl, sym, ap, ◌∙◌, arith, take, length-take-le, eqb-true}
use Rattle.std.proofs.lemmas.Bool.{eqb-false}
use Rattle.rules.specs.Ceilings.{node_name_ceiling}
use Rattle.rules.specs.Names.{within, node_char}
use Rattle.rules.specs.Lists.{every}
use Rattle.rules.proofs.Laws.Octets.{to_le}
use Rattle.rules.proofs.Laws.Names.{node_empty, node_rule}
use Rattle.names.proofs.Chars.{in_range, and_then, and_else, rest_or_nothing}
use Rattle.names.proofs.node_name_valid.Goals as goal
use Rattle.names.proofs.node_name_valid.Goals.{then-contains, else-contains}

pub returns-then-is_empty : goal.returns-then-is_empty
returns-then-is_empty c = sym (node_empty c.args.name.now (eqb-true _ 0 (sym c.is_empty.ensures ∙ c.if-is_empty.true)))

pub slice_bounds-node_name_chars-end : goal.slice_bounds-node_name_chars-end
slice_bounds-node_name_chars-end c = sym (length-take-le c.length_to-n.result c.args.name.now (omega (arith, c.length_to-n.ensures, to_le 64 c.args.name.now)))

pub returns-then-node_name_chars : goal.returns-then-node_name_chars
unfolding node_name_ceiling
returns-then-node_name_chars c =
    let s = c.args.name.now in
    let n = c.length_to-n.result in
    let range : c.contains.result ≡ within 1 31 n = rw (c.new.ensures.start, c.new.ensures.end, c.new.ensures.exhausted) at c.contains.ensures.value ∙ in_range 1 31 n in
    let front : c.if-contains.value ≡ within 1 31 n && every node_char (take n s) = elim c.if-contains.branch [ then-contains w ↦ w.value-is ∙ and_then (sym range ∙ w.if-contains.true) w.node_name_chars.ensures | else-contains w ↦ w.value-is ∙ and_else _ range w.if-contains.false ] in
    rw (node_rule s n (eqb-false _ 0 (sym c.is_empty.ensures ∙ c.if-is_empty.false)) c.length_to-n.ensures) (and_then (sym front ∙ c.if-node_name_chars.true) (c.node_name_chars-then-node_name_chars.ensures ∙ ap (every node_char) (ap (λ (b : _). b.now) c.unwrap_or.ensures ∙ rest_or_nothing s (n + 1) _ c.get.result refl c.get.ensures.lookup)))

pub returns-else-node_name_chars : goal.returns-else-node_name_chars
unfolding node_name_ceiling
returns-else-node_name_chars c =
    let s = c.args.name.now in
    let n = c.length_to-n.result in
    let range : c.contains.result ≡ within 1 31 n = rw (c.new.ensures.start, c.new.ensures.end, c.new.ensures.exhausted) at c.contains.ensures.value ∙ in_range 1 31 n in
    let front : c.if-contains.value ≡ within 1 31 n && every node_char (take n s) = elim c.if-contains.branch [ then-contains w ↦ w.value-is ∙ and_then (sym range ∙ w.if-contains.true) w.node_name_chars.ensures | else-contains w ↦ w.value-is ∙ and_else _ range w.if-contains.false ] in
    rw (node_rule s n (eqb-false _ 0 (sym c.is_empty.ensures ∙ c.if-is_empty.false)) c.length_to-n.ensures) (and_else _ front c.if-node_name_chars.false)
