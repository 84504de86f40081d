-- Refusal 11, token by token.
use Rattle.std.specs.Prelude.{not, ◌&&◌, ℕ, eqb, length, if◌then◌else◌, Option as Answer, Some, None}
use Rattle.std.proofs.Math.Option.{Option, none, some}
use Rattle.rules.specs.Octets.{Bytes, word_at, part}
use Rattle.rules.specs.Events.{string_at}
use Rattle.rules.specs.Tree.{is_phandle, among, cells_names, differs}
use Rattle.rules.specs.declared.Kind.{Kind}
use Rattle.rules.specs.declared.Kind.TheVariants.{Begin, EndNode, Prop, Nop}
use Rattle.passes.specs.declared.cells.Seen.{Seen}
use Rattle.passes.specs.declared.cells.Seen.TheVariants.{Outside, Within, Given}

-- the phandle that is known
abbrev pub had : Seen → Option ℕ
had Outside = none
had Within = none
had (Given v) = some v

-- a value that gives the node a phandle
unfoldable pub on_given : Seen → (value : Bytes) → Answer Seen
on_given seen value =
    if not (eqb (length value) 4) then None
    else if differs (had seen) (word_at value 0) then None
    else Some (Given (word_at value 0))

-- a property of the node
unfoldable pub on_property : Seen → (name value : Bytes) → Answer Seen
on_property seen name value =
    if is_phandle name then on_given seen value
    else if among name cells_names && not (eqb (length value) 4) then None
    else Some seen

-- a property, where it may stand in no node
abbrev pub on_has : Seen → (name value : Bytes) → Answer Seen
on_has Outside name value = Some Outside
on_has Within name value = on_property Within name value
on_has (Given v) name value = on_property (Given v) name value

abbrev pub on_kind : (s strings : Bytes) → Seen → Kind → Answer Seen
on_kind s strings seen (Begin len) = Some Within
on_kind s strings seen EndNode = Some Outside
on_kind s strings seen (Prop len name value) = on_has seen (string_at strings name) (part s value len)
on_kind s strings seen Nop = Some seen
