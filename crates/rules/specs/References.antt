-- 01, "References and the list": which properties hold references, how many cells follow one, and the scan. `device.rs` of the
-- source: `is_phandle_property`, `get_cells_count_for_property`, `parse_phandle_property_with_cells`.
use Rattle.std.specs.Prelude.{Bool, true, false, not, ◌&&◌, ◌||◌, List, [], ◌∷◌, ◌++◌, map, ℕ, zero, suc, ◌+◌, ◌*◌, ◌/◌, ◌%◌, eqb, ltb, length, if◌then◌else◌}
use Rattle.std.proofs.Math.Option
use Rattle.std.proofs.Math.Option.{Option, none, some}
use Prim.Native.String.{String}
use Rattle.rules.specs.Octets.{Bytes, word_at, ascii, same, begins, ends, holds}
use Rattle.rules.specs.Events.{Property}
use Rattle.rules.specs.Tree.{Tree, node, value_of, phandle_of, among}

-- ---- the rule table

-- An edition of the rules: the names that hold references, and for a name the cells property that it uses of its target, if any.
pub record Rules : Type 0 where
  pub refers : Bytes → Bool
  pub cells_name : Bytes → Option String

-- the 23 names of `PHANDLE_PROPERTIES`
unfoldable pub reference_names : List String
reference_names =
    "clocks"
    ∷ "power-domains"
    ∷ "phys"
    ∷ "resets"
    ∷ "dmas"
    ∷ "thermal-sensors"
    ∷ "mboxes"
    ∷ "assigned-clocks"
    ∷ "interrupt-parent"
    ∷ "phy-handle"
    ∷ "msi-parent"
    ∷ "memory-region"
    ∷ "syscon"
    ∷ "regmap"
    ∷ "iommus"
    ∷ "interconnects"
    ∷ "nvmem-cells"
    ∷ "sound-dai"
    ∷ "pinctrl-0"
    ∷ "pinctrl-1"
    ∷ "pinctrl-2"
    ∷ "pinctrl-3"
    ∷ "pinctrl-4"
    ∷ []

-- "whole and exact, save where source 000 asks for a prefix, ending or part"
unfoldable pub is_gpio : Bytes → Bool
is_gpio n = ends (ascii "-gpios") n || ends (ascii "-gpio") n

unfoldable pub is_reference : Bytes → Bool
is_reference n =
    among n reference_names
    || ends (ascii "-supply") n
    || same n (ascii "gpios")
    || is_gpio n
    || holds (ascii "cells") n && not (begins (ascii "#") n)

-- rows of `get_cells_count_for_property`: property names, and the cells property that they use
pub record Row : Type 0 where
  pub names : List String
  pub cells : String

unfoldable pub cell_rows : List Row
cell_rows =
    record { names = "clocks" ∷ "assigned-clocks" ∷ []; cells = "#clock-cells" }
    ∷ record { names = "resets" ∷ []; cells = "#reset-cells" }
    ∷ record { names = "power-domains" ∷ []; cells = "#power-domain-cells" }
    ∷ record { names = "phys" ∷ []; cells = "#phy-cells" }
    ∷ record { names = "interrupts" ∷ "interrupts-extended" ∷ []; cells = "#interrupt-cells" }
    ∷ record { names = "gpios" ∷ []; cells = "#gpio-cells" }
    ∷ record { names = "dmas" ∷ []; cells = "#dma-cells" }
    ∷ record { names = "thermal-sensors" ∷ []; cells = "#thermal-sensor-cells" }
    ∷ record { names = "sound-dai" ∷ []; cells = "#sound-dai-cells" }
    ∷ record { names = "mboxes" ∷ []; cells = "#mbox-cells" }
    ∷ record { names = "pwms" ∷ []; cells = "#pwm-cells" }
    ∷ []

unfoldable pub cells_in : List Row → Bytes → Option String
cells_in [] n = if is_gpio n then some "#gpio-cells" else none
cells_in (r ∷ rs) n = elim (among n r.names) [ true ↦ some r.cells | false ↦ cells_in rs n ]

unfoldable pub edition1 : Rules
edition1 = record { refers = is_reference; cells_name = cells_in cell_rows }

-- ---- phandles and cell counts

-- the place of a phandle in a list of phandles
unfoldable pub place_of : ℕ → List (Option ℕ) → Option ℕ
place_of w [] = none
place_of w (none ∷ ps) = Option.map suc (place_of w ps)
place_of w (some p ∷ ps) = elim (eqb w p) [ true ↦ some zero | false ↦ Option.map suc (place_of w ps) ]

-- the node of a phandle: "a known phandle" is one of any node
unfoldable pub lookup : Tree → ℕ → Option ℕ
lookup t w = place_of w (map phandle_of t)

-- a property of one word, 0 where it is absent
unfoldable pub word_named : Bytes → List Property → ℕ
word_named n ps = elim (value_of n ps) [ none ↦ 0 | some v ↦ word_at v 0 ]

-- "c is the target's cell count by `get_cells_count_for_property`, 0 where absent"
unfoldable pub cell_count : Rules → Tree → (name : Bytes) → (target : ℕ) → ℕ
cell_count r t name m = elim (r.cells_name name) [ none ↦ 0 | some c ↦ word_named (ascii c) (node t m).props ]

-- ---- the scan

-- one reference: its target, the phandle's word index, and how many specifier words follow it
pub record Reference : Type 0 where
  pub target : ℕ
  pub index : ℕ
  pub cells : ℕ

-- "if word i isn't a known phandle, i grows by 1. If it is, ... when i + c < n the target is referenced and i grows by c + 1, else
-- the scan stops." Each turn passes a word, so that n turns are enough.
unfoldable pub scan_from : (look : ℕ → Option ℕ) (cells : ℕ → ℕ) (fuel : ℕ) → Bytes → (n i : ℕ) → List Reference
scan_from look cells zero v n i = []
scan_from look cells (suc fuel) v n i = elim (ltb i n) [
  | false ↦ []
  | true ↦ elim (look (word_at v (4 * i))) [
    | none ↦ scan_from look cells fuel v n (i + 1)
    | some m ↦ elim (ltb (i + cells m) n) [
      | true ↦ record { target = m; index = i; cells = cells m } ∷ scan_from look cells fuel v n (i + cells m + 1)
      | false ↦ []
    ]
  ]
]

-- "A value that is empty or not a multiple of 4 bytes gives nothing. Otherwise scan n words from i = 0"
unfoldable pub scan : (look : ℕ → Option ℕ) (cells : ℕ → ℕ) → Bytes → List Reference
scan look cells v = if eqb (length v % 4) 0 then scan_from look cells (length v / 4) v (length v / 4) 0 else []

-- the references of one property, and of a node's properties in order
unfoldable pub references_of : Rules → Tree → Property → List Reference
references_of r t p = elim (r.refers p.name) [ true ↦ scan (lookup t) (cell_count r t p.name) p.value | false ↦ [] ]

abbrev pub target : Reference → ℕ
target x = x.target

unfoldable pub targets_in : Rules → Tree → List Property → List ℕ
targets_in r t [] = []
targets_in r t (p ∷ ps) = map target (references_of r t p) ++ targets_in r t ps

-- what node i references, in property and word order
unfoldable pub targets : Rules → Tree → ℕ → List ℕ
targets r t i = targets_in r t (node t i).props
