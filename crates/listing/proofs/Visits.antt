-- A visit: the scan of a value, word by word, and the properties of a node, one after the other.
use mathlib.Core.Path.{◌≡◌, refl, sym, ap, ◌∙◌}
use mathlib.Core.Bool.{true, false}
use mathlib.Core.List.Memᴰ
use mathlib.Core.List.{List, [], ◌∷◌, map}
use Rattle.std.specs.Prelude.{Option as Maybe, Some, None}
use mathlib.Core.Option.{Option}
use Prim.Native.Nat.{ℕ, ◌+◌, ◌/◌, ◌%◌, ◌≤◌, ◌<◌}
use Prim.Native.String.{String}
use lib.Dec.{eqb}
use lib.ListN.{length}
use Rattle.rules.specs.Ceilings.{node_ceiling}
use Rattle.rules.specs.Octets.{Bytes, part}
use Rattle.rules.specs.Blob.{Block}
use Rattle.rules.specs.Events.{Property, string_at}
use Rattle.rules.specs.Tree.{Node, Tree, node, props_of}
use Rattle.rules.specs.References.{Rules, Reference, is_reference, cell_rows, cells_in, edition1, lookup, cell_count, target, scan, references_of, targets_in, targets}
use Rattle.rules.specs.Listing.{◌∈◌}
use Rattle.rules.proofs.Laws.Tests.{by_test}
use Rattle.rules.proofs.Laws.References.{scan_from_mem, references_yes, references_no}
use Rattle.rules.specs.Laws.Events.{events_at}
use Rattle.rules.specs.Laws.Tabled.{tree_in, props_at, begin_of, look_in, count_named}
use Rattle.rules.proofs.Laws.Tabled.{node_in_lem, count_named_lem, look_small}
use Rattle.rules.specs.Laws.Kept.{Alike, Kept}
use Rattle.rules.proofs.Laws.Kept.{tree_alike, look_alike}
use Rattle.tokens.specs.declared.Property as next
use Rattle.tokens.specs.Properties.{behind_at, property_at}
use Rattle.tokens.proofs.Properties.{behind_props, props_none, props_here}
use Rattle.references.specs.declared.scan.Reference as found
use Rattle.references.specs.Scan.{scan_at, told, scan_in, Scanned}
use Rattle.listing.specs.declared.note.Ends.{Ends}
use Rattle.listing.specs.State.{Piled, Stacks}
use Rattle.listing.specs.Visit.{property_of}
use Rattle.listing.proofs.Notes.{stacks_refl, stacks_trans, stacks_more}

-- functions with the same values are one
pub same_values : {A B : Type 0} {f g : A → B} → ((x : A) → f x ≡ g x) → f ≡ g
same_values h = λ j. λ x. h x j

-- ---- the scan of a value

module _ (b : Block) (ws vs : List ℕ) (count : ℕ) (few : count ≤ node_ceiling) (s : Alike ws vs) (o : Option String) (v : Bytes) (i : ℕ) where
  scan_alike : scan_in b vs count o v i ≡ scan_in b ws count o v i
  scan_alike =
      ap (λ (look : ℕ → Option ℕ). scan_at look (λ (m : ℕ). count_named o (node (tree_in b vs count) m).props) v i)
      (same_values (look_alike b ws vs count few s))
      ∙ ap (λ (t : Tree). scan_at (look_in ws count) (λ (m : ℕ). count_named o (node t m).props) v i) (tree_alike b ws vs count few s)

scan_small : (b : Block) (ws : List ℕ) (count : ℕ) (o : Option String) (v : Bytes) (i : ℕ) (x : Reference) → x ∈ scan_in b ws count o v i → x.target < count
unfolding scan_at
scan_small b ws count o v i x m = by_test (eqb (length v % 4) 0)
    (λ e. let k = scan_from_mem (look_in ws count) (λ (z : ℕ). count_named o (node (tree_in b ws count) z).props) (length v / 4) v (length v / 4) i x (rw e at m) in
    look_small ws count k.0 x.target k.1)
    (λ e. absurd (Memᴰ.not-nil (rw e at m)))

-- the targets from word i on
abbrev pub targets_from : Block → List ℕ → ℕ → Option String → Bytes → (i : ℕ) → List ℕ
targets_from b ws count o v i = map target (scan_in b ws count o v i)

module _ (b : Block) (ws : List ℕ) (count n s : ℕ) (o : Option String) (v : Bytes) where
  abbrev rest : ℕ → List ℕ
  rest i = targets_from b ws count o v i

  module _ (vs : List ℕ) (m k i : ℕ) (a : Stacks count ws n s (rest 0) vs m k (rest i)) (r : Maybe found.Reference) (g : Scanned b vs count o v i r) where
    here : (q : Maybe found.Reference) → r ≡ q → scan_in b ws count o v i ≡ told (scan_in b vs count o v) q
    here q e =
        sym (scan_alike b ws vs count a.piled.marked.few a.apart.before o v i)
        ∙ g.list
        ∙ ap (told (scan_in b vs count o v)) e

    pub scan_stop : r ≡ None → Stacks count ws n s (rest 0) vs m k []
    scan_stop e = rw (here None e) at a

    module _ (x : found.Reference) (e : r ≡ Some x) where
      pub scan-target : x.target < count
      scan-target = scan_small b ws count o v i (record { target = x.target; index = x.index; cells = x.cells }) (rw (here (Some x) e) (Memᴰ.head refl))

      turn : rest i ≡ x.target ∷ rest x.next
      turn =
          ap (map target) (here (Some x) e)
          ∙ ap (λ (l : List Reference). x.target ∷ map target l) (scan_alike b ws vs count a.piled.marked.few a.apart.before o v x.next)

      pub scan-next : (us : List ℕ) (p q : ℕ) → Stacks count vs m k (x.target ∷ []) us p q [] → Stacks count ws n s (rest 0) us p q (rest x.next)
      scan-next us p q d = stacks_trans a (rw turn (stacks_more count vs m k (x.target ∷ []) us p q d (rest x.next)))

-- ---- a property

module _ (b : Block) (ws : List ℕ) (count : ℕ) (k : Kept b ws count) where
  abbrev tree : Tree
  tree = tree_in b ws count

  scan_told : (r : Rules) (p : Property) → scan (lookup tree) (cell_count r tree p.name) p.value ≡ scan_in b ws count (r.cells_name p.name) p.value 0
  unfolding scan scan_at
  scan_told r p =
      ap (λ (look : ℕ → Option ℕ). scan_at look (cell_count r tree p.name) p.value 0) (sym (same_values k.look))
      ∙ ap (λ (cells : ℕ → ℕ). scan_at (look_in ws count) cells p.value 0) (same_values (count_named_lem r tree p.name))

  module _ (n s : ℕ) (p : Property) where
    pub property_none : Piled ws count n s → is_reference p.name ≡ false → Stacks count ws n s (map target (references_of edition1 tree p)) ws n s []
    unfolding edition1
    property_none q e = rw (references_no edition1 tree p e) (stacks_refl ws count n s [] q)

    pub property_some : is_reference p.name ≡ true → (o : Option String) → o ≡ cells_in cell_rows p.name → (vs : List ℕ) (m j : ℕ)
        → Stacks count ws n s (map target (scan_in b ws count o p.value 0)) vs m j []
        → Stacks count ws n s (map target (references_of edition1 tree p)) vs m j []
    unfolding edition1
    property_some e o f vs m j a = rw (references_yes edition1 tree p e ∙ scan_told edition1 p) (rw f at a)

-- ---- the properties of a node

targets_none : (t : Tree) → targets_in edition1 t [] ≡ []
unfolding targets_in
targets_none t = refl

-- the targets of a node, and those that are to come behind a place
abbrev pub targets_of : Block → List ℕ → (count x : ℕ) → List ℕ
targets_of b ws count x = targets edition1 (tree_in b ws count) x

abbrev pub targets_behind : Block → List ℕ → (count at : ℕ) → List ℕ
targets_behind b ws count at = targets_in edition1 (tree_in b ws count) (props_of (events_at b at))

module _ (b : Block) (ws : List ℕ) (count n s x : ℕ) (h : x < count) where
  abbrev ahead : ℕ → List ℕ
  ahead at = targets_behind b ws count at

  abbrev all : List ℕ
  all = targets_of b ws count x

  pub visit_first : (begin : ℕ) → begin ≡ begin_of b.place ws x → (at : ℕ) → at ≡ behind_at b.structure begin → Piled ws count n s
      → Stacks count ws n s all ws n s (ahead at)
  unfolding targets
  visit_first begin g at e p =
      let start : all ≡ ahead at =
      ap (λ (d : Node). targets_in edition1 (tree_in b ws count) d.props) (node_in_lem b ws count x h)
      ∙ ap (λ (k : ℕ). targets_in edition1 (tree_in b ws count) (props_at b k)) (sym g)
      ∙ ap (targets_in edition1 (tree_in b ws count)) (behind_props b begin)
      ∙ ap ahead (sym e) in
      rw start (stacks_refl ws count n s (ahead at) p)

  module _ (vs : List ℕ) (d : Ends) (at : ℕ) (i : at ≤ length b.structure) (a : Stacks count ws n s all vs d.list d.stack (ahead at))
      (r : Maybe next.Property) (e : r ≡ property_at b.structure at) where
    pub visit_stop : r ≡ None → Stacks count ws n s all vs d.list d.stack []
    visit_stop f = rw (props_none b at i r e f, targets_none (tree_in b ws count)) at a

    pub visit_on : (p : next.Property) → r ≡ Some p → (v : Bytes) → v ≡ part b.structure p.value p.len → (us : List ℕ) (g : Ends)
        → ((place : ℕ) → Stacks count vs d.list d.stack (map target (references_of edition1 (tree_in b vs count) (property_of place (string_at b.strings p.name) v)))
        us g.list g.stack [])
        → Stacks count ws n s all us g.list g.stack (ahead p.next)
    unfolding targets_in
    visit_on p f v q us g c =
        let t : tree_in b vs count ≡ tree_in b ws count = tree_alike b ws vs count a.piled.marked.few a.apart.before in
        let w = stacks_more count vs d.list d.stack _ us g.list g.stack (rw (t, q) at (c (b.place + p.at))) (ahead p.next) in
        stacks_trans a (rw (props_here b at i r e p f) w)
