-- The list and the marks, joined.
use Rattle.std.specs.Prelude.{if◌then◌else◌}
use mathlib.Core.Path.{◌≡◌, refl, sym, ap, ap₂, ◌∙◌}
use mathlib.Core.List.{List}
use Prim.Native.Nat.{ℕ, ◌+◌, ◌<◌}
use native.Mathlib.Omega.{arith}
use lib.ListN.{get_or, take, drop, length-take, length-drop}
use lib.Seq.{get_or-take, get_or-drop, ext_get_or}
use Rattle.rules.specs.Ceilings.{work_words}
use Rattle.rules.specs.Blob.{Block}
use Rattle.rules.specs.Tree.{Tree}
use Rattle.rules.specs.References.{edition1}
use Rattle.rules.specs.Listing.{◌∈◌, listed}
use Rattle.rules.specs.Copy.{picked, copied}
use Rattle.rules.specs.Space.{list_at, list_in}
use Rattle.rules.proofs.Laws.Lists.{mem_at}
use Rattle.rules.proofs.Laws.Listing.{listed_small}
use Rattle.rules.specs.Laws.Kept.{Kept}
use Rattle.rules.proofs.Laws.Kept.{kept_alike, tree_alike, only_alike, only_drop, marks_behind, stack_behind}
use Rattle.rules.specs.Laws.Tabled.{tree_in}
use Rattle.rules.proofs.Laws.Tabled.{tree_length}
use Rattle.order.specs.Starts.{Asked}
use Rattle.listing.specs.Lists.{Lists}
use Rattle.picks.specs.Turns.{pick_of, Picks}
use Rattle.derive.specs.Marked.{Marks}

module _ (b : Block) (ws : List ℕ) (count : ℕ) (conf excl ids : List ℕ) (a : Asked b ws count conf) (vs : List ℕ) (n : ℕ) (l : Lists b ws count conf excl vs n) where
  abbrev t : Tree
  t = tree_in b ws count

  abbrev ls : List ℕ
  ls = listed edition1 t conf excl

  same_tree : tree_in b vs count ≡ t
  same_tree = tree_alike b ws vs count a.kept.few l.apart.before

  pub listed_kept : Kept b vs count
  listed_kept = kept_alike b ws vs count a.kept.few l.apart.before l.apart.size a.kept

  node_small : (x : ℕ) → x ∈ ls → x < count
  node_small x m = omega (arith, listed_small edition1 t conf excl a.kept.formed a.once (λ y k. omega (arith, a.small y k, tree_length b ws count 0)) x m, tree_length b ws count 0)

  pub listed_inside : (k : ℕ) → k < n → get_or vs (list_at + k) 0 < count
  listed_inside k h =
      let e : get_or vs (list_at + k) 0 ≡ get_or ls k 0 = sym (get_or-take n (drop list_at vs) k 0 h ∙ get_or-drop list_at vs k 0) ∙ ap (λ (z : List ℕ). get_or z k 0) l.list in
      omega (arith, e, node_small (get_or ls k 0) (mem_at ls k 0 (omega (arith, l.many))))

  -- the rule asks nothing of what is configured but the list
  pick_copied : (x : ℕ) → pick_of t excl ids ls x ≡ (if copied edition1 (record { conf = conf; excl = excl; ids = ids }) t x then 1 else 0)
  unfolding copied picked
  pick_copied x = refl

  module _ (us : List ℕ) (p : Picks b count n excl ids vs us) where
    list_same : take n (drop list_at us) ≡ take n (drop list_at vs)
    list_same =
        ext_get_or 0 (take n (drop list_at us)) (take n (drop list_at vs)) (simp (length-take, length-drop) (omega (arith, p.only.size)))
        (λ i h. let g : i < n = omega (arith, length-take n (drop list_at us)) in
        get_or-take n (drop list_at us) i 0 g ∙ get_or-drop list_at us i 0 ∙ p.list (list_at + i) (omega arith) (omega (arith, stack_behind, l.short))
        ∙ sym (get_or-take n (drop list_at vs) i 0 g ∙ get_or-drop list_at vs i 0))

    pub marks_joined : Marks b count conf excl ids ws us n
    unfolding list_in
    marks_joined = record {
      alike = λ i h. only_alike marks_behind p.only i h ∙ l.apart.before i h;
      size = p.only.size ∙ l.apart.size;
      rest = only_drop work_words (omega arith) p.only ∙ only_drop work_words (omega arith) l.apart;
      short = l.short;
      list = list_same ∙ l.list;
      many = l.many;
      marks = λ x h. p.picks x h ∙ ap₂ (λ (s : Tree) (z : List ℕ). pick_of s excl ids z x) same_tree l.list ∙ pick_copied x;
    }
