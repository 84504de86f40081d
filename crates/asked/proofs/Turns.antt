-- A turn of the walk over a list whose paths name nodes.
use mathlib.Core.Path.{◌≡◌, refl, sym, ap, ◌∙◌}
use mathlib.Core.Bool.{Bool, true, false}
use mathlib.Core.List.Memᴰ
use mathlib.Core.List.{List, [], ◌∷◌, ◌++◌, append-nil, append_assoc}
use mathlib.Core.Option.{none, some}
use Prim.Native.Nat.{ℕ, ◌+◌, ◌≤◌, ◌<◌}
use native.Mathlib.Omega.{arith}
use native.Mathlib.Nat.{zero-add}
use lib.ListN.{length, take, drop, length-append}
use lib.Seq.{take-append_seam}
use Rattle.rules.proofs.Laws.Octets.{lay_front, lay_nil, lay_lay}
use Rattle.rules.specs.Octets.{Bytes, lay}
use Rattle.rules.specs.Blob.{Block}
use Rattle.rules.specs.Tree.{Frame, frame}
use Rattle.rules.specs.Lists.{one_of}
use Rattle.rules.specs.Outcome.{gives, refuses, passes}
use Rattle.rules.specs.Derivation.{Given, given, node_at, repeats, configured_from, nodes_named}
use Rattle.rules.proofs.Laws.Formed.{named_step, named_skip, named_mem}
use Rattle.rules.proofs.Laws.Given.{Told, told_none, told_more}
use Rattle.rules.proofs.Laws.Program.{Laying, laying_none, laying_more, laying_bytes, laying_count}
use Rattle.rules.specs.Laws.Tabled.{tree_in}
use Rattle.rules.proofs.Laws.Tabled.{tree_length}
use Rattle.asked.specs.Nodes.{named_from, configured_nodes, configured_outcome}
use Rattle.asked.proofs.Nodes.{from_none, from_again, from_new}

-- a node that a path names is one of the first `count`
pub at_small : (b : Block) (ws : List ℕ) (count : ℕ) (p : Bytes) (i : ℕ) → node_at (frame (tree_in b ws count)) p ≡ some i → i < count
at_small b ws count p i e =
    let f : Frame = frame (tree_in b ws count) in
    let g : Given = record { offset = 0; path = p; is_closed = true } in
    let m : nodes_named f (g ∷ []) ≡ i ∷ nodes_named f [] = named_step f g [] i e in
    omega (arith, (named_mem f (g ∷ []) i (rw m (Memᴰ.head refl))).0, tree_length b ws count 0)

-- ---- exclusions

module _ (f : Frame) (list : Bytes) (old : List ℕ) where
  -- the nodes laid, those still to come, and no more of them than bytes
  pub record Left (new : List ℕ) (left : List Given) (n : ℕ) : Type 0 where
    pub laying : Laying (nodes_named f (given list)) old new n (nodes_named f left)
    pub room : n + length left ≤ length list

  pub left_first : length (given list) ≤ length list → Left old (given list) 0
  left_first h = record { laying = laying_none; room = omega (arith, h) }

  module _ (new : List ℕ) (left : List Given) (n : ℕ) (l : Left new left n) where
    pub left_done : left ≡ [] → (n ≡ length (nodes_named f (given list))) × (new ≡ lay old 0 (nodes_named f (given list)))
    unfolding nodes_named
    left_done q = let k : Laying (nodes_named f (given list)) old new n [] = rw q at l.laying in (laying_count k, laying_bytes k)

    module _ (g : Given) (rest : List Given) (e : left ≡ g ∷ rest) where
      pub left-room : n + 1 ≤ length list
      left-room = omega (arith, l.room, ap length e)

      pub left-some : (i : ℕ) → node_at f g.path ≡ some i → (newer : List ℕ) → newer ≡ lay new n (i ∷ []) → Left newer rest (n + 1)
      left-some i h newer r = record {
        laying = laying_more (i ∷ []) (nodes_named f rest) (rw (e, named_step f g rest i h) at l.laying) r refl;
        room = omega (arith, l.room, ap length e);
      }

      pub left-none : node_at f g.path ≡ none → Left new rest n
      left-none h = record { laying = rw (e, named_skip f g rest h) at l.laying; room = omega (arith, l.room, ap length e) }

-- ---- configured paths

module _ (f : Frame) (list : Bytes) (old : List ℕ) where
  -- the nodes laid, of paths that were seen, and those still to come
  pub record Rest (new : List ℕ) (left : List Given) (n : ℕ) : Type 0 where
    pub seen : List Bytes
    pub nodes : List ℕ
    pub split : configured_nodes f list ≡ nodes ++ named_from f seen left
    pub laid : new ≡ lay old 0 nodes
    pub count : n ≡ length nodes
    pub told : Told f seen nodes
    pub judged : configured_from f [] (given list) ≡ configured_from f seen left
    pub room : n + length left ≤ length old

  pub rest_first : length (given list) ≤ length old → Rest old (given list) 0
  unfolding configured_nodes
  rest_first h = record {
    seen = [];
    nodes = [];
    split = refl;
    laid = sym (lay_nil old 0);
    count = refl;
    told = told_none f;
    judged = refl;
    room = omega (arith, h);
  }

  module _ (new : List ℕ) (left : List Given) (n : ℕ) (r : Rest new left n) where
    -- what was laid stands in front
    rest_taken : take n new ≡ r.nodes
    rest_taken =
        let d : List ℕ = r.nodes in
        let h : length d ≤ length old = omega (arith, r.count, r.room) in
        rw (r.laid, r.count, lay_front old d h) (take-append_seam d (drop (length d) old))

    whole : named_from f r.seen left ≡ [] → (configured_nodes f list ≡ r.nodes) × (new ≡ lay old 0 (configured_nodes f list))
    whole e =
        let w : configured_nodes f list ≡ r.nodes = r.split ∙ rw e (append-nil r.nodes) in
        (w, r.laid ∙ ap (lay old 0) (sym w))

    pub rest-done : left ≡ [] → (gives n ≡ configured_outcome f list) × (new ≡ lay old 0 (configured_nodes f list))
    unfolding configured_outcome named_from configured_from
    rest-done q =
        let w = whole (ap (named_from f r.seen) q) in
        let j : configured_from f [] (given list) ≡ passes = r.judged ∙ ap (configured_from f r.seen) q in
        (rw (j, w.0, r.count), w.1)

    module _ (g : Given) (rest : List Given) (e : left ≡ g ∷ rest) where
      -- it stops here
      stop : (configured_from f r.seen (g ∷ rest) ≡ refuses 42 g.offset) × (named_from f r.seen (g ∷ rest) ≡ [])
          → (refuses 42 g.offset ≡ configured_outcome f list) × (new ≡ lay old 0 (configured_nodes f list))
      unfolding configured_outcome
      stop s =
          let j : configured_from f [] (given list) ≡ refuses 42 g.offset = r.judged ∙ ap (configured_from f r.seen) e ∙ s.0 in
          (rw j, (whole (ap (named_from f r.seen) e ∙ s.1)).1)

      pub rest-none : node_at f g.path ≡ none → (refuses 42 g.offset ≡ configured_outcome f list) × (new ≡ lay old 0 (configured_nodes f list))
      rest-none h = stop (from_none f r.seen g rest h)

      module _ (i : ℕ) (h : node_at f g.path ≡ some i) where
        again : (t : Bool) → one_of i (take n new) ≡ t → repeats g.path r.seen ≡ t
        again t o = r.told g.path i h ∙ ap (one_of i) (sym rest_taken) ∙ o

        pub rest-again : one_of i (take n new) ≡ true → (refuses 42 g.offset ≡ configured_outcome f list) × (new ≡ lay old 0 (configured_nodes f list))
        rest-again o = stop (from_again f r.seen g rest i h (again true o))

        pub rest-new : one_of i (take n new) ≡ false → (newer : List ℕ) → newer ≡ lay new n (i ∷ []) → Rest newer rest (n + 1)
        rest-new o newer b =
            let s = from_new f r.seen g rest i h (again false o) in
            record {
              seen = g.path ∷ r.seen;
              nodes = r.nodes ++ (i ∷ []);
              split = r.split ∙ rw (e, s.1, append_assoc r.nodes (i ∷ []) (named_from f (g.path ∷ r.seen) rest));
              laid = b ∙ rw (r.laid, r.count) (ap (λ (k : ℕ). lay (lay old 0 r.nodes) k (i ∷ [])) (sym (zero-add (length r.nodes))) ∙ lay_lay old 0 r.nodes (i ∷ []));
              count = rw (length-append r.nodes (i ∷ []), ← r.count);
              told = told_more f r.seen r.nodes g.path i r.told h;
              judged = r.judged ∙ ap (configured_from f r.seen) e ∙ s.0;
              room = omega (arith, r.room, ap length e);
            }
