-- Both outputs, measured and written.
use Rattle.std.specs.Prelude.{if◌then◌else◌, Result, Ok, Err}
use mathlib.Core.Path.{◌≡◌, refl, sym, ap, ap₂, ◌∙◌}
use mathlib.Core.Bool.{Bool, true, false}
use mathlib.Core.List.{List, [], map}
use Prim.Native.Nat.{ℕ, zero, suc, ◌+◌, ◌≤◌, ◌<◌, min}
use native.Mathlib.Omega.{arith}
use native.Mathlib.Nat.{zero-add}
use lib.Dec.{eqb, ltb}
use lib.ListN.{length, get_or, take, drop, length-take, length-drop, length-map}
use lib.Seq.{get_or-take, get_or-drop, ext_get_or}
use borrow.Author.Tests.{ltb-false}
use Rattle.rules.specs.Ceilings.{blob_ceiling, node_ceiling, work_words}
use Rattle.rules.specs.Octets.{Bytes, put, lay}
use Rattle.rules.specs.Outcome.{Verdict, passes, gives, ◌then◌}
use Rattle.rules.specs.Blob.{Block}
use Rattle.rules.specs.Events.{Event, events_in}
use Rattle.rules.specs.Tree.{Tree, path, nodes_of}
use Rattle.rules.specs.References.{edition1}
use Rattle.rules.specs.Listing.{◌∈◌, listed, paths_bytes}
use Rattle.rules.specs.Copy.{copied, guest_events, guest_bytes}
use Rattle.rules.specs.Copy.{Asked as AskedFor}
use Rattle.rules.specs.Written.{write_events, blob_of}
use Rattle.rules.specs.Derivation.{room_judged}
use Rattle.rules.specs.Space.{marks_at, list_at, stack_at}
use Rattle.rules.proofs.Laws.Tests.{by_test}
use Rattle.rules.proofs.Laws.Verdicts.{gives_refuses}
use Rattle.rules.proofs.Laws.Octets.{lay_put}
use Rattle.rules.proofs.Laws.Copy.{copied_root, copied_parent}
use Rattle.rules.proofs.Laws.Listing.{listed_small}
use Rattle.rules.specs.Laws.Sieve.{Upward}
use Rattle.rules.proofs.Laws.Kept.{tree_alike, only_drop, marks_behind, list_behind, stack_behind}
use Rattle.rules.specs.Laws.Tabled.{tree_in}
use Rattle.rules.proofs.Laws.Tabled.{tree_length}
use Rattle.order.specs.Starts.{Asked}
use Rattle.guest.specs.declared.Size.{Size}
use Rattle.guest.specs.Walked.{marked, sieved, blank, Ready, Above}
use Rattle.guest.specs.Marking.{marked_word, marks_ready, marks_sieve}
use Rattle.guest.specs.Finished.{guest_length_lem}
use Rattle.spelled.specs.Lists as spelt
use Rattle.derive.specs.declared.Refusal.{Refusal}
use Rattle.derive.specs.Answers.{refused, checked}
use Rattle.derive.specs.Marked.{Marks}
use Rattle.derive.specs.Written.{Whole, paths_of, list_bytes, copy_bytes, roomy, Writes}

-- ---- what fits

-- where neither is refused, both have their room
pub fits : (L G lr gr : ℕ) → passes ≡ room_judged L G lr gr → (L ≤ lr) × (G ≤ min gr blob_ceiling)
unfolding room_judged
fits L G lr gr e = by_test (ltb lr L)
    (λ f. gives_refuses tt 45 L (sym (e ∙ rw f)))
    (λ f. by_test (ltb (min gr blob_ceiling) G)
    (λ g. gives_refuses tt 46 G (sym (e ∙ rw (f, g))))
    (λ g. (ltb-false lr L f, ltb-false (min gr blob_ceiling) G g)))

-- ---- from the marks on

module _ (b : Block) (count : ℕ) (q : AskedFor) (ws : List ℕ) (a : Asked b ws count q.conf) (w : Whole b ws count) (vs : List ℕ) (n : ℕ) (m : Marks b count q.conf q.excl q.ids ws vs n) where
  abbrev t : Tree
  t = tree_in b ws count

  abbrev es : List Event
  es = events_in b

  abbrev k : ℕ → Bool
  k = copied edition1 q t

  count_is : length (nodes_of es) ≡ count
  count_is = ap length (sym w.tree) ∙ tree_length b ws count 0

  small : (x : ℕ) → x ∈ listed edition1 t q.conf q.excl → x < length t
  small = listed_small edition1 t q.conf q.excl a.kept.formed a.once (λ y l. omega (arith, a.small y l, tree_length b ws count 0))

  -- with a node its parent is copied
  upward : Upward k 0 (nodes_of es)
  upward = rw (← w.tree) up
    where
      up : Upward k 0 t
      up zero h y = rw a.kept.top (copied_root edition1 q t)
      up (suc i) h y = copied_parent edition1 q t a.kept.formed small i h (rw zero-add at y)

  one_zero : (c : Bool) → eqb (if c then 1 else 0) 1 ≡ c
  one_zero true = refl
  one_zero false = refl

  -- the marks of any words that have the same ones
  module _ (us : List ℕ) (len : length us ≡ length vs) (same : (i : ℕ) → i < stack_at → get_or us i 0 ≡ get_or vs i 0) where
    says : (i : ℕ) → i < length (nodes_of es) → marked us i ≡ k i
    says i h =
        let g : i < count = omega (arith, count_is) in
        let f : i < node_ceiling = omega (arith, a.kept.few) in
        marked_word us i f
        ∙ ap (λ (x : ℕ). eqb x 1) (same (marks_at + i) (omega (arith, list_behind, stack_behind)) ∙ m.marks i g)
        ∙ one_zero (k i)

    pub ready : Ready b.place b.structure b.strings us
    ready = marks_ready b k us w.shape says upward

    pub copy_is : blob_of [] 0 (sieved b.place b.structure b.strings us) ≡ copy_bytes t es q
    unfolding guest_bytes guest_events
    copy_is = ap (blob_of [] 0) (marks_sieve b k us w.shape says)

    list_is : take n (drop list_at us) ≡ listed edition1 t q.conf q.excl
    list_is =
        ext_get_or 0 (take n (drop list_at us)) (take n (drop list_at vs)) lengths
        (λ i h. let g : i < n = omega (arith, length-take n (drop list_at us)) in
        get_or-take n (drop list_at us) i 0 g ∙ get_or-drop list_at us i 0 ∙ same (list_at + i) (omega (arith, stack_behind, m.short))
        ∙ sym (get_or-take n (drop list_at vs) i 0 g ∙ get_or-drop list_at vs i 0))
        ∙ m.list
      where
        lengths : length (take n (drop list_at us)) ≡ length (take n (drop list_at vs))
        lengths = simp (length-take, length-drop) (rw len)

    tree_is : tree_in b us count ≡ t
    tree_is = tree_alike b ws us count a.kept.few (λ i h. same i (omega (arith, marks_behind, list_behind, stack_behind)) ∙ m.alike i h)

    pub bytes_are : spelt.list_bytes (tree_in b us count) us n ≡ list_bytes t q
    bytes_are = ap₂ (λ (s : Tree) (l : List ℕ). paths_bytes (map (path s) l)) tree_is list_is

  -- the words that are measured in, and those that measuring leaves
  pub ready_first : Ready b.place b.structure b.strings vs
  ready_first = ready vs refl (λ i h. refl)

  pub copy_first : blob_of [] 0 (sieved b.place b.structure b.strings vs) ≡ copy_bytes t es q
  copy_first = copy_is vs refl (λ i h. refl)

  module _ (us : List ℕ) (g : Above vs us) where
    pub rest_is : (length us ≡ length ws) × (drop work_words us ≡ drop work_words ws)
    rest_is = (g.size ∙ m.size, only_drop work_words (omega arith) g ∙ m.rest)

    module _ (size : Size)
        (sized : (size.structure ≡ length (write_events blank (sieved b.place b.structure b.strings vs)).structure) × (size.strings ≡ length (write_events blank (sieved b.place b.structure b.strings vs)).strings))
        (L G : ℕ) (l : L ≡ length (spelt.list_bytes (tree_in b us count) us n)) (h : G ≡ 56 + size.structure + 4 + size.strings) (list guest : Bytes) where
      length_list : L ≡ length (list_bytes t q)
      length_list = l ∙ ap length (bytes_are us g.size g.before)

      length-copy : G ≡ length (copy_bytes t es q)
      length-copy =
          h ∙ ap₂ (λ (x y : ℕ). 56 + x + 4 + y) sized.0 sized.1
          ∙ sym (guest_length_lem (sieved b.place b.structure b.strings vs)) ∙ ap length copy_first

      length_paths : n ≡ length (paths_of t q)
      length_paths = m.many ∙ sym (length-map (listed edition1 t q.conf q.excl) (path t))

      -- the answer, the same with the lengths that were measured
      measured : (lr gr : ℕ) → (room_judged L G lr gr then gives (record { paths = n; list_length = L; guest_length = G })) ≡ roomy t es q lr gr
      measured lr gr = rw (← length_list, ← length-copy, ← length_paths)

      -- refused
      pub writes-none : (r : Result (Unit {0}) Refusal) → checked r ≡ room_judged L G (length list) (length guest) → (f : Refusal) → r ≡ Err f → Writes b count q ws us list list guest guest (Err f)
      writes-none r e f g =
          let v : refused f ≡ roomy t es q (length list) (length guest) =
          ap (λ (o : Verdict). o then gives (record { paths = n; list_length = L; guest_length = G })) (sym (ap checked g) ∙ e) ∙ measured (length list) (length guest) in
          record {
            answer = v;
            listed = rw (← v);
            copied = rw (← v);
            size = rest_is.0;
            rest = rest_is.1;
          }

      -- and where both fit
      module _ (r : Result (Unit {0}) Refusal) (e : checked r ≡ room_judged L G (length list) (length guest)) (p : r ≡ Ok tt) where
        passed : passes ≡ room_judged L G (length list) (length guest)
        passed = sym (ap checked p) ∙ e

        pub guest-room : 56 + size.structure + 4 + size.strings ≤ length guest
        guest-room = omega (arith, h, (fits L G (length list) (length guest) passed).1)

        pub writes-both : (list' guest' : Bytes) → list' ≡ lay list 0 (spelt.list_bytes (tree_in b us count) us n) → guest' ≡ put guest 0 (blob_of [] 0 (sieved b.place b.structure b.strings us))
            → Writes b count q ws us list list' guest guest' (Ok (record { paths = n; list = L; guest = G }))
        writes-both list' guest' p o =
            let d : gives (record { paths = n; list_length = L; guest_length = G }) ≡ roomy t es q (length list) (length guest) =
            ap (λ (o : Verdict). o then gives (record { paths = n; list_length = L; guest_length = G })) passed ∙ measured (length list) (length guest) in
            record {
              answer = d;
              listed = p ∙ ap (lay list 0) (bytes_are us g.size g.before) ∙ lay_put list 0 (list_bytes t q) (omega (arith, length_list, (fits L G (length list) (length guest) passed).0)) ∙ rw (← d);
              copied = o ∙ ap (put guest 0) (copy_is us g.size g.before) ∙ rw (← d);
              size = rest_is.0;
              rest = rest_is.1;
            }
