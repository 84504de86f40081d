-- Two trees that are alike but for withheld values: what is reached, listed and copied, and each judgement of a request, is the same.
use Rattle.std.specs.Prelude.{◌≡◌, true, false, ◌&&◌, length, eqb}
use Rattle.std.proofs.Math.Path.{refl, sym, ap, ap₂, fun_ext}
use Rattle.std.proofs.Common.{◌∙◌}
use Rattle.std.proofs.Math.Bool.{Bool, not}
use Rattle.std.proofs.Math.Option.{Option, none}
use mathlib.Core.List.Memᴰ
use mathlib.Core.List.{List, [], ◌∷◌, ◌++◌, map, reverse}
use Prim.Native.Nat.{ℕ, zero, suc, ◌<◌}
use borrow.Author.Tests.{not-true}
use Rattle.rules.specs.Octets.{Bytes, ascii, same}
use Rattle.rules.specs.Lists.{one_of, any, keep, fresh}
use Rattle.rules.specs.Blob.{missing}
use Rattle.rules.specs.Events.{Property}
use Rattle.rules.specs.Tree.{Tree, node, read_name, climb, spell, path, Frame, frame, numbers, numbers_from}
use Rattle.rules.specs.References.{Rules, place_of, lookup, word_named, cell_count, target, targets_in, targets}
use Rattle.rules.specs.Listing.{◌∈◌, Reached, referenced, given_nodes, starts, work, found, reached_list, within, listed}
use Rattle.rules.specs.Copy.{Asked, cpu_child, register_of, reg_of, is_id, stranger, picked, copied}
use Rattle.rules.specs.Derivation.{cpus_from, cpus_judged, met, ids_from}
use Rattle.rules.specs.Withheld.{hidden}
use Rattle.rules.specs.Demands.{CellsRead}
use Rattle.rules.proofs.Laws.Tests.{by_test, never, and_true, true_and, not_passed}
use Rattle.rules.proofs.Laws.Octets.{same_refl}
use Rattle.rules.specs.Laws.Lists.{Distinct}
use Rattle.rules.proofs.Laws.Lists.{of_reverse, mem_one_of, any_same}
use Rattle.rules.proofs.Laws.References.{by_option, references_yes, references_no}
use Rattle.rules.proofs.Laws.Work.{stack_step}
use Rattle.rules.specs.Laws.Paths.{Formed}
use Rattle.rules.proofs.Laws.Listing.{given_reached, starts_of_lem, reached_list_iff}
use Rattle.rules.proofs.Laws.Secrecy.Alike.{Alike, ended, paired, AlikeTree, alike_value, phandles_same}
use Rattle.rules.proofs.Laws.Secrecy.Tokens.{Open}

-- ---- the references of a list of properties

alike_word : {O : Bytes → Type 0} {ps qs : List Property} (n : Bytes) → O n → Alike O ps qs → word_named n ps ≡ word_named n qs
unfolding word_named
alike_word n o a = rw (alike_value n o a, word_named)

-- of one look-up and one cell count
alike_targets : (r : Rules) (t u : Tree) {O : Bytes → Type 0} {ps qs : List Property} → ((n : Bytes) → r.refers n ≡ true → O n)
    → lookup t ≡ lookup u → cell_count r t ≡ cell_count r u → Alike O ps qs → targets_in r t ps ≡ targets_in r u qs
unfolding targets_in
alike_targets r t u o l c ended = refl
alike_targets r t u o l c (paired {p = p} {q = q} {ps = ps} {qs = qs} a more) =
    ap₂ (λ (x y : List ℕ). x ++ y)
    (ap (map target) (by_test (r.refers p.name)
    (λ s. references_yes r t p s ∙ (cc (l, c, a.name, a.value (o p.name s))) ∙ sym (references_yes r u q (rw a.name at s)))
    (λ s. references_no r t p s ∙ sym (references_no r u q (rw a.name at s)))))
    (alike_targets r t u o l c more)

cells_none : (r : Rules) (t : Tree) (n : Bytes) (m : ℕ) → r.cells_name n ≡ none → cell_count r t n m ≡ zero
unfolding cell_count
cells_none r t n m e = rw (e, cell_count)

-- ---- the worklist asks only for the targets of reached nodes

module _ (d e : ℕ → List ℕ) (P : ℕ → Type 0) (step : (n m : ℕ) → P n → m ∈ d n → P m) (agree : (n : ℕ) → P n → d n ≡ e n) where
  work_same : (fuel : ℕ) (stack noted : List ℕ) → ((x : ℕ) → x ∈ stack → P x) → work d fuel stack noted ≡ work e fuel stack noted
  unfolding work
  work_same zero stack noted h = refl
  work_same (suc fuel) [] noted h = refl
  work_same (suc fuel) (n ∷ stack) noted h =
      let new : List ℕ = fresh noted (d n) in
      rw (← agree n (h n (Memᴰ.head refl)))
      (ap (λ (l : List ℕ). new ++ l) (work_same fuel (reverse new ++ stack) (new ++ noted) (stack_step d P step n stack noted h)))

-- ---- the frame

module _ (O : ℕ → Bytes → Type 0) (t u : Tree) (g : AlikeTree O t u) where
  climb_same : (k p m : ℕ) → climb t k p m ≡ climb u k p m
  unfolding climb
  climb_same zero p m = refl
  climb_same (suc k) p zero = refl
  climb_same (suc k) p (suc m) = rw ((g.each (suc m)).parent, climb_same k p (node u (suc m)).parent)

  spell_same : (k m : ℕ) → spell t k m ≡ spell u k m
  unfolding spell
  spell_same zero m = refl
  spell_same (suc k) zero = refl
  spell_same (suc k) (suc m) = rw ((g.each (suc m)).parent, (g.each (suc m)).name, spell_same k (node u (suc m)).parent)

  path_each : (m : ℕ) → path t m ≡ path u m
  path_each zero = refl
  path_each (suc m) = spell_same (suc m) (suc m)

  -- one frame
  pub frame_same : frame t ≡ frame u
  frame_same = λ i.
      record {
        size = g.size i;
        up = λ x. (g.each x).parent i;
        name = λ x. (g.each x).name i;
        path = λ x. path_each x i;
        below = λ p x. climb_same x p x i;
      }

-- ---- what is not withheld

module _ (r : Rules) (q : Asked) (t : Tree) where
  pub record Secret (i : ℕ) (n : Bytes) : Type 0 where
    pub uncopied : copied r q t i ≡ false
    pub unread : read_name n ≡ false
    pub unreached : (r.refers n && one_of i (reached_list r t q.conf)) ≡ false
    pub register : (cpu_child (frame t) i && same n (ascii "reg")) ≡ false

  pub secret : (i : ℕ) (n : Bytes) → hidden r q t i n ≡ true → Secret i n
  unfolding hidden
  secret i n h =
      let a : Bool = copied r q t i in
      let b : Bool = read_name n in
      let c : Bool = r.refers n && one_of i (reached_list r t q.conf) in
      let d : Bool = cpu_child (frame t) i && same n (ascii "reg") in
      let x = and_true (not a && not b && not c) (not d) h in
      let y = and_true (not a && not b) (not c) x.0 in
      let z = and_true (not a) (not b) y.0 in
      record { uncopied = not-true a z.0; unread = not-true b z.1; unreached = not-true c y.1; register = not-true d x.1 }

  open_unless : (i : ℕ) (n : Bytes) → (Secret i n → ⊥) → hidden r q t i n ≡ false
  open_unless i n h = not_passed (hidden r q t i n) (λ e. h (secret i n e))

  pub open_read : (i : ℕ) (n : Bytes) → read_name n ≡ true → hidden r q t i n ≡ false
  open_read i n e = open_unless i n (λ s. never (read_name n) e s.unread)

  pub open_copied : (i : ℕ) (n : Bytes) → copied r q t i ≡ true → hidden r q t i n ≡ false
  open_copied i n e = open_unless i n (λ s. never (copied r q t i) e s.uncopied)

  pub open_register : (i : ℕ) → cpu_child (frame t) i ≡ true → hidden r q t i (ascii "reg") ≡ false
  open_register i e = open_unless i (ascii "reg")
      (λ s. never (cpu_child (frame t) i && same (ascii "reg") (ascii "reg"))
      (true_and (cpu_child (frame t) i) (same (ascii "reg") (ascii "reg")) e (same_refl (ascii "reg"))) s.register)

  pub open_listed : (i : ℕ) (n : Bytes) → r.refers n ≡ true → i ∈ reached_list r t q.conf → hidden r q t i n ≡ false
  open_listed i n e m = open_unless i n
      (λ s. never (r.refers n && one_of i (reached_list r t q.conf))
      (true_and (r.refers n) (one_of i (reached_list r t q.conf)) e (mem_one_of m)) s.unreached)

-- ---- one answer

module _ (r : Rules) (cells : CellsRead r) (q : Asked) (t u : Tree) (w : Formed t) (distinct : Distinct q.conf)
    (small : (x : ℕ) → x ∈ q.conf → x < length t) (g : AlikeTree (Open (hidden r q t)) t u) where
  same_frame : frame t ≡ frame u
  same_frame = frame_same (Open (hidden r q t)) t u g

  -- one phandle map, one cell count
  lookup_same : lookup t ≡ lookup u
  unfolding lookup
  lookup_same = fun_ext (λ x. ap (place_of x) (phandles_same g.twins))

  cells_same : cell_count r t ≡ cell_count r u
  unfolding cell_count
  cells_same = fun_ext (λ n. fun_ext (λ m. by_option (r.cells_name n)
      (λ e. cells_none r t n m e ∙ sym (cells_none r u n m e))
      (λ c e. rw (e, cell_count) (alike_word (ascii c) (open_read r q t m (ascii c) (cells n c e)) (g.each m).props))))

  -- one list of targets of a reached node
  targets_same : (i : ℕ) → Reached r t q.conf i → targets r t i ≡ targets r u i
  unfolding targets
  targets_same i h =
      alike_targets r t u (λ n e. open_listed r q t i n e ((reached_list_iff r t w q.conf distinct small i).1 h)) lookup_same cells_same
      (g.each i).props

  starts_reached : (x : ℕ) → x ∈ starts (frame t) q.conf → Reached r t q.conf x
  starts_reached x m = given_reached r t w q.conf distinct small x (starts_of_lem r t w q.conf distinct small x m)

  found_same : (start : List ℕ) → ((x : ℕ) → x ∈ start → Reached r t q.conf x)
      → found (targets r t) (length t) start ≡ found (targets r u) (length u) start
  unfolding found
  found_same start h =
      rw (← g.size)
      (work_same (targets r t) (targets r u) (Reached r t q.conf) (λ n m. referenced) targets_same (length t) (reverse start) start
      (λ x m. h x (of_reverse start m)))

  pub reached_list_same : reached_list r t q.conf ≡ reached_list r u q.conf
  unfolding reached_list
  reached_list_same =
      ap₂ (λ (a b : List ℕ). a ++ b) (ap (λ (f : Frame). given_nodes f q.conf) same_frame)
      (found_same (starts (frame t) q.conf) starts_reached
      ∙ ap (λ (f : Frame). found (targets r u) (length u) (starts f q.conf)) same_frame)

  -- ONE LIST
  pub listed_same : listed r t q.conf q.excl ≡ listed r u q.conf q.excl
  unfolding listed
  listed_same =
      ap₂ (λ (f : Frame) (l : List ℕ). keep (λ (x : ℕ). not (eqb x 0) && not (within f q.excl x)) l) same_frame reached_list_same

  cpu_same : (i : ℕ) → cpu_child (frame t) i ≡ cpu_child (frame u) i
  cpu_same i = ap (λ (f : Frame). cpu_child f i) same_frame

  -- a CPU child's `reg` is open
  reg_same : (i : ℕ) → cpu_child (frame t) i ≡ true → reg_of (node t i) ≡ reg_of (node u i)
  unfolding reg_of
  reg_same i e = ap register_of (alike_value (ascii "reg") (open_register r q t i e) (g.each i).props)

  -- so that whatever is asked of a CPU child's `reg` is answered alike
  cpu_test : (f : Option ℕ → Bool) (i : ℕ) → (cpu_child (frame t) i && f (reg_of (node t i))) ≡ (cpu_child (frame u) i && f (reg_of (node u i)))
  cpu_test f i = by_test (cpu_child (frame t) i)
      (λ e. rw (← cpu_same i, e, reg_same i e))
      (λ e. rw (← cpu_same i, e))

  stranger_same : (i : ℕ) → stranger t q.ids i ≡ stranger u q.ids i
  unfolding stranger
  stranger_same i = cpu_test (λ (o : Option ℕ). not (is_id q.ids o)) i

  -- ONE COPY
  pub copied_same : copied r q t ≡ copied r q u
  unfolding copied
  copied_same = λ i. picked q (same_frame i) (λ x. stranger_same x i) (listed_same i)

  -- 43 and 44 judge alike
  cpus_from_same : (l : List ℕ) → cpus_from t l ≡ cpus_from u l
  unfolding cpus_from
  cpus_from_same [] = refl
  cpus_from_same (i ∷ l) = rw (cpu_test missing i, (g.each i).place, cpus_from_same l)

  pub cpus_judged_same : cpus_judged t q.ids ≡ cpus_judged u q.ids
  unfolding cpus_judged
  cpus_judged_same = rw (cpus_from_same (numbers (frame t)), g.size)

  met_same : (id : ℕ) → met t id ≡ met u id
  unfolding met
  met_same id =
      any_same (λ (i : ℕ). cpu_child (frame t) i && is_id (id ∷ []) (reg_of (node t i)))
      (λ (i : ℕ). cpu_child (frame u) i && is_id (id ∷ []) (reg_of (node u i)))
      (numbers_from 0 (length t)) (λ i m. cpu_test (is_id (id ∷ [])) i)
      ∙ ap (λ (n : ℕ). any (λ (i : ℕ). cpu_child (frame u) i && is_id (id ∷ []) (reg_of (node u i))) (numbers_from 0 n)) g.size

  pub ids_from_same : (index : ℕ) (ids : List ℕ) → ids_from t index ids ≡ ids_from u index ids
  unfolding ids_from
  ids_from_same index [] = refl
  ids_from_same index (id ∷ ids) = rw (met_same id, ids_from_same (suc index) ids)

  -- the same is withheld
  pub hidden_same : (i : ℕ) (n : Bytes) → hidden r q t i n ≡ hidden r q u i n
  unfolding hidden
  hidden_same i n = rw (copied_same, reached_list_same, cpu_same i)
