-- A path laid down from its end.
use mathlib.Core.Path.{◌≡◌, refl, sym, ap, ap₂, ◌∙◌}
use mathlib.Core.List.{List, [], ◌∷◌, ◌++◌, append_assoc, append-nil}
use Prim.Native.Nat.{ℕ, suc, ◌+◌, ◌-◌, ◌≤◌, ◌<◌}
use native.Mathlib.Omega.{arith}
use lib.ListN.{length, drop, get_or, length-append, length-take, length-drop, get_or-eq_default}
use lib.Seq.{get_or-take, ext_get_or}
use Rattle.rules.specs.Octets.{Bytes, nul_in, closed, put, lay}
use Rattle.rules.specs.Blob.{Block}
use Rattle.rules.specs.Events.{string_at}
use Rattle.rules.specs.Tree.{Tree, Node, node, spell, path}
use Rattle.rules.proofs.Laws.Tests.{by_le}
use Rattle.rules.proofs.Laws.Octets.{length_lay, lay_past, lay_nil, lay_lay, put_before, put_inside, put_behind}
use Rattle.rules.specs.Laws.Tabled.{tree_in}
use Rattle.rules.proofs.Laws.Tabled.{node_in_lem, node_out}
use Rattle.paths.proofs.Climbs.{spell_root, spell_step, path_other}

-- ---- two that touch, the second laid first

module _ (d : List ℕ) (at : ℕ) (bs : List ℕ) where
  -- reading before and behind what was laid in
  get_before : (i : ℕ) → i < at → get_or (lay d at bs) i 0 ≡ get_or d i 0
  unfolding lay
  get_before i h = by_le (length d) at
      (λ l. ap (λ (x : List ℕ). get_or x i 0) (lay_past d at bs l))
      (λ l. by_le (length d) i
      (λ k. absurd (let z : ⊥ = omega arith in z))
      (λ k. get_or-take (length d) (put d at bs) i 0 k ∙ put_before d at bs i 0 h (omega arith)))

  get_behind : (i : ℕ) → at + length bs ≤ i → get_or (lay d at bs) i 0 ≡ get_or d i 0
  unfolding lay
  get_behind i h = by_le (length d) i
      (λ k. let l : length (lay d at bs) ≤ i = omega (arith, length_lay d at bs) in get_or-eq_default (lay d at bs) 0 l ∙ sym (get_or-eq_default d 0 k))
      (λ k. get_or-take (length d) (put d at bs) i 0 k ∙ put_behind d at bs i 0 h (omega arith))

  get_inside : (i : ℕ) → i < length bs → at + i < length d → get_or (lay d at bs) (at + i) 0 ≡ get_or bs i 0
  unfolding lay
  get_inside i h l = get_or-take (length d) (put d at bs) (at + i) 0 l ∙ put_inside d at bs i 0 h (omega arith)

module _ (d : List ℕ) (at : ℕ) (xs ys : List ℕ) where
  same_at : (i : ℕ) → i < length d → get_or (lay (lay d (at + length xs) ys) at xs) i 0 ≡ get_or (lay (lay d at xs) (at + length xs) ys) i 0
  same_at i h =
      let d₁ : List ℕ = lay d (at + length xs) ys in
      let d₂ : List ℕ = lay d at xs in
      let l₁ = length_lay d (at + length xs) ys in
      let l₂ = length_lay d at xs in
      by_le at i
      (λ k. by_le (at + length xs) i
      (λ m. get_behind d₁ at xs i m ∙ by_le (at + length xs + length ys) i
      (λ o. get_behind d (at + length xs) ys i o ∙ sym (get_behind d at xs i m) ∙ sym (get_behind d₂ (at + length xs) ys i o))
      (λ o. let e : at + length xs + (i - (at + length xs)) ≡ i = omega arith in
      ap (λ (j : ℕ). get_or d₁ j 0) (sym e)
      ∙ get_inside d (at + length xs) ys (i - (at + length xs)) (omega arith) (omega arith)
      ∙ sym (get_inside d₂ (at + length xs) ys (i - (at + length xs)) (omega arith) (omega arith))
      ∙ ap (λ (j : ℕ). get_or (lay d₂ (at + length xs) ys) j 0) e))
      (λ m. let e : at + (i - at) ≡ i = omega arith in
      ap (λ (j : ℕ). get_or (lay d₁ at xs) j 0) (sym e)
      ∙ get_inside d₁ at xs (i - at) (omega arith) (omega arith)
      ∙ sym (get_inside d at xs (i - at) (omega arith) (omega arith))
      ∙ ap (λ (j : ℕ). get_or d₂ j 0) e
      ∙ sym (get_before d₂ (at + length xs) ys i m)))
      (λ k. get_before d₁ at xs i k ∙ get_before d (at + length xs) ys i (omega arith) ∙ sym (get_before d at xs i k) ∙ sym (get_before d₂ (at + length xs) ys i (omega arith)))

  lay_back : lay (lay d (at + length xs) ys) at xs ≡ lay d at (xs ++ ys)
  lay_back =
      let l₁ = length_lay d (at + length xs) ys in
      let l₂ = length_lay d at xs in
      ext_get_or 0 (lay (lay d (at + length xs) ys) at xs) (lay (lay d at xs) (at + length xs) ys)
      (omega (arith, length_lay (lay d (at + length xs) ys) at xs, length_lay (lay d at xs) (at + length xs) ys))
      (λ i h. same_at i (omega (arith, length_lay (lay d (at + length xs) ys) at xs)))
      ∙ lay_lay d at xs ys

-- a name and its slash in front of what was laid down
pub lay_name : (d d₁ d₂ d₃ : List ℕ) (at e : ℕ) (n s : List ℕ) → length n + 1 ≤ e → d₁ ≡ lay d (at + e) s → d₂ ≡ lay d₁ (at + (e - length n)) n
    → d₃ ≡ lay d₂ (at + (e - length n - 1)) (47 ∷ []) → d₃ ≡ lay d (at + (e - length n - 1)) (47 ∷ n ++ s)
lay_name d d₁ d₂ d₃ at e n s h p q r =
    let k : ℕ = at + (e - length n - 1) in
    let f : at + (e - length n) ≡ k + 1 = omega arith in
    let g : at + e ≡ k + length (47 ∷ n) = omega arith in
    r
    ∙ ap (λ (x : List ℕ). lay x k (47 ∷ [])) (q ∙ ap (λ (j : ℕ). lay d₁ j n) f)
    ∙ lay_back d₁ k (47 ∷ []) n
    ∙ ap (λ (x : List ℕ). lay x k (47 ∷ n)) (p ∙ ap (λ (j : ℕ). lay d j s) g)
    ∙ lay_back d k (47 ∷ n) s

-- ---- lengths

string_short : (s : Bytes) (o : ℕ) → length (string_at s o) ≤ length s
unfolding string_at
string_short s o = omega (arith, length-take (nul_in (drop o s)) (drop o s), length-drop o s)

pub name_short : (b : Block) (ws : List ℕ) (count i : ℕ) → length (node (tree_in b ws count) i).name ≤ length b.structure
name_short b ws count i = by_le count i
    (λ h. rw (node_out b ws count i h) (omega arith))
    (λ h. rw (node_in_lem b ws count i h) (string_short b.structure _))

pub path_out : (b : Block) (ws : List ℕ) (count i : ℕ) → (i ≡ 0 → ⊥) → count ≤ i → path (tree_in b ws count) i ≡ 47 ∷ []
path_out b ws count i n h =
    let t : Tree = tree_in b ws count in
    let e = node_out b ws count i h in
    let k : 0 < i = by_le i 0 (λ l. absurd (n (omega arith))) (λ l. l) in
    path_other t i n
    ∙ spell_step t i (i - 1) i (omega arith) n
    ∙ ap (λ (x : Node). spell t (i - 1) x.parent ++ 47 ∷ x.name) e
    ∙ ap (λ (x : Bytes). x ++ 47 ∷ []) (spell_root t (i - 1) 0 refl)

pub spell_length : (t : Tree) (k j m : ℕ) → k ≡ suc j → (m ≡ 0 → ⊥) → length (spell t k m) ≡ length (spell t j (node t m).parent) + length (node t m).name + 1
spell_length t k j m h n =
    ap length (spell_step t k j m h n)
    ∙ length-append (spell t j (node t m).parent) (47 ∷ (node t m).name)
    ∙ omega arith

-- ---- a path laid down as far as a node

-- from `end` on the rest of the path stands in the buffer
pub record Laid (t : Tree) (i left m end at : ℕ) (old out : List ℕ) : Type 0 where
  pub counted : end ≡ length (spell t left m)
  pub tail : Bytes
  pub whole : path t i ≡ spell t left m ++ tail
  pub bytes : out ≡ lay old (at + end) tail

pub laid_start : (t : Tree) (i n at : ℕ) (old : List ℕ) → (i ≡ 0 → ⊥) → n ≡ length (path t i) → Laid t i i i n at old old
laid_start t i n at old h e = record {
  counted = e ∙ ap length (path_other t i h);
  tail = [];
  whole = path_other t i h ∙ sym (append-nil (spell t i i));
  bytes = sym (lay_nil old (at + n));
}

module _ (t : Tree) (i left m end at : ℕ) (old out : List ℕ) (p : Laid t i left m end at old out) where
  -- a step up, behind which `on` are left
  module _ (on : ℕ) (h : left ≡ suc on) (k : m ≡ 0 → ⊥) (n : Bytes) (e : n ≡ (node t m).name) where
    pub laid_room : length n + 1 ≤ end
    laid_room = omega (arith, p.counted, spell_length t left on m h k, ap length e)

    pub laid_on : (q : ℕ) → q ≡ (node t m).parent → (d₂ d₃ : List ℕ)
        → d₂ ≡ lay out (at + (end - length n)) n → d₃ ≡ lay d₂ (at + (end - length n - 1)) (47 ∷ []) → Laid t i on q (end - length n - 1) at old d₃
    laid_on q f d₂ d₃ g r = record {
      counted =
          omega (arith, p.counted, spell_length t left on m h k, ap length e, ap (λ (x : ℕ). length (spell t on x)) f);
      tail = 47 ∷ n ++ p.tail;
      whole =
          p.whole
          ∙ ap (λ (x : Bytes). x ++ p.tail) (spell_step t left on m h k ∙ ap₂ (λ (x : ℕ) (y : Bytes). spell t on x ++ 47 ∷ y) (sym f) (sym e))
          ∙ append_assoc (spell t on q) (47 ∷ n) p.tail;
      bytes = lay_name old out d₂ d₃ at end n p.tail laid_room p.bytes g r;
    }

  pub laid_end : spell t left m ≡ [] → (d : List ℕ) (n : ℕ) → n ≡ length (path t i) → old ≡ lay d (at + n) (0 ∷ []) → out ≡ lay d at (closed (path t i))
  laid_end e d n f g =
      let z : at + end ≡ at = omega (arith, p.counted, ap length e) in
      let w : p.tail ≡ path t i = sym (p.whole ∙ ap (λ (x : Bytes). x ++ p.tail) e) in
      p.bytes
      ∙ ap₂ (λ (k : ℕ) (x : Bytes). lay old k x) z w
      ∙ ap (λ (x : List ℕ). lay x at (path t i)) (g ∙ ap (λ (k : ℕ). lay d (at + k) (0 ∷ [])) f)
      ∙ lay_back d at (path t i) (0 ∷ [])
