-- The list sifted, node by node.
use mathlib.Core.Path.{◌≡◌, refl, sym, ap, ◌∙◌}
use mathlib.Core.Bool.{Bool, true, false, not, ◌&&◌}
use mathlib.Core.List.{List, [], ◌∷◌, ◌++◌, append_assoc, append-nil}
use Prim.Native.Nat.{ℕ, suc, ◌+◌, ◌≤◌, ◌<◌}
use native.Mathlib.Omega.{arith}
use native.Mathlib.Numerals.{add-one}
use lib.Dec.{eqb}
use lib.ListN.{length, get_or, drop, drop_of_length-le}
use lib.Seq.{drop-cons, get_or-take, get_or-drop}
use Rattle.rules.specs.Ceilings.{node_ceiling, work_words}
use Rattle.rules.specs.Octets.{lay}
use Rattle.rules.specs.Blob.{Block}
use Rattle.rules.specs.Lists.{keep}
use Rattle.rules.specs.Tree.{Tree, frame}
use Rattle.rules.specs.Listing.{within}
use Rattle.rules.specs.Space.{list_at, list_in}
use Rattle.rules.proofs.Laws.Octets.{lay_one_other}
use Rattle.rules.proofs.Laws.Lists.{keep_yes, keep_no}
use Rattle.rules.proofs.Laws.Kept.{tree_alike, only_none, only_then}
use Rattle.listing.specs.Sift.{spared, Sifts, Sifted}
use Rattle.listing.proofs.Parts.{list_length_lem, list_list, apart_list}

-- ---- one node

no_list : (ws : List ℕ) → list_in ws 0 ≡ []
unfolding list_in
no_list ws = refl

list_word : (ws : List ℕ) (n i : ℕ) → i < n → get_or (list_in ws n) i 0 ≡ get_or ws (list_at + i) 0
unfolding list_in
list_word ws n i h = get_or-take n (drop list_at ws) i 0 h ∙ get_or-drop list_at ws i 0

module _ (b : Block) (ws : List ℕ) (count : ℕ) (excl : List ℕ) (n : ℕ) (low : n ≤ node_ceiling) where
  abbrev f : ℕ → Bool
  f = spared b ws count excl

  pub sifts_none : count ≤ node_ceiling → work_words ≤ length ws → Sifts b ws count excl n ws 0 0
  sifts_none few room = record {
    few = few;
    room = room;
    apart = only_none ws;
    upto = omega arith;
    list = rw (no_list ws);
    ahead = λ k h. refl;
  }

  module _ (vs : List ℕ) (i j : ℕ) (s : Sifts b ws count excl n vs i j) where
    module _ (h : i < n) (x : ℕ) (e : x ≡ get_or vs (list_at + i) 0) where
      here : x ≡ get_or (list_in ws n) i 0
      here = e ∙ s.ahead i (omega arith) ∙ sym (list_word ws n i h)

      next : drop i (list_in ws n) ≡ x ∷ drop (i + 1) (list_in ws n)
      next =
          drop-cons (list_in ws n) i 0 (omega (arith, list_length_lem ws s.room n low))
          ∙ ap (λ (y : ℕ). y ∷ drop (suc i) (list_in ws n)) (sym here)
          ∙ ap (λ (k : ℕ). x ∷ drop k (list_in ws n)) (sym (add-one i))

      moved : spared b vs count excl x ≡ f x
      moved = ap (λ (t : Tree). not (eqb x 0) && not (within (frame t) excl x)) (tree_alike b ws vs count s.few s.apart.before)

      pub sifts-out : spared b vs count excl x ≡ false → Sifts b ws count excl n vs (i + 1) j
      sifts-out g = record {
        few = s.few;
        room = s.room;
        apart = s.apart;
        upto = omega (arith, s.upto);
        list = ap (λ (l : List ℕ). list_in vs j ++ l) (sym (ap (keep f) next ∙ keep_no f x (drop (i + 1) (list_in ws n)) (sym moved ∙ g))) ∙ s.list;
        ahead = λ k l. s.ahead k (omega arith);
      }

      roomy : work_words ≤ length vs
      roomy = omega (arith, s.room, s.apart.size)

      below : j < node_ceiling
      below = omega (arith, s.upto)

      pub sifts-in : spared b vs count excl x ≡ true → Sifts b ws count excl n (lay vs (list_at + j) (x ∷ [])) (i + 1) (j + 1)
      sifts-in g = record {
        few = s.few;
        room = s.room;
        apart = only_then s.apart (apart_list vs roomy j x below);
        upto = omega (arith, s.upto);
        list =
            ap (λ (l : List ℕ). l ++ keep f (drop (i + 1) (list_in ws n))) (list_list vs roomy j x below)
            ∙ append_assoc (list_in vs j) (x ∷ []) (keep f (drop (i + 1) (list_in ws n)))
            ∙ ap (λ (l : List ℕ). list_in vs j ++ l) (sym (ap (keep f) next ∙ keep_yes f x (drop (i + 1) (list_in ws n)) (sym moved ∙ g)))
            ∙ s.list;
        ahead = λ k l. lay_one_other vs (list_at + j) x 0 (list_at + k) (λ q. omega (arith, s.upto)) ∙ s.ahead k (omega arith);
      }

    pub sifted : i ≤ n → n ≤ i → Sifted b ws count excl n vs j
    unfolding keep
    sifted g h = record {
      apart = s.apart;
      short = omega (arith, s.upto);
      list =
          sym (append-nil (list_in vs j))
          ∙ ap (λ (l : List ℕ). list_in vs j ++ keep f l) (sym (drop_of_length-le (list_in ws n) {i = i} (omega (arith, list_length_lem ws s.room n low))))
          ∙ s.list;
    }
