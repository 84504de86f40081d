-- A turn of the walks over the lines: nothing is left, or the walk goes on behind a line.
use mathlib.Core.Path.{◌≡◌, refl, sym, ap, ◌∙◌, subst}
use mathlib.Core.Bool.{true, false}
use mathlib.Core.List.{List, [], ◌∷◌, ◌++◌}
use Prim.Native.Nat.{ℕ, ◌+◌, ◌≤◌}
use native.Mathlib.Omega.{arith}
use lib.ListN.{length, drop, length-append, length-drop}
use lib.Seq.{take_all}
use borrow.Author.Tests.{le-ltb}
use Rattle.rules.specs.Ceilings.{program_ceiling}
use Rattle.rules.specs.Octets.{Bytes, part, closed, lay, zeros}
use Rattle.rules.specs.Outcome.{Verdict, passes, refuses}
use Rattle.rules.specs.Program.{line_said, is_other, lines_of, lines_judged, input_judged, configured_in, excluded_in, ids_in, named_by}
use Rattle.rules.specs.Program as program
use Rattle.rules.proofs.Laws.Program.{lines_none, lines_fault, lines_good, configured_split, excluded_split, named_split, Laying, laying_more}
use Rattle.rules.proofs.Laws.Octets.{lay_then}
use Rattle.request.proofs.Short.{configured_short, excluded_short, ids_short}
use Rattle.request.specs.declared.List.{List as Listed}
use Rattle.request.specs.declared.List.TheVariants.{Configured, Excluded}
use Rattle.request.specs.Answers.{listed_by, list_in}

-- ---- judging

pub judged_lines : (s : Bytes) → length s ≤ program_ceiling → input_judged s ≡ lines_judged (lines_of s)
unfolding input_judged
judged_lines s h = rw (le-ltb program_ceiling (length s) h)

module _ (whole : Verdict) (left : List program.Line) (inv : whole ≡ lines_judged left) where
  pub at_done : left ≡ [] → passes ≡ whole
  at_done e = sym (inv ∙ ap lines_judged e ∙ lines_none)

  module _ (l : program.Line) (rest : List program.Line) (e : left ≡ l ∷ rest) where
    pub at_fault : is_other (line_said l.text) ≡ true → refuses 41 l.offset ≡ whole
    at_fault h = sym (inv ∙ ap lines_judged e ∙ lines_fault l rest h)

    pub at_good : is_other (line_said l.text) ≡ false → whole ≡ lines_judged rest
    at_good h = inv ∙ ap lines_judged e ∙ lines_good l rest h

-- ---- the lists

-- nothing is left
pub listed_done : (list : Listed) → list_in list [] ≡ []
unfolding configured_in excluded_in
listed_done Configured = refl
listed_done Excluded = refl

pub ids_done : ids_in [] ≡ []
unfolding ids_in
ids_done = refl

-- what a line adds, in front of what the others do
pub listed_step : (list : Listed) (l : program.Line) (ls : List program.Line) → list_in list (l ∷ ls) ≡ listed_by list (line_said l.text) [] ++ list_in list ls
unfolding configured_in excluded_in
listed_step Configured l ls = configured_split (line_said l.text) (configured_in ls)
listed_step Excluded l ls = excluded_split (line_said l.text) (excluded_in ls)

pub ids_step : (l : program.Line) (ls : List program.Line) → ids_in (l ∷ ls) ≡ named_by (line_said l.text) [] ++ ids_in ls
unfolding ids_in
ids_step l ls = named_split (line_said l.text) (ids_in ls)

list_short : (list : Listed) (input : Bytes) → length (list_in list (lines_of input)) ≤ length input
list_short Configured input = configured_short input
list_short Excluded input = excluded_short input

-- what stands before the rest has room in the whole
laying_room : {A : Type 0} {whole old new : List A} {laid : ℕ} (xs ys : List A) → Laying whole old new laid (xs ++ ys) → laid + length xs ≤ length whole
laying_room xs ys l = omega (arith, l.count, ap length l.split, length-append l.done (xs ++ ys), length-append xs ys)

module _ (list : Listed) (input : Bytes) {old new : Bytes} {laid : ℕ} (left : List program.Line) (inv : Laying (list_in list (lines_of input)) old new laid (list_in list left)) where
  pub paths_done : left ≡ [] → Laying (list_in list (lines_of input)) old new laid []
  paths_done e = subst (Laying (list_in list (lines_of input)) old new laid) (ap (list_in list) e ∙ listed_done list) inv

  module _ (l : program.Line) (rest : List program.Line) (e : left ≡ l ∷ rest) where
    paths_here : Laying (list_in list (lines_of input)) old new laid (listed_by list (line_said l.text) [] ++ list_in list rest)
    paths_here = subst (Laying (list_in list (lines_of input)) old new laid) (ap (list_in list) e ∙ listed_step list l rest) inv

    pub paths_skip : listed_by list (line_said l.text) [] ≡ [] → Laying (list_in list (lines_of input)) old new laid (list_in list rest)
    paths_skip f = subst (λ (xs : Bytes). Laying (list_in list (lines_of input)) old new laid (xs ++ list_in list rest)) f paths_here

    module _ (path : Bytes) (f : path ≡ part l.text 2 (length l.text)) (g : listed_by list (line_said l.text) [] ≡ closed (drop 2 l.text)) where
      path_here : Laying (list_in list (lines_of input)) old new laid (closed path ++ list_in list rest)
      path_here =
          subst (λ (xs : Bytes). Laying (list_in list (lines_of input)) old new laid (xs ++ list_in list rest))
          (g ∙ ap closed (sym (f ∙ take_all (length l.text) (drop 2 l.text) (omega (arith, length-drop 2 l.text)))))
          paths_here

      pub path_room : laid + (length path + 1) ≤ length input
      path_room = omega (arith, laying_room (closed path) (list_in list rest) path_here, length-append path (0 ∷ []), list_short list input)

      pub path_more : {laid_path laid_whole : Bytes} → laid_path ≡ lay new laid path → laid_whole ≡ lay laid_path (laid + length path) (zeros 1) → Laying (list_in list (lines_of input)) old laid_whole (laid + (length path + 1)) (list_in list rest)
      path_more p q =
          laying_more (closed path) (list_in list rest) path_here (lay_then new laid path (zeros 1) p refl q) (omega (arith, length-append path (0 ∷ [])))

module _ (input : Bytes) {old new : List ℕ} {laid : ℕ} (left : List program.Line) (inv : Laying (ids_in (lines_of input)) old new laid (ids_in left)) where
  pub ids_over : left ≡ [] → Laying (ids_in (lines_of input)) old new laid []
  ids_over e = subst (Laying (ids_in (lines_of input)) old new laid) (ap ids_in e ∙ ids_done) inv

  module _ (l : program.Line) (rest : List program.Line) (e : left ≡ l ∷ rest) where
    ids_here : Laying (ids_in (lines_of input)) old new laid (named_by (line_said l.text) [] ++ ids_in rest)
    ids_here = subst (Laying (ids_in (lines_of input)) old new laid) (ap ids_in e ∙ ids_step l rest) inv

    pub ids_skip : named_by (line_said l.text) [] ≡ [] → Laying (ids_in (lines_of input)) old new laid (ids_in rest)
    ids_skip f = subst (λ (xs : List ℕ). Laying (ids_in (lines_of input)) old new laid (xs ++ ids_in rest)) f ids_here

    module _ (id : ℕ) (f : named_by (line_said l.text) [] ≡ id ∷ []) where
      id_here : Laying (ids_in (lines_of input)) old new laid (id ∷ [] ++ ids_in rest)
      id_here = subst (λ (xs : List ℕ). Laying (ids_in (lines_of input)) old new laid (xs ++ ids_in rest)) f ids_here

      pub id_room : laid + 1 ≤ length input
      id_room = omega (arith, laying_room (id ∷ []) (ids_in rest) id_here, ids_short input)

      pub id_more : {next : List ℕ} → next ≡ lay new laid (id ∷ []) → Laying (ids_in (lines_of input)) old next (laid + 1) (ids_in rest)
      id_more p = laying_more (id ∷ []) (ids_in rest) id_here p refl
