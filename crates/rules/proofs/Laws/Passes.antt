-- The equations of the passes 10 to 12, a node or a property at a time.
use Rattle.std.specs.Prelude.{◌≡◌, refl, Bool, true, false, not, ◌&&◌, List, [], ◌∷◌, ℕ, length, eqb, if◌then◌else◌}
use Rattle.std.proofs.Common.{sym, ◌∙◌}
use Rattle.std.proofs.Math.Option.{Option, none, some}
use Rattle.rules.specs.Octets.{word_at}
use Rattle.rules.specs.Lists.{one_of}
use Rattle.rules.specs.Outcome.{passes, ◌then◌, first}
use Rattle.rules.specs.Events.{Property}
use Rattle.rules.specs.Tree.{Node, sibling, doubled_props, doubled_from, is_phandle, read_name, differs, words_from, phandle_prop, shared_from}
use Rattle.rules.proofs.Laws.Verdicts.{gives_refuses, then_passes, one_passes}

-- ---- 10

pub record Doubled (seen : List Node) (n : Node) (ns : List Node) : Type 0 where
  pub siblings : sibling n seen ≡ false
  pub props : doubled_props [] n.props ≡ passes
  pub later : doubled_from (n ∷ seen) ns ≡ passes

pub doubled_step : (seen : List Node) (n : Node) (ns : List Node) → doubled_from seen (n ∷ ns) ≡ passes → Doubled seen n ns
unfolding doubled_from
doubled_step seen n ns h =
    let a = then_passes _ (doubled_props [] n.props then doubled_from (n ∷ seen) ns) tt h in
    let c = then_passes (doubled_props [] n.props) (doubled_from (n ∷ seen) ns) tt a.1 in
    record { siblings = one_passes (sibling n seen) 10 n.place a.0; props = c.0; later = c.1 }

-- ---- 11

two_pass : (a b : Bool) (place : ℕ)
    → first (record { fails = a; number = 11; place = place } ∷ record { fails = b; number = 11; place = place } ∷ []) ≡ passes
    → (a ≡ false) × (b ≡ false)
two_pass true b place h = gives_refuses tt 11 place h
two_pass false true place h = gives_refuses tt 11 place h
two_pass false false place h = (refl, refl)

-- the phandle so far
abbrev pub phandle_after : Option ℕ → Property → Option ℕ
phandle_after had p = if is_phandle p.name then some (word_at p.value 0) else had

pub record Worded (had : Option ℕ) (p : Property) (ps : List Property) : Type 0 where
  pub size : (read_name p.name && not (eqb (length p.value) 4)) ≡ false
  pub phandle : (is_phandle p.name && differs had (word_at p.value 0)) ≡ false
  pub later : words_from (phandle_after had p) ps ≡ passes

pub words_step : (had : Option ℕ) (p : Property) (ps : List Property) → words_from had (p ∷ ps) ≡ passes → Worded had p ps
unfolding words_from
words_step had p ps h =
    let a = then_passes _ (words_from (phandle_after had p) ps) tt h in
    let c =
    two_pass (read_name p.name && not (eqb (length p.value) 4)) (is_phandle p.name && differs had (word_at p.value 0)) p.place a.0 in
    record { size = c.0; phandle = c.1; later = a.1 }

pub step_words : (had : Option ℕ) (p : Property) (ps : List Property) → Worded had p ps → words_from had (p ∷ ps) ≡ passes
unfolding words_from
step_words had p ps w = rw (w.size, w.phandle) w.later

-- ---- 12

-- the first property that gives a phandle is this one, or comes later
module _ (p : Property) (ps : List Property) where
  pub phandle_here : is_phandle p.name ≡ true → phandle_prop (p ∷ ps) ≡ some p
  unfolding phandle_prop
  phandle_here e = rw (e, phandle_prop)

  pub phandle_past : is_phandle p.name ≡ false → phandle_prop (p ∷ ps) ≡ phandle_prop ps
  unfolding phandle_prop
  phandle_past e = rw (e, phandle_prop)

module _ (seen : List ℕ) (n : Node) (ns : List Node) where
  pub shared_none : phandle_prop n.props ≡ none → shared_from seen (n ∷ ns) ≡ shared_from seen ns
  unfolding shared_from
  shared_none e = rw (e, shared_from)

  pub shared_some : (p : Property) → phandle_prop n.props ≡ some p
      → shared_from seen (n ∷ ns)
      ≡ (first (record { fails = one_of (word_at p.value 0) seen; number = 12; place = p.place } ∷ [])
      then shared_from (word_at p.value 0 ∷ seen) ns)
  unfolding shared_from
  shared_some p e = rw (e, shared_from)

  pub shared_split : (p : Property) → phandle_prop n.props ≡ some p → shared_from seen (n ∷ ns) ≡ passes
      → (one_of (word_at p.value 0) seen ≡ false) × (shared_from (word_at p.value 0 ∷ seen) ns ≡ passes)
  shared_split p e h =
      let k = then_passes _ (shared_from (word_at p.value 0 ∷ seen) ns) tt (sym (shared_some p e) ∙ h) in
      (one_passes (one_of (word_at p.value 0) seen) 12 p.place k.0, k.1)

  pub shared_join : (p : Property) → phandle_prop n.props ≡ some p → one_of (word_at p.value 0) seen ≡ false
      → shared_from (word_at p.value 0 ∷ seen) ns ≡ passes → shared_from seen (n ∷ ns) ≡ passes
  shared_join p e f h = shared_some p e ∙ rw (f, h)
