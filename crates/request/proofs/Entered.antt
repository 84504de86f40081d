-- What a line adds to a list: its path closed by NUL, its id, or nothing.
use Rattle.std.specs.Prelude.{if◌then◌else◌, Option, Some, None, MatchOption}
use mathlib.Core.Path.{◌≡◌, refl, ◌∙◌}
use mathlib.Core.Bool.{Bool, true, false}
use mathlib.Core.List.{[], ◌∷◌, append-nil}
use Prim.Native.Nat.{ℕ}
use lib.ListN.{drop}
use Rattle.rules.specs.Octets.{Bytes, closed}
use Rattle.rules.specs.Program.{line_said, is_other, named_by}
use Rattle.request.specs.declared.List.{List as Listed}
use Rattle.request.specs.declared.List.TheVariants.{Configured, Excluded}
use Rattle.request.specs.declared.Said.{Said}
use Rattle.request.specs.declared.Said.TheVariants.{Configures, Excludes, Names, Other}
use Rattle.request.specs.Answers.{said, decimal_of, enters, listed_by}

listed : (list : Listed) (k : Said) (text : Bytes) → listed_by list (said k text) [] ≡ if enters list k then closed (drop 2 text) else []
listed Configured Configures text = append-nil (closed (drop 2 text))
listed Configured Excludes text = refl
listed Configured (Names id) text = refl
listed Configured Other text = refl
listed Excluded Configures text = refl
listed Excluded Excludes text = append-nil (closed (drop 2 text))
listed Excluded (Names id) text = refl
listed Excluded Other text = refl

module _ (list : Listed) (text : Bytes) (k : Said) (p : said k text ≡ line_said text) (r : Bool) (q : r ≡ enters list k) where
  here : listed_by list (line_said text) [] ≡ if r then closed (drop 2 text) else []
  here = rw (← p, q) (listed list k text)

  pub skipped : r ≡ false → listed_by list (line_said text) [] ≡ []
  skipped h = here ∙ rw h

  pub entered : r ≡ true → listed_by list (line_said text) [] ≡ closed (drop 2 text)
  entered h = here ∙ rw h

-- ---- a line that is one of the three

no_other : (k : Said) (text : Bytes) → (k ≡ Other → ⊥) → is_other (said k text) ≡ false
no_other Configures text h = refl
no_other Excludes text h = refl
no_other (Names id) text h = refl
no_other Other text h = absurd (h refl)

pub one_of_three : (k : Said) (text : Bytes) → said k text ≡ line_said text → (k ≡ Other → ⊥) → is_other (line_said text) ≡ false
one_of_three k text p h = rw (← p) (no_other k text h)

-- ---- ids

named : (k : Said) (text : Bytes) → ((id : ℕ) → k ≡ Names id → ⊥) → named_by (said k text) [] ≡ []
named Configures text h = refl
named Excludes text h = refl
named (Names id) text h = absurd (h id refl)
named Other text h = refl

pub names_none : (text : Bytes) (k : Said) → said k text ≡ line_said text → ((id : ℕ) → k ≡ Names id → ⊥) → named_by (line_said text) [] ≡ []
names_none text k p h = rw (← p) (named k text h)

pub names_one : (text : Bytes) (k : Said) → said k text ≡ line_said text → (id : ℕ) → k ≡ Names id → named_by (line_said text) [] ≡ id ∷ []
names_one text k p id q = rw (← p, q)

-- an id, or nothing, as a line says it
pub said_decimal : (d : Option ℕ) (k : Said) (text : Bytes) → MatchOption d (k ≡ Other) (λ id. k ≡ Names id) → said k text ≡ decimal_of d
said_decimal None k text e = rw e
said_decimal (Some id) k text e = rw e
