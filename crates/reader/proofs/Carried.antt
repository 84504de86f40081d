-- What the reader refuses besides 40 is carried inside as it is.
use mathlib.Core.Path.{◌≡◌, refl}
use mathlib.Core.List.{[], ◌∷◌}
use types.Run.{OneOf, miss}
use denote.Enum.Declared.{tag_of}
use Rattle.reader.specs.contracts.Refusal as declared
use Rattle.reader.specs.declared.Refusal.{Refusal}
use Rattle.reader.specs.declared.Refusal.TheVariants.{NoSpace, Short, Magic, Total, Version, Layout, Shape, Name, Deep, Many, Doubled, Cells, Shared}
use Rattle.reader.specs.Answers.{number_of, inside_number}

pub carried : (r : Refusal) → OneOf (1 ∷ 2 ∷ 3 ∷ 4 ∷ 5 ∷ 6 ∷ 7 ∷ 8 ∷ 9 ∷ 10 ∷ 11 ∷ 12 ∷ []) (tag_of declared.the_type r) → inside_number r ≡ number_of r
carried NoSpace h = absurd (miss (1 ∷ 2 ∷ 3 ∷ 4 ∷ 5 ∷ 6 ∷ 7 ∷ 8 ∷ 9 ∷ 10 ∷ 11 ∷ 12 ∷ []) 0 tt h)
carried Short h = refl
carried Magic h = refl
carried Total h = refl
carried Version h = refl
carried Layout h = refl
carried (Shape at) h = refl
carried (Name at) h = refl
carried (Deep at) h = refl
carried (Many at) h = refl
carried (Doubled at) h = refl
carried (Cells at) h = refl
carried (Shared at) h = refl
