-- The tables of Bench hold, by computation from the definitions.
use Rattle.std.specs.Prelude.{◌≡◌, refl, true}
use Rattle.rules.specs.Everything.{everything}
use Rattle.rules.specs.Bench.{hold_all, events_t, host_t, starred_cases, answers_t, name_cases}

-- ---- the starred cases

pub starred : hold_all starred_cases ≡ true
unfolding hold_all events_t host_t everything
starred = refl

-- ---- tree T, whole

pub answer_t : hold_all answers_t ≡ true
unfolding hold_all events_t host_t everything
answer_t = refl

-- ---- the rule table

pub names : hold_all name_cases ≡ true
unfolding hold_all everything
names = refl
