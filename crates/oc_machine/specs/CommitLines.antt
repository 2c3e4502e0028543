-- The lines that end a transaction: commit and rollback.
use Rattle.std.specs.Prelude.{◌+◌, Bool, false, not, [], filter, is_some, option_map, unwrap_or, if◌then◌else◌}
use Rattle.oc_model.specs.declared.answer.Answer.TheVariants as answer
use Rattle.oc_model.specs.Schemas.{Schema, class_at}
use Rattle.oc_model.specs.SchemaEquality.{differs}
use Rattle.oc_model.specs.Stores.{Store}
use Rattle.oc_model.specs.States.{State, Live, Settings}
use Rattle.oc_model.specs.Nodes.{is_stored}
use Rattle.oc_machine.specs.Outcomes.{Outcome}
use Rattle.oc_machine.specs.Memory.{with_all, detached}

-- the session is committed
abbrev pub committed : State → State
committed m = record m { committed = m.session; commits = m.commits + 1 }

-- the session becomes the committed store; the answer counts the commits
unfoldable pub commit_step : State → Outcome
commit_step m = (committed m, answer.Committed (m.commits + 1))

-- the object has a number that the store hasn't
abbrev pub is_lost : Store → Live → Bool
is_lost s o = unwrap_or (option_map (λ n. not (is_stored s n)) o.number) false

-- the settings of the classes that the schema has
abbrev pub settings_in : Schema → Settings → Settings
settings_in s settings = record settings { classes = filter (λ e. is_some (class_at s e.0)) settings.classes }

-- no object in memory and no name; the handles go on
abbrev pub forgotten : State → State
forgotten m = record m { live = []; names = []; settings = settings_in m.committed.schema m.settings }

-- with the session as the last commit left it
abbrev pub rolled_back : State → State
rolled_back m = record m { session = m.committed }

-- Objects in memory whose number isn't committed are detached. Where the schema changed since the commit, all of them are forgotten.
unfoldable pub rollback_step : State → Outcome
unfolding differs
rollback_step m =
    (rolled_back (if differs m.session.schema m.committed.schema then forgotten m else with_all (λ h o. is_lost m.committed o) detached m), answer.RolledBack)
