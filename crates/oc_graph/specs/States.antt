-- What is asked of a state, so that its graph is the one of the objects of the run.
use Rattle.std.specs.Prelude.{◌≡◌, ℕ, true, Some, is_some}
use Rattle.oc_model.specs.Lists.{IsOneOf}
use Rattle.oc_model.specs.Maps.{at}
use Rattle.oc_model.specs.Nodes.{named_in}
use Rattle.oc_model.specs.States.{Live, State}

-- what the values of a live object name is live
abbrev pub NamesLive : State → Type 0
NamesLive m = (h : ℕ) (o : Live) → at m.live h ≡ Some o → (k : ℕ) → IsOneOf k (named_in m.session.schema o.class o.entries) → is_some (at m.live k) ≡ true
