use Rattle.std.proofs.Common.{◌≡◌, drop}
use Rattle.std.specs.List.{list_any}
use Rattle.oc_model.specs.Maps.{same}
use Rattle.oc_container.proofs.checking.is_named.Given as goal

abbrev pub invariant-loop-given : goal.invariant-loop-given
invariant-loop-given l = list_any (λ g. same l.name g.name) (drop l.given-index l.givens) ≡ list_any (λ g. same l.name g.name) l.givens
