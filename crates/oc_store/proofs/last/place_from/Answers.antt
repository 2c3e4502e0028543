use Rattle.std.proofs.Common.{subst}
use Rattle.oc_model.specs.Lists.{IsOneOf}
use Rattle.oc_lists.proofs.IndexedKinds.{one_at}
use Rattle.oc_store.proofs.last.place_from.Goals as goal

pub returns-then-numbers-place-clause-one : goal.returns-then-numbers-place-clause-one
returns-then-numbers-place-clause-one c = subst (λ n. IsOneOf n c.args.numbers.now) c.if-numbers-place.true (one_at c.args.numbers.now c.loop-place.place 0 c.loop-place-test.true)
