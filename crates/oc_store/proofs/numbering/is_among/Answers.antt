use Rattle.std.proofs.Common.{sym, subst}
use Rattle.std.specs.Bool.{OnTrue, OnFalse}
use Rattle.oc_model.specs.Lists.{IsOneOf}
use Rattle.oc_store.proofs.FreeNumbers.{found, not_found}
use Rattle.oc_store.proofs.numbering.is_among.Goals as goal

pub returns-clause-yes : goal.returns-clause-yes
returns-clause-yes c = subst (λ b. OnTrue b (IsOneOf c.args.number c.args.numbers.now)) (sym c.is_ok.ensures.value) (found c.args.numbers.now c.args.number c.requires c.binary_search.result c.binary_search.ensures.position)

pub returns-clause-no : goal.returns-clause-no
returns-clause-no c = subst (λ b. OnFalse b (IsOneOf c.args.number c.args.numbers.now → ⊥)) (sym c.is_ok.ensures.value) (not_found c.args.numbers.now c.args.number c.requires c.binary_search.result c.binary_search.ensures.position)
