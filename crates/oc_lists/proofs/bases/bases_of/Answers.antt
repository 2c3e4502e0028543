use Rattle.std.proofs.Common.{◌∙◌, sym, subst, arith, drop, nat_cmp, ⊎_elim}
use Rattle.std.specs.BTreeMap.{get}
use Rattle.std.proofs.lemmas.List.{drop_all}
use Rattle.oc_model.specs.Lists.{IsOneOf}
use Rattle.oc_lists.proofs.IndexedKinds.{entered_right, entered_there, keys_are}
use Rattle.oc_lists.proofs.bases.bases_of.Goals as goal

pub loop-id-preserved : goal.loop-id-preserved
loop-id-preserved c =
    let ps = c.deref-id-items.result.now in
    let inv = c.loop-id.invariant in
    record {
      right = entered_right ps c.loop-id.id-index (omega arith) (get nat_cmp c.loop-id.bases) (get nat_cmp c.insert.new.self) (c.in_ok-insert.ensures.updates).0 inv.right;
      there = entered_there ps c.loop-id.id-index (omega arith) (get nat_cmp c.loop-id.bases) (get nat_cmp c.insert.new.self) (c.in_ok-insert.ensures.updates).0 inv.there;
    }

pub returns-clause-there : goal.returns-clause-there
returns-clause-there c id b one =
    let ps = c.deref-id-items.result.now in
    let end : IsOneOf (id, b) (drop c.loop-id.id-index ps) → ⊥ = λ h. subst (IsOneOf (id, b)) (drop_all c.loop-id.id-index ps (omega arith)) h in
    ⊎_elim (λ some. some) (λ h. absurd (end h)) (c.loop-id.invariant.there id b (subst (IsOneOf (id, b)) (sym (c.deref-id-items.ensures.value ∙ c.in_ok-pairs.ensures)) one))

pub returns-clause-keys : goal.returns-clause-keys
returns-clause-keys c = keys_are c.args.schema.now (get nat_cmp c.loop-id.bases) (λ id b e. subst (IsOneOf (id, b)) (c.deref-id-items.ensures.value ∙ c.in_ok-pairs.ensures) (c.loop-id.invariant.right id b e)) (returns-clause-there c)
