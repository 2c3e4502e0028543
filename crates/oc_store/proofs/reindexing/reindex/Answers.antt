use Rattle.std.proofs.Common.{◌≡◌, ◌∙◌, [], ap, sym, subst, arith, rules, true}
use Rattle.std.specs.Prelude.{IsErrOf}
use Rattle.oc_model.specs.Lists.{IsOneOf}
use Rattle.oc_model.specs.SchemaRules.{are_apart}
use Rattle.oc_chunks.specs.Chunks.{joined}
use Rattle.oc_slots.specs.Stores.{session}
use Rattle.oc_lists.specs.Following.{newly_indexed, records_of, reindexed, AreEntering}
use Rattle.oc_lists.specs.Lists.{class_in, extents_of}
use Rattle.oc_lists.proofs.Reindexed.{numbers_are, reindexed_all, reindexed_apart}
use Rattle.oc_store.specs.declared.fault.ReadFault.TheVariants as read_fault
use Rattle.oc_store.specs.Reindexing.{objects_len}
use Rattle.oc_store.specs.Stands.{object_slot}
use Rattle.oc_store.proofs.Fetched.{read_as}
use Rattle.oc_store.proofs.reindexing.reindex.Goals as goal

pub returns-in_err-enter_objects-clause-damaged : goal.returns-in_err-enter_objects-clause-damaged
returns-in_err-enter_objects-clause-damaged g c space n is =
    let old = c.args.old.now in
    let new = c.args.new.now in
    let all : c.deref-3.result.now ≡ reindexed old new (joined c.args.indexes.now.extents.chunks) =
    c.deref-3.ensures.value ∙ numbers_are old new c.in_ok-numbers.numbers.items c.deref.result.now (joined c.extents.result.now.chunks) (joined c.args.indexes.now.extents.chunks) c.in_ok-numbers.ensures (c.deref.ensures.value ∙ c.in_ok-started.ensures) (ap (λ e. joined e.chunks) c.extents.ensures) in
    let err : IsErrOf c.enter_objects.result (read_fault.Damaged space n) = search rules in
    let r = c.enter_objects.ensures.damaged space n err in (
      r.0,
      subst (IsOneOf n) all r.1,
      λ told found read. r.2 told found (read_as _ _ (λ j. old) _ _ (ap (λ e. class_in (joined e.chunks) n) (sym c.start_indexes.ensures.extents)) _ _ (λ j. session c.args.slots.now (g.H.Host.disk c.args.host.now) (object_slot n)) found read),
    )

pub returns-in_err-enter_objects-clause-taken : goal.returns-in_err-enter_objects-clause-taken
returns-in_err-enter_objects-clause-taken g c =
    let old = c.args.old.now in
    let new = c.args.new.now in
    let all : c.deref-3.result.now ≡ reindexed old new (joined c.args.indexes.now.extents.chunks) =
    c.deref-3.ensures.value ∙ numbers_are old new c.in_ok-numbers.numbers.items c.deref.result.now (joined c.extents.result.now.chunks) (joined c.args.indexes.now.extents.chunks) c.in_ok-numbers.ensures (c.deref.ensures.value ∙ c.in_ok-started.ensures) (ap (λ e. joined e.chunks) c.extents.ensures) in
    omega (arith, c.enter_objects.ensures.taken, ap (objects_len c.args.slots.now) all)

pub returns-clause-has : goal.returns-clause-has
returns-clause-has g c told s same keeps spells has =
    let old = c.args.old.now in
    let new = c.args.new.now in
    let last = c.enter_objects.new.indexes in
    let all : c.deref-3.result.now ≡ reindexed s.schema new (extents_of s) =
    c.deref-3.ensures.value ∙ numbers_are old new c.in_ok-numbers.numbers.items c.deref.result.now (joined c.extents.result.now.chunks) (joined c.args.indexes.now.extents.chunks) c.in_ok-numbers.ensures (c.deref.ensures.value ∙ c.in_ok-started.ensures) (ap (λ e. joined e.chunks) c.extents.ensures)
    ∙ (λ j. reindexed (sym same j) new (has.extents j)) in
    let begun : AreEntering c.start_indexes.new.indexes s new [] = c.in_ok-start_indexes.ensures.begins s same keeps c.requires.follows c.requires.lists.indexes has in
    let started : c.deref-2.result.now ≡ newly_indexed s.schema new = c.deref-2.ensures.value ∙ c.in_ok-started.ensures ∙ ap (λ x. newly_indexed x new) (sym same) in
    let entered = c.in_ok-enter_objects.ensures.entered told s started keeps spells (subst (λ l. are_apart l ≡ true) (sym all) (reindexed_apart s new keeps.by_number)) begun in
    reindexed_all s new c.requires.follows.rules last (subst (λ l. AreEntering last s new (records_of l s.records)) all entered)

pub returns-clause-taken : goal.returns-clause-taken
returns-clause-taken g c =
    let old = c.args.old.now in
    let new = c.args.new.now in
    let all : c.deref-3.result.now ≡ reindexed old new (joined c.args.indexes.now.extents.chunks) =
    c.deref-3.ensures.value ∙ numbers_are old new c.in_ok-numbers.numbers.items c.deref.result.now (joined c.extents.result.now.chunks) (joined c.args.indexes.now.extents.chunks) c.in_ok-numbers.ensures (c.deref.ensures.value ∙ c.in_ok-started.ensures) (ap (λ e. joined e.chunks) c.extents.ensures) in
    omega (arith, c.enter_objects.ensures.taken, ap (objects_len c.args.slots.now) all)
