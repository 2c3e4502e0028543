use Rattle.std.proofs.Common.{◌≡◌, ◌∙◌, ap, sym, subst, refl, ◌+◌, List, ◌∷◌, drop, is_some, arith}
use Rattle.std.specs.Prelude.{IfSome}
use Rattle.std.proofs.lemmas.List.{drop_more, take_all}
use Rattle.oc_model.specs.Schemas.{Schema}
use Rattle.oc_chunks.specs.Chunks.{joined}
use Rattle.oc_lists.specs.Changing.{store_changed, there_after, IsStorable}
use Rattle.oc_lists.specs.Lists.{class_in, HasLists}
use Rattle.oc_lists.specs.Refiling.{class_for, indexed_for, refiled, Refiles}
use Rattle.oc_lists.specs.declared.record.RecChange.{RecChange}
use Rattle.oc_lists.proofs.Changed.{AreDistinct}
use Rattle.oc_lists.proofs.Following.{lists_first, lists_next}
use Rattle.oc_lists.proofs.Moved.{indexes_moved, kept_moved, moved_self, moved_then, numbered_moved}
use Rattle.oc_lists.specs.Staying.{keep_key}
use Rattle.oc_lists.proofs.Staying.{pairs_stay, stay_self, untouched_more}
use Rattle.oc_lists.proofs.Suited.{lists_more}
use Rattle.oc_lists.proofs.There.{distinct_drop, there_more}
use Rattle.oc_lists.proofs.relisting.relist.Goals as goal

pub loop-place-init : goal.loop-place-init
loop-place-init c = record {
  moved = moved_self c.args.indexes.now;
  untouched = λ all. refl;
  stays = stay_self (keep_key c.args.schema.now c.args.olds.now c.args.changes.now) c.args.indexes.now;
  lists = λ h. h;
  there = λ n. refl;
  noted = λ then h. h;
  has = λ s next keeps same may were h. lists_first c.args.indexes.now s next h;
}

pub relist_one-requires : goal.relist_one-requires
relist_one-requires c = indexes_moved c.args.schema.now c.args.indexes.now c.loop-place.indexes c.loop-place.invariant.moved c.requires.indexes

pub loop-place-preserved : goal.loop-place-preserved
loop-place-preserved c =
    let i = c.loop-place.place in
    let changes = c.args.changes.now in
    let change = c.index-changes-place.result in
    let rest = drop (i + 1) changes in
    let turn : drop i changes ≡ change ∷ rest = drop_more changes i change c.loop-place-test.true ∙ ap (λ (d : RecChange). d ∷ rest) (sym c.index-changes-place.is) in
    let may : IfSome change.rec (IsStorable c.args.schema.now) = subst (λ (d : RecChange). IfSome d.rec (IsStorable c.args.schema.now)) (sym c.index-changes-place.is) (c.requires.storable i change c.loop-place-test.true) in
    record {
      moved = moved_then c.args.indexes.now c.loop-place.indexes c.relist_one.new.indexes c.loop-place.invariant.moved c.relist_one.ensures.moved;
      untouched = untouched_more changes i change c.loop-place-test.true c.index-changes-place.is c.args.indexes.now c.loop-place.indexes c.relist_one.new.indexes c.loop-place.invariant.untouched c.relist_one.ensures.untouched;
      stays = pairs_stay c.args.schema.now c.args.olds.now changes i c.index-olds-place.result change c.requires.lengths c.loop-place-test.true c.index-olds-place.is c.index-changes-place.is c.args.indexes.now c.loop-place.indexes c.relist_one.new.indexes
          c.loop-place.invariant.stays c.relist_one.ensures.stays;
      lists = λ h. lists_more c.args.schema.now c.keeps_rules.ensures c.loop-place.indexes c.relist_one.new.indexes change.number c.relist_one.ensures.small c.index-olds-place.result change.rec may
          c.relist_one.ensures.moved c.in_ok-relist_one.ensures.extents c.in_ok-relist_one.ensures.entries (c.loop-place.invariant.lists h);
      there = λ n. ap (λ es. there_after rest n (is_some (class_in es n))) c.in_ok-relist_one.ensures.extents
          ∙ there_more change rest (joined c.loop-place.indexes.extents.chunks) (subst AreDistinct turn (distinct_drop i changes c.requires.distinct)) n
          ∙ ap (λ (cs : List RecChange). there_after cs n (is_some (class_in (joined c.loop-place.indexes.extents.chunks) n))) (sym turn)
          ∙ c.loop-place.invariant.there n;
      noted = λ then h. c.in_ok-relist_one.ensures.noted then (c.loop-place.invariant.noted then h);
      has = λ s next keeps same may were h.
          lists_next s next changes c.args.olds.now keeps may were i c.loop-place-test.true change c.index-changes-place.is c.index-olds-place.result c.index-olds-place.is c.loop-place.indexes c.relist_one.new.indexes
          c.in_ok-relist_one.ensures.extents
          (subst (λ (t : Schema). Refiles (refiled change.number c.index-olds-place.result change.rec (indexed_for t (class_for c.index-olds-place.result change.rec))) c.loop-place.indexes c.relist_one.new.indexes) (sym same) c.in_ok-relist_one.ensures.entries)
          (c.loop-place.invariant.has s next keeps same may were h);
    }

pub returns-in_err-relist_one-clause-untouched : goal.returns-in_err-relist_one-clause-untouched
returns-in_err-relist_one-clause-untouched c =
    untouched_more c.args.changes.now c.loop-place.place c.index-changes-place.result c.loop-place-test.true c.index-changes-place.is c.args.indexes.now c.loop-place.indexes c.relist_one.new.indexes c.loop-place.invariant.untouched c.relist_one.ensures.untouched

pub returns-in_err-relist_one-clause-stays : goal.returns-in_err-relist_one-clause-stays
returns-in_err-relist_one-clause-stays c =
    pairs_stay c.args.schema.now c.args.olds.now c.args.changes.now c.loop-place.place c.index-olds-place.result c.index-changes-place.result c.requires.lengths c.loop-place-test.true c.index-olds-place.is c.index-changes-place.is c.args.indexes.now c.loop-place.indexes
    c.relist_one.new.indexes c.loop-place.invariant.stays c.relist_one.ensures.stays

pub returns-clause-kept : goal.returns-clause-kept
returns-clause-kept c = kept_moved c.args.indexes.now c.loop-place.indexes c.loop-place.invariant.moved

pub returns-clause-numbered : goal.returns-clause-numbered
returns-clause-numbered c has_slot = numbered_moved has_slot c.args.indexes.now c.loop-place.indexes c.loop-place.invariant.moved

pub returns-clause-has : goal.returns-clause-has
returns-clause-has c s next keeps same may were h =
    subst (λ cs. HasLists c.loop-place.indexes (store_changed next cs s)) (take_all c.loop-place.place c.args.changes.now (omega arith)) (c.loop-place.invariant.has s next keeps same may were h)
