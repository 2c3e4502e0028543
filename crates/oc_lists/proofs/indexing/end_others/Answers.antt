use Rattle.std.proofs.Common.{◌≡◌, ◌∙◌, ap, sym, arith, drop, get_or, length, ◌<◌, ◌+◌, subst}
use Rattle.std.proofs.lemmas.List.{drop_all}
use Rattle.oc_model.specs.declared.value.Base.TheVariants as base
use Rattle.oc_lists.specs.Following.{ended_unless, has_index}
use Rattle.oc_lists.proofs.Ended.{ended, ended_all, ended_end, ended_turn}
use Rattle.oc_lists.proofs.indexing.end_others.Goals as goal

pub loop-id-preserved : goal.loop-id-preserved
loop-id-preserved c =
    let s = c.args.schema.now in
    let es = c.deref-id-items.result.now in
    let i = c.loop-id.id-index in
    let fs = c.loop-id.indexes.fields in
    let e = get_or es i (0, base.Bool) in
    record {
      extents = c.end_unless.ensures.extents ∙ c.loop-id.invariant.extents;
      fields =
          ap (ended s (drop (i + 1) es)) (c.end_unless.ensures.fields ∙ ap (λ b. ended_unless b e.0 fs) (c.has_base.ensures ∙ c.in_ok-bases.ensures.keys e.0))
          ∙ sym (ended_turn s es i (0, base.Bool) (omega arith) fs)
          ∙ c.loop-id.invariant.fields;
      marked = c.end_unless.ensures.marked ∙ c.loop-id.invariant.marked;
    }

pub returns-clause-fields : goal.returns-clause-fields
returns-clause-fields c =
    let s = c.args.schema.now in
    let es = c.deref-id-items.result.now in
    sym (ended_end s c.loop-id.indexes.fields)
    ∙ ap (λ l. ended s l c.loop-id.indexes.fields) (sym (drop_all c.loop-id.id-index es (omega arith)))
    ∙ c.loop-id.invariant.fields
    ∙ ap (λ l. ended s l c.args.indexes.now.fields) (c.deref-id-items.ensures.value ∙ c.in_ok-indexed.ensures.fields)
    ∙ ended_all s c.args.indexes.now.fields
