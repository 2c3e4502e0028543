use Rattle.std.proofs.Common.{◌∙◌, [], None, ap, sym, subst, rules}
use Rattle.std.specs.Prelude.{IsErrOf, IsTrue}
use Rattle.std.specs.List.{list_all}
use Rattle.oc_host.proofs.Moments.{looks_then}
use Rattle.oc_chunks.specs.Ascending.{Each}
use Rattle.oc_chunks.specs.Chunks.{joined}
use Rattle.oc_index.specs.Items.{extent_cmp}
use Rattle.oc_segments.specs.Items.{extent_fits}
use Rattle.oc_slots.specs.Held.{map_of}
use Rattle.oc_store.specs.declared.fault.ReadFault.TheVariants as read_fault
use Rattle.oc_lists.specs.Keeping.{extent_suits}
use Rattle.oc_store.specs.Listed.{is_segment}
use Rattle.oc_store.specs.Lists.{IsDamagedAt, SpellsExtents}
use Rattle.oc_store.specs.Outlines.{IsDamagedAmong}
use Rattle.oc_store.specs.Sides.{IsWritten}
use Rattle.oc_store.proofs.FieldLists.{damaged_first, damaged_later, named_all}
use Rattle.oc_store.proofs.Gathered.{both_pass}
use Rattle.oc_store.proofs.NamedLists.{fields_ascend, fields_known, first_is_all, rest_are_fields, some_lists}
use Rattle.oc_store.proofs.lists.read_lists.Goals as goal

pub unreachable-requires : goal.unreachable-requires
unreachable-requires g c = some_lists c.args.schema.now c.keeps_rules.ensures c.args.lists.now c.requires.ids (search rules)

pub returns-in_err-extents-clause-damaged : goal.returns-in_err-extents-clause-damaged
returns-in_err-extents-clause-damaged g c space n is =
    let s = c.args.slots.now in
    let err : IsErrOf c.read_extents.result (read_fault.Damaged space n) = search rules in
    let r = c.read_extents.ensures.damaged space n err in
    let split = (c.in-Some.ensures.cases).0 in (
      r.0,
      λ told.
          damaged_first (map_of s.header s.pages (g.H.Host.disk c.args.host.now).bytes) c.args.schema.now c.args.lists.now c.in-Some.all.now c.in-Some.fields.now split
          (first_is_all c.args.schema.now c.keeps_rules.ensures c.args.lists.now c.requires.ids c.in-Some.all.now c.in-Some.fields.now split) n
          (subst (λ ns. IsDamagedAt SpellsExtents (map_of s.header s.pages (g.H.Host.disk c.args.host.now).bytes) extent_cmp (extent_suits c.args.schema.now) ns n) c.as_slice.ensures (r.1 told)),
    )

pub read_fields-requires-clause-ascend : goal.read_fields-requires-clause-ascend
read_fields-requires-clause-ascend g c =
    fields_ascend c.args.schema.now c.keeps_rules.ensures c.in-Some.fields.now
    (rest_are_fields c.args.schema.now c.keeps_rules.ensures c.args.lists.now c.requires.ids c.in-Some.all.now c.in-Some.fields.now (c.in-Some.ensures.cases).0)

pub read_fields-requires-clause-known : goal.read_fields-requires-clause-known
read_fields-requires-clause-known g c =
    fields_known c.args.schema.now c.keeps_rules.ensures c.in-Some.fields.now
    (rest_are_fields c.args.schema.now c.keeps_rules.ensures c.args.lists.now c.requires.ids c.in-Some.all.now c.in-Some.fields.now (c.in-Some.ensures.cases).0)

pub returns-in_err-read_fields-clause-damaged : goal.returns-in_err-read_fields-clause-damaged
returns-in_err-read_fields-clause-damaged g c space n is =
    let s = c.args.slots.now in
    let err : IsErrOf c.read_fields.result (read_fault.Damaged space n) = search rules in
    let r = c.read_fields.ensures.damaged space n err in
    let split = (c.in-Some.ensures.cases).0 in (
      r.0,
      λ told.
          damaged_later (map_of s.header s.pages (g.H.Host.disk c.args.host.now).bytes) c.args.schema.now c.args.lists.now c.in-Some.all.now c.in-Some.fields.now split
          (first_is_all c.args.schema.now c.keeps_rules.ensures c.args.lists.now c.requires.ids c.in-Some.all.now c.in-Some.fields.now split) n
          c.in_ok-extents.extents.chunks (c.in_ok-extents.ensures.numbers ∙ c.as_slice.ensures) (c.in_ok-extents.ensures.sound told)
          (subst (λ b. IsDamagedAmong (map_of s.header s.pages b) c.args.schema.now c.in-Some.fields.now n) (c.in_ok-extents.ensures.looks told).bytes (r.1 told)),
    )

pub returns-in_err-read_fields-clause-looks : goal.returns-in_err-read_fields-clause-looks
returns-in_err-read_fields-clause-looks g c told = looks_then _ _ _ (c.in_ok-extents.ensures.looks told) (c.read_fields.ensures.looks told)

pub returns-clause-named : goal.returns-clause-named
returns-clause-named g c =
    let split = (c.in-Some.ensures.cases).0 in
    named_all (map_of c.args.slots.now.header c.args.slots.now.pages []) c.args.schema.now c.args.lists.now c.in-Some.all.now c.in-Some.fields.now split
    (first_is_all c.args.schema.now c.keeps_rules.ensures c.args.lists.now c.requires.ids c.in-Some.all.now c.in-Some.fields.now split)
    c.read_fields.new.indexes c.in_ok-extents.extents.chunks (ap (λ e. e.chunks) (c.read_fields.ensures.extents ∙ c.from_extents-indexes.ensures.extents)) (c.in_ok-extents.ensures.numbers ∙ c.as_slice.ensures) c.in_ok-read_fields.ensures.named

pub returns-clause-written : goal.returns-clause-written
returns-clause-written g c = record {
  extents = subst (λ e. Each IsWritten e.chunks) (sym (c.read_fields.ensures.extents ∙ c.from_extents-indexes.ensures.extents)) c.in_ok-extents.ensures.written;
  fields = c.in_ok-read_fields.ensures.written;
  marked = c.in_ok-read_fields.ensures.each;
}

pub returns-clause-writable : goal.returns-clause-writable
returns-clause-writable g c = record {
  extents = subst (λ e. IsTrue (list_all (extent_fits None) (joined e.chunks))) (sym (c.read_fields.ensures.extents ∙ c.from_extents-indexes.ensures.extents)) c.in_ok-extents.ensures.writable;
  fields = c.in_ok-read_fields.ensures.writable;
}

pub returns-clause-classes : goal.returns-clause-classes
returns-clause-classes g c = subst (λ e. IsTrue (list_all (extent_suits c.args.schema.now) (joined e.chunks))) (sym (c.read_fields.ensures.extents ∙ c.from_extents-indexes.ensures.extents)) c.in_ok-extents.ensures.classes

pub returns-clause-there : goal.returns-clause-there
returns-clause-there g c =
    both_pass (is_segment c.args.slots.now) c.args.lists.now c.read_fields.new.indexes (returns-clause-named g c) c.in-Some.all.now c.in-Some.fields.now (c.in-Some.ensures.cases).0
    (subst (λ ns. IsTrue (list_all (is_segment c.args.slots.now) ns)) c.as_slice.ensures c.in_ok-extents.ensures.there) c.in_ok-read_fields.ensures.there

pub returns-clause-looks : goal.returns-clause-looks
returns-clause-looks g c told = looks_then _ _ _ (c.in_ok-extents.ensures.looks told) (c.read_fields.ensures.looks told)
