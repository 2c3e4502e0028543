use Rattle.std.proofs.Common.{◌≡◌, ◌<◌, ◌∙◌, ◌++◌, ◌∷◌, [], ℕ, Some, length, ap, sym, subst, arith, rules, map}
use Rattle.std.specs.Prelude.{IsErrOf, IsTrue}
use Rattle.std.specs.List.{list_all}
use Rattle.std.proofs.lemmas.List.{take_all}
use Rattle.oc_host.proofs.Moments.{looks_then}
use Rattle.oc_model.specs.declared.value.Base.{Base}
use Rattle.oc_model.specs.Lists.{placed, IsOneOf}
use Rattle.oc_chunks.specs.Ascending.{Each}
use Rattle.oc_chunks.specs.Chunks.{joined}
use Rattle.oc_chunks.proofs.Eaches.{each_append, each_at}
use Rattle.oc_index.specs.Fields.{FieldList}
use Rattle.oc_index.specs.Indexed.{field_cmp, undone}
use Rattle.oc_catalog.specs.declared.catalog.ListEntry.{ListEntry}
use Rattle.oc_catalog.specs.Catalogs.{segments_of}
use Rattle.oc_segments.specs.Items.{index_stands}
use Rattle.oc_slots.specs.Held.{map_of}
use Rattle.oc_store.specs.declared.fault.ReadFault.TheVariants as read_fault
use Rattle.oc_store.specs.Listed.{is_segment, segments_len}
use Rattle.oc_lists.specs.Lists.{bases_in}
use Rattle.oc_store.specs.Outlines.{named, IsDamagedIn, IsIndex}
use Rattle.oc_store.proofs.FieldLists.{all_below, damaged_next, named_more, placed_last, undone_same}
use Rattle.oc_store.specs.Sides.{IsWritten}
use Rattle.oc_store.proofs.Gathered.{segments_more}
use Rattle.oc_store.proofs.Readings.{rest_more}
use Rattle.oc_store.proofs.lists.read_fields.Goals as goal

pub read_field-requires-clause-there : goal.read_field-requires-clause-there
read_field-requires-clause-there g c =
    let list = c.list-item.result in
    let known : (b : Base) × IsOneOf {X = ℕ × Base} (list.id, b) (bases_in c.args.schema.now) =
    subst (λ (l : ListEntry). (b : Base) × IsOneOf {X = ℕ × Base} (l.id, b) (bases_in c.args.schema.now)) (sym c.list-item.is)
    (each_at (λ (l : ListEntry). (b : Base) × IsOneOf {X = ℕ × Base} (l.id, b) (bases_in c.args.schema.now)) c.loop-list.list-index list c.args.lists.now (omega arith) c.requires.known) in
    c.in_ok-bases.ensures.there list.id known.0 known.1

pub returns-in_err-index-clause-damaged : goal.returns-in_err-index-clause-damaged
returns-in_err-index-clause-damaged g c space n is =
    let inv = c.loop-list.invariant in
    let s = c.args.slots.now in
    let err : IsErrOf c.read_field.result (read_fault.Damaged space n) = search rules in
    let r = c.read_field.ensures.damaged space n err in (
      r.0,
      λ told.
          damaged_next c.args.lists.now c.loop-list.list-index (omega arith) c.list-item.result c.list-item.is c.loop-list.indexes.fields inv.named (map_of s.header s.pages (g.H.Host.disk c.args.host.now).bytes) c.args.schema.now n (inv.sound told)
          (subst (λ b. IsDamagedIn (map_of s.header s.pages b) c.args.schema.now c.list-item.result n) (inv.looks told).bytes (r.1 told)),
    )

pub returns-in_err-index-clause-looks : goal.returns-in_err-index-clause-looks
returns-in_err-index-clause-looks g c told = looks_then _ _ _ (c.loop-list.invariant.looks told) (c.read_field.ensures.looks told)

pub returns-in_err-put_field-clause-looks : goal.returns-in_err-put_field-clause-looks
returns-in_err-put_field-clause-looks g c told = looks_then _ _ _ (c.loop-list.invariant.looks told) (c.read_field.ensures.looks told)

pub loop-list-preserved : goal.loop-list-preserved
loop-list-preserved g c =
    let inv = c.loop-list.invariant in
    let s = c.args.slots.now in
    let i = c.loop-list.list-index in
    let list = c.list-item.result in
    let index = c.in_ok-index.index in
    let fs = c.loop-list.indexes.fields in
    let lt : i < length c.args.lists.now = omega arith in
    let below = all_below c.args.lists.now i lt list c.list-item.is fs inv.named c.requires.ascend in
    let grown : c.put_field.new.self.fields ≡ fs ++ (list.id, index) ∷ [] = c.in_ok-put_field.ensures.fields ∙ placed_last (list.id, index) fs below in
    let marked : c.put_field.new.self.marked ≡ fs ++ (list.id, index) ∷ [] =
    c.in_ok-put_field.ensures.marked ∙ ap (placed field_cmp (list.id, undone index)) inv.marked ∙ ap (λ (f : FieldList). placed field_cmp (list.id, f) fs) (undone_same index c.in_ok-index.ensures.marked) ∙ placed_last (list.id, index) fs below in
    record {
      extents = c.put_field.ensures.extents ∙ inv.extents;
      named = ap (map named) grown ∙ named_more c.args.lists.now i lt list c.list-item.is fs inv.named index c.in_ok-index.ensures.numbers;
      marked = marked ∙ sym grown;
      each = subst (Each (λ (f : ℕ × FieldList). (f.1).marked ≡ (f.1).chunks)) (sym grown) (each_append (λ (f : ℕ × FieldList). (f.1).marked ≡ (f.1).chunks) fs ((list.id, index) ∷ []) inv.each (c.in_ok-index.ensures.marked, tt));
      written = subst (Each (λ (f : ℕ × FieldList). Each IsWritten (f.1).chunks)) (sym grown) (each_append (λ (f : ℕ × FieldList). Each IsWritten (f.1).chunks) fs ((list.id, index) ∷ []) inv.written (c.in_ok-index.ensures.written, tt));
      writable = subst (Each (λ (f : ℕ × FieldList). IsTrue (list_all (index_stands (Some (f.1).base)) (joined (f.1).chunks)))) (sym grown)
          (each_append (λ (f : ℕ × FieldList). IsTrue (list_all (index_stands (Some (f.1).base)) (joined (f.1).chunks))) fs ((list.id, index) ∷ []) inv.writable (c.in_ok-index.ensures.writable, tt));
      there = segments_more (is_segment s) c.args.lists.now i list lt c.list-item.is inv.there c.in_ok-index.ensures.there;
      bases = subst (Each (λ (f : ℕ × FieldList). IsOneOf {X = ℕ × Base} (f.0, (f.1).base) (bases_in c.args.schema.now))) (sym grown)
          (each_append (λ (f : ℕ × FieldList). IsOneOf {X = ℕ × Base} (f.0, (f.1).base) (bases_in c.args.schema.now)) fs ((list.id, index) ∷ []) inv.bases (c.in_ok-index.ensures.base, tt));
      sound = λ told.
          subst (Each (IsIndex (map_of s.header s.pages (g.H.Host.disk c.args.host.now).bytes) c.args.schema.now)) (sym grown)
          (each_append (IsIndex (map_of s.header s.pages (g.H.Host.disk c.args.host.now).bytes) c.args.schema.now) fs ((list.id, index) ∷ []) (inv.sound told)
          (subst (λ b. IsIndex (map_of s.header s.pages b) c.args.schema.now (list.id, index)) (inv.looks told).bytes (c.in_ok-index.ensures.sound told), tt));
      agrees = c.read_field.ensures.agrees;
      looks = λ told. looks_then _ _ _ (inv.looks told) (c.read_field.ensures.looks told);
      later = omega (arith, inv.later, c.read_field.ensures.later);
      taken = omega (arith, inv.taken, c.read_field.ensures.taken, rest_more (λ (l : ListEntry). segments_len s l.segments) c.args.lists.now i list list lt c.list-item.is);
    }

pub returns-clause-there : goal.returns-clause-there
returns-clause-there g c = subst (λ ls. IsTrue (list_all (is_segment c.args.slots.now) (segments_of ls))) (take_all c.loop-list.list-index c.args.lists.now (omega arith)) c.loop-list.invariant.there
