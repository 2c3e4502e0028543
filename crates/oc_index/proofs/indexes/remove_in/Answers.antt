use Rattle.std.proofs.Common.{◌≡◌, sym, subst, refl, false, flat_map, IfSome}
use Rattle.std.specs.List.{list_any}
use Rattle.oc_chunks.specs.Ascending.{Each}
use Rattle.oc_chunks.specs.Chunks.{joined}
use Rattle.oc_index.specs.Indexed.{field_at, is_of, now_of, IsPlace}
use Rattle.oc_index.specs.Ranges.{is_entry}
use Rattle.oc_index.proofs.Slots.{found, none_at, changed_now, changed_then, not_some}
use Rattle.oc_index.proofs.Ordered.{place_lt, set_ids}
use Rattle.oc_index.proofs.indexes.remove_in.Goals as goal

pub unreachable-requires : goal.unreachable-requires
unreachable-requires c =
    let off = subst (Each (λ f. is_of c.args.id f ≡ false)) c.deref.ensures.value (rw c.in_default.is at c.place_in.ensures.none) in
    not_some (field_at c.args.id (flat_map now_of c.args.fields.now.items)) c.requires (none_at c.args.id c.args.fields.now.items off)

pub returns-clause-there : goal.returns-clause-there
returns-clause-there c =
    let p = subst (λ l. IsPlace c.args.id l c.in-Some.at) c.deref.ensures.value c.in-Some.ensures.there in
    subst (λ r. IfSome r (λ f. c.remove.result ≡ list_any (is_entry c.args.key.now c.args.number) (joined f.chunks))) (sym (found c.args.id c.args.fields.now.items c.in-Some.at p c.index_mut.result.now c.index_mut.ensures.value)) c.remove.ensures.there

pub returns-clause-fields : goal.returns-clause-fields
returns-clause-fields c =
    let p = subst (λ l. IsPlace c.args.id l c.in-Some.at) c.deref.ensures.value c.in-Some.ensures.there in
    let fs = c.args.fields.now.items in
    let q = c.index_mut.result.now in
    record {
      field = q.index;
      now = c.remove.new.self;
      was = found c.args.id fs c.in-Some.at p q c.index_mut.ensures.value;
      is = changed_now c.args.id fs c.in-Some.at p q c.index_mut.ensures.value c.remove.new.self;
      change = record { base = c.remove.ensures.base; chunks = c.remove.ensures.chunks; marked = c.remove.ensures.marked };
    }

pub returns-clause-marked : goal.returns-clause-marked
returns-clause-marked c =
    let p = subst (λ l. IsPlace c.args.id l c.in-Some.at) c.deref.ensures.value c.in-Some.ensures.there in
    changed_then c.args.id c.args.fields.now.items c.in-Some.at p c.index_mut.result.now c.index_mut.ensures.value c.remove.new.self c.remove.ensures.base c.remove.ensures.marked

pub returns-clause-ids : goal.returns-clause-ids
returns-clause-ids c =
    let p = subst (λ l. IsPlace c.args.id l c.in-Some.at) c.deref.ensures.value c.in-Some.ensures.there in
    set_ids c.args.fields.now.items c.in-Some.at c.index_mut.result.now (record c.index_mut.result.now { index = c.remove.new.self }) (place_lt c.args.id c.args.fields.now.items c.in-Some.at p) c.index_mut.ensures.value refl
