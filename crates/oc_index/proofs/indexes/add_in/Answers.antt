use Rattle.std.proofs.Common.{◌≡◌, ap, subst, refl, false, flat_map}
use Rattle.oc_chunks.specs.Ascending.{Each}
use Rattle.oc_index.specs.Indexed.{field_at, is_of, now_of, IsPlace}
use Rattle.oc_index.proofs.Slots.{found, none_at, changed_now, changed_then, not_some, adds_change, either_way}
use Rattle.oc_index.proofs.Ordered.{place_lt, set_ids}
use Rattle.oc_index.proofs.indexes.add_in.Goals as goal

pub unreachable-requires : goal.unreachable-requires
unreachable-requires c =
    let off = subst (Each (λ f. is_of c.args.id f ≡ false)) c.deref.ensures.value (rw c.in_default.is at c.place_in.ensures.none) in
    not_some (field_at c.args.id (flat_map now_of c.args.fields.now.items)) c.requires (none_at c.args.id c.args.fields.now.items off)

pub returns-clause-fields : goal.returns-clause-fields
returns-clause-fields c =
    let p = subst (λ l. IsPlace c.args.id l c.in-Some.at) c.deref.ensures.value c.in-Some.ensures.there in
    let fs = c.args.fields.now.items in
    let q = c.index_mut.result.now in
    let was = found c.args.id fs c.in-Some.at p q c.index_mut.ensures.value in
    let is = changed_now c.args.id fs c.in-Some.at p q c.index_mut.ensures.value c.add.new.self in
    adds_change c.add.result c.add.ensures.entries c.add.ensures.segments c.add.ensures.chunks c.add.ensures.marked (λ e s k m. record { field = q.index; now = c.add.new.self; was = was; is = is; change = record { base = c.add.ensures.base; entries = e; segments = s; chunks = k; marked = m } })

pub returns-clause-marked : goal.returns-clause-marked
returns-clause-marked c =
    let p = subst (λ l. IsPlace c.args.id l c.in-Some.at) c.deref.ensures.value c.in-Some.ensures.there in
    let q = c.index_mut.result.now in
    changed_then c.args.id c.args.fields.now.items c.in-Some.at p q c.index_mut.ensures.value c.add.new.self c.add.ensures.base (either_way c.add.result (λ is. ap (λ f. f.marked) is) c.add.ensures.marked c.add.ensures.err)

pub returns-clause-ids : goal.returns-clause-ids
returns-clause-ids c =
    let p = subst (λ l. IsPlace c.args.id l c.in-Some.at) c.deref.ensures.value c.in-Some.ensures.there in
    set_ids c.args.fields.now.items c.in-Some.at c.index_mut.result.now (record c.index_mut.result.now { index = c.add.new.self }) (place_lt c.args.id c.args.fields.now.items c.in-Some.at p) c.index_mut.ensures.value refl
