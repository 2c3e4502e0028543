use Rattle.std.proofs.Common.{◌≡◌, ◌∙◌, inl, inr, sym, subst, rules}
use Rattle.std.specs.Prelude.{is_some, IsErrOf}
use Rattle.oc_layout.specs.declared.cells.Space.TheVariants.{System}
use Rattle.oc_chunks.specs.Chunks.{joined}
use Rattle.oc_slots.specs.Held.{map_of}
use Rattle.oc_slots.specs.Stores.{committed, committed_place}
use Rattle.oc_store.specs.declared.fault.ReadFault.TheVariants as read_fault
use Rattle.oc_store.specs.Outlines.{has_slot, HasJust, IsDamaged}
use Rattle.oc_store.specs.Stands.{object_slot}
use Rattle.oc_store.proofs.Outlined.{same_damage, slots_there}
use Rattle.oc_store.proofs.outline.read_outline.Goals as goal

pub returns-in_err-outline-clause-damaged : goal.returns-in_err-outline-clause-damaged
returns-in_err-outline-clause-damaged g c space n is =
    let s = c.args.slots.now in
    let err : IsErrOf c.read_parts.result (read_fault.Damaged space n) = search rules in
    let r = c.read_parts.ensures.damaged space n err in
    (r.0, λ told. (elim (r.1 told) as (λ _. IsDamaged (map_of s.header s.pages (g.H.Host.disk c.args.host.now).bytes) n) [ inl none ↦ inl none | inr segment ↦ inr (inl segment) ]))

pub returns-then-not-branch-clause-damaged : goal.returns-then-not-branch-clause-damaged
returns-then-not-branch-clause-damaged g c space n is =
    let s = c.args.slots.now in
    let o = c.in_ok-outline.outline in
    let same : c.damaged.result ≡ read_fault.Damaged space n = cc in
    let told_so : read_fault.Damaged System 1 ≡ read_fault.Damaged space n = sym c.damaged.ensures ∙ same in
    let both = same_damage System space 1 n told_so in
    let no : HasJust (λ k. is_some (committed_place s (object_slot k))) (joined ((c.extents.result).now).chunks) o.next → ⊥ = search rules in (
      sym both.0,
      λ told.
          inr (inr (
            sym both.1,
            record {
              first = (s.header).first;
              next = o.next;
              schema = o.schema;
              lists = o.indexes;
              outline = c.in_ok-outline.ensures.outline told;
              others = λ just.
                  no (subst (λ t. HasJust t (joined ((c.extents.result).now).chunks) o.next) (sym (slots_there s (g.H.Host.disk c.args.host.now)))
                  (subst (λ e. HasJust (has_slot (committed s (g.H.Host.disk c.args.host.now))) (joined e.chunks) o.next) (sym c.extents.ensures) just));
            },
          )),
    )
