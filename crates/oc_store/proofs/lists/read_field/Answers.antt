use Rattle.std.proofs.Common.{◌∙◌, [], ap, sym, subst, Some, inr, rules}
use Rattle.std.specs.Prelude.{IsErrOf}
use Rattle.oc_index.specs.Items.{index_cmp}
use Rattle.oc_slots.specs.Held.{map_of}
use Rattle.oc_store.specs.declared.fault.ReadFault.TheVariants as read_fault
use Rattle.oc_store.specs.Listed.{index_suits}
use Rattle.oc_store.specs.Lists.{AreNext, IsDamagedAt, SpellsIndex}
use Rattle.oc_store.proofs.lists.read_field.Goals as goal

pub returns-clause-sound : goal.returns-clause-sound
returns-clause-sound g c told =
    let s = c.args.slots.now in
    let e = c.in_ok-index.ensures.base in
    record {
      base = c.requires.right c.args.list.now.id c.in_ok-index.index.base (sym c.in-Some.ensures.value ∙ ap Some (sym e));
      sound = subst (λ b. AreNext (SpellsIndex b) (map_of s.header s.pages (g.H.Host.disk c.args.host.now).bytes) index_cmp (index_suits c.args.schema.now) [] c.in_ok-index.index.chunks) (sym e) (c.in_ok-index.ensures.sound told);
    }

pub returns-in_err-index-clause-damaged : goal.returns-in_err-index-clause-damaged
returns-in_err-index-clause-damaged g c space n is =
    let s = c.args.slots.now in
    let err : IsErrOf c.read_index.result (read_fault.Damaged space n) = search rules in
    let r = c.read_index.ensures.damaged space n err in (
      r.0,
      λ told.
          inr (
            c.in-Some.base.now,
            c.requires.right c.args.list.now.id c.in-Some.base.now (sym c.in-Some.ensures.value),
            subst (λ ns. IsDamagedAt (SpellsIndex c.in-Some.base.now) (map_of s.header s.pages (g.H.Host.disk c.args.host.now).bytes) index_cmp (index_suits c.args.schema.now) ns n) c.as_slice-segments.ensures (r.1 told),
          ),
    )
