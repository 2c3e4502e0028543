use Rattle.std.proofs.Common.{◌∙◌, inr, sym, subst, rules}
use Rattle.std.specs.Prelude.{nat_le, IsErrOf, IsSomeAnd}
use Rattle.oc_catalog.specs.Catalogs.{SpellsCatalog}
use Rattle.oc_slots.specs.Held.{map_of}
use Rattle.oc_lists.specs.Keeping.{list_numbers}
use Rattle.oc_store.specs.declared.fault.ReadFault.TheVariants as read_fault
use Rattle.oc_store.specs.Listed.{is_there}
use Rattle.oc_store.specs.Outlines.{IsDamagedAmong}
use Rattle.oc_store.proofs.Gathered.{each_passes, numbered_named}
use Rattle.oc_store.proofs.Outlined.{indexes_are}
use Rattle.oc_store.proofs.outline.read_catalogued.Goals as goal

pub returns-in_err-indexes-clause-damaged : goal.returns-in_err-indexes-clause-damaged
returns-in_err-indexes-clause-damaged g c space n is =
    let s = c.args.slots.now in
    let catalog = c.in_ok-catalog.catalog in
    let err : IsErrOf c.read_lists.result (read_fault.Damaged space n) = search rules in
    let r = c.read_lists.ensures.damaged space n err in (
      r.0,
      λ told.
          inr (record {
            catalog = catalog;
            spelled = subst (λ o. IsSomeAnd o (SpellsCatalog catalog)) (sym (c.requires.bytes told)) c.in_ok-catalog.ensures.spelled;
            segment = subst (λ l. IsDamagedAmong (map_of s.header s.pages (g.H.Host.disk c.args.host.now).bytes) catalog.schema l n) c.as_slice.ensures (r.1 told);
          }),
    )

pub returns-clause-lists : goal.returns-clause-lists
returns-clause-lists g c =
    let catalog = c.in_ok-catalog.catalog in
    let of_grammar = (c.in_ok-catalog.ensures.spelled).is in
    record {
      indexes = record {
        ids = indexes_are catalog.schema of_grammar.schema catalog.lists c.in_ok-indexes.indexes (of_grammar.lists).ids (c.in_ok-indexes.ensures.named ∙ c.as_slice.ensures);
        bases = c.in_ok-indexes.ensures.bases;
      };
      classes = c.in_ok-indexes.ensures.classes;
      writable = c.in_ok-indexes.ensures.writable;
    }

pub returns-clause-numbered : goal.returns-clause-numbered
returns-clause-numbered g c =
    let catalog = c.in_ok-catalog.catalog in
    numbered_named (is_there c.args.slots.now) catalog.schema catalog.lists c.in_ok-indexes.indexes ((c.in_ok-catalog.ensures.spelled).is).lists (c.in_ok-indexes.ensures.named ∙ c.as_slice.ensures)
    (each_passes (λ n. nat_le n 2147483646) (is_there c.args.slots.now) (list_numbers c.in_ok-indexes.indexes) c.in_ok-indexes.ensures.there).1

pub returns-clause-small : goal.returns-clause-small
returns-clause-small g c = (each_passes (λ n. nat_le n 2147483646) (is_there c.args.slots.now) (list_numbers c.in_ok-indexes.indexes) c.in_ok-indexes.ensures.there).0

pub returns-clause-next : goal.returns-clause-next
returns-clause-next g c = ((c.in_ok-catalog.ensures.spelled).is).next
