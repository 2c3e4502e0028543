use Rattle.std.proofs.Common.{◌≡◌, ◌∙◌, ◌++◌, ap, subst, List, map}
use Rattle.oc_catalog.specs.declared.catalog.ListEntry.{ListEntry}
use Rattle.oc_catalog.specs.Catalogs.{SpellsCatalog}
use Rattle.oc_lists.specs.Keeping.{list_numbers}
use Rattle.oc_lists.specs.Lists.{lists_then}
use Rattle.oc_catalog.specs.Catalogs.{segments_of}
use Rattle.oc_store.specs.Last.{list_segments, planned, system_change, written_segments}
use Rattle.oc_store.proofs.LastFacts.{all_changes, gone_changes}
use Rattle.oc_store.proofs.last.changes_of.Goals as goal

pub returns-clause-changes : goal.returns-clause-changes
returns-clause-changes c =
    let l = c.args.lists.now in
    let ns = c.args.numbers.now in
    let entries = c.in_ok-entries.entries.items in
    let first : c.write_lists.new.changes.items ≡ map system_change (written_segments (planned ns (list_segments l))) = c.in_ok-entries.ensures.changes ∙ ap (λ k. k ++ map system_change (written_segments (planned ns (list_segments l)))) c.new-changes.ensures.items in
    let second : c.put_gone.new.changes.items ≡ c.write_lists.new.changes.items ++ gone_changes (segments_of entries) (list_numbers (lists_then l)) = c.in_ok-put_gone.ensures ∙ ap (λ v. c.write_lists.new.changes.items ++ gone_changes (segments_of v) (list_numbers (lists_then l))) c.deref.ensures.value in
    let r = c.in_ok-put_catalog.ensures in (
      r.0,
      subst (λ (v : List ListEntry). SpellsCatalog (record { next = c.args.next; schema = c.args.schema.now; lists = v }) r.0) (c.deref-2.ensures.value ∙ c.in_ok-entries.ensures.entries) r.1,
      all_changes l ns entries c.in_ok-entries.ensures.entries r.0 c.write_lists.new.changes.items c.put_gone.new.changes.items c.put_catalog.new.changes.items first second r.2,
    )
