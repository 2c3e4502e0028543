use Rattle.std.proofs.Common.{◌≡◌, ◌⊎◌, ◌∙◌, ap, sym, subst, ℕ, List, Bool, false, map, None, Some}
use Rattle.std.specs.Prelude.{is_some}
use Rattle.oc_layout.specs.declared.cells.Space.TheVariants.{System}
use Rattle.oc_model.specs.Lists.{IsOneOf}
use Rattle.oc_chunks.specs.Ascending.{Each}
use Rattle.oc_chunks.proofs.Eaches.{each_more}
use Rattle.oc_chunks.specs.Opening.{spare_of}
use Rattle.oc_catalog.specs.Catalogs.{AreLists, SpellsCatalog}
use Rattle.oc_slots.specs.declared.slot.SlotChange.{SlotChange}
use Rattle.oc_slots.specs.Maps.{changed, SlotMap}
use Rattle.oc_slots.specs.Maps.{has_after}
use Rattle.oc_slots.specs.Stores.{committed_place, AreChanges}
use Rattle.oc_lists.specs.Keeping.{list_numbers, AreNumbered}
use Rattle.oc_lists.specs.Lists.{lists_then}
use Rattle.oc_store.specs.Last.{last_changes, list_segments, lists_written, planned, system_change, unchanged_of, Planned}
use Rattle.oc_store.specs.Lists.{system_slot}
use Rattle.oc_store.specs.Outlines.{named_lists}
use Rattle.oc_store.proofs.LastChanges.{all_gone, all_in_system, all_unwritten, are_changes, catalog_there, done, now_apart, now_range, now_small, numbered_after}
use Rattle.oc_store.proofs.LastFacts.{outline_after}
use Rattle.oc_store.proofs.LastOutline.{some_catalog, some_lists}
use Rattle.oc_store.proofs.ShortLists.{ids_rising, lists_named}
use Rattle.oc_store.proofs.Written.{fields_ids}
use Rattle.oc_store.proofs.WrittenChunks.{IsDone}
use Rattle.oc_store.proofs.last.last_of.Goals as goal

pub numbers_for-requires : goal.numbers_for-requires
numbers_for-requires c = ids_rising c.args.schema.now c.keeps_rules.ensures (map _ c.args.lists.now.fields) c.requires.lists.indexes.ids

pub changes_of-requires-clause-ids : goal.changes_of-requires-clause-ids
changes_of-requires-clause-ids c = ids_rising c.args.schema.now c.keeps_rules.ensures (map _ c.args.lists.now.fields) c.requires.lists.indexes.ids

pub changes_of-requires-clause-lists : goal.changes_of-requires-clause-lists
changes_of-requires-clause-lists c =
    let there : ℕ → Bool = λ n. is_some (committed_place c.args.slots.now (system_slot n)) in
    let l = c.args.lists.now in
    let s = c.args.schema.now in
    let ns = c.in_ok-numbers.numbers.items in
    let r = c.requires in
    let e = c.in_ok-numbers.ensures in
    let unused = each_more (λ n. committed_place c.args.slots.now (system_slot n) ≡ None) (λ n. there n ≡ false) ns (λ n h. ap is_some h) e.unused in
    subst (λ (k : List ℕ). AreLists s (named_lists (lists_written k l))) (sym c.deref.ensures.value)
    (lists_named s c.keeps_rules.ensures (lists_written ns l) (fields_ids (spare_of ns (l.extents).chunks) l.fields ∙ r.lists.indexes.ids)
    (now_apart there l ns r.numbered r.marked r.small r.marked_small e.rising e.range unused) (now_range there l ns r.numbered r.marked r.small r.marked_small e.rising e.range unused))

pub returns : goal.returns
returns c =
    let there : ℕ → Bool = λ n. is_some (committed_place c.args.slots.now (system_slot n)) in
    let l = c.args.lists.now in
    let s = c.args.schema.now in
    let ns = c.in_ok-numbers.numbers.items in
    let r = c.requires in
    let e = c.in_ok-numbers.ensures in
    let unused = each_more (λ n. committed_place c.args.slots.now (system_slot n) ≡ None) (λ n. there n ≡ false) ns (λ n h. ap is_some h) e.unused in
    let made = c.in_ok-changes.ensures.changes in
    let catalog = made.0 in
    let cs = c.in_ok-changes.changes.items in
    let spelled : SpellsCatalog (record { next = c.args.next; schema = s; lists = named_lists (lists_written ns l) }) catalog = subst (λ (k : List ℕ). SpellsCatalog (record { next = c.args.next; schema = s; lists = named_lists (lists_written k l) }) catalog) c.deref.ensures.value made.1 in
    let is : map system_change (last_changes ns l catalog) ≡ cs = sym (made.2 ∙ ap (λ (k : List ℕ). map system_change (last_changes k l catalog)) c.deref.ensures.value) in
    record {
      changes = subst AreChanges is (are_changes there l ns r.numbered r.marked r.small r.marked_small e.rising e.range unused catalog (some_catalog _ catalog spelled) (some_lists l));
      made = (catalog, spelled, sym is);
      system = subst (Each (λ (d : SlotChange). d.id.space ≡ System)) is (all_in_system there l ns r.numbered r.marked r.small r.marked_small e.rising e.range unused catalog);
      outline = outline_after l ns s c.args.next r.kept r.lists c.in_ok-changes.ensures.chunks e.count catalog spelled cs
          (subst (λ (ds : List SlotChange). (m : SlotMap) (p : Planned) → IsOneOf p (planned ns (list_segments l)) → IsDone m (changed ds m) p) is (done there l ns r.numbered r.marked r.small r.marked_small e.rising e.range unused catalog))
          (subst (λ (ds : List SlotChange). (m : SlotMap) → changed ds m (system_slot 1) ≡ Some catalog) is (catalog_there there l ns r.numbered r.marked r.small r.marked_small e.rising e.range unused catalog));
      numbered = subst (λ (ds : List SlotChange). AreNumbered (λ n. has_after ds (system_slot n) (there n)) (lists_written ns l)) is (numbered_after there l ns r.numbered r.marked r.small r.marked_small e.rising e.range unused catalog);
      small = now_small there l ns r.numbered r.marked r.small r.marked_small e.rising e.range unused;
      gone = subst (λ (ds : List SlotChange). Each (λ n. IsOneOf n (list_numbers (lists_written ns l)) ⊎ IsOneOf (system_change (n, None)) ds) (list_numbers (lists_then l))) is (all_gone there l ns r.numbered r.marked r.small r.marked_small e.rising e.range unused catalog);
      unwritten = subst (Each (λ (d : SlotChange). IsOneOf d.id.number (unchanged_of l) → ⊥)) is (all_unwritten there l ns r.numbered r.marked r.small r.marked_small e.rising e.range unused catalog);
      count = e.count;
      rising = e.rising;
      range = e.range;
      unused = e.unused;
      least = e.least;
    }
