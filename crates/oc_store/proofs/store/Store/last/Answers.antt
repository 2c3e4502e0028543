use Rattle.std.proofs.Common.{◌≡◌, inr, sym, subst, ℕ, List, [], map}
use Rattle.std.specs.Prelude.{unwrap_or}
use Rattle.oc_model.specs.Schemas.{Schema}
use Rattle.oc_catalog.specs.Catalogs.{SpellsCatalog}
use Rattle.oc_slots.specs.Maps.{changed}
use Rattle.oc_store.specs.Committing.{IsLast}
use Rattle.oc_store.specs.Filed.{FiledStore, IsFiled}
use Rattle.oc_store.specs.Last.{last_changes, lists_written, system_change}
use Rattle.oc_store.specs.Outlines.{named_lists, IsOutline}
use Rattle.oc_store.specs.Sides.{Heading}
use Rattle.oc_store.proofs.CommittedSides.{idle_last}
use Rattle.oc_store.proofs.store.Store.last.Goals as goal

pub returns-then-is_idle-clause-is : goal.returns-then-is_idle-clause-is
returns-then-is_idle-clause-is c =
    let v = c.args.self.now in
    let classes = c.self.inside.session.classes.entries in
    let filed = subst (λ (x : FiledStore). IsFiled x.slots x.committed x.session x.lists classes) c.self.view_is c.self.invariant.0 in
    subst (IsLast v c.no_last.result.changes.items) (sym c.no_last.ensures.numbers)
    (subst (λ cs. IsLast v cs []) (sym c.no_last.ensures.changes) (idle_last v classes filed c.if-is_idle.ensures.heading c.if-is_idle.ensures.lists))

pub returns-clause-is : goal.returns-clause-is
returns-clause-is c =
    let i = c.self.inside in
    let e = c.in_ok-last.ensures in
    let cs = c.in_ok-last.last.changes.items in
    let ns = c.in_ok-last.last.numbers.items in
    let then : Heading = record { next = i.next; schema = i.schema } in
    let now : Heading = record { next = i.session.next; schema = unwrap_or i.session.schema i.schema } in
    let old : FiledStore = record { slots = i.slots; committed = then; session = now; lists = i.indexes; touched = i.session.touched } in
    let made = subst (λ (s : Schema). (catalog : List ℕ) × SpellsCatalog (record { next = i.session.next; schema = s; lists = named_lists (lists_written ns i.indexes) }) catalog × (cs ≡ map system_change (last_changes ns i.indexes catalog))) c.schema_on-schema.ensures e.made in
    let is : IsLast old cs ns = record {
      are = inr made;
      changes = e.changes;
      system = e.system;
      outline = λ first m o. subst (λ (s : Schema). IsOutline first (changed cs m) i.session.next s (lists_written ns i.indexes)) c.schema_on-schema.ensures (e.outline first m then o);
      numbered = e.numbered;
      small = e.small;
      count = e.count;
      rising = e.rising;
      range = e.range;
      unused = e.unused;
      least = e.least;
    } in
    subst (λ (x : FiledStore). IsLast x cs ns) c.self.view_is is
