use Rattle.std.proofs.Common.{◌≡◌, ◌∙◌, ap, sym, subst, true, []}
use Rattle.std.specs.Prelude.{unwrap_or}
use Rattle.oc_model.specs.Lists.{IsOneOf}
use Rattle.oc_model.specs.Schemas.{Schema}
use Rattle.oc_chunks.specs.Chunks.{joined}
use Rattle.oc_slots.specs.declared.slot.Side.TheVariants.{Session}
use Rattle.oc_slots.specs.Stores.{session, Slots}
use Rattle.oc_slots.specs.Stores as slots
use Rattle.oc_lists.specs.Following.{reindexed, MayFollow}
use Rattle.oc_lists.specs.Lists.{lists_then, HasLists}
use Rattle.oc_store.specs.Filed.{class_on, Agrees, FiledStore, IsFiled, Shows}
use Rattle.oc_store.specs.Reindexing.{with_schema}
use Rattle.oc_store.specs.Sides.{Heading}
use Rattle.oc_store.specs.Stands.{object_slot}
use Rattle.oc_store.proofs.Fetched.{kept_agrees, kept_shows, read_as}
use Rattle.oc_store.proofs.Fresh.{fresh_store}
use Rattle.oc_store.proofs.Reschemed.{schema_filed, schema_shows, then_same}
use Rattle.oc_store.proofs.RolledBack.{parted_fresh, rolled_agrees, rolled_filed, rolled_shows, same_committed}
use Rattle.oc_store.proofs.store.Store.set_schema.Goals as goal

pub invariant_of-self : goal.invariant_of-self
invariant_of-self g c =
    let i = c.self.inside in
    let r = c.reindex-done.ensures in
    let t = c.give_up.new.slots in
    let e = c.give_up.ensures in
    let then : Heading = record { next = i.next; schema = i.schema } in
    let now : Heading = record { next = c.give_up.new.session.next; schema = unwrap_or c.give_up.new.session.schema i.schema } in
    let back : now ≡ then = λ j. record { next = e.next j; schema = unwrap_or (e.schema j) i.schema } in
    let pages : t.pages ≡ i.slots.pages = e.pages ∙ ap (λ (x : Slots). x.pages) r.same in
    let lists : c.give_up.new.indexes ≡ lists_then i.indexes = e.lists ∙ then_same i.indexes c.reindex-done.new.indexes r.extents r.marked in
    let rolled = rolled_filed i.slots t then (record { next = i.session.next; schema = unwrap_or i.session.schema i.schema }) i.indexes i.session.classes.entries c.self.invariant.0 pages e.objects e.system in (
      subst (IsFiled t then now c.give_up.new.indexes) (sym e.classes)
          (subst (λ l. IsFiled t then now l []) (sym lists) (subst (λ h. IsFiled t then h (lists_then i.indexes) []) (sym back) rolled)),
      λ is. parted_fresh t then i.indexes c.give_up.new.indexes c.give_up.new.session.next c.give_up.new.session.schema c.give_up.new.session.touched e.next e.schema lists e.touched e.objects e.system c.self.invariant.0.written,
    )

pub returns-in-Err-clause-agrees : goal.returns-in-Err-clause-agrees
returns-in-Err-clause-agrees g c told =
    let i = c.self.inside in
    let r = c.reindex-done.ensures in
    let t = c.give_up.new.slots in
    let e = c.give_up.ensures in
    let kept = c.reindex-done.new.slots.cached in
    let disk = g.H.Host.disk c.args.host.now in
    let after = g.H.Host.disk c.reindex-done.new.host in
    let then : Heading = record { next = i.next; schema = i.schema } in
    let now : Heading = record { next = i.session.next; schema = unwrap_or i.session.schema i.schema } in
    let old : FiledStore = record { slots = i.slots; committed = then; session = now; lists = i.indexes; touched = i.session.touched } in
    let mid : FiledStore = record { slots = record i.slots { cached = kept }; committed = then; session = now; lists = i.indexes; touched = i.session.touched } in
    let new : FiledStore = record { slots = t; committed = then; session = record { next = c.give_up.new.session.next; schema = unwrap_or c.give_up.new.session.schema i.schema }; lists = c.give_up.new.indexes; touched = c.give_up.new.session.touched } in
    let lists : c.give_up.new.indexes ≡ lists_then i.indexes = e.lists ∙ then_same i.indexes c.reindex-done.new.indexes r.extents r.marked in
    let back : new ≡ fresh_store t then (lists_then i.indexes) = λ j. record { slots = t; committed = then; session = record { next = e.next j; schema = unwrap_or (e.schema j) i.schema }; lists = lists j; touched = e.touched j } in
    let was : Agrees old disk = subst (λ x. Agrees x disk) (sym c.self.view_is) (c.requires.agrees told) in
    let same : Agrees mid after = kept_agrees old kept disk after (r.looks told).bytes was (subst (λ x. slots.Agrees x after) r.same (r.agrees told)) in
    subst (λ x. Agrees x after) (sym back) (rolled_agrees mid t after after (e.header ∙ ap (λ (x : Slots). x.header) r.same) (same_committed mid.slots t after (e.header ∙ ap (λ (x : Slots). x.header) r.same) (e.pages ∙ ap (λ (x : Slots). x.pages) r.same)) same (e.agrees after (r.agrees told)))

pub returns-in-Err-clause-still : goal.returns-in-Err-clause-still
returns-in-Err-clause-still g c told k s shows =
    let i = c.self.inside in
    let r = c.reindex-done.ensures in
    let t = c.give_up.new.slots in
    let e = c.give_up.ensures in
    let kept = c.reindex-done.new.slots.cached in
    let disk = g.H.Host.disk c.args.host.now in
    let after = g.H.Host.disk c.reindex-done.new.host in
    let then : Heading = record { next = i.next; schema = i.schema } in
    let now : Heading = record { next = i.session.next; schema = unwrap_or i.session.schema i.schema } in
    let old : FiledStore = record { slots = i.slots; committed = then; session = now; lists = i.indexes; touched = i.session.touched } in
    let mid : FiledStore = record { slots = record i.slots { cached = kept }; committed = then; session = now; lists = i.indexes; touched = i.session.touched } in
    let new : FiledStore = record { slots = t; committed = then; session = record { next = c.give_up.new.session.next; schema = unwrap_or c.give_up.new.session.schema i.schema }; lists = c.give_up.new.indexes; touched = c.give_up.new.session.touched } in
    let lists : c.give_up.new.indexes ≡ lists_then i.indexes = e.lists ∙ then_same i.indexes c.reindex-done.new.indexes r.extents r.marked in
    let back : new ≡ fresh_store t then (lists_then i.indexes) = λ j. record { slots = t; committed = then; session = record { next = e.next j; schema = unwrap_or (e.schema j) i.schema }; lists = lists j; touched = e.touched j } in
    let was : Shows old disk k s = subst (λ x. Shows x disk k s) (sym c.self.view_is) shows in
    let same : Shows mid after k s = kept_shows old kept disk after (r.looks told).bytes k s was in
    subst (λ x. Shows x after k k) (sym back) (rolled_shows mid t after after (e.header ∙ ap (λ (x : Slots). x.header) r.same) (same_committed mid.slots t after (e.header ∙ ap (λ (x : Slots). x.header) r.same) (e.pages ∙ ap (λ (x : Slots). x.pages) r.same)) e.objects e.system k s same)

pub returns-in-Err-clause-damaged : goal.returns-in-Err-clause-damaged
returns-in-Err-clause-damaged g c space n is =
    let i = c.self.inside in
    let v = c.self.view_is in
    let disk = g.H.Host.disk c.args.host.now in
    let schema : c.schema_on-old.result.now ≡ (c.args.self.now.session).schema = c.schema_on-old.ensures ∙ ap (λ (x : FiledStore). (x.session).schema) v in
    let lists : i.indexes ≡ c.args.self.now.lists = ap (λ (x : FiledStore). x.lists) v in
    let r = c.reindex-done.ensures.damaged space n (c.in-Err.is ∙ is) in (
      r.0,
      subst (IsOneOf n) (λ j. reindexed (schema j) c.args.schema (joined ((lists j).extents).chunks)) r.1,
      λ told found read.
          r.2 told found
          (read_as _ _ (sym schema) _ _ (ap (λ (x : FiledStore). class_on Session x n) (sym v)) _ _ (ap (λ (x : FiledStore). session x.slots disk (object_slot n)) (sym v)) found read),
    )

pub invariant_of-self-2 : goal.invariant_of-self-2
invariant_of-self-2 g c =
    let i = c.self.inside in
    let r = c.reindex-done.ensures in
    let m = c.reindex-done.new.indexes in
    let then : Heading = record { next = i.next; schema = i.schema } in
    let now : Heading = record { next = i.session.next; schema = unwrap_or i.session.schema i.schema } in
    let after : Heading = record { next = i.session.next; schema = c.args.schema } in (
      subst (λ s. IsFiled s then after m i.session.classes.entries) (sym r.same)
          (schema_filed i.indexes m r.extents r.marked i.slots c.reindex-done.new.slots.cached then now i.session.classes.entries c.args.schema c.self.invariant.0 c.in_default.ensures.lists c.in_default.ensures.kept c.in_default.ensures.numbered),
      λ is. absurd cc,
    )

pub returns-clause-shows : goal.returns-clause-shows
returns-clause-shows g c told k s shows =
    let i = c.self.inside in
    let r = c.reindex-done.ensures in
    let m = c.reindex-done.new.indexes in
    let disk = g.H.Host.disk c.args.host.now in
    let after = g.H.Host.disk c.reindex-done.new.host in
    let then : Heading = record { next = i.next; schema = i.schema } in
    let now : Heading = record { next = i.session.next; schema = unwrap_or i.session.schema i.schema } in
    let old : FiledStore = record { slots = i.slots; committed = then; session = now; lists = i.indexes; touched = i.session.touched } in
    let was : Shows old disk k s = subst (λ x. Shows x disk k s) (sym c.self.view_is) shows in
    let its = was.session in
    let may : MayFollow now.schema c.args.schema = subst (λ (x : Schema). MayFollow x c.args.schema) (sym (ap (λ (x : FiledStore). (x.session).schema) c.self.view_is)) c.requires.follows in
    let lists : HasLists m (with_schema c.args.schema s) = c.in_default.ensures.has told s (sym its.heading.schema ∙ sym c.schema_on-old.ensures) its.keeps its.objects its.lists in
    subst (λ t. Shows (record { slots = t; committed = then; session = record { next = i.session.next; schema = c.args.schema }; lists = m; touched = true }) after k (with_schema c.args.schema s)) (sym r.same)
    (schema_shows old c.reindex-done.new.slots.cached disk after (r.looks told).bytes m r.extents r.marked c.args.schema may k s was lists)
