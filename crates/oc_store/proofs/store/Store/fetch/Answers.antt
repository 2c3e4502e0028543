use Rattle.std.proofs.Common.{◌≡◌, ◌∙◌, ap, sym, subst}
use Rattle.std.specs.Prelude.{is_some, unwrap_or}
use Rattle.std.proofs.lemmas.Result.{IfOk-weaker}
use Rattle.oc_slots.specs.Stores.{map_on, place_on, Slots}
use Rattle.oc_store.specs.Filed.{heading_on, FiledStore, IsFiled, Shows}
use Rattle.oc_store.specs.Sides.{Heading}
use Rattle.oc_store.specs.Stands.{object_slot}
use Rattle.oc_store.proofs.Fetched.{filed_cached, has_class, kept_shows, read_as, read_record, schema_of_side}
use Rattle.oc_store.proofs.Fresh.{still_fresh}
use Rattle.oc_store.proofs.store.Store.fetch.Goals as goal

pub invariant_of-self : goal.invariant_of-self
invariant_of-self g c =
    let i = c.self.inside in
    let then : Heading = record { next = i.next; schema = i.schema } in
    let now : Heading = record { next = i.session.next; schema = unwrap_or i.session.schema i.schema } in
    let old : FiledStore = record { slots = i.slots; committed = then; session = now; lists = i.indexes; touched = i.session.touched } in
    let same = c.fetch_record.ensures.same in (
      subst (λ s. IsFiled s then now i.indexes i.session.classes.entries) (sym same) (filed_cached i.slots then now i.indexes i.session.classes.entries c.fetch_record.new.slots.cached c.self.invariant.0),
      still_fresh old c.fetch_record.new.slots (ap (λ (x : Slots). x.objects) same) (ap (λ (x : Slots). x.system) same) c.self.invariant.1,
    )

pub returns-clause-read : goal.returns-clause-read
returns-clause-read g c =
    let i = c.self.inside in
    let then : Heading = record { next = i.next; schema = i.schema } in
    let now : Heading = record { next = i.session.next; schema = unwrap_or i.session.schema i.schema } in
    let side = c.args.side in
    let disk = g.H.Host.disk c.args.host.now in
    IfOk-weaker c.fetch_record.result _ _ (λ found read told.
    read_as _ _ (c.schema_on-schema.ensures ∙ schema_of_side side then now ∙ ap (λ (x : FiledStore). (heading_on side x).schema) c.self.view_is) _ _ c.class_of-class.ensures.class _ _ (ap (λ (x : FiledStore). map_on side x.slots disk (object_slot c.args.number)) c.self.view_is) found (read told)) c.fetch_record.ensures.read

pub returns-clause-record : goal.returns-clause-record
returns-clause-record g c =
    let side = c.args.side in
    let disk = g.H.Host.disk c.args.host.now in
    IfOk-weaker c.fetch_record.result _ _ (λ found read told k s shows.
    read_record c.args.self.now disk k s shows side c.args.number _ _ found
    (read_as _ _ (λ i. c.schema_on-schema.result.now) _ _ (λ i. c.class_of-class.result) _ _ (ap (λ (x : FiledStore). map_on side x.slots disk (object_slot c.args.number)) c.self.view_is) found (read told))) c.fetch_record.ensures.read

pub returns-clause-none : goal.returns-clause-none
returns-clause-none g c =
    let i = c.self.inside in
    let then : Heading = record { next = i.next; schema = i.schema } in
    let now : Heading = record { next = i.session.next; schema = unwrap_or i.session.schema i.schema } in
    let v = c.self.view_is in
    IfOk-weaker c.fetch_record.result _ _ (λ found there.
    there ∙ has_class i.slots then now i.indexes i.session.classes.entries c.self.invariant.0 c.args.side c.args.number c.args.self.now (ap (λ (x : FiledStore). x.slots) (sym v)) (ap (λ (x : FiledStore). x.lists) (sym v))) c.fetch_record.ensures.there

pub returns-clause-damaged : goal.returns-clause-damaged
returns-clause-damaged g c space n is =
    let i = c.self.inside in
    let then : Heading = record { next = i.next; schema = i.schema } in
    let now : Heading = record { next = i.session.next; schema = unwrap_or i.session.schema i.schema } in
    let side = c.args.side in
    let disk = g.H.Host.disk c.args.host.now in
    let r = c.fetch_record.ensures.damaged space n is in (
      r.0,
      r.1,
      λ told found read.
          r.2 told found
          (read_as _ _ (sym (c.schema_on-schema.ensures ∙ schema_of_side side then now ∙ ap (λ (x : FiledStore). (heading_on side x).schema) c.self.view_is)) _ _ (sym c.class_of-class.ensures.class) _ _ (sym (ap (λ (x : FiledStore). map_on side x.slots disk (object_slot c.args.number)) c.self.view_is)) found read),
    )

pub returns-clause-shows : goal.returns-clause-shows
returns-clause-shows g c told k s shows =
    let i = c.self.inside in
    let then : Heading = record { next = i.next; schema = i.schema } in
    let now : Heading = record { next = i.session.next; schema = unwrap_or i.session.schema i.schema } in
    let old : FiledStore = record { slots = i.slots; committed = then; session = now; lists = i.indexes; touched = i.session.touched } in
    let disk = g.H.Host.disk c.args.host.now in
    let after = g.H.Host.disk c.fetch_record.new.host in
    let was : Shows old disk k s = subst (λ x. Shows x disk k s) (sym c.self.view_is) shows in
    subst (λ t. Shows (record { slots = t; committed = then; session = now; lists = i.indexes; touched = i.session.touched }) after k s) (sym c.fetch_record.ensures.same) (kept_shows old c.fetch_record.new.slots.cached disk after (c.fetch_record.ensures.looks told).bytes k s was)
