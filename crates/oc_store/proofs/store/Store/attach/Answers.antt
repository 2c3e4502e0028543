use Rattle.std.proofs.Common.{◌≡◌, ◌∙◌, Err, length, refl, sym, subst, ap}
use Rattle.oc_model.specs.Stores.{empty_store}
use Rattle.oc_slots.specs.Attaching.{open_len, IsMade}
use Rattle.oc_slots.specs.Held.{map_of}
use Rattle.oc_slots.specs.Stores.{Slots}
use Rattle.oc_store.specs.Filed.{Agrees, FiledStore, Shows}
use Rattle.oc_store.specs.Outlines.{IsDamaged, IsOutline}
use Rattle.oc_store.specs.Sides.{Heading}
use Rattle.oc_store.specs.Stands.{Spells}
use Rattle.oc_store.proofs.Fresh.{first_small, fresh_agrees, fresh_filed, fresh_shows, fresh_store, given_damaged, given_no_container, given_slots, made_shows, then_looks}
use Rattle.oc_host.proofs.Moments.{weaken}
use Rattle.oc_store.specs.Stops.{StillStands}
use Rattle.oc_store.proofs.OneStore.{same_maps}
use Rattle.oc_store.proofs.Standing.{may_stand}
use Rattle.oc_store.proofs.Undamaged.{undamaged}
use Rattle.oc_store.proofs.Taken.{taken_all, taken_form, taken_new, taken_one}
use Rattle.oc_store.proofs.store.Store.attach.Goals as goal

pub returns-in_err-slots-clause-no_map : goal.returns-in_err-slots-clause-no_map
returns-in_err-slots-clause-no_map g c is told m gives =
    let fault = given_slots c.from_residual.result c.in_err-slots.field-0.0 c.from_residual.ensures.1 is in
    c.attach.ensures.no_map (c.in_err-slots.was ∙ ap Err fault) told m gives

pub returns-in_err-outline-clause-damaged : goal.returns-in_err-outline-clause-damaged
returns-in_err-outline-clause-damaged g c space n is =
    let fault = given_damaged c.from_residual-in_err-outline.result c.in_err-outline.field-0.0 space n c.from_residual-in_err-outline.ensures.1 is in
    let r = c.read_outline.ensures.damaged space n (c.in_err-outline.was ∙ ap Err fault) in
    (r.0, λ told m gives. subst (λ x. IsDamaged x n) (same_maps _ m (c.in_ok-slots.ensures.gives told m gives)) (r.1 told))

pub returns-in_err-outline-clause-sound : goal.returns-in_err-outline-clause-sound
returns-in_err-outline-clause-sound g c space n is told s stands =
    let from = stands.from in
    let fault = given_damaged c.from_residual-in_err-outline.result c.in_err-outline.field-0.0 space n c.from_residual-in_err-outline.ensures.1 is in
    let r = c.read_outline.ensures.damaged space n (c.in_err-outline.was ∙ ap Err fault) in
    undamaged stands.first from.slots s from.spells n (subst (λ x. IsDamaged x n) (same_maps _ from.slots (c.in_ok-slots.ensures.gives told from.slots from.gives)) (r.1 told))

pub returns-in_err-outline-clause-no_map : goal.returns-in_err-outline-clause-no_map
returns-in_err-outline-clause-no_map g c is = absurd (given_no_container c.from_residual-in_err-outline.result c.in_err-outline.field-0.0 c.from_residual-in_err-outline.ensures.1 is)

pub returns-in_err-outline-clause-not_made : goal.returns-in_err-outline-clause-not_made
returns-in_err-outline-clause-not_made g c is = absurd (given_no_container c.from_residual-in_err-outline.result c.in_err-outline.field-0.0 c.from_residual-in_err-outline.ensures.1 is)

pub returns-in_err-outline-clause-unwritten : goal.returns-in_err-outline-clause-unwritten
returns-in_err-outline-clause-unwritten g c is = absurd (given_no_container c.from_residual-in_err-outline.result c.in_err-outline.field-0.0 c.from_residual-in_err-outline.ensures.1 is)

pub returns-in_err-outline-clause-any_moment : goal.returns-in_err-outline-clause-any_moment
returns-in_err-outline-clause-any_moment g c told = then_looks _ _ _ _ (c.in_ok-slots.ensures.any_moment told) (c.read_outline.ensures.looks told)

pub opened-requires-clause-filed : goal.opened-requires-clause-filed
opened-requires-clause-filed g c =
    let o = c.in_ok-outline.outline in
    fresh_filed c.in_ok-slots.slots (record { next = o.next; schema = o.schema }) o.indexes c.in_ok-slots.ensures.objects c.in_ok-slots.ensures.system c.in_ok-outline.ensures.side c.in_ok-outline.ensures.written c.in_ok-outline.ensures.marked

pub opened-requires-clause-fresh : goal.opened-requires-clause-fresh
opened-requires-clause-fresh g c = record { untouched = refl; objects = c.in_ok-slots.ensures.objects; system = c.in_ok-slots.ensures.system; heading = refl; lists = c.in_ok-outline.ensures.marked }

pub returns-clause-agrees : goal.returns-clause-agrees
returns-clause-agrees g c told =
    let s = c.in_ok-slots.slots in
    let o = c.in_ok-outline.outline in
    let h : Heading = record { next = o.next; schema = o.schema } in
    let e = c.opened.ensures in
    let whole : c.opened.result ≡ fresh_store s h o.indexes = λ i. record { slots = e.slots i; committed = e.committed i; session = e.session i; lists = e.lists i; touched = e.touched i } in
    let outline = subst (λ b. IsOutline (s.header).first (map_of s.header s.pages b) o.next o.schema o.indexes) (sym (c.in_ok-outline.ensures.looks told).bytes) (c.in_ok-outline.ensures.outline told) in
    subst (λ (v : FiledStore). Agrees v (g.H.Host.disk c.read_outline.new.host)) (sym whole) (fresh_agrees s (g.H.Host.disk c.read_outline.new.host) h o.indexes outline c.in_ok-outline.ensures.marked (c.in_ok-outline.ensures.agrees told))

pub returns-clause-stands : goal.returns-clause-stands
returns-clause-stands g c told t stands =
    let from = stands.from in
    let s = c.in_ok-slots.slots in
    let o = c.in_ok-outline.outline in
    let h : Heading = record { next = o.next; schema = o.schema } in
    let e = c.opened.ensures in
    let whole : c.opened.result ≡ fresh_store s h o.indexes = λ i. record { slots = e.slots i; committed = e.committed i; session = e.session i; lists = e.lists i; touched = e.touched i } in
    let outline = subst (λ b. IsOutline (s.header).first (map_of s.header s.pages b) o.next o.schema o.indexes) (sym (c.in_ok-outline.ensures.looks told).bytes) (c.in_ok-outline.ensures.outline told) in
    let spelled = subst (λ x. Spells (s.header).first x t) (sym (same_maps _ from.slots (c.in_ok-slots.ensures.gives told from.slots from.gives))) (subst (λ n. Spells n from.slots t) (sym (c.in_ok-slots.ensures.first told stands.first from.slots (record { gives = from.gives; is_first = stands.is_first }))) from.spells) in
    let now = subst (λ b. Spells (s.header).first (map_of s.header s.pages b) t) (sym (c.in_ok-outline.ensures.looks told).bytes) spelled in
    subst (λ (v : FiledStore). Shows v (g.H.Host.disk c.read_outline.new.host) t t) (sym whole) (fresh_shows s (g.H.Host.disk c.read_outline.new.host) h o.indexes outline c.in_ok-outline.ensures.marked c.in_ok-slots.ensures.objects c.in_ok-slots.ensures.system t now)

pub returns-clause-made : goal.returns-clause-made
returns-clause-made g c told may =
    let s = c.in_ok-slots.slots in
    let o = c.in_ok-outline.outline in
    let h : Heading = record { next = o.next; schema = o.schema } in
    let e = c.opened.ensures in
    let whole : c.opened.result ≡ fresh_store s h o.indexes = λ i. record { slots = e.slots i; committed = e.committed i; session = e.session i; lists = e.lists i; touched = e.touched i } in
    let outline = subst (λ b. IsOutline (s.header).first (map_of s.header s.pages b) o.next o.schema o.indexes) (sym (c.in_ok-outline.ensures.looks told).bytes) (c.in_ok-outline.ensures.outline told) in
    let made = c.in_ok-slots.ensures.made told may in
    let here : IsMade c.args.making.now s (g.H.Host.disk c.read_outline.new.host) = record { header = made.header; pages = made.pages; len = ap length (c.in_ok-outline.ensures.looks told).bytes ∙ made.len } in
    let first = c.requires.making.first in (
      ap (λ (y : Slots). y.header) e.slots ∙ made.header,
      subst (λ (v : FiledStore). Shows v (g.H.Host.disk c.read_outline.new.host) (empty_store c.args.making.now.first) (empty_store c.args.making.now.first)) (sym whole)
          (made_shows s (g.H.Host.disk c.read_outline.new.host) h o.indexes c.args.making.now here c.in_ok-slots.ensures.objects c.in_ok-slots.ensures.system c.in_ok-outline.ensures.marked outline (c.empty_store_keeps_rules.ensures _ first.0 (first_small _ first.1))),
    )

pub returns-clause-any_moment : goal.returns-clause-any_moment
returns-clause-any_moment g c told = then_looks _ _ _ _ (c.in_ok-slots.ensures.any_moment told) (c.read_outline.ensures.looks told)

pub returns-in_err-outline-clause-taken : goal.returns-in_err-outline-clause-taken
returns-in_err-outline-clause-taken g c told m gives catalog there =
    let s = c.in_ok-slots.slots in
    taken_all s (g.H.Host.disk c.attach.new.host) (c.in_ok-slots.ensures.agrees told) m (same_maps _ m (c.in_ok-slots.ensures.gives told m gives)) (g.H.Host.taken c.args.host.now) _ (g.H.Host.taken c.attach.new.host) (g.H.Host.taken c.read_outline.new.host)
    (taken_form (g.H.Host.taken c.args.host.now) (length gives.pages) (open_len gives.header) (g.H.Host.taken c.attach.new.host) (c.in_ok-slots.ensures.taken told gives.header gives.writes gives.pages gives.form)) catalog there (c.read_outline.ensures.taken told)

pub returns-in_err-outline-clause-taken_alone : goal.returns-in_err-outline-clause-taken_alone
returns-in_err-outline-clause-taken_alone g c told m gives none =
    let s = c.in_ok-slots.slots in
    taken_one s (g.H.Host.disk c.attach.new.host) (c.in_ok-slots.ensures.agrees told) m (same_maps _ m (c.in_ok-slots.ensures.gives told m gives)) (g.H.Host.taken c.args.host.now) _ (g.H.Host.taken c.attach.new.host) (g.H.Host.taken c.read_outline.new.host)
    (taken_form (g.H.Host.taken c.args.host.now) (length gives.pages) (open_len gives.header) (g.H.Host.taken c.attach.new.host) (c.in_ok-slots.ensures.taken told gives.header gives.writes gives.pages gives.form)) none (c.read_outline.ensures.taken_alone told)

pub returns-in_err-outline-clause-taken_made : goal.returns-in_err-outline-clause-taken_made
returns-in_err-outline-clause-taken_made g c told may =
    let s = c.in_ok-slots.slots in
    taken_new s (g.H.Host.disk c.attach.new.host) (c.in_ok-slots.ensures.made told may).pages (g.H.Host.taken c.args.host.now) (g.H.Host.taken c.attach.new.host) (g.H.Host.taken c.read_outline.new.host) (c.in_ok-slots.ensures.taken_made told may) (c.read_outline.ensures.taken_alone told)

pub returns-clause-taken : goal.returns-clause-taken
returns-clause-taken g c told m gives catalog there =
    let s = c.in_ok-slots.slots in
    taken_all s (g.H.Host.disk c.attach.new.host) (c.in_ok-slots.ensures.agrees told) m (same_maps _ m (c.in_ok-slots.ensures.gives told m gives)) (g.H.Host.taken c.args.host.now) _ (g.H.Host.taken c.attach.new.host) (g.H.Host.taken c.read_outline.new.host)
    (taken_form (g.H.Host.taken c.args.host.now) (length gives.pages) (open_len gives.header) (g.H.Host.taken c.attach.new.host) (c.in_ok-slots.ensures.taken told gives.header gives.writes gives.pages gives.form)) catalog there (c.read_outline.ensures.taken told)

pub returns-clause-taken_alone : goal.returns-clause-taken_alone
returns-clause-taken_alone g c told m gives none =
    let s = c.in_ok-slots.slots in
    taken_one s (g.H.Host.disk c.attach.new.host) (c.in_ok-slots.ensures.agrees told) m (same_maps _ m (c.in_ok-slots.ensures.gives told m gives)) (g.H.Host.taken c.args.host.now) _ (g.H.Host.taken c.attach.new.host) (g.H.Host.taken c.read_outline.new.host)
    (taken_form (g.H.Host.taken c.args.host.now) (length gives.pages) (open_len gives.header) (g.H.Host.taken c.attach.new.host) (c.in_ok-slots.ensures.taken told gives.header gives.writes gives.pages gives.form)) none (c.read_outline.ensures.taken_alone told)

pub returns-clause-taken_made : goal.returns-clause-taken_made
returns-clause-taken_made g c told may =
    let s = c.in_ok-slots.slots in
    taken_new s (g.H.Host.disk c.attach.new.host) (c.in_ok-slots.ensures.made told may).pages (g.H.Host.taken c.args.host.now) (g.H.Host.taken c.attach.new.host) (g.H.Host.taken c.read_outline.new.host) (c.in_ok-slots.ensures.taken_made told may) (c.read_outline.ensures.taken_alone told)

pub returns-in_err-slots-clause-still : goal.returns-in_err-slots-clause-still
returns-in_err-slots-clause-still g c told s stands = weaken _ _ _ _ (c.attach.ensures.any_moment told) (may_stand c.args.making.now.anew (g.H.Host.disk c.args.host.now) s stands)

pub returns-in_err-outline-clause-still : goal.returns-in_err-outline-clause-still
returns-in_err-outline-clause-still g c told s stands =
    then_looks _ _ _ _ (weaken _ _ (StillStands s (g.H.Host.disk c.args.host.now)) _ (c.in_ok-slots.ensures.any_moment told) (may_stand c.args.making.now.anew (g.H.Host.disk c.args.host.now) s stands)) (c.read_outline.ensures.looks told)

pub returns-clause-still : goal.returns-clause-still
returns-clause-still g c told s stands =
    then_looks _ _ _ _ (weaken _ _ (StillStands s (g.H.Host.disk c.args.host.now)) _ (c.in_ok-slots.ensures.any_moment told) (may_stand c.args.making.now.anew (g.H.Host.disk c.args.host.now) s stands)) (c.read_outline.ensures.looks told)
