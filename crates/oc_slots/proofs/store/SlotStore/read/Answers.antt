use Rattle.std.proofs.Common.{◌≡◌, ◌∙◌, ℕ, ◌+◌, ◌*◌, ◌≤◌, List, [], Option, Some, sym, ap, subst, length, take, drop}
use Rattle.oc_layout.specs.Layout.{unit_of}
use Rattle.oc_slots.specs.Maps.{bytes_at, content}
use Rattle.oc_slots.specs.Stores.{Agrees, parts, place_on, map_on}
use Rattle.oc_slots.proofs.Fetches.{agrees_looks, agrees_bare, slot_lies}
use Rattle.oc_slots.proofs.KeptPlaces.{place_bare, map_at}
use Rattle.oc_slots.proofs.store.SlotStore.read.Goals as goal

pub read_bytes-requires : goal.read_bytes-requires
read_bytes-requires g c told =
    let s = c.self.inside in
    let d = g.H.Host.disk c.args.host.now in
    let cell = c.in-Some.cell in
    let there : place_on c.args.side (parts s.header s.pages s.overlay s.room s.len []) c.args.id ≡ Some cell = place_bare s.header s.pages s.overlay s.room s.len s.cache c.args.side c.args.id ∙ (λ i. place_on c.args.side (c.self.view_is i) c.args.id) ∙ sym c.place.ensures ∙ c.in-Some.is in
    subst (λ u. cell.at * u + cell.len ≤ length d.bytes) (sym c.unit.ensures)
    (slot_lies s.header s.pages s.overlay s.room s.len d (agrees_bare (parts s.header s.pages s.overlay s.room s.len s.cache) d (subst (λ v. Agrees v d) (sym c.self.view_is) (c.requires.agrees told))) c.args.side c.args.id cell there)

pub returns-in_err-bytes-in-Some-clause-agrees : goal.returns-in_err-bytes-in-Some-clause-agrees
returns-in_err-bytes-in-Some-clause-agrees g c told = agrees_looks c.args.self.now (g.H.Host.disk c.args.host.now) (g.H.Host.disk c.read_bytes.new.host) (c.read_bytes.ensures.looks told) (c.requires.agrees told)

pub returns-in_ok-bytes-in-Some-clause-agrees : goal.returns-in_ok-bytes-in-Some-clause-agrees
returns-in_ok-bytes-in-Some-clause-agrees g c told = agrees_looks c.args.self.now (g.H.Host.disk c.args.host.now) (g.H.Host.disk c.read_bytes.new.host) (c.read_bytes.ensures.looks told) (c.requires.agrees told)

pub returns-in_ok-bytes-in-Some-clause-value : goal.returns-in_ok-bytes-in-Some-clause-value
returns-in_ok-bytes-in-Some-clause-value g c told =
    let s = c.self.inside in
    let v = parts s.header s.pages s.overlay s.room s.len s.cache in
    let d = g.H.Host.disk c.args.host.now in
    let cell = c.in-Some.cell in
    let is : c.in_ok-bytes-in-Some.bytes.items ≡ bytes_at (unit_of s.header) d.bytes cell =
    c.in_ok-bytes-in-Some.ensures.ok told ∙ ap (λ u. take cell.len (drop (cell.at * u) d.bytes)) c.unit.ensures in
    let there : place_on c.args.side v c.args.id ≡ Some cell = (λ i. place_on c.args.side (c.self.view_is i) c.args.id) ∙ sym c.place.ensures ∙ c.in-Some.is in
    ap {B = Option (List ℕ)} (λ b. Some b) is ∙ ap (content (unit_of s.header) d.bytes) (sym there) ∙ sym (map_at c.args.side v d c.args.id) ∙ (λ i. map_on c.args.side (c.self.view_is i) d c.args.id)
