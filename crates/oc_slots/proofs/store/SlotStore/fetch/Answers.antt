use Rattle.std.proofs.Common.{◌≡◌, ◌∙◌, ℕ, ◌+◌, ◌*◌, ◌≤◌, List, [], Option, Some, sym, ap, subst, length, take, drop}
use Rattle.std.specs.Prelude.{Contains, IfSome, unwrap_or}
use Rattle.std.specs.Map.{keys_of, lookup}
use Rattle.oc_layout.specs.Layout.{unit_of}
use Rattle.oc_slots.specs.Maps.{bytes_at, content}
use Rattle.oc_slots.specs.Cached.{Cached, is_cell, first_of}
use Rattle.oc_slots.specs.Stores.{Slots, Agrees, AreRead, ArePlaces, IsPlace, parts, place_on, map_on, kept}
use Rattle.oc_slots.proofs.Fetches.{agrees_looks, agrees_bare, agrees_with, slot_lies}
use Rattle.oc_slots.proofs.Forgotten.{keys_first, found_key, all_first, read_there}
use Rattle.oc_slots.proofs.KeptPlaces.{place_bare, map_at}
use Rattle.oc_slots.proofs.store.SlotStore.fetch.Goals as goal

pub bytes_at-requires : goal.bytes_at-requires
bytes_at-requires g c told =
    let s = c.self.inside in
    let d = g.H.Host.disk c.args.host.now in
    let cell = c.in-Some.cell in
    let there : place_on c.args.side (parts s.header s.pages s.overlay s.room s.len []) c.args.id ≡ Some cell = place_bare s.header s.pages s.overlay s.room s.len s.cache c.args.side c.args.id ∙ (λ i. place_on c.args.side (c.self.view_is i) c.args.id) ∙ sym c.place.ensures ∙ c.in-Some.is in
    subst (λ u. cell.at * u + cell.len ≤ length d.bytes) (sym c.unit.ensures)
    (slot_lies s.header s.pages s.overlay s.room s.len d (agrees_bare (parts s.header s.pages s.overlay s.room s.len s.cache) d (subst (λ v. Agrees v d) (sym c.self.view_is) (c.requires.agrees told))) c.args.side c.args.id cell there)

pub invariant_of-self : goal.invariant_of-self
invariant_of-self g c =
    let s = c.self.inside in
    (c.self.invariant.0, subst (ArePlaces (parts s.header s.pages s.overlay s.room s.len [])) (sym c.in_err-bytes-in-Some.ensures.fault) c.self.invariant.1)

pub invariant_of-self-in-Some : goal.invariant_of-self-in-Some
invariant_of-self-in-Some g c =
    let s = c.self.inside in
    let v = parts s.header s.pages s.overlay s.room s.len [] in
    let cell = c.in-Some.cell in
    let there : place_on c.args.side v c.args.id ≡ Some cell = place_bare s.header s.pages s.overlay s.room s.len s.cache c.args.side c.args.id ∙ (λ i. place_on c.args.side (c.self.view_is i) c.args.id) ∙ sym c.place.ensures ∙ c.in-Some.is in
    (c.self.invariant.0, subst (ArePlaces v) (sym c.in_ok-bytes-in-Some.ensures.first) (all_first (λ e. IsPlace v e.0) cell c.in_ok-bytes-in-Some.bytes.items s.cache (c.args.side, (c.args.id, there)) c.self.invariant.1))

pub returns-in_err-bytes-in-Some-clause-agrees : goal.returns-in_err-bytes-in-Some-clause-agrees
returns-in_err-bytes-in-Some-clause-agrees g c told =
    let s = c.self.inside in
    let v = parts s.header s.pages s.overlay s.room s.len s.cache in
    let d = g.H.Host.disk c.args.host.now in
    let e = g.H.Host.disk c.bytes_at.new.host in
    let now = agrees_looks v d e (c.bytes_at.ensures.looks told) (subst (λ x. Agrees x d) (sym c.self.view_is) (c.requires.agrees told)) in
    agrees_with v e c.bytes_at.new.cache now (subst (AreRead (unit_of s.header) e.bytes) (sym c.in_err-bytes-in-Some.ensures.fault) now.cached)

pub returns-in_ok-bytes-in-Some-clause-agrees : goal.returns-in_ok-bytes-in-Some-clause-agrees
returns-in_ok-bytes-in-Some-clause-agrees g c told =
    let s = c.self.inside in
    let v = parts s.header s.pages s.overlay s.room s.len s.cache in
    let d = g.H.Host.disk c.args.host.now in
    let e = g.H.Host.disk c.bytes_at.new.host in
    let cell = c.in-Some.cell in
    let looks = c.bytes_at.ensures.looks told in
    let old : Agrees v d = subst (λ x. Agrees x d) (sym c.self.view_is) (c.requires.agrees told) in
    let now = agrees_looks v d e looks old in
    let is : c.in_ok-bytes-in-Some.bytes.items ≡ bytes_at (unit_of s.header) d.bytes cell =
    c.in_ok-bytes-in-Some.ensures.value told ∙ ap (λ u. unwrap_or (lookup (is_cell cell) s.cache) (take cell.len (drop (cell.at * u) d.bytes))) c.unit.ensures
    ∙ read_there (unit_of s.header) d.bytes cell s.cache old.cached in
    agrees_with v e c.bytes_at.new.cache now
    (subst (AreRead (unit_of s.header) e.bytes) (sym c.in_ok-bytes-in-Some.ensures.first)
    (all_first (λ x. x.1 ≡ bytes_at (unit_of s.header) e.bytes x.0) cell c.in_ok-bytes-in-Some.bytes.items s.cache (is ∙ ap (λ b. bytes_at (unit_of s.header) b cell) (sym looks.bytes)) now.cached))

pub returns-in_ok-bytes-in-Some-clause-value : goal.returns-in_ok-bytes-in-Some-clause-value
returns-in_ok-bytes-in-Some-clause-value g c told =
    let s = c.self.inside in
    let v = parts s.header s.pages s.overlay s.room s.len s.cache in
    let d = g.H.Host.disk c.args.host.now in
    let cell = c.in-Some.cell in
    let old : Agrees v d = subst (λ x. Agrees x d) (sym c.self.view_is) (c.requires.agrees told) in
    let is : c.in_ok-bytes-in-Some.bytes.items ≡ bytes_at (unit_of s.header) d.bytes cell =
    c.in_ok-bytes-in-Some.ensures.value told ∙ ap (λ u. unwrap_or (lookup (is_cell cell) s.cache) (take cell.len (drop (cell.at * u) d.bytes))) c.unit.ensures
    ∙ read_there (unit_of s.header) d.bytes cell s.cache old.cached in
    let there : place_on c.args.side v c.args.id ≡ Some cell = (λ i. place_on c.args.side (c.self.view_is i) c.args.id) ∙ sym c.place.ensures ∙ c.in-Some.is in
    ap {B = Option (List ℕ)} (λ b. Some b) is ∙ ap (content (unit_of s.header) d.bytes) (sym there) ∙ sym (map_at c.args.side v d c.args.id) ∙ (λ i. map_on c.args.side (c.self.view_is i) d c.args.id)

pub returns-in_ok-bytes-in-Some-clause-first : goal.returns-in_ok-bytes-in-Some-clause-first
returns-in_ok-bytes-in-Some-clause-first g c =
    let s = c.self.inside in
    let cell = c.in-Some.cell in
    let there : place_on c.args.side c.args.self.now c.args.id ≡ Some cell = sym c.place.ensures ∙ c.in-Some.is in
    let now : keys_of c.bytes_at.new.cache ≡ first_of cell (kept c.args.self.now) =
    ap (λ (es : Cached). keys_of es) c.in_ok-bytes-in-Some.ensures.first ∙ keys_first cell c.in_ok-bytes-in-Some.bytes.items s.cache ∙ (λ i. first_of cell (kept (c.self.view_is i))) in
    subst (λ o. IfSome o (λ x. keys_of c.bytes_at.new.cache ≡ first_of x (kept c.args.self.now))) (sym there) now

pub returns-in_ok-bytes-in-Some-clause-unread : goal.returns-in_ok-bytes-in-Some-clause-unread
returns-in_ok-bytes-in-Some-clause-unread g c =
    let cell = c.in-Some.cell in
    let there : place_on c.args.side c.args.self.now c.args.id ≡ Some cell = sym c.place.ensures ∙ c.in-Some.is in
    let still : Contains (kept c.args.self.now) cell → c.bytes_at.new.host ≡ c.args.host.now = λ has. c.bytes_at.ensures.unread (found_key cell c.self.inside.cache (subst (λ (v : Slots). Contains (kept v) cell) (sym c.self.view_is) has)) in
    subst (λ o. IfSome o (λ x. Contains (kept c.args.self.now) x → c.bytes_at.new.host ≡ c.args.host.now)) (sym there) still

pub returns-in_err-bytes-in-Some-clause-unread : goal.returns-in_err-bytes-in-Some-clause-unread
returns-in_err-bytes-in-Some-clause-unread g c =
    let cell = c.in-Some.cell in
    let there : place_on c.args.side c.args.self.now c.args.id ≡ Some cell = sym c.place.ensures ∙ c.in-Some.is in
    let still : Contains (kept c.args.self.now) cell → c.bytes_at.new.host ≡ c.args.host.now = λ has. c.bytes_at.ensures.unread (found_key cell c.self.inside.cache (subst (λ (v : Slots). Contains (kept v) cell) (sym c.self.view_is) has)) in
    subst (λ o. IfSome o (λ x. Contains (kept c.args.self.now) x → c.bytes_at.new.host ≡ c.args.host.now)) (sym there) still
