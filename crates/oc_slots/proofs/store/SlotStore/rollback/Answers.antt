use Rattle.std.proofs.Common.{◌≡◌, ◌∙◌, ℕ, ◌+◌, nat_eq, List, [], ◌++◌, sym, ap, subst, arith}
use Rattle.std.specs.Prelude.{All, not}
use Rattle.std.specs.Map.{keys_of, lookup}
use Rattle.std.specs.Option.{option_map_or}
use Rattle.std.proofs.lemmas.List.Elements.{All-filter}
use Rattle.oc_layout.specs.declared.cells.Cell.{Cell}
use Rattle.oc_layout.specs.declared.cells.Space as spaces
use Rattle.oc_layout.specs.declared.cells.Space.TheVariants.{Objects, System}
use Rattle.oc_layout.specs.Layout.{unit_of}
use Rattle.oc_free.specs.FreeParts.{free_at}
use Rattle.oc_pages.specs.Pages.{pointer_of}
use Rattle.oc_room.specs.Rooms.{owners}
use Rattle.oc_slots.specs.Cached.{Cached, AreThose, is_among, without}
use Rattle.oc_slots.specs.Maps.{bytes_at, content}
use Rattle.oc_slots.specs.Forms.{LiesIn}
use Rattle.oc_slots.specs.Slots.{places_in}
use Rattle.oc_slots.specs.Stores.{Slots, Agrees, ArePlaces, AreRead, IsPlace, changes_in, fresh_of, committed, kept, parts}
use Rattle.oc_slots.proofs.CacheLists.{without_more}
use Rattle.oc_slots.proofs.KeptSteps.{places_back, those_back}
use Rattle.oc_slots.proofs.Noted.{owners_append}
use Rattle.oc_slots.proofs.Releases.{free_front, free_on}
use Rattle.oc_slots.proofs.Rollbacks.{fresh_go_free, whole_back}
use Rattle.oc_slots.proofs.SessionSteps.{seen}
use Rattle.oc_slots.proofs.store.SlotStore.rollback.Goals as goal

pub release_all-requires : goal.release_all-requires
release_all-requires c =
    let s = c.self.inside in
    free_front s.room (places_in s.overlay.objects.entries) (places_in s.overlay.system.entries) (fresh_go_free s.header s.pages s.overlay s.room s.fresh s.len c.self.invariant.0)

pub release_all-requires-2 : goal.release_all-requires-2
release_all-requires-2 c =
    let s = c.self.inside in
    let r = c.release_all.ensures in
    free_on s.room c.release_all.new.room (places_in s.overlay.objects.entries) (places_in s.overlay.system.entries) (fresh_go_free s.header s.pages s.overlay s.room s.fresh s.len c.self.invariant.0) r.parts r.spare r.is_room r.unit r.end

pub invariant_of-self : goal.invariant_of-self
invariant_of-self c =
    let s = c.self.inside in
    let r = c.release_all.ensures in
    let t = c.release_all-2.ensures in
    let gone : c.forget_places-2.new.cache ≡ without (fresh_of s.overlay) s.cache = c.forget_places-2.ensures ∙ ap (without (places_in s.overlay.system.entries)) c.forget_places.ensures ∙ sym (without_more (places_in s.overlay.objects.entries) (places_in s.overlay.system.entries) s.cache) in (
      whole_back s.header s.pages s.overlay s.room s.fresh s.len c.self.invariant.0 c.new.result c.release_all-2.new.room c.new.ensures
          (λ k. let two : free_at c.release_all-2.new.room.parts k ≡ free_at c.release_all.new.room.parts k + owners s.room.unit (places_in s.overlay.system.entries) k =
          subst (λ u. free_at c.release_all-2.new.room.parts k ≡ free_at c.release_all.new.room.parts k + owners u (places_in s.overlay.system.entries) k) r.unit (t.parts k) in
          omega (arith, r.parts k, two, owners_append s.room.unit k (places_in s.overlay.objects.entries) (places_in s.overlay.system.entries)))
          t.is_room (t.unit ∙ r.unit) (t.end ∙ r.end) (t.limit ∙ r.limit),
      subst (ArePlaces (seen s.header s.pages c.new.result c.release_all-2.new.room s.len)) (sym gone)
          (places_back s.header s.pages s.overlay c.new.result s.room c.release_all-2.new.room s.fresh s.len c.self.invariant.0 c.new.ensures s.cache c.self.invariant.1),
    )

pub returns-clause-agrees : goal.returns-clause-agrees
returns-clause-agrees c d agrees =
    let s = c.self.inside in
    let old : Agrees (parts s.header s.pages s.overlay s.room s.len s.cache) d = subst (λ v. Agrees v d) (sym c.self.view_is) agrees in
    let gone : c.forget_places-2.new.cache ≡ without (fresh_of s.overlay) s.cache = c.forget_places-2.ensures ∙ ap (without (places_in s.overlay.system.entries)) c.forget_places.ensures ∙ sym (without_more (places_in s.overlay.objects.entries) (places_in s.overlay.system.entries) s.cache) in
    record {
      holds = old.holds;
      len = old.len;
      fresh = subst (λ l. All (LiesIn (unit_of s.header) s.len) l) (λ i. places_in (sym (c.new.ensures Objects) i) ++ places_in (sym (c.new.ensures System) i)) (λ k x lt. absurd (omega (arith, lt)));
      cached = subst (AreRead (unit_of s.header) d.bytes) (sym gone) (All-filter (λ (e : Cell × List ℕ). not (is_among (fresh_of s.overlay) e.0)) (λ e. e.1 ≡ bytes_at (unit_of s.header) d.bytes e.0) s.cache old.cached);
    }

pub returns-clause-kept : goal.returns-clause-kept
returns-clause-kept c =
    let s = c.self.inside in
    let gone : c.forget_places-2.new.cache ≡ without (fresh_of s.overlay) s.cache = c.forget_places-2.ensures ∙ ap (without (places_in s.overlay.system.entries)) c.forget_places.ensures ∙ sym (without_more (places_in s.overlay.objects.entries) (places_in s.overlay.system.entries) s.cache) in
    let new = parts s.header s.pages c.new.result c.release_all-2.new.room s.len c.forget_places-2.new.cache in
    let those = those_back s.header s.pages s.overlay c.new.result s.room c.release_all-2.new.room s.fresh s.len c.self.invariant.0 c.new.ensures s.cache c.self.invariant.1 c.forget_places-2.new.cache in
    subst (λ (v : Slots). AreThose (IsPlace new) (kept v) (keys_of c.forget_places-2.new.cache)) c.self.view_is
    (subst (λ (es : Cached). AreThose (IsPlace new) (keys_of s.cache) (keys_of es)) (sym gone) those)

pub returns-clause-session : goal.returns-clause-session
returns-clause-session c d id =
    let s = c.self.inside in
    let new = seen s.header s.pages c.new.result c.release_all-2.new.room s.len in
    ap (λ cs. content (unit_of s.header) d.bytes (option_map_or (λ x. x) (lookup (nat_eq id.number) cs) (pointer_of s.pages.pages id.space id.number))) (none id.space)
    ∙ (λ i. committed (c.self.view_is i) d id)
  where
    none : (space : spaces.Space) → changes_in (seen c.self.inside.header c.self.inside.pages c.new.result c.release_all-2.new.room c.self.inside.len) space ≡ []
    none Objects = c.new.ensures Objects
    none System = c.new.ensures System

pub returns-clause-objects : goal.returns-clause-objects
returns-clause-objects c = c.new.ensures Objects

pub returns-clause-system : goal.returns-clause-system
returns-clause-system c = c.new.ensures System
