use Rattle.std.proofs.Common.{◌≡◌, ◌∙◌, inr, ℕ, List, get_or, Option, Some, None, Err, sym, ap, subst, refl}
use Rattle.std.specs.Prelude.{IfSome, is_some}
use Rattle.std.specs.Map.{keys_of}
use Rattle.oc_layout.specs.declared.cells.Space.TheVariants.{Objects, System}
use Rattle.oc_layout.specs.Layout.{unit_of, is_wide}
use Rattle.oc_host.specs.Disk.{LeavesOnly}
use Rattle.oc_host.proofs.Moments.{said_stays, weaken}
use Rattle.oc_pages.specs.Pages.{pointer_of}
use Rattle.oc_room.specs.Rooms.{unplaced, placed, lacking}
use Rattle.oc_room.proofs.Placed.{same_error}
use Rattle.oc_slots.specs.declared.commit_plan.CommitPlan.{CommitPlan}
use Rattle.oc_slots.specs.declared.fault.SpaceFault.TheVariants as SpaceFault
use Rattle.oc_slots.specs.Cached.{Cached, AreThose, without}
use Rattle.oc_slots.specs.Commits.{BeforeOrAfter}
use Rattle.oc_slots.specs.Maps.{content, changed, has_after}
use Rattle.oc_slots.specs.Stores.{Slots, Agrees, ArePlaces, AreRead, IsPlace, IsSettled, IsUnchanged, session, session_place, kept, parts}
use Rattle.oc_slots.specs.Planning.{AreLengths, IsPlan, IsReady, IsWritable, OldOrNew, moves, moves_in, pages_after}
use Rattle.oc_slots.proofs.CommitFacts.{ready, writable, before_or_after, agrees_now, committed_now, session_now, settled_then, header_kept, some_moved}
use Rattle.oc_slots.proofs.CommitKept.{places_then, kept_then, reads_then}
use Rattle.oc_slots.proofs.CommitSides.{whole_again, agrees_again, moves_seen, lengths_seen, idle_map_seen, idle_there_seen}
use Rattle.oc_slots.proofs.Fetches.{agrees_bare, agrees_with}
use Rattle.oc_slots.proofs.KeptPlaces.{place_pages}
use Rattle.oc_slots.proofs.SessionSteps.{seen}
use Rattle.oc_slots.proofs.store.SlotStore.commit.Goals as goal

-- ---- where nothing moves

pub invariant_of-self-in-None : goal.invariant_of-self-in-None
invariant_of-self-in-None g c =
    let s = c.self.inside in
    let e = c.plan_commit.ensures in (
      whole_again s.header s.pages c.plan_commit.new.pages s.overlay c.plan_commit.new.overlay s.room c.plan_commit.new.room s.fresh s.len c.self.invariant.0 e.pages e.unit (c.in-Ok.ensures.idle c.in-None.is).2 e.is_room e.spare e.overlay,
      λ k x lt. place_pages s.header s.pages c.plan_commit.new.pages s.overlay c.plan_commit.new.overlay s.room c.plan_commit.new.room s.len (get_or s.cache k x).0 e.pages e.overlay (c.self.invariant.1 k x lt),
    )

pub returns-in-None-clause-agrees : goal.returns-in-None-clause-agrees
returns-in-None-clause-agrees g c told =
    let s = c.self.inside in
    let e = c.plan_commit.ensures in
    let d = g.H.Host.disk c.args.host.now in
    c.rollback.ensures.agrees d
    (agrees_again s.header s.pages c.plan_commit.new.pages s.overlay c.plan_commit.new.overlay s.room c.plan_commit.new.room s.len s.cache d e.pages e.overlay (subst (λ v. Agrees v d) (sym c.self.view_is) (c.requires.agrees told)))

pub returns-in-None-clause-committed : goal.returns-in-None-clause-committed
returns-in-None-clause-committed g c told id =
    let s = c.self.inside in
    let d = g.H.Host.disk c.args.host.now in
    c.rollback.ensures.committed d id
    ∙ (λ i. content (unit_of s.header) d.bytes (pointer_of (c.plan_commit.ensures.pages i) id.space id.number))
    ∙ idle_map_seen s.header s.pages s.overlay s.room s.len c.args.last.items d id ((c.in-Ok.ensures.idle c.in-None.is).0 id)
    ∙ (λ i. changed c.args.last.items (session (c.self.view_is i) d) id)

pub returns-in-None-clause-session : goal.returns-in-None-clause-session
returns-in-None-clause-session g c told id =
    let s = c.self.inside in
    let d = g.H.Host.disk c.args.host.now in
    c.rollback.ensures.session d id
    ∙ (λ i. content (unit_of s.header) d.bytes (pointer_of (c.plan_commit.ensures.pages i) id.space id.number))
    ∙ idle_map_seen s.header s.pages s.overlay s.room s.len c.args.last.items d id ((c.in-Ok.ensures.idle c.in-None.is).0 id)
    ∙ (λ i. changed c.args.last.items (session (c.self.view_is i) d) id)

pub returns-in-None-clause-settled : goal.returns-in-None-clause-settled
returns-in-None-clause-settled g c =
    let s = c.self.inside in
    let last = c.args.last.items in
    record {
      objects = c.rollback.ensures.objects;
      system = c.rollback.ensures.system;
      there = λ id.
          ap (λ l. is_some (pointer_of l id.space id.number)) (c.rollback.ensures.pages ∙ c.plan_commit.ensures.pages)
          ∙ idle_there_seen s.header s.pages s.overlay s.room s.len last id ((c.in-Ok.ensures.idle c.in-None.is).0 id)
          ∙ (λ i. has_after last id (is_some (session_place (c.self.view_is i) id)));
    }

-- ---- where it doesn't fit

pub invariant_of-self : goal.invariant_of-self
invariant_of-self g c =
    let s = c.self.inside in
    let e = c.plan_commit.ensures in (
      whole_again s.header s.pages c.plan_commit.new.pages s.overlay c.plan_commit.new.overlay s.room c.plan_commit.new.room s.fresh s.len c.self.invariant.0 e.pages e.unit c.in-Err.ensures.fault e.is_room e.spare e.overlay,
      λ k x lt. place_pages s.header s.pages c.plan_commit.new.pages s.overlay c.plan_commit.new.overlay s.room c.plan_commit.new.room s.len (get_or s.cache k x).0 e.pages e.overlay (c.self.invariant.1 k x lt),
    )

pub returns-in-Err-clause-full : goal.returns-in-Err-clause-full
returns-in-Err-clause-full g c need len limit is =
    let s = c.self.inside in
    let told = c.in-Err.ensures.full need len limit (ap Err (same_error c.in-Err.fault (SpaceFault.Full need len limit) is)) in
    let last = c.args.last.items in
    subst (λ (v : Slots). (limit ≡ v.room.limit) × ((lens : List ℕ) × AreLengths (is_wide v.header) v.pages (moves_in v last) last lens × (lacking v.room.unit v.room.limit (unplaced v.room) lens ≡ Some (record { need = need; length = len })))) c.self.view_is
    (told.0, (told.1.0, lengths_seen s.header s.pages s.overlay s.room s.len last told.1.0 told.1.1, told.1.2))

pub returns-in-Err-clause-some_moved : goal.returns-in-Err-clause-some_moved
returns-in-Err-clause-some_moved g c need len limit is =
    let s = c.self.inside in
    let last = c.args.last.items in
    let told = c.in-Err.ensures.some_moved need len limit (ap Err (same_error c.in-Err.fault (SpaceFault.Full need len limit) is)) in
    (told.0, (λ i. moves_in (sym c.self.view_is i) last told.0) ∙ moves_seen s.header s.pages s.overlay s.room s.len last told.0 ∙ told.1)

pub returns-in-Err-clause-unchanged : goal.returns-in-Err-clause-unchanged
returns-in-Err-clause-unchanged g c =
    let s = c.self.inside in
    let e = c.plan_commit.ensures in
    let now = parts s.header c.plan_commit.new.pages c.plan_commit.new.overlay c.plan_commit.new.room s.len s.cache in
    let same : IsUnchanged (parts s.header s.pages s.overlay s.room s.len s.cache) now =
    record { header = refl; pages = e.pages; objects = e.overlay Objects; system = e.overlay System; room = c.in-Err.ensures.fault; len = refl; cached = refl } in
    inr (subst (λ v. IsUnchanged v now) c.self.view_is same, refl)

-- ---- where it is written

pub write_commit-requires-clause-ready : goal.write_commit-requires-clause-ready
write_commit-requires-clause-ready g c =
    let s = c.self.inside in
    let p = c.plan_commit.new.pages in
    let r = c.plan_commit.new.room in
    let last = c.args.last.items in
    let plan = c.in-Some.plan in
    let f : IsPlan s.header s.pages s.overlay s.room s.len last plan p r = subst (λ q. IfSome q (λ x. IsPlan s.header s.pages s.overlay s.room s.len last x p r)) c.in-Some.is c.in-Ok.ensures.plan in
    let full = c.plan_commit.ensures.cells in
    let is_after = c.install.ensures.pages ∙ ap (pages_after plan) f.same_pages in
    subst (λ l. IsReady s.header l plan) (sym is_after) (ready s.header s.pages s.overlay s.room r s.fresh s.len last plan p c.self.invariant.0 c.requires.changes f full)

pub write_commit-requires-clause-writable : goal.write_commit-requires-clause-writable
write_commit-requires-clause-writable g c told =
    let s = c.self.inside in
    let p = c.plan_commit.new.pages in
    let r = c.plan_commit.new.room in
    let last = c.args.last.items in
    let plan = c.in-Some.plan in
    let f : IsPlan s.header s.pages s.overlay s.room s.len last plan p r = subst (λ q. IfSome q (λ x. IsPlan s.header s.pages s.overlay s.room s.len last x p r)) c.in-Some.is c.in-Ok.ensures.plan in
    let full = c.plan_commit.ensures.cells in
    let is_after = c.install.ensures.pages ∙ ap (pages_after plan) f.same_pages in
    let d = g.H.Host.disk c.args.host.now in
    let agreed : Agrees (parts s.header s.pages s.overlay s.room s.len s.cache) d = subst (λ v. Agrees v d) (sym c.self.view_is) (c.requires.agrees told) in
    let agrees : Agrees (seen s.header s.pages s.overlay s.room s.len) d = agrees_bare (parts s.header s.pages s.overlay s.room s.len s.cache) d agreed in
    let w : IsWritable s.header s.pages.pages c.install.new.pages.pages plan d = subst (λ l. IsWritable s.header s.pages.pages l plan d) (sym is_after) (writable s.header s.pages s.overlay s.room r s.fresh s.len last plan p c.self.invariant.0 c.requires.changes f full d agrees) in
    (s.pages.pages, w)

pub invariant_of-self-in_err-write_commit : goal.invariant_of-self-in_err-write_commit
invariant_of-self-in_err-write_commit g c =
    let s = c.self.inside in
    let p = c.plan_commit.new.pages in
    let r = c.plan_commit.new.room in
    let last = c.args.last.items in
    let plan = c.in-Some.plan in
    let f : IsPlan s.header s.pages s.overlay s.room s.len last plan p r = subst (λ q. IfSome q (λ x. IsPlan s.header s.pages s.overlay s.room s.len last x p r)) c.in-Some.is c.in-Ok.ensures.plan in
    let full = c.plan_commit.ensures.cells in
    let is_after = c.install.ensures.pages ∙ ap (pages_after plan) f.same_pages in
    let gone : c.forget_all.new.self ≡ without plan.freed.items s.cache = c.forget_all.ensures ∙ ap (λ l. without l s.cache) c.deref.ensures.value in (
      c.install.ensures.whole c.new.result c.new.ensures,
      subst (ArePlaces (seen plan.header c.install.new.pages c.new.result c.install.new.room plan.end)) (sym gone)
          (places_then s.header s.pages s.overlay s.room r s.fresh s.len last plan p c.self.invariant.0 c.requires.changes f full c.install.new.pages c.new.result c.install.new.room is_after c.new.ensures s.cache c.self.invariant.1),
    )

pub invariant_of-self-2 : goal.invariant_of-self-2
invariant_of-self-2 g c =
    let s = c.self.inside in
    let p = c.plan_commit.new.pages in
    let r = c.plan_commit.new.room in
    let last = c.args.last.items in
    let plan = c.in-Some.plan in
    let f : IsPlan s.header s.pages s.overlay s.room s.len last plan p r = subst (λ q. IfSome q (λ x. IsPlan s.header s.pages s.overlay s.room s.len last x p r)) c.in-Some.is c.in-Ok.ensures.plan in
    let full = c.plan_commit.ensures.cells in
    let is_after = c.install.ensures.pages ∙ ap (pages_after plan) f.same_pages in
    let gone : c.forget_all.new.self ≡ without plan.freed.items s.cache = c.forget_all.ensures ∙ ap (λ l. without l s.cache) c.deref.ensures.value in (
      c.install.ensures.whole c.new.result c.new.ensures,
      subst (ArePlaces (seen plan.header c.install.new.pages c.new.result c.install.new.room plan.end)) (sym gone)
          (places_then s.header s.pages s.overlay s.room r s.fresh s.len last plan p c.self.invariant.0 c.requires.changes f full c.install.new.pages c.new.result c.install.new.room is_after c.new.ensures s.cache c.self.invariant.1),
    )

pub returns-in_err-write_commit-clause-header : goal.returns-in_err-write_commit-clause-header
returns-in_err-write_commit-clause-header g c =
    let s = c.self.inside in
    let p = c.plan_commit.new.pages in
    let r = c.plan_commit.new.room in
    let last = c.args.last.items in
    let plan = c.in-Some.plan in
    let f : IsPlan s.header s.pages s.overlay s.room s.len last plan p r = subst (λ q. IfSome q (λ x. IsPlan s.header s.pages s.overlay s.room s.len last x p r)) c.in-Some.is c.in-Ok.ensures.plan in
    let full = c.plan_commit.ensures.cells in
    header_kept s.header s.pages s.overlay s.room r s.fresh s.len last plan p c.self.invariant.0 c.requires.changes f full
    ∙ (λ i. record ((c.self.view_is i).header) { root = plan.header.root; log = plan.header.log; gate = plan.header.gate; block_root = plan.header.block_root })

pub returns-clause-header : goal.returns-clause-header
returns-clause-header g c =
    let s = c.self.inside in
    let p = c.plan_commit.new.pages in
    let r = c.plan_commit.new.room in
    let last = c.args.last.items in
    let plan = c.in-Some.plan in
    let f : IsPlan s.header s.pages s.overlay s.room s.len last plan p r = subst (λ q. IfSome q (λ x. IsPlan s.header s.pages s.overlay s.room s.len last x p r)) c.in-Some.is c.in-Ok.ensures.plan in
    let full = c.plan_commit.ensures.cells in
    header_kept s.header s.pages s.overlay s.room r s.fresh s.len last plan p c.self.invariant.0 c.requires.changes f full
    ∙ (λ i. record ((c.self.view_is i).header) { root = plan.header.root; log = plan.header.log; gate = plan.header.gate; block_root = plan.header.block_root })

pub returns-in_err-write_commit-clause-idle : goal.returns-in_err-write_commit-clause-idle
returns-in_err-write_commit-clause-idle g c idle =
    let s = c.self.inside in
    let p = c.plan_commit.new.pages in
    let r = c.plan_commit.new.room in
    let last = c.args.last.items in
    let plan = c.in-Some.plan in
    let f : IsPlan s.header s.pages s.overlay s.room s.len last plan p r = subst (λ q. IfSome q (λ x. IsPlan s.header s.pages s.overlay s.room s.len last x p r)) c.in-Some.is c.in-Ok.ensures.plan in
    let full = c.plan_commit.ensures.cells in
    let moved = some_moved s.header s.pages s.overlay s.room r s.fresh s.len last plan p c.self.invariant.0 c.requires.changes f full in
    absurd (idle moved.0 ((λ i. moves_in (sym c.self.view_is i) last moved.0) ∙ moves_seen s.header s.pages s.overlay s.room s.len last moved.0 ∙ moved.1))

pub returns-clause-idle : goal.returns-clause-idle
returns-clause-idle g c idle =
    let s = c.self.inside in
    let p = c.plan_commit.new.pages in
    let r = c.plan_commit.new.room in
    let last = c.args.last.items in
    let plan = c.in-Some.plan in
    let f : IsPlan s.header s.pages s.overlay s.room s.len last plan p r = subst (λ q. IfSome q (λ x. IsPlan s.header s.pages s.overlay s.room s.len last x p r)) c.in-Some.is c.in-Ok.ensures.plan in
    let full = c.plan_commit.ensures.cells in
    let moved = some_moved s.header s.pages s.overlay s.room r s.fresh s.len last plan p c.self.invariant.0 c.requires.changes f full in
    absurd (idle moved.0 ((λ i. moves_in (sym c.self.view_is i) last moved.0) ∙ moves_seen s.header s.pages s.overlay s.room s.len last moved.0 ∙ moved.1))

pub returns-in_err-write_commit-clause-any_moment : goal.returns-in_err-write_commit-clause-any_moment
returns-in_err-write_commit-clause-any_moment g c told =
    let s = c.self.inside in
    let p = c.plan_commit.new.pages in
    let r = c.plan_commit.new.room in
    let last = c.args.last.items in
    let plan = c.in-Some.plan in
    let f : IsPlan s.header s.pages s.overlay s.room s.len last plan p r = subst (λ q. IfSome q (λ x. IsPlan s.header s.pages s.overlay s.room s.len last x p r)) c.in-Some.is c.in-Ok.ensures.plan in
    let full = c.plan_commit.ensures.cells in
    let is_after = c.install.ensures.pages ∙ ap (pages_after plan) f.same_pages in
    let d = g.H.Host.disk c.args.host.now in
    let agreed : Agrees (parts s.header s.pages s.overlay s.room s.len s.cache) d = subst (λ v. Agrees v d) (sym c.self.view_is) (c.requires.agrees told) in
    let agrees : Agrees (seen s.header s.pages s.overlay s.room s.len) d = agrees_bare (parts s.header s.pages s.overlay s.room s.len s.cache) d agreed in
    let w : IsWritable s.header s.pages.pages c.install.new.pages.pages plan d = subst (λ l. IsWritable s.header s.pages.pages l plan d) (sym is_after) (writable s.header s.pages s.overlay s.room r s.fresh s.len last plan p c.self.invariant.0 c.requires.changes f full d agrees) in
    let z = g.H.Host.disk c.write_commit.new.host in
    let moments = subst (λ l. LeavesOnly d z (OldOrNew s.header s.pages.pages l plan d)) is_after (c.write_commit.ensures.any_moment told s.pages.pages w) in
    subst (λ v. LeavesOnly d z (BeforeOrAfter v last d)) c.self.view_is
    (weaken d z (BeforeOrAfter (seen s.header s.pages s.overlay s.room s.len) last d) (OldOrNew s.header s.pages.pages (pages_after plan s.pages.pages) plan d) moments (before_or_after s.header s.pages s.overlay s.room r s.fresh s.len last plan p c.self.invariant.0 c.requires.changes f full d agrees))

pub returns-clause-any_moment : goal.returns-clause-any_moment
returns-clause-any_moment g c told =
    let s = c.self.inside in
    let p = c.plan_commit.new.pages in
    let r = c.plan_commit.new.room in
    let last = c.args.last.items in
    let plan = c.in-Some.plan in
    let f : IsPlan s.header s.pages s.overlay s.room s.len last plan p r = subst (λ q. IfSome q (λ x. IsPlan s.header s.pages s.overlay s.room s.len last x p r)) c.in-Some.is c.in-Ok.ensures.plan in
    let full = c.plan_commit.ensures.cells in
    let is_after = c.install.ensures.pages ∙ ap (pages_after plan) f.same_pages in
    let d = g.H.Host.disk c.args.host.now in
    let agreed : Agrees (parts s.header s.pages s.overlay s.room s.len s.cache) d = subst (λ v. Agrees v d) (sym c.self.view_is) (c.requires.agrees told) in
    let agrees : Agrees (seen s.header s.pages s.overlay s.room s.len) d = agrees_bare (parts s.header s.pages s.overlay s.room s.len s.cache) d agreed in
    let w : IsWritable s.header s.pages.pages c.install.new.pages.pages plan d = subst (λ l. IsWritable s.header s.pages.pages l plan d) (sym is_after) (writable s.header s.pages s.overlay s.room r s.fresh s.len last plan p c.self.invariant.0 c.requires.changes f full d agrees) in
    let z = g.H.Host.disk c.write_commit.new.host in
    let moments = subst (λ l. LeavesOnly d z (OldOrNew s.header s.pages.pages l plan d)) is_after (c.write_commit.ensures.any_moment told s.pages.pages w) in
    subst (λ v. LeavesOnly d z (BeforeOrAfter v last d)) c.self.view_is
    (weaken d z (BeforeOrAfter (seen s.header s.pages s.overlay s.room s.len) last d) (OldOrNew s.header s.pages.pages (pages_after plan s.pages.pages) plan d) moments (before_or_after s.header s.pages s.overlay s.room r s.fresh s.len last plan p c.self.invariant.0 c.requires.changes f full d agrees))

pub returns-in_err-write_commit-clause-said : goal.returns-in_err-write_commit-clause-said
returns-in_err-write_commit-clause-said g c told =
    said_stays (g.H.Host.disk c.args.host.now) (g.H.Host.disk c.write_commit.new.host) _ (returns-in_err-write_commit-clause-any_moment g c told) (g.met.H.Host.sound c.write_commit.new.host told) (λ image said b. b.0)

pub returns-clause-said : goal.returns-clause-said
returns-clause-said g c told =
    said_stays (g.H.Host.disk c.args.host.now) (g.H.Host.disk c.write_commit.new.host) _ (returns-clause-any_moment g c told) (g.met.H.Host.sound c.write_commit.new.host told) (λ image said b. b.0)

pub returns-clause-agrees : goal.returns-clause-agrees
returns-clause-agrees g c told =
    let s = c.self.inside in
    let p = c.plan_commit.new.pages in
    let r = c.plan_commit.new.room in
    let last = c.args.last.items in
    let plan = c.in-Some.plan in
    let f : IsPlan s.header s.pages s.overlay s.room s.len last plan p r = subst (λ q. IfSome q (λ x. IsPlan s.header s.pages s.overlay s.room s.len last x p r)) c.in-Some.is c.in-Ok.ensures.plan in
    let full = c.plan_commit.ensures.cells in
    let is_after = c.install.ensures.pages ∙ ap (pages_after plan) f.same_pages in
    let d = g.H.Host.disk c.args.host.now in
    let agreed : Agrees (parts s.header s.pages s.overlay s.room s.len s.cache) d = subst (λ v. Agrees v d) (sym c.self.view_is) (c.requires.agrees told) in
    let agrees : Agrees (seen s.header s.pages s.overlay s.room s.len) d = agrees_bare (parts s.header s.pages s.overlay s.room s.len s.cache) d agreed in
    let w : IsWritable s.header s.pages.pages c.install.new.pages.pages plan d = subst (λ l. IsWritable s.header s.pages.pages l plan d) (sym is_after) (writable s.header s.pages s.overlay s.room r s.fresh s.len last plan p c.self.invariant.0 c.requires.changes f full d agrees) in
    let z = g.H.Host.disk c.write_commit.new.host in
    let gone : c.forget_all.new.self ≡ without plan.freed.items s.cache = c.forget_all.ensures ∙ ap (λ l. without l s.cache) c.deref.ensures.value in
    agrees_with (seen plan.header c.install.new.pages c.new.result c.install.new.room plan.end) z c.forget_all.new.self
    (agrees_now s.header s.pages s.overlay s.room r s.fresh s.len last plan p c.self.invariant.0 c.requires.changes f full d agrees c.install.new.pages c.new.result c.install.new.room z is_after c.new.ensures (c.in_ok-write_commit.ensures.holds told s.pages.pages w) (c.in_ok-write_commit.ensures.size told s.pages.pages w))
    (subst (AreRead (unit_of plan.header) z.bytes) (sym gone)
    (reads_then s.header s.pages s.overlay s.room r s.fresh s.len last plan p c.self.invariant.0 c.requires.changes f full c.install.new.pages c.new.result c.install.new.room is_after c.new.ensures s.cache c.self.invariant.1 d agrees z (c.in_ok-write_commit.ensures.map told s.pages.pages w) agreed.cached))

pub returns-clause-committed : goal.returns-clause-committed
returns-clause-committed g c told id =
    let s = c.self.inside in
    let p = c.plan_commit.new.pages in
    let r = c.plan_commit.new.room in
    let last = c.args.last.items in
    let plan = c.in-Some.plan in
    let f : IsPlan s.header s.pages s.overlay s.room s.len last plan p r = subst (λ q. IfSome q (λ x. IsPlan s.header s.pages s.overlay s.room s.len last x p r)) c.in-Some.is c.in-Ok.ensures.plan in
    let full = c.plan_commit.ensures.cells in
    let is_after = c.install.ensures.pages ∙ ap (pages_after plan) f.same_pages in
    let d = g.H.Host.disk c.args.host.now in
    let agreed : Agrees (parts s.header s.pages s.overlay s.room s.len s.cache) d = subst (λ v. Agrees v d) (sym c.self.view_is) (c.requires.agrees told) in
    let agrees : Agrees (seen s.header s.pages s.overlay s.room s.len) d = agrees_bare (parts s.header s.pages s.overlay s.room s.len s.cache) d agreed in
    let w : IsWritable s.header s.pages.pages c.install.new.pages.pages plan d = subst (λ l. IsWritable s.header s.pages.pages l plan d) (sym is_after) (writable s.header s.pages s.overlay s.room r s.fresh s.len last plan p c.self.invariant.0 c.requires.changes f full d agrees) in
    let z = g.H.Host.disk c.write_commit.new.host in
    committed_now s.header s.pages s.overlay s.room r s.fresh s.len last plan p c.self.invariant.0 c.requires.changes f full d agrees c.install.new.pages c.new.result c.install.new.room z is_after c.new.ensures (c.in_ok-write_commit.ensures.map told s.pages.pages w) id
    ∙ (λ i. changed last (session (c.self.view_is i) d) id)

pub returns-clause-session : goal.returns-clause-session
returns-clause-session g c told id =
    let s = c.self.inside in
    let p = c.plan_commit.new.pages in
    let r = c.plan_commit.new.room in
    let last = c.args.last.items in
    let plan = c.in-Some.plan in
    let f : IsPlan s.header s.pages s.overlay s.room s.len last plan p r = subst (λ q. IfSome q (λ x. IsPlan s.header s.pages s.overlay s.room s.len last x p r)) c.in-Some.is c.in-Ok.ensures.plan in
    let full = c.plan_commit.ensures.cells in
    let is_after = c.install.ensures.pages ∙ ap (pages_after plan) f.same_pages in
    let d = g.H.Host.disk c.args.host.now in
    let agreed : Agrees (parts s.header s.pages s.overlay s.room s.len s.cache) d = subst (λ v. Agrees v d) (sym c.self.view_is) (c.requires.agrees told) in
    let agrees : Agrees (seen s.header s.pages s.overlay s.room s.len) d = agrees_bare (parts s.header s.pages s.overlay s.room s.len s.cache) d agreed in
    let w : IsWritable s.header s.pages.pages c.install.new.pages.pages plan d = subst (λ l. IsWritable s.header s.pages.pages l plan d) (sym is_after) (writable s.header s.pages s.overlay s.room r s.fresh s.len last plan p c.self.invariant.0 c.requires.changes f full d agrees) in
    let z = g.H.Host.disk c.write_commit.new.host in
    session_now s.header s.pages s.overlay s.room r s.fresh s.len last plan p c.self.invariant.0 c.requires.changes f full d agrees c.install.new.pages c.new.result c.install.new.room z is_after c.new.ensures (c.in_ok-write_commit.ensures.map told s.pages.pages w) id
    ∙ (λ i. changed last (session (c.self.view_is i) d) id)

pub returns-in_err-write_commit-clause-spent : goal.returns-in_err-write_commit-clause-spent
returns-in_err-write_commit-clause-spent g c is =
    let s = c.self.inside in
    let p = c.plan_commit.new.pages in
    let r = c.plan_commit.new.room in
    let last = c.args.last.items in
    let plan = c.in-Some.plan in
    let f : IsPlan s.header s.pages s.overlay s.room s.len last plan p r = subst (λ q. IfSome q (λ x. IsPlan s.header s.pages s.overlay s.room s.len last x p r)) c.in-Some.is c.in-Ok.ensures.plan in
    let full = c.plan_commit.ensures.cells in
    let now = parts plan.header c.install.new.pages c.new.result c.install.new.room plan.end c.forget_all.new.self in
    subst (λ v. IsSettled last v now) c.self.view_is
    (settled_then s.header s.pages s.overlay s.room r s.fresh s.len last plan p c.self.invariant.0 c.requires.changes f full c.install.new.pages c.new.result c.install.new.room s.cache c.forget_all.new.self (c.install.ensures.pages ∙ ap (pages_after plan) f.same_pages) c.new.ensures)

pub returns-clause-settled : goal.returns-clause-settled
returns-clause-settled g c =
    let s = c.self.inside in
    let p = c.plan_commit.new.pages in
    let r = c.plan_commit.new.room in
    let last = c.args.last.items in
    let plan = c.in-Some.plan in
    let f : IsPlan s.header s.pages s.overlay s.room s.len last plan p r = subst (λ q. IfSome q (λ x. IsPlan s.header s.pages s.overlay s.room s.len last x p r)) c.in-Some.is c.in-Ok.ensures.plan in
    let full = c.plan_commit.ensures.cells in
    let now = parts plan.header c.install.new.pages c.new.result c.install.new.room plan.end c.forget_all.new.self in
    subst (λ v. IsSettled last v now) c.self.view_is
    (settled_then s.header s.pages s.overlay s.room r s.fresh s.len last plan p c.self.invariant.0 c.requires.changes f full c.install.new.pages c.new.result c.install.new.room s.cache c.forget_all.new.self (c.install.ensures.pages ∙ ap (pages_after plan) f.same_pages) c.new.ensures)

pub returns-clause-room : goal.returns-clause-room
returns-clause-room g c =
    let s = c.self.inside in
    let last = c.args.last.items in
    let lens = subst (λ (q : Option CommitPlan). IfSome q (λ _. (x : List ℕ) × AreLengths (is_wide s.header) s.pages.pages (moves s.pages.pages s.overlay last) last x × (lacking s.room.unit s.room.limit (unplaced s.room) x ≡ None) × (c.plan_commit.new.room.end ≡ (placed s.room.unit (unplaced s.room) x).end))) c.in-Some.is c.in-Ok.ensures.lengths in
    inr (subst (λ (v : Slots). (x : List ℕ) × AreLengths (is_wide v.header) v.pages (moves_in v last) last x × (lacking v.room.unit v.room.limit (unplaced v.room) x ≡ None) × (c.install.new.room.end ≡ (placed v.room.unit (unplaced v.room) x).end)) c.self.view_is
    (lens.0, lengths_seen s.header s.pages s.overlay s.room s.len last lens.0 lens.1, lens.2, c.install.ensures.end ∙ lens.3))

pub returns-clause-kept : goal.returns-clause-kept
returns-clause-kept g c =
    let s = c.self.inside in
    let p = c.plan_commit.new.pages in
    let r = c.plan_commit.new.room in
    let last = c.args.last.items in
    let plan = c.in-Some.plan in
    let f : IsPlan s.header s.pages s.overlay s.room s.len last plan p r = subst (λ q. IfSome q (λ x. IsPlan s.header s.pages s.overlay s.room s.len last x p r)) c.in-Some.is c.in-Ok.ensures.plan in
    let full = c.plan_commit.ensures.cells in
    let is_after = c.install.ensures.pages ∙ ap (pages_after plan) f.same_pages in
    let gone : c.forget_all.new.self ≡ without plan.freed.items s.cache = c.forget_all.ensures ∙ ap (λ l. without l s.cache) c.deref.ensures.value in
    let now = parts plan.header c.install.new.pages c.new.result c.install.new.room plan.end c.forget_all.new.self in
    let those = kept_then s.header s.pages s.overlay s.room r s.fresh s.len last plan p c.self.invariant.0 c.requires.changes f full c.install.new.pages c.new.result c.install.new.room is_after c.new.ensures s.cache c.self.invariant.1 c.forget_all.new.self in
    subst (λ (v : Slots). AreThose (IsPlace now) (kept v) (keys_of c.forget_all.new.self)) c.self.view_is
    (subst (λ (es : Cached). AreThose (IsPlace now) (keys_of s.cache) (keys_of es)) (sym gone) those)
