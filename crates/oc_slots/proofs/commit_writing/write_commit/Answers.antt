use Rattle.std.proofs.Common.{◌≡◌, ◌∙◌, sym, ap, subst}
use Rattle.oc_layout.specs.Layout.{unit_of}
use Rattle.oc_host.specs.Disk.{LeavesOnly}
use Rattle.oc_slots.specs.Held.{Holds, map_of}
use Rattle.oc_slots.specs.Pieces.{as_pieces, over_all, pieces_of}
use Rattle.oc_slots.specs.Planning.{AreFit, slot_pieces, page_pieces}
use Rattle.oc_slots.specs.Turnovers.{page_slots}
use Rattle.oc_slots.specs.Writing.{AreFree, Keeps, Before}
use Rattle.oc_slots.proofs.CommitWrites.{runs_leave, held, slots_size, pages_leave, may, log_leaves, holds_then, map_then, size_then}
use Rattle.oc_slots.proofs.commit_writing.write_commit.Goals as goal

pub returns-in_err-write_runs-clause-any_moment : goal.returns-in_err-write_runs-clause-any_moment
returns-in_err-write_runs-clause-any_moment g c told old w =
    let d = g.H.Host.disk c.args.host.now in
    let e = g.H.Host.disk c.write_runs.new.host in
    let h = c.args.header.now in
    let runs = c.deref.ensures.value in
    runs_leave h old c.args.pages.now.pages c.args.plan c.requires.ready.log d w e
    (c.write_runs.ensures.any_moment told h old (subst (λ l. AreFree h old (as_pieces l)) (sym runs) w.slots) w.holds)

-- once the slots are written
pub write_pages-requires-clause-end : goal.write_pages-requires-clause-end
write_pages-requires-clause-end g c told =
    let old = (c.requires.writable told).0 in
    let w = (c.requires.writable told).1 in
    let h = c.args.header.now in
    let d = g.H.Host.disk c.args.host.now in
    let e = g.H.Host.disk c.write_runs.new.host in
    let runs = c.deref.ensures.value in
    let free = subst (λ l. AreFree h old (as_pieces l)) (sym runs) w.slots in
    slots_size h old c.args.pages.now.pages c.args.plan c.requires.ready.log d w e
    (c.in_ok-write_runs.ensures.bytes told ∙ ap (λ l. over_all (as_pieces l) d.bytes) runs) (c.in_ok-write_runs.ensures.keeps told h old free) (c.write_runs.ensures.any_moment told h old free w.holds)

pub returns-in_err-write_pages-clause-any_moment : goal.returns-in_err-write_pages-clause-any_moment
returns-in_err-write_pages-clause-any_moment g c told old w =
    let h = c.args.header.now in
    let pages = c.args.pages.now.pages in
    let plan = c.args.plan in
    let d = g.H.Host.disk c.args.host.now in
    let e = g.H.Host.disk c.write_runs.new.host in
    let f = g.H.Host.disk c.write_pages.new.host in
    let runs = c.deref.ensures.value in
    let free = subst (λ l. AreFree h old (as_pieces l)) (sym runs) w.slots in
    let slots : e.bytes ≡ over_all (slot_pieces plan) d.bytes = c.in_ok-write_runs.ensures.bytes told ∙ ap (λ l. over_all (as_pieces l) d.bytes) runs in
    let keeps : Keeps h old d e = c.in_ok-write_runs.ensures.keeps told h old free in
    let first : LeavesOnly d e (Before h old d) = c.write_runs.ensures.any_moment told h old free w.holds in
    let same : pieces_of c.unit-unit.result plan.planned.end plan.planned.before (page_slots pages c.deref-2.result.now) ≡ page_pieces (unit_of h) plan pages = (λ i. pieces_of (c.unit-unit.ensures i) plan.planned.end plan.planned.before (page_slots pages (c.deref-2.ensures.value i))) in
    let free_pages = subst (AreFree h old) (sym same) w.pages in
    let second : LeavesOnly e f (Before h old e) = c.write_pages.ensures.any_moment told h old free_pages (held h old pages plan c.requires.ready.log d w e slots keeps first) in
    pages_leave h old pages plan c.requires.ready.log d w e slots keeps first f second

pub put_in-requires-clause-may : goal.put_in-requires-clause-may
put_in-requires-clause-may g c told =
    let old = (c.requires.writable told).0 in
    let w = (c.requires.writable told).1 in
    let h = c.args.header.now in
    let pages = c.args.pages.now.pages in
    let plan = c.args.plan in
    let d = g.H.Host.disk c.args.host.now in
    let e = g.H.Host.disk c.write_runs.new.host in
    let f = g.H.Host.disk c.write_pages.new.host in
    let runs = c.deref.ensures.value in
    let free = subst (λ l. AreFree h old (as_pieces l)) (sym runs) w.slots in
    let slots : e.bytes ≡ over_all (slot_pieces plan) d.bytes = c.in_ok-write_runs.ensures.bytes told ∙ ap (λ l. over_all (as_pieces l) d.bytes) runs in
    let keeps : Keeps h old d e = c.in_ok-write_runs.ensures.keeps told h old free in
    let first : LeavesOnly d e (Before h old d) = c.write_runs.ensures.any_moment told h old free w.holds in
    let same : pieces_of c.unit-unit.result plan.planned.end plan.planned.before (page_slots pages c.deref-2.result.now) ≡ page_pieces (unit_of h) plan pages = (λ i. pieces_of (c.unit-unit.ensures i) plan.planned.end plan.planned.before (page_slots pages (c.deref-2.ensures.value i))) in
    let free_pages = subst (AreFree h old) (sym same) w.pages in
    let second : LeavesOnly e f (Before h old e) = c.write_pages.ensures.any_moment told h old free_pages (held h old pages plan c.requires.ready.log d w e slots keeps first) in
    let pages_bytes : f.bytes ≡ over_all (page_pieces (unit_of h) plan pages) e.bytes = c.in_ok-write_pages.ensures.bytes told ∙ ap (λ l. over_all l e.bytes) same in
    let kept : Keeps h old e f = c.in_ok-write_pages.ensures.keeps told h old free_pages in
    let fit = subst (AreFit pages) c.deref-2.ensures.value c.in_ok-write_pages.ensures.fits in
    may h old pages plan c.requires.ready.log d w e slots keeps first f pages_bytes kept second fit

pub returns-in_err-put_in-clause-any_moment : goal.returns-in_err-put_in-clause-any_moment
returns-in_err-put_in-clause-any_moment g c told old w =
    let h = c.args.header.now in
    let pages = c.args.pages.now.pages in
    let plan = c.args.plan in
    let d = g.H.Host.disk c.args.host.now in
    let e = g.H.Host.disk c.write_runs.new.host in
    let f = g.H.Host.disk c.write_pages.new.host in
    let runs = c.deref.ensures.value in
    let free = subst (λ l. AreFree h old (as_pieces l)) (sym runs) w.slots in
    let slots : e.bytes ≡ over_all (slot_pieces plan) d.bytes = c.in_ok-write_runs.ensures.bytes told ∙ ap (λ l. over_all (as_pieces l) d.bytes) runs in
    let keeps : Keeps h old d e = c.in_ok-write_runs.ensures.keeps told h old free in
    let first : LeavesOnly d e (Before h old d) = c.write_runs.ensures.any_moment told h old free w.holds in
    let same : pieces_of c.unit-unit.result plan.planned.end plan.planned.before (page_slots pages c.deref-2.result.now) ≡ page_pieces (unit_of h) plan pages = (λ i. pieces_of (c.unit-unit.ensures i) plan.planned.end plan.planned.before (page_slots pages (c.deref-2.ensures.value i))) in
    let free_pages = subst (AreFree h old) (sym same) w.pages in
    let second : LeavesOnly e f (Before h old e) = c.write_pages.ensures.any_moment told h old free_pages (held h old pages plan c.requires.ready.log d w e slots keeps first) in
    let pages_bytes : f.bytes ≡ over_all (page_pieces (unit_of h) plan pages) e.bytes = c.in_ok-write_pages.ensures.bytes told ∙ ap (λ l. over_all l e.bytes) same in
    let kept : Keeps h old e f = c.in_ok-write_pages.ensures.keeps told h old free_pages in
    let fit = subst (AreFit pages) c.deref-2.ensures.value c.in_ok-write_pages.ensures.fits in
    log_leaves h old pages plan c.requires.ready.log d w e slots keeps first f pages_bytes kept second fit (g.H.Host.disk c.put_in.new.host) (c.put_in.ensures.any_moment told)

pub returns-clause-any_moment : goal.returns-clause-any_moment
returns-clause-any_moment g c told old w =
    let h = c.args.header.now in
    let pages = c.args.pages.now.pages in
    let plan = c.args.plan in
    let d = g.H.Host.disk c.args.host.now in
    let e = g.H.Host.disk c.write_runs.new.host in
    let f = g.H.Host.disk c.write_pages.new.host in
    let runs = c.deref.ensures.value in
    let free = subst (λ l. AreFree h old (as_pieces l)) (sym runs) w.slots in
    let slots : e.bytes ≡ over_all (slot_pieces plan) d.bytes = c.in_ok-write_runs.ensures.bytes told ∙ ap (λ l. over_all (as_pieces l) d.bytes) runs in
    let keeps : Keeps h old d e = c.in_ok-write_runs.ensures.keeps told h old free in
    let first : LeavesOnly d e (Before h old d) = c.write_runs.ensures.any_moment told h old free w.holds in
    let same : pieces_of c.unit-unit.result plan.planned.end plan.planned.before (page_slots pages c.deref-2.result.now) ≡ page_pieces (unit_of h) plan pages = (λ i. pieces_of (c.unit-unit.ensures i) plan.planned.end plan.planned.before (page_slots pages (c.deref-2.ensures.value i))) in
    let free_pages = subst (AreFree h old) (sym same) w.pages in
    let second : LeavesOnly e f (Before h old e) = c.write_pages.ensures.any_moment told h old free_pages (held h old pages plan c.requires.ready.log d w e slots keeps first) in
    let pages_bytes : f.bytes ≡ over_all (page_pieces (unit_of h) plan pages) e.bytes = c.in_ok-write_pages.ensures.bytes told ∙ ap (λ l. over_all l e.bytes) same in
    let kept : Keeps h old e f = c.in_ok-write_pages.ensures.keeps told h old free_pages in
    let fit = subst (AreFit pages) c.deref-2.ensures.value c.in_ok-write_pages.ensures.fits in
    log_leaves h old pages plan c.requires.ready.log d w e slots keeps first f pages_bytes kept second fit (g.H.Host.disk c.put_in.new.host) (c.put_in.ensures.any_moment told)

pub returns-clause-holds : goal.returns-clause-holds
returns-clause-holds g c told old w =
    let h = c.args.header.now in
    let pages = c.args.pages.now.pages in
    let plan = c.args.plan in
    let d = g.H.Host.disk c.args.host.now in
    let e = g.H.Host.disk c.write_runs.new.host in
    let f = g.H.Host.disk c.write_pages.new.host in
    let runs = c.deref.ensures.value in
    let free = subst (λ l. AreFree h old (as_pieces l)) (sym runs) w.slots in
    let slots : e.bytes ≡ over_all (slot_pieces plan) d.bytes = c.in_ok-write_runs.ensures.bytes told ∙ ap (λ l. over_all (as_pieces l) d.bytes) runs in
    let keeps : Keeps h old d e = c.in_ok-write_runs.ensures.keeps told h old free in
    let first : LeavesOnly d e (Before h old d) = c.write_runs.ensures.any_moment told h old free w.holds in
    let same : pieces_of c.unit-unit.result plan.planned.end plan.planned.before (page_slots pages c.deref-2.result.now) ≡ page_pieces (unit_of h) plan pages = (λ i. pieces_of (c.unit-unit.ensures i) plan.planned.end plan.planned.before (page_slots pages (c.deref-2.ensures.value i))) in
    let free_pages = subst (AreFree h old) (sym same) w.pages in
    let second : LeavesOnly e f (Before h old e) = c.write_pages.ensures.any_moment told h old free_pages (held h old pages plan c.requires.ready.log d w e slots keeps first) in
    let pages_bytes : f.bytes ≡ over_all (page_pieces (unit_of h) plan pages) e.bytes = c.in_ok-write_pages.ensures.bytes told ∙ ap (λ l. over_all l e.bytes) same in
    let kept : Keeps h old e f = c.in_ok-write_pages.ensures.keeps told h old free_pages in
    let fit = subst (AreFit pages) c.deref-2.ensures.value c.in_ok-write_pages.ensures.fits in
    subst (λ x. Holds x pages (g.H.Host.disk c.put_in.new.host)) (sym c.requires.ready.header) (holds_then h old pages plan c.requires.ready.log d w e slots keeps first f pages_bytes kept second fit (g.H.Host.disk c.put_in.new.host) (c.in_ok-put_in.ensures.bytes told) (c.in_ok-put_in.ensures.synced told) (g.met.H.Host.sound c.put_in.new.host told))

pub returns-clause-map : goal.returns-clause-map
returns-clause-map g c told old w id =
    let h = c.args.header.now in
    let pages = c.args.pages.now.pages in
    let plan = c.args.plan in
    let d = g.H.Host.disk c.args.host.now in
    let e = g.H.Host.disk c.write_runs.new.host in
    let f = g.H.Host.disk c.write_pages.new.host in
    let runs = c.deref.ensures.value in
    let free = subst (λ l. AreFree h old (as_pieces l)) (sym runs) w.slots in
    let slots : e.bytes ≡ over_all (slot_pieces plan) d.bytes = c.in_ok-write_runs.ensures.bytes told ∙ ap (λ l. over_all (as_pieces l) d.bytes) runs in
    let keeps : Keeps h old d e = c.in_ok-write_runs.ensures.keeps told h old free in
    let first : LeavesOnly d e (Before h old d) = c.write_runs.ensures.any_moment told h old free w.holds in
    let same : pieces_of c.unit-unit.result plan.planned.end plan.planned.before (page_slots pages c.deref-2.result.now) ≡ page_pieces (unit_of h) plan pages = (λ i. pieces_of (c.unit-unit.ensures i) plan.planned.end plan.planned.before (page_slots pages (c.deref-2.ensures.value i))) in
    let free_pages = subst (AreFree h old) (sym same) w.pages in
    let second : LeavesOnly e f (Before h old e) = c.write_pages.ensures.any_moment told h old free_pages (held h old pages plan c.requires.ready.log d w e slots keeps first) in
    let pages_bytes : f.bytes ≡ over_all (page_pieces (unit_of h) plan pages) e.bytes = c.in_ok-write_pages.ensures.bytes told ∙ ap (λ l. over_all l e.bytes) same in
    let kept : Keeps h old e f = c.in_ok-write_pages.ensures.keeps told h old free_pages in
    let fit = subst (AreFit pages) c.deref-2.ensures.value c.in_ok-write_pages.ensures.fits in
    ap (λ x. map_of x pages (g.H.Host.disk c.put_in.new.host).bytes id) c.requires.ready.header ∙ map_then h old pages plan c.requires.ready.log d w e slots keeps first f pages_bytes kept second fit (g.H.Host.disk c.put_in.new.host) (c.in_ok-put_in.ensures.bytes told) (c.in_ok-put_in.ensures.synced told) (g.met.H.Host.sound c.put_in.new.host told) id

pub returns-clause-size : goal.returns-clause-size
returns-clause-size g c told old w =
    let h = c.args.header.now in
    let pages = c.args.pages.now.pages in
    let plan = c.args.plan in
    let d = g.H.Host.disk c.args.host.now in
    let e = g.H.Host.disk c.write_runs.new.host in
    let f = g.H.Host.disk c.write_pages.new.host in
    let runs = c.deref.ensures.value in
    let free = subst (λ l. AreFree h old (as_pieces l)) (sym runs) w.slots in
    let slots : e.bytes ≡ over_all (slot_pieces plan) d.bytes = c.in_ok-write_runs.ensures.bytes told ∙ ap (λ l. over_all (as_pieces l) d.bytes) runs in
    let keeps : Keeps h old d e = c.in_ok-write_runs.ensures.keeps told h old free in
    let first : LeavesOnly d e (Before h old d) = c.write_runs.ensures.any_moment told h old free w.holds in
    let same : pieces_of c.unit-unit.result plan.planned.end plan.planned.before (page_slots pages c.deref-2.result.now) ≡ page_pieces (unit_of h) plan pages = (λ i. pieces_of (c.unit-unit.ensures i) plan.planned.end plan.planned.before (page_slots pages (c.deref-2.ensures.value i))) in
    let free_pages = subst (AreFree h old) (sym same) w.pages in
    let second : LeavesOnly e f (Before h old e) = c.write_pages.ensures.any_moment told h old free_pages (held h old pages plan c.requires.ready.log d w e slots keeps first) in
    let pages_bytes : f.bytes ≡ over_all (page_pieces (unit_of h) plan pages) e.bytes = c.in_ok-write_pages.ensures.bytes told ∙ ap (λ l. over_all l e.bytes) same in
    let kept : Keeps h old e f = c.in_ok-write_pages.ensures.keeps told h old free_pages in
    let fit = subst (AreFit pages) c.deref-2.ensures.value c.in_ok-write_pages.ensures.fits in
    size_then h old pages plan c.requires.ready.log d w e slots keeps first f pages_bytes kept second fit (g.H.Host.disk c.put_in.new.host) (c.in_ok-put_in.ensures.bytes told) (c.in_ok-put_in.ensures.synced told) (g.met.H.Host.sound c.put_in.new.host told)
