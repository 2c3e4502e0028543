use Rattle.std.proofs.Common.{◌≡◌, ◌∙◌, ℕ, ◌+◌, ◌≤◌, [], ◌∷◌, ◌++◌, length, sym, ap, subst, arith}
use Rattle.std.specs.Prelude.{All}
use Rattle.oc_free.specs.FreeParts.{free_at}
use Rattle.oc_room.specs.Rooms.{owners}
use Rattle.oc_room.proofs.Counting.{no_cell}
use Rattle.oc_slots.specs.Noting.{GoFree}
use Rattle.oc_slots.specs.Pointings.{set_all}
use Rattle.oc_slots.specs.Turnovers.{with_added}
use Rattle.oc_slots.specs.Planning.{pages_after}
use Rattle.oc_slots.proofs.Noted.{owners_append}
use Rattle.oc_slots.proofs.Releases.{free_front, free_on, one_taken, one_given}
use Rattle.oc_slots.proofs.InstallParts.{given_free, given_addresses, given_whole}
use Rattle.oc_slots.proofs.installing.install.Goals as goal

pub point-requires-clause-addresses : goal.point-requires-clause-addresses
point-requires-clause-addresses c =
    subst (All (λ a. a.at ≤ 2147483647)) (sym c.deref.ensures.value) (given_addresses c.args.pages.now c.args.room.now c.args.plan.now c.requires.plan c.requires.full)

pub release_all-requires : goal.release_all-requires
release_all-requires c =
    let plan = c.args.plan.now in
    subst (GoFree c.args.room.now) (sym c.deref-3.ensures.value) (free_front c.args.room.now plan.freed.items (plan.place ∷ []) (given_free c.args.pages.now c.args.room.now plan c.requires.plan c.requires.full))

-- when the freed places are given back the log's can be
place_free : (c : goal.After-release-arg-2-1) → GoFree c.release_all.new.room (c.args.plan.now.place ∷ [])
place_free c =
    let plan = c.args.plan.now in
    let room = c.args.room.now in
    let done = c.release_all.ensures in
    let value = c.deref-3.ensures.value in
    free_on room c.release_all.new.room plan.freed.items (plan.place ∷ []) (given_free c.args.pages.now room plan c.requires.plan c.requires.full)
    (λ k. omega (arith, done.parts k, ap (λ l. owners room.unit l k) value)) (omega (arith, done.spare, ap length value)) done.is_room done.unit done.end

pub release-requires-clause-within : goal.release-requires-clause-within
release-requires-clause-within c = (place_free c).within 0 no_cell (omega arith)

pub release-requires-clause-taken : goal.release-requires-clause-taken
release-requires-clause-taken c = one_taken c.release_all.new.room c.args.plan.now.place (place_free c)

-- the pages are those that the plan makes
pages_are : (c : goal.After-release) → c.point.new.pages.pages ≡ pages_after c.args.plan.now c.args.pages.now.pages
pages_are c = c.point.ensures.pages ∙ (λ i. set_all (c.deref-2.ensures.value i) (with_added (c.deref.ensures.value i) c.args.pages.now.pages))

pub returns-clause-whole : goal.returns-clause-whole
returns-clause-whole c none empty =
    let plan = c.args.plan.now in
    let p = c.args.pages.now in
    let q = c.point.new.pages in
    let r = c.args.room.now in
    let s = c.release_all.new.room in
    let t = c.release.new.self in
    let one = c.release_all.ensures in
    let two = c.release.ensures in
    let given : (k : ℕ) → free_at t.parts k ≡ free_at s.parts k + owners r.unit (plan.place ∷ []) k =
    λ k. subst (λ u. free_at t.parts k ≡ free_at s.parts k + owners u (plan.place ∷ []) k) one.unit (omega (arith, two.parts k, one_given s.unit plan.place k)) in
    let parts : (k : ℕ) → free_at t.parts k ≡ free_at r.parts k + owners r.unit (plan.freed.items ++ plan.place ∷ []) k =
    λ k. omega (arith, one.parts k, ap (λ l. owners r.unit l k) c.deref-3.ensures.value, given k, owners_append r.unit k plan.freed.items (plan.place ∷ [])) in
    given_whole p q r t plan none c.requires.plan c.requires.full empty parts two.is_room (two.unit ∙ one.unit) (two.end ∙ one.end) (two.limit ∙ one.limit)
    (pages_are c) c.point.ensures.unit c.point.ensures.others
