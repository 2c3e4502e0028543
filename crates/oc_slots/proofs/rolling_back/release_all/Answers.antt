use Rattle.std.proofs.Common.{◌≡◌, ◌∙◌, ℕ, ◌+◌, ◌++◌, length, drop, sym, ap, subst, arith, length-append}
use Rattle.oc_free.specs.FreeParts.{free_at}
use Rattle.oc_room.specs.Rooms.{owners}
use Rattle.oc_slots.specs.Slots.{cell_list, places_in}
use Rattle.oc_slots.specs.Noting.{GoFree}
use Rattle.oc_slots.proofs.Noted.{owners_append}
use Rattle.oc_slots.proofs.Releases.{free_front, free_on, places_left, places_none}
use Rattle.oc_slots.proofs.rolling_back.release_all.Goals as goal

pub release-requires : goal.release-requires
release-requires c =
    let cs = c.args.changes.now.entries in
    let i = c.loop-index.index in
    let left = places_left cs i (omega (arith, c.loop-index-test.true, c.len-index-end.ensures.len)) in
    subst (λ o. GoFree c.loop-index.room (cell_list o)) (sym c.place_at.ensures) (free_front c.loop-index.room _ (places_in (drop (i + 1) cs)) (subst (GoFree c.loop-index.room) left c.loop-index.invariant.free))

pub loop-index-preserved : goal.loop-index-preserved
loop-index-preserved c =
    let cs = c.args.changes.now.entries in
    let i = c.loop-index.index in
    let inv = c.loop-index.invariant in
    let here = cell_list c.place_at.result in
    let more = places_in (drop (i + 1) cs) in
    let left : places_in (drop i cs) ≡ here ++ more = places_left cs i (omega (arith, c.loop-index-test.true, c.len-index-end.ensures.len)) ∙ (λ j. cell_list (sym c.place_at.ensures j) ++ more) in
    let u = c.args.room.now.unit in
    let given : (k : ℕ) → free_at c.release.new.room.parts k ≡ free_at c.loop-index.room.parts k + owners u here k =
    λ k. subst (λ v. free_at c.release.new.room.parts k ≡ free_at c.loop-index.room.parts k + owners v here k) inv.unit (c.release.ensures.parts k) in
    record {
      free = free_on c.loop-index.room c.release.new.room here more (subst (GoFree c.loop-index.room) left inv.free) c.release.ensures.parts c.release.ensures.spare c.release.ensures.is_room c.release.ensures.unit c.release.ensures.end;
      parts = λ k. omega (arith, inv.parts k, given k, ap (λ l. owners u l k) left, owners_append u k here more);
      spare = omega (arith, inv.spare, c.release.ensures.spare, ap length left, length-append here more);
      unit = c.release.ensures.unit ∙ inv.unit;
      end = c.release.ensures.end ∙ inv.end;
      limit = c.release.ensures.limit ∙ inv.limit;
    }

pub returns-clause-parts : goal.returns-clause-parts
returns-clause-parts c k =
    let none = places_none c.args.changes.now.entries c.loop-index.index (omega (arith, c.loop-index-test.false, c.len-index-end.ensures.len)) in
    omega (arith, c.loop-index.invariant.parts k, ap (λ l. owners c.args.room.now.unit l k) none)

pub returns-clause-spare : goal.returns-clause-spare
returns-clause-spare c = omega (arith, c.loop-index.invariant.spare)

pub returns-clause-is_room : goal.returns-clause-is_room
returns-clause-is_room c = c.loop-index.invariant.free.is_room
