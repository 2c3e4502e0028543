use Rattle.std.proofs.Common.{◌≡◌, ◌∙◌, ℕ, suc, ◌+◌, ◌≤◌, ◌<◌, List, [], ◌∷◌, ◌++◌, length, drop, get_or, ap, subst, arith, length-append}
use Rattle.std.proofs.Math.Seq.{drop-cons}
use Rattle.std.proofs.lemmas.List.{drop_all}
use Rattle.oc_layout.specs.declared.cells.Cell.{Cell}
use Rattle.oc_free.specs.FreeParts.{free_at}
use Rattle.oc_room.specs.Rooms.{owners}
use Rattle.oc_room.proofs.Counting.{no_cell}
use Rattle.oc_slots.specs.Noting.{GoFree}
use Rattle.oc_slots.proofs.Noted.{owners_append}
use Rattle.oc_slots.proofs.Releases.{free_front, free_on, one_taken, one_given}
use Rattle.oc_slots.proofs.installing.release_all.Goals as goal

-- the cells from one on
left : (cs : List Cell) (i : ℕ) → i < length cs → drop i cs ≡ (get_or cs i no_cell ∷ []) ++ drop (i + 1) cs
left cs i lt = drop-cons cs i no_cell lt ∙ (λ j. get_or cs i no_cell ∷ drop (next j) cs)
  where
    next : suc i ≡ i + 1
    next = omega arith

pub release-requires-clause-spare : goal.release-requires-clause-spare
release-requires-clause-spare c =
    let cs = c.args.cells.now in
    let i = c.loop-cell.cell-index in
    omega (arith, c.loop-cell.invariant.free.spare, ap length (left cs i c.loop-cell-test.true))

one : (room : _) (cs : List Cell) (i : ℕ) → i < length cs → GoFree room (drop i cs) → GoFree room (get_or cs i no_cell ∷ [])
one room cs i lt is = free_front room (get_or cs i no_cell ∷ []) (drop (i + 1) cs) (subst (GoFree room) (left cs i lt) is)

pub release-requires-clause-some : goal.release-requires-clause-some
release-requires-clause-some c = (one c.loop-cell.room c.args.cells.now c.loop-cell.cell-index c.loop-cell-test.true c.loop-cell.invariant.free).some 0 no_cell (omega arith)

pub release-requires-clause-within : goal.release-requires-clause-within
release-requires-clause-within c = (one c.loop-cell.room c.args.cells.now c.loop-cell.cell-index c.loop-cell-test.true c.loop-cell.invariant.free).within 0 no_cell (omega arith)

pub release-requires-clause-taken : goal.release-requires-clause-taken
release-requires-clause-taken c =
    one_taken c.loop-cell.room (get_or c.args.cells.now c.loop-cell.cell-index no_cell) (one c.loop-cell.room c.args.cells.now c.loop-cell.cell-index c.loop-cell-test.true c.loop-cell.invariant.free)

pub loop-cell-preserved : goal.loop-cell-preserved
loop-cell-preserved c =
    let cs = c.args.cells.now in
    let i = c.loop-cell.cell-index in
    let inv = c.loop-cell.invariant in
    let old = c.loop-cell.room in
    let new = c.release.new.self in
    let x = get_or cs i no_cell in
    let more = drop (i + 1) cs in
    let are = left cs i c.loop-cell-test.true in
    let given : (k : ℕ) → free_at new.parts k ≡ free_at old.parts k + owners old.unit (x ∷ []) k = λ k. omega (arith, c.release.ensures.parts k, one_given old.unit x k) in
    let u = c.args.room.now.unit in
    let given_u : (k : ℕ) → free_at new.parts k ≡ free_at old.parts k + owners u (x ∷ []) k = λ k. subst (λ v. free_at new.parts k ≡ free_at old.parts k + owners v (x ∷ []) k) inv.unit (given k) in
    record {
      free = free_on old new (x ∷ []) more (subst (GoFree old) are inv.free) given c.release.ensures.spare c.release.ensures.is_room c.release.ensures.unit c.release.ensures.end;
      parts = λ k. omega (arith, inv.parts k, given_u k, ap (λ l. owners u l k) are, owners_append u k (x ∷ []) more);
      spare = omega (arith, inv.spare, c.release.ensures.spare, ap length are, length-append (x ∷ []) more);
      unit = c.release.ensures.unit ∙ inv.unit;
      end = c.release.ensures.end ∙ inv.end;
      limit = c.release.ensures.limit ∙ inv.limit;
    }

none_left : (cs : List Cell) (i : ℕ) → length cs ≤ i → drop i cs ≡ []
none_left cs i le = drop_all i cs le

pub returns-clause-parts : goal.returns-clause-parts
returns-clause-parts c k =
    let none = none_left c.args.cells.now c.loop-cell.cell-index c.loop-cell-test.false in
    omega (arith, c.loop-cell.invariant.parts k, ap (λ l. owners c.args.room.now.unit l k) none)

pub returns-clause-spare : goal.returns-clause-spare
returns-clause-spare c = omega (arith, c.loop-cell.invariant.spare)

pub returns-clause-is_room : goal.returns-clause-is_room
returns-clause-is_room c = c.loop-cell.invariant.free.is_room
