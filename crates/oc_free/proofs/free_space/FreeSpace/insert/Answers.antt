use Rattle.std.proofs.Common.{◌≡◌, ◌≤◌, ◌-◌, refl, true, is_ok, min, sym, subst, arith}
use Rattle.std.specs.List.{insert}
use Rattle.std.specs.Vec.{vec_len, vec_capacity}
use Rattle.oc_free.specs.FreeParts.{Free}
use Rattle.oc_free.specs.Orders.{AreOrdered, IsGapFor, IsApartBefore, IsApartAfter, IsRankOf}
use Rattle.oc_free.proofs.Ordered.{ordered_insert}
use Rattle.oc_free.proofs.free_space.FreeSpace.insert.Goals as goal

-- there is room in both lists, and the part is put into both
ordered : (c : goal.After-insert-room-2) → AreOrdered c.insert-room-2.new.self.items c.insert-room.new.self.items
ordered c =
    let a = c.self.inside.by_address in
    let s = c.self.inside.by_size in
    let p = c.args.part in
    let spare : 1 ≤ min (vec_capacity a - vec_len a) (vec_capacity s - vec_len s) = subst (λ (v : Free). 1 ≤ v.spare) (sym c.self.view_is) c.requires.spare in
    let sized : is_ok c.insert-room.result ≡ true = c.insert-room.ensures.succeeds (omega (arith, spare)) in
    let addressed : is_ok c.insert-room-2.result ≡ true = c.insert-room-2.ensures.succeeds (omega (arith, spare)) in
    let by_size : c.insert-room.new.self.items ≡ insert s.items c.rank_of-rank.result p = rw c.insert-room.ensures.items (rw sized refl) in
    let by_address : c.insert-room-2.new.self.items ≡ insert a.items c.args.place p = rw c.insert-room-2.ensures.items (rw addressed refl) in
    let is_rank = subst (λ l. IsRankOf p l c.rank_of-rank.result) c.deref.ensures.value c.rank_of-rank.ensures in
    rw (by_address, by_size) (ordered_insert a.items s.items p c.args.place c.rank_of-rank.result c.self.invariant c.requires.in_range
    (subst (λ (v : Free). IsGapFor p v.parts c.args.place) (sym c.self.view_is) c.requires.gap)
    (subst (λ (v : Free). IsApartBefore p v.parts c.args.place) (sym c.self.view_is) c.requires.before)
    (subst (λ (v : Free). IsApartAfter p v.parts c.args.place) (sym c.self.view_is) c.requires.after)
    is_rank)

pub invariant_of-self : goal.invariant_of-self
invariant_of-self c = ordered c

pub returns-clause-free : goal.returns-clause-free
returns-clause-free c = (ordered c).free
