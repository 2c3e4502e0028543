use Rattle.std.proofs.Common.{ap, subst}
use Rattle.oc_free.specs.FreeParts.{Free}
use Rattle.oc_free.specs.Orders.{IsPlaceOf}
use Rattle.oc_free.proofs.Ordered.{gap_of_taken}
use Rattle.oc_free.proofs.free_space.FreeSpace.release.Goals as goal

-- none of the blocks is free, so they lie between two parts
pub join_before-place-requires-clause-gap : goal.join_before-place-requires-clause-gap
join_before-place-requires-clause-gap c =
    let listed = ap (λ (v : Free). v.parts) c.self.view_is in
    rw (c.new.ensures, ← listed) (gap_of_taken c.self.inside.by_address.items c.place_of-place.result c.args.address c.args.blocks c.self.invariant.free
    (subst (λ l. IsPlaceOf c.args.address l c.place_of-place.result) c.deref.ensures.value c.place_of-place.ensures)
    c.requires.some
    (rw listed c.requires.taken))
