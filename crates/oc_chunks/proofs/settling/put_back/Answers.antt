use Rattle.std.proofs.Common.{refl, ◌+◌, arith}
use Rattle.oc_chunks.proofs.Backs.{put_back_now, is_put_back}
use Rattle.oc_chunks.proofs.settling.put_back.Goals as goal

pub returns : goal.returns
returns g c =
    let old = c.args.part.now in
    let at = c.place_behind-at.result in
    record { back = is_put_back g.E.Entry.order old _ at c.place_behind-at.ensures.within c.requires.within c.place_behind-at.ensures.placed (λ d. put_back_now old.items.items at old.len d c.place_behind-at.ensures.within c.requires.within old.items c.deref_mut.result.now c.rotate_right.new.self (old.len + 1) (omega arith) refl old.items.ok.0 c.deref_mut.ensures.value c.rotate_right.ensures.after) (omega arith) refl refl }
