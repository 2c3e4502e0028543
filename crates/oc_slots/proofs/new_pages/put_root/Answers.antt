use Rattle.oc_slots.proofs.MissingPages.{root_pushed}
use Rattle.oc_slots.proofs.new_pages.put_root.Goals as goal

pub returns-in_ok-push : goal.returns-in_ok-push
returns-in_ok-push c =
    let last = c.in-Some.ensures.item.3 in
    root_pushed c.args.header.now c.args.added.now c.in-Some.first.now c.args.cells.now.items _ _ c.root_place.ensures c.in_ok-push.ensures.items last.0 (last.1 c.in-Some.first.now)
