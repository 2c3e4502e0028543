use Rattle.std.proofs.Common.{◌≡◌, ◌∙◌, ◌+◌, List, ◌++◌, drop, sym, ap, arith}
use Rattle.oc_layout.specs.declared.cells.Cell.{Cell}
use Rattle.oc_slots.specs.Cached.{without}
use Rattle.oc_slots.specs.Slots.{cell_list, places_in}
use Rattle.oc_slots.proofs.CacheLists.{without_more, without_none}
use Rattle.oc_slots.proofs.Releases.{places_left, places_none}
use Rattle.oc_slots.proofs.forgetting.forget_places.Goals as goal

pub loop-index-preserved : goal.loop-index-preserved
loop-index-preserved c =
    let cs = c.args.changes.now.entries in
    let i = c.loop-index.index in
    let here = cell_list c.place_at.result in
    let more = places_in (drop (i + 1) cs) in
    let left : places_in (drop i cs) ≡ here ++ more = places_left cs i (omega (arith, c.loop-index-test.true, c.len-index-end.ensures.len)) ∙ (λ j. cell_list (sym c.place_at.ensures j) ++ more) in
    ap (without more) c.forget_place.ensures ∙ sym (without_more here more c.loop-index.cache) ∙ ap (λ (l : List Cell). without l c.loop-index.cache) (sym left) ∙ c.loop-index.invariant

pub returns : goal.returns
returns c =
    let none = places_none c.args.changes.now.entries c.loop-index.index (omega (arith, c.loop-index-test.false, c.len-index-end.ensures.len)) in
    sym (without_none c.loop-index.cache) ∙ ap (λ (l : List Cell). without l c.loop-index.cache) (sym none) ∙ c.loop-index.invariant
