use Rattle.std.proofs.Common.{◌≡◌, ◌∙◌, ◌+◌, List, [], ◌++◌, drop, sym, ap, arith}
use Rattle.std.proofs.lemmas.List.{drop_all}
use Rattle.oc_layout.specs.declared.cells.Cell.{Cell}
use Rattle.oc_slots.specs.Cached.{without}
use Rattle.oc_slots.specs.Noting.{noted_cells, left_by}
use Rattle.oc_slots.proofs.CacheLists.{without_more, without_none}
use Rattle.oc_slots.proofs.KeptPlaces.{left_more}
use Rattle.oc_slots.proofs.forgetting.forget_changed.Goals as goal

pub loop-change-preserved : goal.loop-change-preserved
loop-change-preserved c =
    let ps = c.args.placed.now in
    let i = c.loop-change.change-index in
    let o = c.args.overlay.now in
    let here = noted_cells o c.change-item.result.id in
    let more = left_by o (drop (i + 1) ps) in
    let left : left_by o (drop i ps) ≡ here ++ more = left_more o ps i c.change-item.result c.loop-change-test.true c.change-item.is in
    ap (without more) c.forget_noted.ensures ∙ sym (without_more here more c.loop-change.cache) ∙ ap (λ (l : List Cell). without l c.loop-change.cache) (sym left) ∙ c.loop-change.invariant

pub returns : goal.returns
returns c =
    let none : drop c.loop-change.change-index c.args.placed.now ≡ [] = drop_all c.loop-change.change-index c.args.placed.now (omega (arith, c.loop-change-test.false)) in
    sym (without_none c.loop-change.cache) ∙ ap (λ l. without (left_by c.args.overlay.now l) c.loop-change.cache) (sym none) ∙ c.loop-change.invariant
