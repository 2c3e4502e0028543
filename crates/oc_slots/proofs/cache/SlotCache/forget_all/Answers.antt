use Rattle.std.proofs.Common.{◌∙◌, [], ◌∷◌, take, get_or, sym, ap}
use Rattle.std.proofs.lemmas.List.{take_more}
use Rattle.oc_layout.specs.declared.cells.Cell.{Cell}
use Rattle.oc_slots.specs.Cached.{without}
use Rattle.oc_slots.proofs.CacheLists.{without_more, without_none}
use Rattle.oc_slots.proofs.cache.SlotCache.forget_all.Goals as goal

pub loop-cell-init : goal.loop-cell-init
loop-cell-init c = sym (without_none c.args.self.now)

pub loop-cell-preserved : goal.loop-cell-preserved
loop-cell-preserved c =
    let cells = c.args.cells.now in
    let i = c.loop-cell.cell-index in
    let none : Cell = record { at = 0; len = 0 } in
    c.forget.ensures ∙ ap (without (get_or cells i none ∷ [])) c.loop-cell.invariant ∙ sym (without_more (take i cells) (get_or cells i none ∷ []) c.args.self.now)
    ∙ ap (λ l. without l c.args.self.now) (sym (take_more cells i none c.loop-cell-test.true))
