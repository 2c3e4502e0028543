use Rattle.std.proofs.Common.{◌≡◌, ◌∙◌, None, Option, sym, ap, rules}
use Rattle.oc_layout.specs.declared.cells.Cell.{Cell}
use Rattle.oc_slots.specs.Cached.{without}
use Rattle.oc_slots.specs.Slots.{cell_list}
use Rattle.oc_slots.proofs.CacheLists.{without_none}
use Rattle.oc_slots.proofs.forgetting.forget_place.Goals as goal

pub returns-in_default : goal.returns-in_default
returns-in_default c =
    let none : c.args.place ≡ None = search rules in
    sym (without_none c.args.cache.now) ∙ ap (λ (o : Option Cell). without (cell_list o) c.args.cache.now) (sym none)
