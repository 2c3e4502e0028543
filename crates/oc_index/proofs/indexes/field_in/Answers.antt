use Rattle.std.proofs.Common.{◌∙◌, ap, sym, Some}
use Rattle.oc_index.proofs.Slots.{found, none_at}
use Rattle.oc_index.proofs.indexes.field_in.Goals as goal

pub returns-in-Some : goal.returns-in-Some
returns-in-Some c = ap (λ f. Some f.index) (sym c.index-fields-at.is) ∙ sym (found c.args.id c.args.fields.now c.in-Some.at c.in-Some.ensures.there c.index-fields-at.result c.index-fields-at.is)

pub returns-in-None : goal.returns-in-None
returns-in-None c = sym (none_at c.args.id c.args.fields.now c.in-None.ensures.none)
