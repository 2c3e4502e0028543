use Rattle.std.proofs.Common.{◌≡◌, ◌∙◌, ap, subst, filter, flat_map, IfOk}
use Rattle.std.proofs.lemmas.List.Elements.{filter_agree}
use Rattle.oc_model.specs.Orders.{compare}
use Rattle.oc_chunks.specs.Chunks.{joined}
use Rattle.oc_index.specs.Ranges.{has_key, numbers_of}
use Rattle.oc_index.proofs.Ranged.{one_value}
use Rattle.oc_index.proofs.field_index.FieldIndex.equal.Goals as goal

pub returns : goal.returns
returns c =
    let key = c.args.key.now in
    let is = ap (flat_map (λ s. s.now)) c.deref.ensures.value ∙ c.in_ok-slices.ensures ∙ filter_agree _ (has_key key) (λ e. one_value (compare e.key key)) (joined c.self.inside.list.chunks) ∙ ap (λ f. filter (has_key key) (joined f.chunks)) c.self.view_is in
    subst (λ l. IfOk c.numbers_in.result (λ v. v.items ≡ numbers_of l)) is c.numbers_in.ensures
