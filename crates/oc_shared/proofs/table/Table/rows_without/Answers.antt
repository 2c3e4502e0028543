use Rattle.std.proofs.Common.{◌≡◌, sym, ap, subst, ◌∙◌}
use Rattle.std.specs.Prelude.{slice_get, remove}
use Rattle.oc_shared.specs.Tables.{IsAscending, has_key, without_key}
use Rattle.oc_shared.proofs.Rows.{removed_there, ascending_without}
use Rattle.oc_shared.proofs.table.Table.rows_without.Goals as goal

pub returns-in_ok-rows-clause-rows : goal.returns-in_ok-rows-clause-rows
returns-in_ok-rows-clause-rows g c =
    let rows = c.args.self.now in
    let key = c.args.key.now in
    let count = c.place-place.ensures.count in
    let there = ap (λ n. has_key key (slice_get rows n)) (sym count) ∙ sym c.has_key.ensures ∙ c.if-has_key.true in
    c.in_ok-rows.ensures ∙ (λ i. remove (c.self.view_is i) (count i)) ∙ removed_there key rows c.place-place.ensures.ascending there

pub returns-in_ok-rows-clause-ascending : goal.returns-in_ok-rows-clause-ascending
returns-in_ok-rows-clause-ascending g c =
    let rows = c.args.self.now in
    let key = c.args.key.now in
    let count = c.place-place.ensures.count in
    let there = ap (λ n. has_key key (slice_get rows n)) (sym count) ∙ sym c.has_key.ensures ∙ c.if-has_key.true in
    let is : c.in_ok-rows.rows ≡ without_key rows key = c.in_ok-rows.ensures ∙ (λ i. remove (c.self.view_is i) (count i)) ∙ removed_there key rows c.place-place.ensures.ascending there in
    subst IsAscending (sym is) (ascending_without key rows c.place-place.ensures.ascending)
