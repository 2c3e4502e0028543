use Rattle.std.proofs.Common.{◌≡◌, ◌≤◌, rules, slice_index}
use Rattle.oc_catalog.proofs.Rows.{name_found}
use Rattle.oc_catalog.proofs.places.name_at.Goals as goal

pub returns-clause-found : goal.returns-clause-found
returns-clause-found c =
    let len = c.from-len.result in
    let copied : c.in_ok-name.name ≡ c.part.result.now = search rules in
    let first : len ≡ slice_index c.args.bytes.now c.args.at = search rules in
    let few : len ≤ 255 = search rules in
    rw copied (name_found c.args.bytes.now c.part.result.now c.args.at len (search rules) first few (search rules) c.part.ensures.part c.part.ensures.len)
