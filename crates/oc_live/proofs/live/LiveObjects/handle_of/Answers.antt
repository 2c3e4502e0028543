use Rattle.std.proofs.Common.{◌≡◌, ap, ◌∙◌, option_map, rules}
use Rattle.oc_refs.specs.declared.table.Ref.{Ref}
use Rattle.oc_live.specs.Memories.{Memory, handle_in}
use Rattle.oc_live.proofs.Enlisting.{handle_is}
use Rattle.oc_live.proofs.live.LiveObjects.handle_of.Goals as goal

pub returns : goal.returns
returns c =
    let mapped : c.map.result ≡ option_map (λ (r : Ref). r.handle) c.by_number.result = search (rules, c.map.ensures.cases) in
    mapped ∙ ap (option_map (λ (r : Ref). r.handle)) c.by_number.ensures
    ∙ handle_is c.self.inside.heap c.self.inside.refs c.self.invariant c.args.number
    ∙ ap (λ (m : Memory). handle_in m.live c.args.number) c.self.view_is
