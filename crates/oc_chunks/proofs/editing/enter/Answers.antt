use Rattle.std.proofs.Common.{◌∙◌, ap, suc, ◌+◌, take, arith}
use Rattle.std.specs.List.{insert}
use Rattle.oc_chunks.proofs.Puts.{inserted}
use Rattle.oc_chunks.proofs.editing.enter.Goals as goal

pub returns-clause-ok : goal.returns-clause-ok
returns-clause-ok g c =
    let part = c.args.part.now in
    let put = inserted part.items.items c.args.at part.len c.args.entry c.requires.there c.requires.within in
    c.truncate.ensures.items ∙ ap (λ l. take (part.len + 1) l) c.in_ok-insert.ensures.items ∙ ap (λ n. take n (insert part.items.items c.args.at c.args.entry)) {x = part.len + 1} {y = suc part.len} (omega arith) ∙ put
