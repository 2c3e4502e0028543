use Rattle.std.proofs.Common.{◌∙◌}
use Rattle.oc_chunks.proofs.StandingIn.{stood}
use Rattle.oc_chunks.proofs.editing.put_pieces.Goals as goal

pub returns-clause-ok : goal.returns-clause-ok
returns-clause-ok g c =
    let made = c.remove-first.new.self in
    let v = c.append.new.self in
    stood c.args.pieces.now.items c.args.made.items made.items c.args.at c.requires.within c.remove-first.ensures.items v c.in_ok-append.ensures.items v.ok.0
    c.deref_mut.result.now c.rotate_right.new.self c.deref_mut.ensures.value c.len-more.result (c.len-more.ensures ∙ made.ok.0) c.rotate_right.ensures.after
    c.index_mut.result.now c.remove-first.result c.stand_in.new.piece c.requires.some c.remove-first.ensures.value c.index_mut.ensures.value c.stand_in.ensures
