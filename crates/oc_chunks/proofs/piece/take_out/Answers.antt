use Rattle.std.proofs.Common.{◌∙◌, sym}
use Rattle.std.proofs.lemmas.List.{with_items_is}
use Rattle.oc_chunks.proofs.Rotated.{rotated, length_rotated}
use Rattle.oc_chunks.proofs.piece.take_out.Goals as goal

pub returns-clause-items : goal.returns-clause-items
returns-clause-items g c =
    let items = c.args.part.now.items in
    let part = rotated items.items c.deref_mut.result.now c.rotate_left.new.self c.args.at c.args.part.now.len c.deref_mut.ensures.value c.requires.there c.requires.within c.rotate_left.ensures.after in
    with_items_is items _ (length_rotated items.items c.deref_mut.result.now c.rotate_left.new.self c.args.at c.args.part.now.len c.deref_mut.ensures.value c.requires.there c.requires.within c.rotate_left.ensures.len ∙ sym items.ok.0) ∙ part
