use Rattle.std.proofs.Common.{◌∙◌, ◌∷◌, ◌++◌, [], ap, sym, map, None, append-nil}
use Rattle.oc_store.specs.Last.{system_change}
use Rattle.oc_store.proofs.LastFacts.{none_gone, one_gone}
use Rattle.oc_store.proofs.last.put_if_gone.Goals as goal

pub returns-in_ok-push : goal.returns-in_ok-push
returns-in_ok-push c =
    c.in_ok-push.ensures.items
    ∙ ap (λ k. c.args.changes.now.items ++ record { id = k; bytes = None } ∷ []) c.system_slot.ensures
    ∙ ap (λ l. c.args.changes.now.items ++ map system_change l) (sym (one_gone c.args.kept.now c.args.number c.if-not-is_among.ensures.no))

pub returns-else-not-is_among : goal.returns-else-not-is_among
returns-else-not-is_among c = sym (append-nil c.args.changes.now.items) ∙ ap (λ l. c.args.changes.now.items ++ map system_change l) (sym (none_gone c.args.kept.now c.args.number c.if-not-is_among.ensures.yes))
