use Rattle.std.proofs.Common.{◌≡◌, ◌-◌, [], ◌∷◌}
use Rattle.oc_machine.specs.Parsers.{more_of, next_is}
use Rattle.oc_script.specs.Parsed.{after}
use Rattle.oc_script.proofs.parser.lists.items_after.Given as goal

abbrev pub invariant-loop : goal.invariant-loop
invariant-loop g l =
    after l.items.items (more_of (next_is l.separator) (l.most - l.counter) g.I.Item.parser l.cursor) ≡ after (l.fn.first ∷ []) (more_of (next_is l.separator) l.most g.I.Item.parser l.fn.cursor)
