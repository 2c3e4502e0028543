use Rattle.std.proofs.Common.{◌≡◌}
use Rattle.oc_live.proofs.Undoing.{AreUndone}
use Rattle.oc_live.proofs.live.LiveObjects.undo_to.Given as goal

abbrev pub invariant-loop-undone : goal.invariant-loop-undone
invariant-loop-undone l =
    (l.self-inside ≡ record (l.initial.self-inside) { refs = l.self-inside.refs })
    × AreUndone l.initial.self-inside.heap l.initial.self-inside.refs l.self-inside.refs l.handle l.undone
