use Rattle.std.proofs.Common.{◌≡◌, ◌+◌, drop}
use Rattle.oc_container.specs.Places.{place_of}
use Rattle.oc_container.proofs.entering.place_of.Given as goal

abbrev pub invariant-loop-place : goal.invariant-loop-place
invariant-loop-place l = l.place + place_of l.id (drop l.place l.entries) ≡ place_of l.id l.entries
