use Rattle.std.proofs.Common.{◌≡◌, ◌++◌, map, take}
use Rattle.oc_slots.specs.Turnovers.{keys_of}
use Rattle.oc_slots.proofs.new_pages.put_at.Given as goal

abbrev pub invariant-loop-place : goal.invariant-loop-place
invariant-loop-place l = record {
  keys : keys_of l.added.items ≡ keys_of l.fn.added.items ++ map (λ index. (l.space, index)) (take l.place l.indexes);
  places : map (λ a. a.at) l.added.items ≡ map (λ a. a.at) l.fn.added.items ++ map (λ c. c.at) (take l.place l.cells);
}
