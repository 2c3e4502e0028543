use Rattle.std.proofs.Common.{◌≡◌, ◌++◌, flat_map}
use Rattle.oc_machine.specs.Generated.{first_lines, lines_of_one, up_to}
use Rattle.oc_generate.proofs.script_of.Given as goal

-- the first lines, and those of the objects so far
abbrev pub invariant-loop-made : goal.invariant-loop-made
invariant-loop-made l = l.script.items ≡ first_lines ++ flat_map lines_of_one (up_to l.made)
