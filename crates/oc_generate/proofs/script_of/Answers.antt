-- The lines of one object more, and the last lines.
use Rattle.std.proofs.Common.{◌≡◌, arith}
use Rattle.oc_generate.proofs.Scripts.{goes_on, ends}
use Rattle.oc_machine.specs.Generated.{first_lines}
use Rattle.oc_generate.proofs.script_of.Goals as goal

pub loop-made-preserved : goal.loop-made-preserved
loop-made-preserved c =
    goes_on _ _ first_lines c.loop-made.made _ c.into.ensures c.loop-made.invariant c.in_ok-put_lines_of_one.ensures

pub returns : goal.returns
returns c =
    let whole : c.loop-made.made ≡ c.args.count = omega (arith, c.loop-made-test.false, c.loop-made.auto.made-end) in
    ends _ _ c.loop-made.made c.args.count whole c.loop-made.invariant c.in_ok-extend_from_slice-2.ensures.items
