use Rattle.std.proofs.Common.{◌≡◌, ◌≤◌, drop}
use Rattle.oc_machine.specs.Reading.{is_deep_from}
use Rattle.oc_script.proofs.parser.is_deep.Given as goal

abbrev pub invariant-loop-token : goal.invariant-loop-token
invariant-loop-token l =
    record {
      few : l.count ≤ 64;
      rest : is_deep_from l.count (drop l.token-index l.tokens) ≡ is_deep_from 0 l.tokens;
    }
