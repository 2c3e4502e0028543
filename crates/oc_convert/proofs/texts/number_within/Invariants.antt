use Rattle.std.proofs.Common.{◌≡◌, drop}
use Rattle.oc_convert.specs.Conversions.{number}
use Rattle.oc_convert.specs.Ranges.{number_after}
use Rattle.oc_convert.proofs.texts.number_within.Given as goal

abbrev pub invariant-loop-digit : goal.invariant-loop-digit
invariant-loop-digit l = number_after l.number (drop l.digit-index l.digits) ≡ number l.digits
