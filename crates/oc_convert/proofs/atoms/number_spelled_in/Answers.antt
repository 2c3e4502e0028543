use Rattle.std.proofs.Common.{◌≡◌, ◌∙◌, sym, Some, rules}
use Rattle.std.specs.Option.{option_and_then}
use Rattle.oc_model.specs.Conversions.{number_spelled, in_range}
use Rattle.oc_convert.specs.Ranges.{in_128_bits}
use Rattle.oc_convert.proofs.Numbers.{spelled_number}
use Rattle.oc_convert.proofs.atoms.number_spelled_in.Goals as goal

pub returns : goal.returns
returns c =
    let found : option_and_then in_128_bits (number_spelled c.args.text.now) ≡ Some c.in_ok-whole_in.field-0 = search rules in
    let made : c.number_in.result ≡ in_range c.args.base c.in_ok-whole_in.field-0 = search rules in
    made ∙ sym (spelled_number c.args.base c.args.text.now c.in_ok-whole_in.field-0 c.requires found)
