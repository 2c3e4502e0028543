use Rattle.std.proofs.Common.{◌≡◌, ◌∙◌, ◌*◌, ap, sym, pos, rules, to_z, of_z}
use Rattle.std.specs.Int.{w128}
use Rattle.oc_value.specs.Values.{fits_unsigned}
use Rattle.oc_value.proofs.Signs.{natural_fits, natural_only, narrow}
use Rattle.oc_value.proofs.integers.get_nat.Goals as goal

pub number_of-requires : goal.number_of-requires
number_of-requires g c = narrow g.row.W c.word_at.result c.requires.narrow c.word_at.ensures.small

pub returns-clause-fits : goal.returns-clause-fits
returns-clause-fits g c =
    let is : to_z w128 (of_z w128 c.number_of.result) ≡ pos c.word_at.result = search rules in
    ap (fits_unsigned (8 * g.row.W)) is ∙ natural_fits g.row.W c.word_at.result c.word_at.ensures.small

pub returns-clause-only : goal.returns-clause-only
returns-clause-only g c n fits same =
    let is : to_z w128 (of_z w128 c.number_of.result) ≡ pos c.word_at.result = search rules in
    natural_only g.row.W c.word_at.result n c.word_at.ensures.small fits (sym c.word_at.ensures.spelled ∙ same) ∙ sym is
