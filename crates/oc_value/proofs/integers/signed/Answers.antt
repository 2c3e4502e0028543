use Rattle.std.proofs.Common.{◌≡◌, ◌∙◌, ◌+◌, ◌-◌, ◌*◌, ◌^◌, ◌<◌, suc, ap, sym, pos, negsuc, arith, rules, to_z, of_z}
use Rattle.std.specs.Int.{w128}
use Rattle.oc_value.specs.Values.{fits_signed}
use Rattle.oc_value.specs.Integers.{number_bytes}
use Rattle.oc_value.proofs.Signs.{low_half, high_half, negative_spelled, low_fits, high_fits}
use Rattle.oc_value.proofs.integers.signed.Goals as goal

pub returns-then-word-half-clause-only : goal.returns-then-word-half-clause-only
returns-then-word-half-clause-only g c n fits same =
    let is : to_z w128 (of_z w128 c.number_of.result) ≡ pos c.args.word = search rules in
    low_half g.row.W c.half_of-half.result c.args.word n c.requires.width.few c.half_of-half.ensures.power c.half_of-half.ensures.half c.if-word-half.true fits same ∙ sym is

pub returns-then-word-half-clause-fits : goal.returns-then-word-half-clause-fits
returns-then-word-half-clause-fits g c =
    let is : to_z w128 (of_z w128 c.number_of.result) ≡ pos c.args.word = search rules in
    ap (fits_signed (8 * g.row.W - 1)) is ∙ low_fits g.row.W c.half_of-half.result c.args.word c.half_of-half.ensures.power c.if-word-half.true

pub returns-then-word-half-clause-spelled : goal.returns-then-word-half-clause-spelled
returns-then-word-half-clause-spelled g c =
    let is : to_z w128 (of_z w128 c.number_of.result) ≡ pos c.args.word = search rules in
    sym (ap (number_bytes g.row.W) is)

pub returns-else-word-half : goal.returns-else-word-half
returns-else-word-half g c =
    let half = c.half_of-half.result in
    let word = c.args.word in
    let far = half - 1 - (word - half) in
    let is : to_z w128 (of_z w128 c.number_below_zero.result) ≡ negsuc far = search rules in
    let sum = c.half_of-half.ensures.half in
    let high = c.if-word-half.false in
    let small = c.requires.small in
    let whole : suc far + word ≡ 256 ^ g.row.W = omega (arith, sum, high, small) in
    let low : far < 256 ^ g.row.W = omega (arith, whole) in
    record {
      fits = ap (fits_signed (8 * g.row.W - 1)) is ∙ high_fits g.row.W half word far c.half_of-half.ensures.power sum small high whole;
      spelled = negative_spelled g.row.W far word c.requires.width.few low whole ∙ sym (ap (number_bytes g.row.W) is);
      only = λ n fits same. high_half g.row.W half word far n c.requires.width.few c.half_of-half.ensures.power sum high whole fits same ∙ sym is;
    }
