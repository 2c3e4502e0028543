use Rattle.std.proofs.Common.{◌≡◌, ◌∙◌, ap, sym, ◌-◌, ◌*◌, arith, rules, to_z, of_z}
use Rattle.std.specs.Int.{w128}
use Rattle.oc_value.specs.Integers.{number_bytes}
use Rattle.oc_model.specs.Values.{fits_signed}
use Rattle.oc_marshal.proofs.Standing.{too_short, stands_taken, length-bytes_high_first}
use Rattle.oc_segments.proofs.atoms.signed_at.Goals as goal

pub returns-then-bytes-at-clause-none : goal.returns-then-bytes-at-clause-none
returns-then-bytes-at-clause-none g c x rest p e = too_short c.args.bytes.now (number_bytes g.row.W x) rest c.args.at g.row.W (length-bytes_high_first g.row.W _) c.if-bytes-at.true e

pub returns-clause-found : goal.returns-clause-found
returns-clause-found g c =
    let is : to_z w128 (of_z w128 c.get_int.result) ≡ c.get_int.result = search rules in
    stands_taken (fits_signed (8 * g.row.W - 1)) (number_bytes g.row.W) c.args.bytes.now c.args.at g.row.W (to_z w128 (of_z w128 c.get_int.result))
    (ap (fits_signed (8 * g.row.W - 1)) is ∙ c.get_int.ensures.fits)
    (omega (arith, c.if-bytes-at.false, c.requires.there))
    (c.get_int.ensures.spelled ∙ ap (number_bytes g.row.W) (sym is))
