use Rattle.std.proofs.Common.{◌∙◌, sym, ap, refl, drop, ◌++◌, arith}
use Rattle.std.specs.Int.{w16, to_be_bytes}
use Rattle.std.proofs.lemmas.Bool.{lt-ltb}
use Rattle.oc_marshal.proofs.Standing.{too_short, stands_front}
use Rattle.oc_catalog.proofs.places.short_at.Goals as goal

pub returns-then-bytes-at-lt2-clause-none : goal.returns-then-bytes-at-lt2-clause-none
returns-then-bytes-at-lt2-clause-none c x rest p e = too_short c.args.bytes.now (to_be_bytes w16 x) rest c.args.at 2 refl c.if-bytes-at-lt2.true e

pub returns-clause-found : goal.returns-clause-found
returns-clause-found c =
    let number = c.short_from.result in
    let at = c.rest_from.ensures in
    stands_front _ (to_be_bytes w16) c.args.bytes.now c.args.at 2 number (lt-ltb number _ (omega arith)) (omega (arith, c.if-bytes-at-lt2.false, c.requires))
    (sym at ∙ c.short_from.ensures ∙ ap (λ l. to_be_bytes w16 number ++ drop 2 l) at)
