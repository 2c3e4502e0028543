use Rattle.std.proofs.Common.{◌∙◌, sym, ap, refl, drop, ◌++◌, arith}
use Rattle.std.specs.Int.{w32, to_be_bytes}
use Rattle.std.proofs.lemmas.Bool.{lt-ltb}
use Rattle.oc_marshal.proofs.Standing.{too_short, stands_front}
use Rattle.oc_catalog.proofs.places.word_at.Goals as goal

pub returns-then-bytes-at-lt4-clause-none : goal.returns-then-bytes-at-lt4-clause-none
returns-then-bytes-at-lt4-clause-none c x rest p e = too_short c.args.bytes.now (to_be_bytes w32 x) rest c.args.at 4 refl c.if-bytes-at-lt4.true e

pub returns-clause-found : goal.returns-clause-found
returns-clause-found c =
    let number = c.word_from.result in
    let at = c.rest_from.ensures in
    stands_front _ (to_be_bytes w32) c.args.bytes.now c.args.at 4 number (lt-ltb number _ (omega arith)) (omega (arith, c.if-bytes-at-lt4.false, c.requires))
    (sym at ∙ c.word_from.ensures ∙ ap (λ l. to_be_bytes w32 number ++ drop 4 l) at)
