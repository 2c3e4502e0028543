use Rattle.std.proofs.Common.{rules}
use Rattle.oc_lists.proofs.SmallReferences.{small_references}
use Rattle.oc_lists.proofs.storable.storable.Goals as goal

pub returns-then-suits-clause-some : goal.returns-then-suits-clause-some
returns-then-suits-clause-some c =
    let r = c.args.rec in
    let is = c.requires.is in
    record {
      suits = search rules;
      short = c.requires.short;
      references = small_references r.entries is.spellable.small;
      texts = is.texts;
    }
