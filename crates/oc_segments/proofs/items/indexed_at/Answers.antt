use Rattle.std.proofs.Common.{rules}
use Rattle.oc_model.specs.Spelling.{atom_bytes}
use Rattle.oc_marshal.specs.Places.{StandsAt}
use Rattle.oc_marshal.specs.Records.{is_atom}
use Rattle.oc_segments.proofs.Keys.{no_number}
use Rattle.oc_segments.proofs.items.indexed_at.Goals as goal

pub returns-in_default-word_at-clause-none : goal.returns-in_default-word_at-clause-none
returns-in_default-word_at-clause-none c =
    let key : StandsAt (is_atom c.args.base) (atom_bytes c.args.base) c.args.bytes.now c.args.at c.in-Some.key c.in-Some.from = search rules in
    no_number c.args.base c.args.bytes.now c.args.at c.in-Some.from c.in-Some.key key c.in_default-word_at.ensures.none
