use Rattle.std.proofs.Common.{◌∙◌}
use Rattle.oc_lists.proofs.OneIndex.{one_index}
use Rattle.oc_lists.proofs.tests.has_its_index.Goals as goal

pub returns : goal.returns
returns c same =
    one_index c.args.schema.now c.args.indexes.now c.as_slice.result.now c.as_slice-2.result.now (c.as_slice.ensures.value ∙ c.in_ok-there.ensures.fields) (c.as_slice-2.ensures.value ∙ c.in_ok-wanted.ensures)
    (c.are_one_and_same.ensures.same same) (c.are_one_and_same.ensures.one same)
