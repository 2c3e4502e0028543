-- Each test is a lemma.
use Rattle.oc_model.proofs.Parts.{begins_is, closes_is, has_part_is}
use Rattle.oc_model.proofs.laws_queries.text_tests_are_by_parts.Goals as goal

pub returns : goal.returns
returns c = record { starts = begins_is; ends = closes_is; contains = has_part_is }
