use Rattle.std.proofs.Common.{ap, subst, flat_map}
use Rattle.oc_index.specs.Indexed.{now_of, JoinsFields}
use Rattle.oc_index.proofs.FieldsJoined.{joins_same}
use Rattle.oc_index.proofs.indexes.Indexes.join_small.Goals as goal

pub returns-in_err-join_small-clause-fields : goal.returns-in_err-join_small-clause-fields
returns-in_err-join_small-clause-fields c = subst (λ l. JoinsFields l (flat_map now_of c.self.inside.fields.items)) (ap (λ l. l.fields) c.self.view_is) (joins_same (flat_map now_of c.self.inside.fields.items))
