use Rattle.oc_model.proofs.SchemaLaws.{equal_schemas, equal_differ_not}
use Rattle.oc_model.proofs.laws_schemas.differs_tells.Goals as goal

pub returns-clause-equal : goal.returns-clause-equal
returns-clause-equal c = equal_schemas

pub returns-clause-alike : goal.returns-clause-alike
returns-clause-alike c = equal_differ_not
