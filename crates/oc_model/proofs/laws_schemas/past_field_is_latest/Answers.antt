use Rattle.oc_model.specs.SchemaSteps.{past_fields}
use Rattle.oc_model.proofs.PastFields.{latest_among, latest_bounds, latest_of_none}
use Rattle.oc_model.proofs.laws_schemas.past_field_is_latest.Goals as goal

pub returns-clause-among : goal.returns-clause-among
returns-clause-among c fields name k f e = latest_among (past_fields fields name k) f e

pub returns-clause-greatest : goal.returns-clause-greatest
returns-clause-greatest c fields name k f e = latest_bounds (past_fields fields name k) f e

pub returns-clause-none : goal.returns-clause-none
returns-clause-none c fields name k e = latest_of_none (past_fields fields name k) e
