use Rattle.oc_schema.proofs.draft.Draft.+push_fields.Given as goal

abbrev pub decreases-push_fields : goal.decreases-push_fields
decreases-push_fields l = l.class
