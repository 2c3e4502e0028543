use Rattle.oc_schema.proofs.draft.Draft.+field_named.Given as goal

abbrev pub decreases-field_named : goal.decreases-field_named
decreases-field_named l = l.class
