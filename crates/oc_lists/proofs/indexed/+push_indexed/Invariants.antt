use Rattle.oc_lists.proofs.indexed.+push_indexed.Given as goal

abbrev pub decreases-push_indexed : goal.decreases-push_indexed
decreases-push_indexed l = l.number
