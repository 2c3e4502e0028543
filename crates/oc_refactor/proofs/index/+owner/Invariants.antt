use Rattle.oc_refactor.proofs.index.+owner.Given as goal

abbrev pub decreases-owner : goal.decreases-owner
decreases-owner l = l.class
