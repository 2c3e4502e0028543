use Rattle.oc_chunks.proofs.joining.+join_back.Given as goal

abbrev pub decreases-join_back : goal.decreases-join_back
decreases-join_back g l = l.at
