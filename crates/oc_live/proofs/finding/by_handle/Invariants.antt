use Rattle.oc_live.proofs.finding.by_handle.Given as goal

-- the ledger is the one of the count that is made here
abbrev pub ghosts-counted_by_handle : goal.ghosts-counted_by_handle
ghosts-counted_by_handle a = record { name = a.blank.name; parts = a.blank.parts }
