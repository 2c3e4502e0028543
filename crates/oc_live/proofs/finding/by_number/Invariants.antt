use Rattle.oc_live.proofs.finding.by_number.Given as goal

-- the ledger is the one of the count that is made here
abbrev pub ghosts-counted_by_number : goal.ghosts-counted_by_number
ghosts-counted_by_number a = record { name = a.blank.name; parts = a.blank.parts }
