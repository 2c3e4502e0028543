use Rattle.oc_refs.proofs.tests.found.Given as goal

-- the ledger is the one of the count that is made here
abbrev pub ghosts-counted : goal.ghosts-counted
ghosts-counted a = record { name = a.blank.name; parts = a.blank.parts }
