use Rattle.oc_pages.proofs.Listings.{EarlyNumbers}
use Rattle.oc_pages.proofs.listing.put_numbers.Given as goal

abbrev pub invariant-loop-k : goal.invariant-loop-k
invariant-loop-k l = EarlyNumbers l.fn.space l.page l.k l.fn.numbers.items l.numbers.items
