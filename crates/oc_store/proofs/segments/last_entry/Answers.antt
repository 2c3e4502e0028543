use Rattle.oc_store.proofs.Ends.{last_joined, none_joined}
use Rattle.oc_store.proofs.segments.last_entry.Goals as goal

pub returns-clause-last : goal.returns-clause-last
returns-clause-last g c = last_joined c.args.chunks.now c.in_ok-chunk.chunk.now c.deref.result.now c.last-2.result c.in_ok-chunk.ensures.value c.deref.ensures.value c.last-2.ensures.value

pub returns-clause-none : goal.returns-clause-none
returns-clause-none g c = none_joined g.E.Entry.order c.args.chunks.now c.in_ok-chunk.chunk.now c.deref.result.now c.last-2.result c.requires c.in_ok-chunk.ensures.value c.deref.ensures.value c.last-2.ensures.value
