use Rattle.oc_container.proofs.MoreLive.{no_more}
use Rattle.oc_container.proofs.waking.wake.Goals as goal

pub returns-in-None-clause-more : goal.returns-in-None-clause-more
returns-in-None-clause-more c = no_more c.args.live.now
