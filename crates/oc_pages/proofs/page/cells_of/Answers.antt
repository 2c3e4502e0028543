use Rattle.std.proofs.Common.{◌∙◌, length, drop, ap, arith, length-drop}
use Rattle.std.proofs.lemmas.List.{length-set}
use Rattle.oc_pages.specs.Chains.{cells_from}
use Rattle.oc_pages.proofs.Bytes.{read_more, read_all}
use Rattle.oc_pages.proofs.page.cells_of.Goals as goal

pub loop-k-preserved : goal.loop-k-preserved
loop-k-preserved c =
    let after = c.split_at-in-loop-k.ensures.back in
    record {
      read = read_more c.loop-k.cells c.loop-k.k c.loop-k.rest.now c.split_at-in-loop-k.result.1.now c.first_of.result (cells_from 126 (drop 16 c.args.bytes.now)) c.loop-k-test.true c.loop-k.invariant.size c.first_of.ensures after c.loop-k.invariant.read;
      room = omega (arith, ap length after, length-drop 8 c.loop-k.rest.now, c.loop-k.invariant.room, c.loop-k-test.true);
      size = length-set c.loop-k.cells c.loop-k.k c.first_of.result ∙ c.loop-k.invariant.size;
    }

pub returns : goal.returns
returns c = read_all c.loop-k.cells c.loop-k.k c.loop-k.rest.now (cells_from 126 (drop 16 c.args.bytes.now)) c.loop-k-test.false c.loop-k.invariant.size c.loop-k.invariant.read
