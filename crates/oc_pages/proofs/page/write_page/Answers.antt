use Rattle.std.proofs.Common.{◌≡◌, ◌∙◌, length, refl, rules, arith}
use Rattle.std.proofs.lemmas.List.Elements.{All-more}
use Rattle.oc_layout.specs.Layout.{FitsCell}
use Rattle.oc_pages.specs.Pages.{no_cell}
use Rattle.oc_pages.proofs.Bytes.{written_more}
use Rattle.oc_pages.proofs.page.write_page.Goals as goal

pub loop-k-preserved : goal.loop-k-preserved
loop-k-preserved c =
    let size : length c.args.page.now.cells ≡ 126 = search rules in
    record {
      front = written_more c.args.page.now c.loop-k.k c.loop-k.bytes c.put_cell-in-loop-k.new.bytes _ c.loop-k-test.true size c.loop-k.invariant.size refl c.put_cell-in-loop-k.ensures.bytes c.loop-k.invariant.front;
      fits = All-more FitsCell c.args.page.now.cells c.loop-k.k no_cell (omega (arith, size, c.loop-k-test.true)) c.loop-k.invariant.fits c.put_cell-in-loop-k.ensures.fits;
      size = c.put_cell-in-loop-k.auto.bytes ∙ c.loop-k.invariant.size;
    }
