use Rattle.std.proofs.Common.{◌<◌, length, arith}
use Rattle.oc_layout.specs.Layout.{unit_of, first_page_of}
use Rattle.oc_log.specs.Log.{put_cells}
use Rattle.oc_log.proofs.Bytes.{length-put}
use Rattle.oc_slots.proofs.PagesShort.{no_page_fits}
use Rattle.oc_slots.proofs.judging.read_pages.Goals as goal

pub returns-then-len-lt-PAGE-clause-not_container : goal.returns-then-len-lt-PAGE-clause-not_container
returns-then-len-lt-PAGE-clause-not_container g c is told pages has =
    let b = (g.H.Host.disk c.args.host.now).bytes in
    let h = c.args.header.now in
    let size = length-put c.args.writes.now b (c.requires.within told) in
    let short : length (put_cells c.args.writes.now b) < 1024 = omega (arith, size, c.requires.len told, c.if-len-lt-PAGE.true) in
    c.no_pages.ensures.not_container is (no_page_fits (unit_of h) (put_cells c.args.writes.now b) (first_page_of h) pages short has)
