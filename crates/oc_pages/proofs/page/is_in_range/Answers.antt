use Rattle.std.proofs.Common.{◌≡◌, false, rules, get_or}
use Rattle.oc_pages.specs.Pages.{is_empty, no_cell}
use Rattle.oc_pages.proofs.Ranges.{out_of_range}
use Rattle.oc_pages.proofs.page.is_in_range.Goals as goal

pub returns-then-not-is_empty-clause-no : goal.returns-then-not-is_empty-clause-no
returns-then-not-is_empty-clause-no c refused =
    let some : is_empty (get_or c.args.page.now.cells c.loop-k.k no_cell) ≡ false = search rules in
    out_of_range c.args.page.now c.loop-k.k c.loop-k-test.true c.if-number-gt-LAST_NUMBER.true some
