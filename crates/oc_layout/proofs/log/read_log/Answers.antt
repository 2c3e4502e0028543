use Rattle.std.proofs.Common.{◌≡◌, ◌∙◌, inl, inr, sym, ap, arith, rules, length, drop, false, ◌*◌, ◌+◌, ◌<◌, ◌^◌}
use Rattle.std.specs.Prelude.{IsTrue}
use Rattle.oc_layout.specs.Layout.{write_len, writes_bytes, first_writes, is_ascending}
use Rattle.oc_layout.proofs.Spelled.{log_read, log_spelled, read_none, spells_none, spells_one}
use Rattle.oc_layout.proofs.log.read_log.Goals as goal

pub returns-then-bytes-lt4-clause-read : goal.returns-then-bytes-lt4-clause-read
returns-then-bytes-lt4-clause-read c = read_none c.args.wide c.args.bytes.now (inr (inl (λ e. omega (arith, e))))

pub returns-then-count-eq0-clause-read : goal.returns-then-count-eq0-clause-read
returns-then-count-eq0-clause-read c = read_none c.args.wide c.args.bytes.now (inl (sym c.number_from-count.ensures.read ∙ c.if-count-eq0.true))

pub returns-then-bytes-each-clause-read : goal.returns-then-bytes-each-clause-read
returns-then-bytes-each-clause-read c =
    read_none c.args.wide c.args.bytes.now (inr (inl (λ e. c.if-bytes-each.true (e ∙ (λ i. 4 + sym c.len_of-each.ensures i * sym c.number_from-count.ensures.read i)))))

pub returns-then-bytes-each-clause-none : goal.returns-then-bytes-each-clause-none
returns-then-bytes-each-clause-none c cells spells = spells_none c.args.wide cells c.args.bytes.now (returns-then-bytes-each-clause-read c) spells

pub returns-then-ascends-clause-read : goal.returns-then-ascends-clause-read
returns-then-ascends-clause-read c =
    let count = c.number_from-count.result in
    let found : c.in_ok-cells.cells.items ≡ first_writes c.args.wide count (drop 4 c.args.bytes.now) = search rules in
    let size : length c.args.bytes.now ≡ 4 + write_len c.args.wide * count = search rules in
    let order : IsTrue (is_ascending c.in_ok-cells.cells.items) = search rules in
    log_read c.args.wide c.args.bytes.now count c.in_ok-cells.cells.items (sym c.number_from-count.ensures.read) (sym found) (omega arith) size order

pub returns-then-ascends-clause-spelled : goal.returns-then-ascends-clause-spelled
returns-then-ascends-clause-spelled c =
    let count = c.number_from-count.result in
    let found : c.in_ok-cells.cells.items ≡ first_writes c.args.wide count (drop 4 c.args.bytes.now) = search rules in
    let some : 0 < count = omega arith in
    let few : count < 2 ^ 32 = search rules in
    let order : IsTrue (is_ascending c.in_ok-cells.cells.items) = search rules in
    let writes : drop 4 c.args.bytes.now ≡ writes_bytes c.args.wide c.in_ok-cells.cells.items = search rules in
    log_spelled c.args.wide c.args.bytes.now count c.in_ok-cells.cells.items found some few order c.in_ok-cells.ensures.fits c.number_from-count.ensures.spelled writes

pub returns-then-ascends-clause-only : goal.returns-then-ascends-clause-only
returns-then-ascends-clause-only c other spells = spells_one c.args.wide other c.in_ok-cells.cells.items c.args.bytes.now (returns-then-ascends-clause-read c) spells

pub returns-else-ascends-clause-read : goal.returns-else-ascends-clause-read
returns-else-ascends-clause-read c =
    let count = c.number_from-count.result in
    let found : c.in_ok-cells.cells.items ≡ first_writes c.args.wide count (drop 4 c.args.bytes.now) = search rules in
    let order : is_ascending c.in_ok-cells.cells.items ≡ false = search rules in
    read_none c.args.wide c.args.bytes.now (inr (inr (ap is_ascending ((λ i. first_writes c.args.wide (sym c.number_from-count.ensures.read i) (drop 4 c.args.bytes.now)) ∙ sym found) ∙ order)))

pub returns-else-ascends-clause-none : goal.returns-else-ascends-clause-none
returns-else-ascends-clause-none c cells spells = spells_none c.args.wide cells c.args.bytes.now (returns-else-ascends-clause-read c) spells
