use Rattle.std.proofs.Common.{◌≡◌, ◌≤◌, true, false, length, rules}
use Rattle.oc_marshal.specs.Places.{NoRowAt, StandInRow}
use Rattle.oc_segments.specs.Segments.{is_rising}
use Rattle.oc_segments.proofs.Whole.{no_size, no_items, none_behind, none_rising, segment_found, segment_only, still_entries}
use Rattle.oc_segments.proofs.reading.segment_in.Goals as goal

pub returns-in_default-clause-none : goal.returns-in_default-clause-none
returns-in_default-clause-none g c = no_size g.E.Entry.order (g.E.Item.stands c.args.base) (g.E.Item.spell c.args.base) c.args.bytes.now c.in_default.ensures.none

pub returns-in_default-2-clause-none : goal.returns-in_default-2-clause-none
returns-in_default-2-clause-none g c =
    let b = c.args.base in
    let none : NoRowAt (g.E.Item.stands b) (g.E.Item.spell b) c.args.bytes.now c.in-Some.from c.in-Some.count = search rules in
    no_items g.E.Entry.order (g.E.Item.stands b) (g.E.Item.spell b) c.args.bytes.now c.in-Some.from c.in-Some.count c.in-Some.ensures.found none

pub returns-then-to-bytes-clause-none : goal.returns-then-to-bytes-clause-none
returns-then-to-bytes-clause-none g c =
    let b = c.args.base in
    let row : StandInRow (g.E.Item.stands b) (g.E.Item.spell b) c.args.bytes.now c.in-Some.from c.in-Some-2.items.items c.in-Some-2.to = search rules in
    let len : length c.in-Some-2.items.items ≡ c.in-Some.count = search rules in
    none_behind g.E.Entry.order (g.E.Item.stands b) (g.E.Item.spell b) c.args.bytes.now (g.met.E.Item.told b) c.in-Some.from c.in-Some-2.to c.in-Some.count c.in-Some-2.items.items c.in-Some.ensures.found row len c.if-to-bytes.true

pub returns-then-not-ascends-clause-none : goal.returns-then-not-ascends-clause-none
returns-then-not-ascends-clause-none g c =
    let b = c.args.base in
    let row : StandInRow (g.E.Item.stands b) (g.E.Item.spell b) c.args.bytes.now c.in-Some.from c.in-Some-2.items.items c.in-Some-2.to = search rules in
    let len : length c.in-Some-2.items.items ≡ c.in-Some.count = search rules in
    let broken : is_rising g.E.Entry.order c.in-Some-2.items.items ≡ false = search rules in
    none_rising g.E.Entry.order (g.E.Item.stands b) (g.E.Item.spell b) c.args.bytes.now (g.met.E.Item.told b) c.in-Some.from c.in-Some-2.to c.in-Some.count c.in-Some-2.items.items c.in-Some.ensures.found row len broken

pub returns-clause-spelled : goal.returns-clause-spelled
returns-clause-spelled g c =
    let b = c.args.base in
    let row : StandInRow (g.E.Item.stands b) (g.E.Item.spell b) c.args.bytes.now c.in-Some.from c.in-Some-2.items.items c.in-Some-2.to = search rules in
    let len : length c.in-Some-2.items.items ≡ c.in-Some.count = search rules in
    let rising : is_rising g.E.Entry.order c.in-Some-2.items.items ≡ true = search rules in
    let end : length c.args.bytes.now ≤ c.in-Some-2.to = search rules in
    segment_found g.E.Entry.order (g.E.Item.stands b) (g.E.Item.spell b) c.args.bytes.now (g.met.E.Item.told b) c.in-Some.from c.in-Some-2.to c.in-Some.count c.in-Some-2.items.items c.in-Some.ensures.found row len
    g.met.E.Entry.total rising end

pub returns-clause-writable : goal.returns-clause-writable
returns-clause-writable g c =
    let b = c.args.base in
    still_entries g.E.Entry.order (g.E.Item.stands b) (g.E.Item.fits b) (g.met.E.Item.writable b) c.in-Some-2.items.items (returns-clause-spelled g c).is

pub returns-clause-only : goal.returns-clause-only
returns-clause-only g c =
    let b = c.args.base in
    let row : StandInRow (g.E.Item.stands b) (g.E.Item.spell b) c.args.bytes.now c.in-Some.from c.in-Some-2.items.items c.in-Some-2.to = search rules in
    let len : length c.in-Some-2.items.items ≡ c.in-Some.count = search rules in
    segment_only g.E.Entry.order (g.E.Item.stands b) (g.E.Item.spell b) c.args.bytes.now (g.met.E.Item.told b) c.in-Some.from c.in-Some-2.to c.in-Some.count c.in-Some-2.items.items c.in-Some.ensures.found row len
