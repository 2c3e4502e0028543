use Rattle.std.proofs.Common.{◌≡◌, ◌∙◌, ◌≤◌, true, false, length, sym, rules}
use Rattle.oc_marshal.specs.Spelling.{entry_bytes}
use Rattle.oc_marshal.specs.Places.{NoRowAt, StandInRow}
use Rattle.oc_marshal.specs.Records.{is_ascending, is_entry}
use Rattle.oc_marshal.proofs.Readings.{no_head, no_entries, none_behind, none_in_disorder, record_found}
use Rattle.oc_marshal.proofs.reading.record_in.Goals as goal

pub returns-in_default-clause-none : goal.returns-in_default-clause-none
returns-in_default-clause-none c = no_head c.args.bytes.now c.in_default.ensures.none

pub returns-in_default-2-clause-none : goal.returns-in_default-2-clause-none
returns-in_default-2-clause-none c =
    let none : NoRowAt is_entry entry_bytes c.args.bytes.now c.in-Some.from c.in-Some.count = search rules in
    no_entries c.args.bytes.now c.in-Some.class c.in-Some.count c.in-Some.from c.in-Some.ensures.found none

pub returns-then-to-bytes-clause-none : goal.returns-then-to-bytes-clause-none
returns-then-to-bytes-clause-none c =
    let row : StandInRow is_entry entry_bytes c.args.bytes.now c.in-Some.from c.in-Some-2.entries.items c.in-Some-2.to = search rules in
    let len : length c.in-Some-2.entries.items ≡ c.in-Some.count = search rules in
    none_behind c.record_bytes_tell.ensures.records c.args.bytes.now c.in-Some.class c.in-Some.count c.in-Some.from c.in-Some-2.to c.in-Some-2.entries.items c.in-Some.ensures.found row len c.if-to-bytes.true

pub returns-then-not-ascends-clause-none : goal.returns-then-not-ascends-clause-none
returns-then-not-ascends-clause-none c =
    let row : StandInRow is_entry entry_bytes c.args.bytes.now c.in-Some.from c.in-Some-2.entries.items c.in-Some-2.to = search rules in
    let len : length c.in-Some-2.entries.items ≡ c.in-Some.count = search rules in
    let disorder : is_ascending c.in-Some-2.entries.items ≡ false = search rules in
    none_in_disorder c.record_bytes_tell.ensures.records c.args.bytes.now c.in-Some.class c.in-Some.count c.in-Some.from c.in-Some-2.to c.in-Some-2.entries.items c.in-Some.ensures.found row len disorder

pub returns-clause-spelled : goal.returns-clause-spelled
returns-clause-spelled c =
    let row : StandInRow is_entry entry_bytes c.args.bytes.now c.in-Some.from c.in-Some-2.entries.items c.in-Some-2.to = search rules in
    let len : length c.in-Some-2.entries.items ≡ c.in-Some.count = search rules in
    let order : is_ascending c.in-Some-2.entries.items ≡ true = search rules in
    let end : length c.args.bytes.now ≤ c.in-Some-2.to = search rules in
    let entries : c.from_vec.result ≡ c.in-Some-2.entries.items = search rules in
    rw entries (record_found c.args.bytes.now c.in-Some.class c.in-Some.count c.in-Some.from c.in-Some-2.to c.in-Some-2.entries.items c.in-Some.ensures.found row len end order)

pub returns-clause-only : goal.returns-clause-only
returns-clause-only c other spells =
    let found = returns-clause-spelled c in
    c.record_bytes_tell.ensures.same other _ spells.is.spellable found.is.spellable (sym spells.bytes ∙ found.bytes)
