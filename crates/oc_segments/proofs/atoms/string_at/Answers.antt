use Rattle.std.proofs.Common.{◌≡◌, ◌∙◌, ap, false, ◌+◌, rules, IsTrue}
use Rattle.std.specs.Str.{is_utf8}
use Rattle.oc_marshal.proofs.Standing.{string_found, string_is}
use Rattle.oc_segments.proofs.atoms.string_at.Goals as goal

pub returns-then-not-has_utf8-clause-none : goal.returns-then-not-has_utf8-clause-none
returns-then-not-has_utf8-clause-none c x rest p e =
    let is = string_is c.args.bytes.now x rest c.args.at c.in-Some.from c.in-Some.len c.in-Some.ensures.found p e in
    let broken : is_utf8 c.part-text.result.now ≡ false = search rules in
    let same : is_utf8 c.part-text.result.now ≡ is_utf8 x = ap is_utf8 (c.part-text.ensures.part ∙ is.0) in
    let whole = is.1 in
    absurd (cc (broken, same, whole))

pub returns-clause-found : goal.returns-clause-found
returns-clause-found c =
    let copied : c.in_ok-from_slice.field-0 ≡ c.part-text.result.now = search rules in
    let whole : IsTrue (is_utf8 c.part-text.result.now) = search rules in
    let end : c.in-Some-end_within.end ≡ c.in-Some.from + c.in-Some.len = c.in-Some-end_within.ensures.found in
    let stands = string_found c.args.bytes.now c.part-text.result.now c.args.at c.in-Some.from c.in-Some.len c.in-Some-end_within.end c.in-Some.ensures.found end c.in-Some-end_within.ensures.within c.part-text.ensures.part c.part-text.ensures.len whole in
    rw copied stands
