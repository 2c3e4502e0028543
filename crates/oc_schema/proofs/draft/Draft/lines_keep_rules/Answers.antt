-- One class more.
use Rattle.std.proofs.Common.{◌≡◌, ◌+◌, ◌<◌, ◌&&◌, sym, ap, ◌∙◌, drop, length, true, false, arith}
use Rattle.std.specs.List.{list_all, enumerate_from}
use Rattle.oc_schema.specs.Drafts.{line_keeps}
use Rattle.oc_schema.proofs.Parting.{lines_turn}
use Rattle.oc_schema.proofs.draft.Draft.lines_keep_rules.Goals as goal

pub returns-then-not-branch : goal.returns-then-not-branch
returns-then-not-branch c =
    let s = c.args.self.now in
    let i = c.loop-place.place in
    let lt : i < length s.classes = omega (arith, c.loop-place-test.true, c.len-place-end.ensures) in
    let fails : line_keeps s (i + 1) ≡ false = sym c.in_ok-line_keeps_rules.ensures ∙ c.if-not-branch.true in
    let rest = list_all (λ e. line_keeps s e.0) (enumerate_from (i + 1 + 1) (drop (i + 1) s.classes)) in
    sym (sym c.loop-place.invariant ∙ lines_turn s i lt ∙ ap (λ b. b && rest) fails)

pub loop-place-preserved : goal.loop-place-preserved
loop-place-preserved c =
    let s = c.args.self.now in
    let i = c.loop-place.place in
    let lt : i < length s.classes = omega (arith, c.loop-place-test.true, c.len-place-end.ensures) in
    let passes : line_keeps s (i + 1) ≡ true = sym c.in_ok-line_keeps_rules.ensures ∙ c.if-not-branch.false in
    let rest = list_all (λ e. line_keeps s e.0) (enumerate_from (i + 1 + 1) (drop (i + 1) s.classes)) in
    sym (ap (λ b. b && rest) passes) ∙ sym (lines_turn s i lt) ∙ c.loop-place.invariant
