use Rattle.std.proofs.Common.{◌≡◌, ◌+◌, drop}
use Rattle.std.specs.List.{list_all, enumerate_from}
use Rattle.oc_schema.specs.Drafts.{line_keeps, lines_keep}
use Rattle.oc_schema.proofs.draft.Draft.lines_keep_rules.Given as goal

abbrev pub invariant-loop-place : goal.invariant-loop-place
invariant-loop-place l = list_all (λ e. line_keeps l.self e.0) (enumerate_from (l.place + 1) (drop l.place l.self.classes)) ≡ lines_keep l.self
