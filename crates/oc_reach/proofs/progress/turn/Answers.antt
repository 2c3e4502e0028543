-- A node with this budget is asked, once, and hands its budget on.
use Rattle.std.proofs.Common.{◌≡◌, ◌≤◌, [], ◌∷◌, Vec, Global, sym, subst, ◌∙◌, arith}
use Rattle.std.specs.List.{All}
use Rattle.std.specs.BinaryHeap.{heap_items}
use Rattle.std.proofs.lemmas.Result.{err_from_is_err_and}
use Rattle.std.proofs.lemmas.List.{append-nil}
use Rattle.oc_model.specs.declared.reach.Node.{Node}
use Rattle.oc_model.specs.Lists.{IsOneOf}
use Rattle.oc_model.specs.Walks.{Walk, budget}
use Rattle.oc_reach.specs.Work.{answers_of, newly, IsUnderWay, Adds}
use Rattle.oc_reach.proofs.Turning.{node_inside, budget_fits, entry_live, passed_over, answered, turned, one_new, adds_newly}
use Rattle.oc_reach.proofs.progress.turn.Goals as goal

pub returns-then-budget_of-budget-clause-under_way : goal.returns-then-budget_of-budget-clause-under_way
returns-then-budget_of-budget-clause-under_way g c = λ root depth s.
    passed_over (g.P.Spread.walk c.args.spread.now) g.P.Spread.tells root depth _ c.args.progress.now.budgets.entries c.args.budget c.args.node (heap_items c.args.progress.now.work)
    (λ e. c.if-budget_of-budget.true (c.budget_of.ensures ∙ e)) s

pub ask-requires : goal.ask-requires
ask-requires g c =
    let r = c.requires in
    let w = g.P.Spread.walk c.args.spread.now in
    let t = c.args.progress.now.budgets.entries in
    let one : 1 ≤ c.args.budget = entry_live w g.P.Spread.tells r.0 r.1 _ t c.args.budget c.args.node _ r.2 in
    node_inside w g.P.Spread.tells r.0 r.1 _ t _ r.2 c.args.node (omega arith)

pub returns-in_err-ask-clause-caused : goal.returns-in_err-ask-clause-caused
returns-in_err-ask-clause-caused g c =
    let r = c.requires in
    let w = g.P.Spread.walk c.args.spread.now in
    let t = c.args.progress.now.budgets.entries in
    let one : 1 ≤ c.args.budget = entry_live w g.P.Spread.tells r.0 r.1 _ t c.args.budget c.args.node _ r.2 in
    let p = err_from_is_err_and c.from_residual.result c.from_residual.ensures.1 in
    rw (p.1, p.2) (c.args.node ∷ [], c.in_err-ask.ensures.caused, one_new _ t c.args.node c.in_err-ask.ensures.unknown (omega arith))

pub hand-handed-requires-clause-node : goal.hand-handed-requires-clause-node
hand-handed-requires-clause-node g c =
    let r = c.requires in
    let w = g.P.Spread.walk c.args.spread.now in
    let t = c.args.progress.now.budgets.entries in
    let one : 1 ≤ c.args.budget = entry_live w g.P.Spread.tells r.0 r.1 _ t c.args.budget c.args.node _ r.2 in
    subst (λ (v : Walk). IsOneOf c.args.node v.nodes) (g.met.P.Spread.same _ _ _ c.in_ok-ask.ensures.goes)
    (node_inside w g.P.Spread.tells r.0 r.1 _ t _ r.2 c.args.node (omega arith))

pub hand-handed-requires-clause-some : goal.hand-handed-requires-clause-some
hand-handed-requires-clause-some g c =
    let r = c.requires in entry_live (g.P.Spread.walk c.args.spread.now) g.P.Spread.tells r.0 r.1 _ c.args.progress.now.budgets.entries c.args.budget c.args.node _ r.2

pub hand-handed-requires-clause-small : goal.hand-handed-requires-clause-small
hand-handed-requires-clause-small g c =
    let r = c.requires in
    let t = c.args.progress.now.budgets.entries in
    let fits : budget t c.args.node ≤ 65535 = budget_fits (g.P.Spread.walk c.args.spread.now) g.P.Spread.tells r.0 r.1 _ t _ (g.met.P.Spread.lawful c.args.spread.now) r.2 c.args.node in
    omega arith

pub pass_on-requires-clause-inside : goal.pass_on-requires-clause-inside
pass_on-requires-clause-inside g c = λ ys known.
    let r = c.requires in
    let w = g.P.Spread.walk c.args.spread.now in
    let t = c.args.progress.now.budgets.entries in
    let one : 1 ≤ c.args.budget = entry_live w g.P.Spread.tells r.0 r.1 _ t c.args.budget c.args.node _ r.2 in
    let s = answered w g.P.Spread.tells r.0 r.1 _ _ t c.args.node _ (omega arith) c.in_ok-ask.ensures.asked r.2 in
    subst (λ (v : Walk). All (λ y. IsOneOf y v.nodes) ys) (g.met.P.Spread.same _ _ _ c.in_ok-ask.ensures.goes) (s.within c.args.node ys known)

pub pass_on-requires-clause-small : goal.pass_on-requires-clause-small
pass_on-requires-clause-small g c =
    let r = c.requires in
    let t = c.args.progress.now.budgets.entries in
    let one : 1 ≤ c.args.budget = entry_live (g.P.Spread.walk c.args.spread.now) g.P.Spread.tells r.0 r.1 _ t c.args.budget c.args.node _ r.2 in
    let fits : budget t c.args.node ≤ 65535 = budget_fits (g.P.Spread.walk c.args.spread.now) g.P.Spread.tells r.0 r.1 _ t _ (g.met.P.Spread.lawful c.args.spread.now) r.2 c.args.node in
    let l = g.met.P.Spread.lawful c.ask.new.spread in
    let small = l.hand_small c.args.node c.args.budget one (omega arith) in
    omega (arith, small, c.hand-handed.ensures)

pub returns-in_err-pass_on-clause-caused : goal.returns-in_err-pass_on-clause-caused
returns-in_err-pass_on-clause-caused g c =
    let r = c.requires in
    let w = g.P.Spread.walk c.args.spread.now in
    let t = c.args.progress.now.budgets.entries in
    let one : 1 ≤ c.args.budget = entry_live w g.P.Spread.tells r.0 r.1 _ t c.args.budget c.args.node _ r.2 in
    let adds = adds_newly w g.P.Spread.tells _ _ t c.args.node (omega arith) c.in_ok-ask.ensures.asked in
    let p = err_from_is_err_and c.from_residual-in_err-pass_on.result c.from_residual-in_err-pass_on.ensures.1 in
    rw p.1 (_, subst (g.P.Spread.Caused c.args.spread.now p.0 c.ask.new.spread) (append-nil _) (g.met.P.Spread.fails _ _ _ _ _ [] c.in_ok-ask.ensures.goes (g.met.P.Spread.memory _ p.0 p.2)), adds.new)

pub returns-clause-under_way : goal.returns-clause-under_way
returns-clause-under_way g c = λ root depth s.
    let w = g.P.Spread.walk c.args.spread.now in
    let t = c.args.progress.now.budgets.entries in
    let e : budget t c.args.node ≡ c.args.budget = omega arith in
    subst (λ es. IsUnderWay w g.P.Spread.tells root depth (answers_of (λ (v : Vec Node Global). v.items) es) c.pass_on.new.progress.budgets.entries (heap_items c.pass_on.new.progress.work)) (sym c.in_ok-pass_on.ensures.answers)
    (turned w g.P.Spread.tells root depth (g.P.Spread.walk c.ask.new.spread) (g.met.P.Spread.same _ _ _ c.in_ok-ask.ensures.goes) _ _ t c.pass_on.new.progress.budgets.entries c.args.node c.args.budget c.hand-handed.result (heap_items c.args.progress.now.work) (heap_items c.pass_on.new.progress.work)
    e c.in_ok-ask.ensures.asked c.hand-handed.ensures c.in_ok-pass_on.ensures.table c.in_ok-pass_on.ensures.raises s)

pub returns-clause-goes : goal.returns-clause-goes
returns-clause-goes g c =
    let r = c.requires in
    let w = g.P.Spread.walk c.args.spread.now in
    let t = c.args.progress.now.budgets.entries in
    let one : 1 ≤ c.args.budget = entry_live w g.P.Spread.tells r.0 r.1 _ t c.args.budget c.args.node _ r.2 in
    let adds = adds_newly w g.P.Spread.tells _ _ t c.args.node (omega arith) c.in_ok-ask.ensures.asked in
    let asked = newly (answers_of (λ (v : Vec Node Global). v.items) c.args.progress.now.answers.entries) c.args.node in
    (asked, c.in_ok-ask.ensures.goes, subst (λ es. Adds (answers_of (λ (v : Vec Node Global). v.items) c.args.progress.now.answers.entries) (answers_of (λ (v : Vec Node Global). v.items) es) t asked) (sym c.in_ok-pass_on.ensures.answers) adds)
