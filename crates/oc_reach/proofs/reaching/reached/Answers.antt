-- The walk is under way from the start to the end, and each node is asked for once.
use Rattle.std.proofs.Common.{◌≡◌, ◌+◌, ◌*◌, ◌≤◌, ℕ, [], ◌∷◌, ◌++◌, length, Vec, Global, sym, ap, subst, ◌∙◌, arith}
use Rattle.std.specs.List.{All}
use Rattle.std.specs.BinaryHeap.{heap_items}
use Rattle.std.proofs.lemmas.Result.{err_from_is_err_and}
use Rattle.std.proofs.lemmas.List.{append-nil}
use Rattle.std.proofs.lemmas.List.Sorted.{length_permutation}
use Rattle.oc_model.specs.declared.reach.Node.{Node}
use Rattle.oc_model.specs.Lists.{IsOneOf}
use Rattle.oc_model.specs.Walks.{Walk, Table, IsBest, raised}
use Rattle.oc_reach.specs.Work.{answers_of, IsUnderWay, all_budgets}
use Rattle.oc_reach.proofs.Turning.{next_entry}
use Rattle.oc_reach.proofs.Finishing.{started, finished, entries_inside, answered_once, asked_in_all, answered_more, answered_none, budgets_fit}
use Rattle.oc_reach.proofs.reaching.reached.Goals as goal

pub loop-budget-init : goal.loop-budget-init
loop-budget-init g c =
    let w = g.P.Spread.walk c.args.spread.now in
    let p = c.in_ok-progress in
    record {
      under_way = started w g.P.Spread.tells c.args.root c.args.depth _ p.progress.budgets.entries (heap_items p.progress.work) c.requires.small c.requires.root
          (λ x. ap (λ es. answers_of (λ (v : Vec Node Global). v.items) es x) p.ensures.answers)
          (p.ensures.table ∙ ap (λ b. raised [] (c.args.root, b)) c.arrive-first.ensures)
          (p.ensures.raises w.nodes c.requires.root);
      asked = ([], g.met.P.Spread.stays c.args.spread.now, answered_none _);
    }

pub turn-requires : goal.turn-requires
turn-requires g c =
    let w = g.P.Spread.walk c.args.spread.now in
    let l = c.loop-budget in
    let s = next_entry w g.P.Spread.tells c.args.root c.args.depth _ l.progress.budgets.entries (c.in-Some.budget, c.in-Some.node) (heap_items l.progress.work) (heap_items c.next_entry.new.work) c.in-Some.ensures.some l.invariant.under_way in (
      c.args.root,
      c.args.depth,
      subst (λ (v : Walk). IsUnderWay v g.P.Spread.tells c.args.root c.args.depth (answers_of (λ (v : Vec Node Global). v.items) l.progress.answers.entries) l.progress.budgets.entries ((c.in-Some.budget, c.in-Some.node) ∷ heap_items c.next_entry.new.work)) (g.met.P.Spread.same _ _ _ l.invariant.asked.1)
          s,
    )

pub loop-budget-smaller : goal.loop-budget-smaller
loop-budget-smaller g c =
    let w = g.P.Spread.walk c.args.spread.now in
    let l = c.loop-budget in
    let t = l.progress.budgets.entries in
    let u = c.turn.new.progress.budgets.entries in
    let same = g.met.P.Spread.same _ _ _ l.invariant.asked.1 in
    let a = answers_of (λ (v : Vec Node Global). v.items) l.progress.answers.entries in
    let b = answers_of (λ (v : Vec Node Global). v.items) c.turn.new.progress.answers.entries in
    let s = next_entry w g.P.Spread.tells c.args.root c.args.depth a t (c.in-Some.budget, c.in-Some.node) (heap_items l.progress.work) (heap_items c.next_entry.new.work) c.in-Some.ensures.some l.invariant.under_way in
    let next = subst (λ (v : Walk). IsUnderWay v g.P.Spread.tells c.args.root c.args.depth b u (heap_items c.turn.new.progress.work)) (sym same)
    (c.in_ok-turn.ensures.under_way c.args.root c.args.depth
    (subst (λ (v : Walk). IsUnderWay v g.P.Spread.tells c.args.root c.args.depth a t ((c.in-Some.budget, c.in-Some.node) ∷ heap_items c.next_entry.new.work)) same s)) in
    let fits : all_budgets u w.nodes ≤ 65535 * length w.nodes = budgets_fit w g.P.Spread.tells c.args.root c.args.depth b u _ (g.met.P.Spread.lawful c.args.spread.now) next in
    let paid = subst (λ (v : Walk). length (heap_items c.turn.new.progress.work) + all_budgets t v.nodes ≤ length (heap_items c.next_entry.new.work) + all_budgets u v.nodes) (sym same) c.in_ok-turn.ensures.paid in
    let one_less = length_permutation _ _ c.in-Some.ensures.some in
    omega arith

pub loop-budget-preserved : goal.loop-budget-preserved
loop-budget-preserved g c =
    let w = g.P.Spread.walk c.args.spread.now in
    let l = c.loop-budget in
    let t = l.progress.budgets.entries in
    let u = c.turn.new.progress.budgets.entries in
    let same = g.met.P.Spread.same _ _ _ l.invariant.asked.1 in
    let a = answers_of (λ (v : Vec Node Global). v.items) l.progress.answers.entries in
    let b = answers_of (λ (v : Vec Node Global). v.items) c.turn.new.progress.answers.entries in
    let s = next_entry w g.P.Spread.tells c.args.root c.args.depth a t (c.in-Some.budget, c.in-Some.node) (heap_items l.progress.work) (heap_items c.next_entry.new.work) c.in-Some.ensures.some l.invariant.under_way in
    let more = c.in_ok-turn.ensures.goes in
    record {
      under_way = subst (λ (v : Walk). IsUnderWay v g.P.Spread.tells c.args.root c.args.depth b u (heap_items c.turn.new.progress.work)) (sym same)
          (c.in_ok-turn.ensures.under_way c.args.root c.args.depth
          (subst (λ (v : Walk). IsUnderWay v g.P.Spread.tells c.args.root c.args.depth a t ((c.in-Some.budget, c.in-Some.node) ∷ heap_items c.next_entry.new.work)) same s));
      asked = (l.invariant.asked.0 ++ more.0, g.met.P.Spread.joins _ _ _ _ _ l.invariant.asked.1 more.1, answered_more a b t _ _ l.invariant.asked.2 more.2);
    }

pub returns-in_err-turn-clause-caused : goal.returns-in_err-turn-clause-caused
returns-in_err-turn-clause-caused g c =
    let l = c.loop-budget in
    let p = err_from_is_err_and c.from_residual-in_err-turn.result c.from_residual-in_err-turn.ensures.1 in
    let more = c.in_err-turn.ensures.caused in
    rw (p.1, p.2) (
      l.invariant.asked.0 ++ more.0,
      g.met.P.Spread.fails _ _ _ _ _ _ l.invariant.asked.1 more.1,
      asked_in_all (g.P.Spread.walk c.args.spread.now) g.P.Spread.tells c.args.root c.args.depth _ l.progress.budgets.entries _ _ _ l.invariant.under_way l.invariant.asked.2 more.2,
    )

pub returns-in_err-listed-clause-caused : goal.returns-in_err-listed-clause-caused
returns-in_err-listed-clause-caused g c =
    let l = c.loop-budget in
    let p = err_from_is_err_and c.from_residual-in_err-listed.result c.from_residual-in_err-listed.ensures.1 in
    rw p.1 (
      l.invariant.asked.0,
      subst (g.P.Spread.Caused c.args.spread.now p.0 l.spread) (append-nil _) (g.met.P.Spread.fails _ _ _ _ _ [] l.invariant.asked.1 (g.met.P.Spread.memory _ p.0 p.2)),
      answered_once (g.P.Spread.walk c.args.spread.now) g.P.Spread.tells c.args.root c.args.depth _ l.progress.budgets.entries _ _ l.invariant.under_way l.invariant.asked.2,
    )

pub returns-clause-best : goal.returns-clause-best
returns-clause-best g c = λ shown.
    let w = g.P.Spread.walk c.args.spread.now in
    let l = c.loop-budget in
    let none : heap_items l.progress.work ≡ [] = c.in_default.ensures.none in
    subst (IsBest w c.args.root c.args.depth) (sym c.in_ok-listed.ensures)
    (finished w g.P.Spread.tells c.args.root c.args.depth _ l.progress.budgets.entries (g.met.P.Spread.lawful c.args.spread.now)
    (subst (IsUnderWay w g.P.Spread.tells c.args.root c.args.depth (answers_of (λ (v : Vec Node Global). v.items) l.progress.answers.entries) l.progress.budgets.entries) none l.invariant.under_way) shown)

pub returns-clause-nodes : goal.returns-clause-nodes
returns-clause-nodes g c =
    let w = g.P.Spread.walk c.args.spread.now in
    let l = c.loop-budget in
    subst (λ (t : Table). All (λ (e : Node × ℕ). IsOneOf e.0 w.nodes) t) (sym c.in_ok-listed.ensures) (entries_inside w g.P.Spread.tells c.args.root c.args.depth _ l.progress.budgets.entries _ l.invariant.under_way)

pub returns-clause-goes : goal.returns-clause-goes
returns-clause-goes g c =
    let l = c.loop-budget in
    (l.invariant.asked.0, l.invariant.asked.1, answered_once (g.P.Spread.walk c.args.spread.now) g.P.Spread.tells c.args.root c.args.depth _ l.progress.budgets.entries _ _ l.invariant.under_way l.invariant.asked.2)
