use Rattle.std.proofs.Common.{◌≡◌, ◌≤◌, sym, ap, ◌∙◌, arith, append_assoc, ◌++◌, ◌∷◌, [], take, drop, reverse}
use Rattle.oc_heap.proofs.Entering.{popped_front, popped_more}
use Rattle.oc_heap.proofs.entries.move_from.Goals as goal

pub loop-left-preserved-in-Some : goal.loop-left-preserved-in-Some
loop-left-preserved-in-Some c =
    let es = c.args.entries.now in
    let i = c.loop-left.left in
    let popped = sym c.loop-left.invariant.front ∙ c.in-Some.ensures in
    let one : 1 ≤ i = omega arith in
    let pushed = rw c.unwrap.ensures at c.push.ensures.items in
    let longer = rw c.unwrap.ensures at c.push.ensures.len in
    record {
      from = omega arith;
      within = omega arith;
      front = popped_front es c.pop.new.self c.in-Some.last i one c.loop-left.invariant.within popped;
      moved =
          pushed ∙ ap (λ xs. xs ++ c.in-Some.last ∷ []) c.loop-left.invariant.moved
          ∙ append_assoc c.args.list.now.items (reverse (drop i es)) (c.in-Some.last ∷ [])
          ∙ ap (λ xs. c.args.list.now.items ++ xs) (sym (popped_more es c.pop.new.self c.in-Some.last i one c.loop-left.invariant.within popped));
      room = omega (arith, longer, c.push.ensures.capacity);
      capacity = omega arith;
    }

pub returns : goal.returns
returns c =
    let es = c.args.entries.now in
    let done : c.loop-left.left ≡ c.args.place = omega arith in
    record {
      front = c.loop-left.invariant.front ∙ ap (λ n. take n es) done;
      moved = c.loop-left.invariant.moved ∙ ap (λ n. c.args.list.now.items ++ reverse (drop n es)) done;
      capacity = c.loop-left.invariant.capacity;
    }
