use Rattle.std.proofs.Common.{◌≡◌, ◌∙◌, ◌<◌, ◌≤◌, ◌+◌, ◌*◌, ◌++◌, [], ◌∷◌, ℕ, List, Vec, Global, get_or, sym, ap, subst, rules, arith, true, false}
use Rattle.oc_pages.specs.Pages.{no_cell, is_empty, space_number}
use Rattle.oc_pages.proofs.Listings.{EarlyNumbers, early_fits, early_more, early_same, early_all}
use Rattle.oc_pages.proofs.listing.put_numbers.Goals as goal
use Rattle.oc_pages.proofs.listing.put_numbers.Goals.{then-not-is_empty+in_ok-push, else-not-is_empty}

pub overflow_cast-number-then-not-is_empty : goal.overflow_cast-number-then-not-is_empty
overflow_cast-number-then-not-is_empty c =
    let lt : c.loop-k.k < 126 = search rules in
    let some : is_empty (get_or c.args.page.now.cells c.loop-k.k no_cell) ≡ false = search rules in
    let few = early_fits c.args.page.now c.loop-k.k c.requires lt some in
    omega (arith, few)

pub loop-k-preserved : goal.loop-k-preserved
loop-k-preserved c =
    let p = c.args.page.now in
    let k = c.loop-k.k in
    let lt : k < 126 = search rules in
    let same : space_number p.space ≡ space_number c.args.space = search rules in
    elim c.if-not-is_empty.branch [
      | then-not-is_empty+in_ok-push w ↦
          let some : is_empty (get_or p.cells k no_cell) ≡ false = search rules in
          let items : w.push.new.self.items ≡ c.loop-k.numbers.items ++ (p.index * 126 + k + 1) ∷ [] = search rules in
          subst (λ (l : List ℕ). EarlyNumbers c.args.space p (k + 1) c.args.numbers.now.items l) (sym (ap (λ (v : Vec ℕ Global). v.items) w.numbers-is ∙ items))
          (early_more c.args.space p k (p.index * 126 + k + 1) c.args.numbers.now.items c.loop-k.numbers.items same lt (omega arith) some c.loop-k.invariant)
      | else-not-is_empty w ↦
          let none : is_empty (get_or p.cells k no_cell) ≡ true = search rules in
          subst (λ (l : List ℕ). EarlyNumbers c.args.space p (k + 1) c.args.numbers.now.items l) (sym (ap (λ (v : Vec ℕ Global). v.items) w.numbers-is))
          (early_same c.args.space p k c.args.numbers.now.items c.loop-k.numbers.items none c.loop-k.invariant)
    ]

pub returns : goal.returns
returns c =
    let le : 126 ≤ c.loop-k.k = search rules in
    early_all c.args.space c.args.page.now c.loop-k.k c.args.numbers.now.items c.loop-k.numbers.items le c.loop-k.invariant
