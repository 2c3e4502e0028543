use Rattle.std.proofs.Common.{◌≤◌, ◌∙◌, ℕ, List, sym, subst}
use Rattle.std.specs.Prelude.{All}
use Rattle.oc_layout.specs.declared.cells.Space.TheVariants.{Objects, System}
use Rattle.oc_slots.proofs.MissingPages.{numbers_some}
use Rattle.oc_slots.proofs.new_pages.Missing.of.Goals as goal

pub missing-requires : goal.missing-requires
missing-requires c = subst (λ (l : List ℕ). All (λ n. 1 ≤ n) l) (sym (c.deref.ensures.value ∙ c.in_ok-objects.ensures)) (numbers_some Objects c.args.pointings.now c.requires)

pub missing-requires-2 : goal.missing-requires-2
missing-requires-2 c = subst (λ (l : List ℕ). All (λ n. 1 ≤ n) l) (sym (c.deref-2.ensures.value ∙ c.in_ok-system.ensures)) (numbers_some System c.args.pointings.now c.requires)
