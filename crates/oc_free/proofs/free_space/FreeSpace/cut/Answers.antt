use Rattle.std.proofs.Common.{◌≡◌, ◌<◌, ◌∙◌, ap, ℕ, eqb, true, false, refl, arith}
use Rattle.std.proofs.lemmas.Bool.Decides.{nat_tests}
use Rattle.oc_model.specs.Space.{Part}
use Rattle.oc_free.specs.Orders.{no_part, part_at, IsGapFor, IsApartBefore, IsApartAfter}
use Rattle.oc_free.proofs.Fits.{rest_part, without_at}
use Rattle.oc_free.proofs.Ordered.{gap_of_removed}
use Rattle.oc_free.proofs.free_space.FreeSpace.cut.Goals as goal
use Rattle.oc_free.proofs.free_space.FreeSpace.cut.Goals.{then-need-blocks, else-need-blocks}

-- the rest of the part lies where the part was
module _ (c : goal.After-insert-arg-1) where
  made : c.new-rest.result ≡ rest_part (part_at c.args.self.now.parts c.args.place) c.args.need
  made = rw (c.new-rest.ensures, c.address.ensures, c.blocks-then-need-blocks.ensures, c.remove-part.ensures.part) refl

  lies : record { gap : IsGapFor c.new-rest.result c.remove-part.new.self.parts c.args.place; before : IsApartBefore c.new-rest.result c.remove-part.new.self.parts c.args.place; after : IsApartAfter c.new-rest.result c.remove-part.new.self.parts c.args.place }
  lies = rw (made, c.remove-part.ensures.parts) (gap_of_removed c.args.self.now.parts c.args.place (rest_part (part_at c.args.self.now.parts c.args.place) c.args.need) c.remove-part.ensures.free c.requires.within (omega arith) (omega (arith, c.requires.holds)))

pub insert-requires-clause-gap : goal.insert-requires-clause-gap
insert-requires-clause-gap c = (lies c).gap

pub insert-requires-clause-before : goal.insert-requires-clause-before
insert-requires-clause-before c = (lies c).before

pub insert-requires-clause-after : goal.insert-requires-clause-after
insert-requires-clause-after c = (lies c).after

-- the part is gone, or its rest stands in its place
pub returns-clause-left : goal.returns-clause-left
returns-clause-left c =
    let parts = c.args.self.now.parts in
    let place = c.args.place in
    let p = part_at parts place in
    let other : (k : ℕ) → k < place → (part_at parts k).address ≡ p.address → ⊥ = λ k below same. omega (arith, c.remove-part.ensures.free.apart k c.args.place no_part below c.requires.within, same) in
    let left = without_at parts c.args.need place c.requires.within other in
    let address : c.address-2.result ≡ p.address = c.address-2.ensures ∙ ap (λ (q : Part). q.address) c.remove-part.ensures.part in
    let blocks : c.blocks-2.result ≡ p.blocks = c.blocks-2.ensures ∙ ap (λ (q : Part). q.blocks) c.remove-part.ensures.part in
    rw address (elim c.if-need-blocks.branch [
      | then-need-blocks w ↦
          let cut : eqb p.blocks c.args.need ≡ false = grind (arith, nat_tests, blocks, w.if-need-blocks.true) in
          let made : w.new-rest.result ≡ rest_part p c.args.need = rw (w.new-rest.ensures, w.address.ensures, w.blocks-then-need-blocks.ensures, c.remove-part.ensures.part) refl in
          rw (left, cut, w.self-is, w.insert.ensures.parts, made, c.remove-part.ensures.parts) refl
      | else-need-blocks w ↦
          let whole : eqb p.blocks c.args.need ≡ true = grind (arith, nat_tests, blocks, w.if-need-blocks.false, c.requires.holds) in
          rw (left, whole, w.self-is, c.remove-part.ensures.parts) refl
    ])

pub returns-clause-free : goal.returns-clause-free
returns-clause-free c = elim c.if-need-blocks.branch [
  | then-need-blocks w ↦ rw w.self-is w.insert.ensures.free
  | else-need-blocks w ↦ rw w.self-is c.remove-part.ensures.left
]
