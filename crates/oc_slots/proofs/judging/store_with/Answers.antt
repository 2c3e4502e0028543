use Rattle.std.proofs.Common.{◌≡◌, ◌∙◌, ◌≤◌, [], ◌∷◌, ◌++◌, length, sym, subst, append-nil, arith}
use Rattle.std.specs.Prelude.{All}
use Rattle.std.proofs.lemmas.List.Elements.{All-cons}
use Rattle.oc_layout.specs.declared.cells.Cell.{Cell}
use Rattle.oc_layout.specs.declared.cells.Space.TheVariants.{Objects, System}
use Rattle.oc_pages.specs.Pages.{things_of}
use Rattle.oc_room.specs.Rooms.{Tiles}
use Rattle.oc_slots.specs.Forms.{header_cell}
use Rattle.oc_slots.specs.Slots.{places_in}
use Rattle.oc_slots.specs.Stores.{AreNumbers, ArePlaces, fresh_of, parts}
use Rattle.oc_slots.proofs.judging.store_with.Goals as goal

pub invariant_of-result : goal.invariant_of-result
invariant_of-result c =
    let o = c.new-overlay.result in
    let none : fresh_of o ≡ [] = λ i. places_in (c.new-overlay.ensures Objects i) ++ places_in (c.new-overlay.ensures System i) in
    let all : header_cell ∷ things_of c.args.pages.pages ++ fresh_of o ≡ header_cell ∷ things_of c.args.pages.pages = (λ i. header_cell ∷ things_of c.args.pages.pages ++ none i) ∙ append-nil (header_cell ∷ things_of c.args.pages.pages) in (
      record {
        in_range = c.requires.in_range;
        closed = c.requires.closed;
        page_unit = c.requires.page_unit;
        distinct = c.requires.distinct;
        is_room = c.requires.is_room;
        unit = c.requires.unit;
        limit = c.requires.limit;
        end = c.requires.end;
        tiles = subst (Tiles c.args.room) (sym all) c.requires.tiles;
        some = subst (All (λ (x : Cell). 1 ≤ x.len)) (sym all) (All-cons (λ (x : Cell). 1 ≤ x.len) header_cell (things_of c.args.pages.pages) (omega arith) c.requires.some);
        count = λ i. length (sym none i);
        spare = omega arith;
        objects = subst AreNumbers (sym (c.new-overlay.ensures Objects)) (λ k d lt. absurd (omega (arith, lt)));
        system = subst AreNumbers (sym (c.new-overlay.ensures System)) (λ k d lt. absurd (omega (arith, lt)));
      },
      subst (ArePlaces (parts c.args.header c.args.pages o c.args.room c.args.len [])) (sym c.requires.kept) (λ k d lt. absurd (omega (arith, lt))),
    )

pub returns-clause-objects : goal.returns-clause-objects
returns-clause-objects c = c.new-overlay.ensures Objects

pub returns-clause-system : goal.returns-clause-system
returns-clause-system c = c.new-overlay.ensures System
