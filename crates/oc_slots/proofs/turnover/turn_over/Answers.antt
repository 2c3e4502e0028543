use Rattle.std.proofs.Common.{◌∙◌, ◌++◌, List, [], take, ap, subst, sym, arith}
use Rattle.std.specs.Prelude.{All, flat_map}
use Rattle.std.specs.Option.{option_to_list}
use Rattle.std.specs.List.Sorted.{IsPermutation}
use Rattle.std.proofs.lemmas.List.{take_all}
use Rattle.std.proofs.lemmas.List.Elements.{All-nil}
use Rattle.std.proofs.lemmas.List.Sorted.{All-permutation}
use Rattle.oc_layout.specs.declared.cells.Cell.{Cell}
use Rattle.oc_layout.specs.declared.cells.Space.TheVariants.{Objects, System}
use Rattle.oc_layout.specs.Layout.{FitsCell}
use Rattle.oc_pages.specs.Pages.{pointer_of}
use Rattle.oc_slots.specs.declared.placed.PlacedChange.{PlacedChange}
use Rattle.oc_slots.specs.declared.turnover.Pointing.{Pointing}
use Rattle.oc_slots.specs.Slots.{put_change}
use Rattle.oc_slots.specs.Noting.{noted, place_of}
use Rattle.oc_slots.specs.Turnovers.{pointed, IsTurnover}
use Rattle.oc_slots.proofs.Sessions.{noted_more}
use Rattle.oc_slots.proofs.TurnoverLists.{one_more}
use Rattle.oc_slots.proofs.Turnovers.{front_pointings, front_freed, more_pointings, more_freed, IsGiven, turned}
use Rattle.oc_slots.proofs.turnover.turn_over.Goals as goal

pub loop-change-init : goal.loop-change-init
loop-change-init c = record {
  pointings = c.new.ensures.items;
  freed = c.new-2.ensures.items;
  fits = subst (All (λ (p : Pointing). FitsCell p.cell)) (sym c.new.ensures.items) (All-nil (λ (p : Pointing). FitsCell p.cell));
  named = λ space. c.reserve.ensures.same space ∙ c.new-named.ensures space;
  room = omega (arith, c.in_ok-reserve.ensures.room);
}

pub put-requires : goal.put-requires
put-requires c = omega (arith, c.loop-change.invariant.room, c.loop-change-test.true)

pub loop-change-preserved : goal.loop-change-preserved
loop-change-preserved c =
    let ps = c.args.placed.now in
    let i = c.loop-change.change-index in
    let p = c.change-item.result in
    let inv = c.loop-change.invariant in
    let unit = c.args.pages.now.unit in
    let pages = c.args.pages.now.pages in
    let f : PlacedChange → List Pointing = λ p. pointed unit pages p.id (place_of p) in
    let g : PlacedChange → List Cell = λ p. option_to_list (pointer_of pages p.id.space p.id.number) in
    record {
      pointings = c.in_ok-point.ensures.pointings ∙ (λ j. inv.pointings j ++ pointed unit pages p.id (c.place-in-loop-change.ensures j)) ∙ (λ j. flat_map f (take i ps) ++ f (c.change-item.is j)) ∙ one_more f [] ps i p c.loop-change-test.true;
      freed = c.in_ok-point.ensures.freed ∙ (λ j. inv.freed j ++ g (c.change-item.is j)) ∙ one_more g [] ps i p c.loop-change-test.true;
      fits = c.in_ok-point.ensures.fits inv.fits;
      named = λ space. c.put.ensures.changes space ∙ (λ j. put_change p.id (c.place.ensures j) space (inv.named space j)) ∙ sym (noted_more ps i p c.loop-change-test.true c.change-item.is space []);
      room = omega (arith, inv.room, c.put.ensures.spare);
    }

pub returns : goal.returns
returns c =
    let ps = c.args.placed.now in
    let inv = c.loop-change.invariant in
    let unit = c.args.pages.now.unit in
    let pages = c.args.pages.now.pages in
    let o = c.args.overlay.now in
    let named = c.loop-change.named in
    let all = take_all c.loop-change.change-index ps c.loop-change-test.false in
    let given : IsGiven unit pages o ps = record {
      distinct = c.requires.distinct;
      numbers = c.requires.numbers;
      objects = c.requires.objects;
      system = c.requires.system;
      some = c.requires.some;
      others = c.requires.others;
      apart = c.requires.apart;
      full = c.requires.full;
    } in
    let made = c.in_ok-point_others-2.ensures.pointings
    ∙ (λ j. c.in_ok-point_others.ensures.pointings j ++ more_pointings unit pages o named System)
    ∙ (λ j. (inv.pointings j ++ more_pointings unit pages o named Objects) ++ more_pointings unit pages o named System)
    ∙ (λ j. (front_pointings unit pages (all j) ++ more_pointings unit pages o named Objects) ++ more_pointings unit pages o named System) in
    let freed = c.in_ok-point_others-2.ensures.freed
    ∙ (λ j. c.in_ok-point_others.ensures.freed j ++ more_freed pages o named System)
    ∙ (λ j. (inv.freed j ++ more_freed pages o named Objects) ++ more_freed pages o named System)
    ∙ (λ j. (front_freed pages (all j) ++ more_freed pages o named Objects) ++ more_freed pages o named System) in
    let fits = All-permutation (λ (p : Pointing). FitsCell p.cell) c.point_others-2.new.self.pointings.items c.sort_by_target.new.pointings.items c.sort_by_target.ensures.same
    (c.in_ok-point_others-2.ensures.fits (c.in_ok-point_others.ensures.fits inv.fits)) in
    subst (IsTurnover unit pages o ps c.sort_by_target.new.pointings.items) (sym freed)
    (turned unit pages o named ps given (λ space. inv.named space ∙ ap (λ l. noted l space []) all) c.point_others.ensures.distinct c.point_others-2.ensures.distinct
    c.sort_by_target.new.pointings.items (subst (λ l. IsPermutation l c.sort_by_target.new.pointings.items) made c.sort_by_target.ensures.same) c.sort_by_target.ensures.ascending fits)
