use Rattle.std.proofs.Common.{◌≡◌, ◌∙◌, ◌+◌, ◌-◌, ◌*◌, ◌≤◌, ◌++◌, ℕ, List, [], length, drop, get_or, replicate, take, Some, refl, sym, ap, subst, subst₂, arith}
use Rattle.std.specs.Prelude.{All}
use Rattle.std.proofs.lemmas.List.{drop_all, length-map, take_more, take_all}
use Rattle.oc_host.specs.Disk.{AfterWrite, wrote}
use Rattle.oc_pages.specs.declared.page.Page.{Page}
use Rattle.oc_pages.specs.Chains.{FitsPage}
use Rattle.oc_pages.specs.Pages.{page_of}
use Rattle.oc_slots.specs.declared.new_pages.NewPage.{NewPage}
use Rattle.oc_slots.specs.declared.placed.Slot.{Slot}
use Rattle.oc_slots.specs.Pieces.{Piece, from, piece_of, pieces_of, over_all}
use Rattle.oc_slots.specs.Turnovers.{bytes_of, page_slots}
use Rattle.oc_slots.proofs.Joins.{all_last}
use Rattle.oc_slots.proofs.PieceBytes.{pieces_fit}
use Rattle.oc_slots.proofs.PageWrites.{no_page, first_left, rest_left, among, few_zeros, next_order}
use Rattle.oc_slots.proofs.RunWrites.{IsWritten, none_written, moments_on, written_on}
use Rattle.oc_slots.proofs.page_writing.write_pages.Goals as goal

-- what is written of it has its 32 bits
abbrev IsFit : List Page → NewPage → Type 0
IsFit pages a = (q : Page) → page_of pages a.space a.index ≡ Some q → FitsPage q

pub loop-page-init : goal.loop-page-init
loop-page-init g c = record {
  told = λ told. none_written (pieces_of c.args.unit c.args.end c.args.before (page_slots c.args.pages.now.pages c.args.added.now)) (g.H.Host.disk c.args.host.now)
      (pieces_fit c.args.unit c.requires.unit c.args.end c.args.before (page_slots c.args.pages.now.pages c.args.added.now) (g.H.Host.disk c.args.host.now).bytes (c.requires.end told));
  left = refl;
  order = c.requires.order;
  fits = λ k a lt. absurd (omega (arith, lt));
  faults = refl;
  taken = refl;
}

pub write_padded-requires-clause-few : goal.write_padded-requires-clause-few
write_padded-requires-clause-few g c =
    let o = c.loop-page.invariant.order in
    let few = few_zeros c.args.pages.now.pages c.args.added.now c.args.unit c.args.end c.loop-page.end c.args.before c.loop-page.before c.loop-page.page-index no_page c.loop-page-test.true c.requires.unit c.bytes_of.ensures.len c.loop-page.invariant.left o.0 o.1 c.requires.block in
    omega (arith, few, c.from-at.ensures.is ∙ ap (from c.args.unit c.loop-page.end c.loop-page.before) c.place-cell.ensures)

pub write_padded-requires-clause-fits : goal.write_padded-requires-clause-fits
write_padded-requires-clause-fits g c told =
    let pages = c.args.pages.now.pages in
    let added = c.args.added.now in
    let first = first_left pages added c.args.unit c.args.end c.loop-page.end c.args.before c.loop-page.before c.loop-page.page-index no_page c.loop-page-test.true c.requires.unit c.bytes_of.ensures.len c.loop-page.invariant.left in
    let fit = (subst (λ l. IsWritten (pieces_of c.args.unit c.args.end c.args.before (page_slots pages added)) l (g.H.Host.disk c.args.host.now) (g.H.Host.disk c.loop-page.host)) first (c.loop-page.invariant.told told)).fit.0 in
    omega (arith, fit, c.from-at.ensures.is ∙ ap (from c.args.unit c.loop-page.end c.loop-page.before) c.place-cell.ensures)

pub returns-in_err-write_padded-clause-any_moment : goal.returns-in_err-write_padded-clause-any_moment
returns-in_err-write_padded-clause-any_moment g c told h held free holds =
    let old = g.H.Host.disk c.args.host.now in
    let d = g.H.Host.disk c.loop-page.host in
    let e = g.H.Host.disk c.write_padded.new.host in
    let pages = c.args.pages.now.pages in
    let added = c.args.added.now in
    let i = c.loop-page.page-index in
    let all = pieces_of c.args.unit c.args.end c.args.before (page_slots pages added) in
    let a = get_or added i no_page in
    let p : Piece = piece_of c.args.unit c.loop-page.end c.loop-page.before (record { cell = record { at = a.at; len = 1024 }; bytes = bytes_of pages a }) in
    let first = first_left pages added c.args.unit c.args.end c.loop-page.end c.args.before c.loop-page.before i no_page c.loop-page-test.true c.requires.unit c.bytes_of.ensures.len c.loop-page.invariant.left in
    let at_is = c.from-at.ensures.is ∙ ap (from c.args.unit c.loop-page.end c.loop-page.before) c.place-cell.ensures in
    moments_on all (drop (i + 1) all) p old d (subst (λ l. IsWritten all l old d) first (c.loop-page.invariant.told told))
    (among pages added c.args.unit c.args.end c.loop-page.end c.args.before c.loop-page.before i no_page c.loop-page-test.true c.requires.unit c.bytes_of.ensures.len c.loop-page.invariant.left)
    c.write_padded.result e (subst₂ (λ n b. AfterWrite n (replicate (a.at * c.args.unit - n) 0 ++ b) c.write_padded.result d e) at_is c.bytes_of.ensures.value (c.write_padded.ensures.disk told)) (g.met.H.Host.sound c.loop-page.host told) h held free holds

pub loop-page-preserved : goal.loop-page-preserved
loop-page-preserved g c =
    let old = g.H.Host.disk c.args.host.now in
    let d = g.H.Host.disk c.loop-page.host in
    let e = g.H.Host.disk c.write_padded.new.host in
    let pages = c.args.pages.now.pages in
    let added = c.args.added.now in
    let i = c.loop-page.page-index in
    let all = pieces_of c.args.unit c.args.end c.args.before (page_slots pages added) in
    let a = get_or added i no_page in
    let p : Piece = piece_of c.args.unit c.loop-page.end c.loop-page.before (record { cell = record { at = a.at; len = 1024 }; bytes = bytes_of pages a }) in
    let first = first_left pages added c.args.unit c.args.end c.loop-page.end c.args.before c.loop-page.before i no_page c.loop-page-test.true c.requires.unit c.bytes_of.ensures.len c.loop-page.invariant.left in
    let at_is : c.from-at.result ≡ from c.args.unit c.loop-page.end c.loop-page.before (record { at = a.at; len = 1024 }) = c.from-at.ensures.is ∙ ap (from c.args.unit c.loop-page.end c.loop-page.before) c.place-cell.ensures in
    let o = c.loop-page.invariant.order in
    record {
      told = λ told. written_on all (drop (i + 1) all) p old d (subst (λ l. IsWritten all l old d) first (c.loop-page.invariant.told told))
          (among pages added c.args.unit c.args.end c.loop-page.end c.args.before c.loop-page.before i no_page c.loop-page-test.true c.requires.unit c.bytes_of.ensures.len c.loop-page.invariant.left)
          e (c.in_ok-write_padded.ensures.disk told ∙ (λ j. wrote (at_is j) (replicate (a.at * c.args.unit - at_is j) 0 ++ c.bytes_of.ensures.value j) d)) (g.met.H.Host.sound c.loop-page.host told);
      left = rest_left pages added c.args.unit c.args.end c.loop-page.end c.args.before c.loop-page.before i no_page c.loop-page-test.true c.requires.unit c.bytes_of.ensures.len c.loop-page.invariant.left c.max-end.result c.max-end.ensures
          ∙ (λ j. pieces_of c.args.unit c.max-end.result (Some (sym c.place-cell.ensures j)) (drop (i + 1) (page_slots pages added)));
      order = (o.0, next_order pages added c.args.unit c.args.end c.loop-page.end c.args.before c.loop-page.before i no_page c.loop-page-test.true c.requires.unit c.bytes_of.ensures.len c.loop-page.invariant.left o.0 o.1 c.max-end.result c.max-end.ensures);
      fits = subst (All (IsFit pages)) (sym (take_more added i no_page c.loop-page-test.true)) (all_last (IsFit pages) (take i added) a c.loop-page.invariant.fits c.bytes_of.ensures.fits);
      faults = c.in_ok-write_padded.ensures.cause ∙ c.loop-page.invariant.faults;
      taken = c.write_padded.ensures.taken ∙ c.loop-page.invariant.taken;
    }

pub returns-clause-bytes : goal.returns-clause-bytes
returns-clause-bytes g c told =
    let slots = page_slots c.args.pages.now.pages c.args.added.now in
    let all = pieces_of c.args.unit c.args.end c.args.before slots in
    let none : drop c.loop-page.page-index all ≡ [] = c.loop-page.invariant.left ∙ ap (pieces_of c.args.unit c.loop-page.end c.loop-page.before) (drop_all c.loop-page.page-index slots (none_left c.args.pages.now.pages c.args.added.now c.loop-page.page-index c.loop-page-test.false)) in
    subst (λ l. over_all l (g.H.Host.disk c.loop-page.host).bytes ≡ over_all all (g.H.Host.disk c.args.host.now).bytes) none (c.loop-page.invariant.told told).bytes
  where
    none_left : (pages : List Page) (added : List NewPage) (i : ℕ) → length added ≤ i → length (page_slots pages added) ≤ i
    none_left pages added i le = omega (arith, le, length-map added slot)
      where
        slot : NewPage → Slot
        slot a = record { cell = record { at = a.at; len = 1024 }; bytes = bytes_of pages a }

pub returns-clause-fits : goal.returns-clause-fits
returns-clause-fits g c =
    subst (All (IsFit c.args.pages.now.pages)) (take_all c.loop-page.page-index c.args.added.now c.loop-page-test.false) c.loop-page.invariant.fits

pub returns-clause-keeps : goal.returns-clause-keeps
returns-clause-keeps g c told = (c.loop-page.invariant.told told).keeps

pub returns-clause-any_moment : goal.returns-clause-any_moment
returns-clause-any_moment g c told = (c.loop-page.invariant.told told).moments
