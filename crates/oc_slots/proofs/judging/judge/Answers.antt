use Rattle.std.proofs.Common.{◌∙◌, length, sym, ap, subst, rules, arith}
use Rattle.std.specs.Prelude.{All, IsErrOf}
use Rattle.oc_host.proofs.Moments.{looks_then}
use Rattle.oc_layout.specs.declared.cells.CellWrite.{CellWrite}
use Rattle.oc_layout.specs.Layout.{unit_of, first_page_of, FitsCell}
use Rattle.oc_log.specs.Log.{put_cells, AllWithin}
use Rattle.oc_pages.specs.Chains.{HasPages}
use Rattle.oc_slots.specs.declared.attach_fault.AttachFault.TheVariants as attach_fault
use Rattle.oc_slots.specs.Attaching.{HasThings, with_cells, with_closed}
use Rattle.oc_slots.specs.Forms.{LiesIn, log_things}
use Rattle.oc_slots.proofs.FormParts.{cells_kept, suits_within, form_front, parts_form}
use Rattle.oc_slots.proofs.FoundForm.{found, asked, things_asked}
use Rattle.oc_slots.proofs.judging.judge.Goals as goal

pub returns-in_err-front-clause-not_container : goal.returns-in_err-front-clause-not_container
returns-in_err-front-clause-not_container g c is told h ws pages form =
    let err : IsErrOf c.read_front.result attach_fault.NotAContainer = search rules in
    c.read_front.ensures.not_container err told h ws (form_front h ws pages (g.H.Host.disk c.args.host.now).bytes form)

pub returns-in_err-front-clause-taken : goal.returns-in_err-front-clause-taken
returns-in_err-front-clause-taken g c told h ws pages form =
    omega (arith, c.read_front.ensures.taken told h ws (form_front h ws pages (g.H.Host.disk c.args.host.now).bytes form))

pub read_pages-requires-clause-within : goal.read_pages-requires-clause-within
read_pages-requires-clause-within g c told =
    let b = (g.H.Host.disk c.args.host.now).bytes in
    let f = c.in_ok-front.front in
    let same = (c.read_front.ensures.looks told).bytes in
    let within = suits_within f.header c.args.len f.writes.items c.in_ok-front.ensures.long c.in_ok-front.ensures.suit in
    subst (λ l. AllWithin (length (g.H.Host.disk c.read_front.new.host).bytes) l) (sym c.deref-2.ensures.value)
    (subst (λ n. AllWithin n f.writes.items) (c.requires told ∙ ap length (sym same)) within)

pub returns-in_err-pages-clause-not_container : goal.returns-in_err-pages-clause-not_container
returns-in_err-pages-clause-not_container g c is told h ws pages form =
    let b = (g.H.Host.disk c.args.host.now).bytes in
    let e = (g.H.Host.disk c.read_front.new.host).bytes in
    let f = c.in_ok-front.front in
    let vs = f.writes.items in
    let same = (c.read_front.ensures.looks told).bytes in
    let x = c.with_cells-header.result in
    let fits : All (λ (w : CellWrite). FitsCell w.cell) vs = λ k d lt. (c.in_ok-front.ensures.fits k d lt).cell in
    let err : IsErrOf c.read_pages.result attach_fault.NotAContainer = search rules in
    c.read_pages.ensures.not_container err told pages (asked b e same f.header vs c.deref.result.now c.deref-2.result.now c.deref.ensures.value c.deref-2.ensures.value x c.with_cells-header.ensures (c.in_ok-front.ensures.ok told) fits h ws pages form)

pub returns-in_err-pages-clause-looks : goal.returns-in_err-pages-clause-looks
returns-in_err-pages-clause-looks g c told =
    looks_then (g.H.Host.disk c.args.host.now) (g.H.Host.disk c.read_front.new.host) (g.H.Host.disk c.read_pages.new.host) (c.read_front.ensures.looks told) (c.read_pages.ensures.looks told)

pub returns-clause-looks : goal.returns-clause-looks
returns-clause-looks g c told =
    looks_then (g.H.Host.disk c.args.host.now) (g.H.Host.disk c.read_front.new.host) (g.H.Host.disk c.read_pages.new.host) (c.read_front.ensures.looks told) (c.read_pages.ensures.looks told)

pub returns-in_err-pages-clause-taken : goal.returns-in_err-pages-clause-taken
returns-in_err-pages-clause-taken g c told h ws pages form =
    let b = (g.H.Host.disk c.args.host.now).bytes in
    let e = (g.H.Host.disk c.read_front.new.host).bytes in
    let f = c.in_ok-front.front in
    let vs = f.writes.items in
    let same = (c.read_front.ensures.looks told).bytes in
    let x = c.with_cells-header.result in
    let fits : All (λ (w : CellWrite). FitsCell w.cell) vs = λ k d lt. (c.in_ok-front.ensures.fits k d lt).cell in
    let first = c.read_front.ensures.taken told h ws (form_front h ws pages b form) in
    let then = c.read_pages.ensures.taken told pages (asked b e same f.header vs c.deref.result.now c.deref-2.result.now c.deref.ensures.value c.deref-2.ensures.value x c.with_cells-header.ensures (c.in_ok-front.ensures.ok told) fits h ws pages form) in
    omega (arith, first, then)

pub returns-in_err-store-clause-taken : goal.returns-in_err-store-clause-taken
returns-in_err-store-clause-taken g c told h ws pages form =
    let b = (g.H.Host.disk c.args.host.now).bytes in
    let e = (g.H.Host.disk c.read_front.new.host).bytes in
    let f = c.in_ok-front.front in
    let vs = f.writes.items in
    let same = (c.read_front.ensures.looks told).bytes in
    let x = c.with_cells-header.result in
    let fits : All (λ (w : CellWrite). FitsCell w.cell) vs = λ k d lt. (c.in_ok-front.ensures.fits k d lt).cell in
    let first = c.read_front.ensures.taken told h ws (form_front h ws pages b form) in
    let then = c.read_pages.ensures.taken told pages (asked b e same f.header vs c.deref.result.now c.deref-2.result.now c.deref.ensures.value c.deref-2.ensures.value x c.with_cells-header.ensures (c.in_ok-front.ensures.ok told) fits h ws pages form) in
    omega (arith, first, then)

pub returns-clause-taken : goal.returns-clause-taken
returns-clause-taken g c told h ws pages form =
    let b = (g.H.Host.disk c.args.host.now).bytes in
    let e = (g.H.Host.disk c.read_front.new.host).bytes in
    let f = c.in_ok-front.front in
    let vs = f.writes.items in
    let same = (c.read_front.ensures.looks told).bytes in
    let x = c.with_cells-header.result in
    let fits : All (λ (w : CellWrite). FitsCell w.cell) vs = λ k d lt. (c.in_ok-front.ensures.fits k d lt).cell in
    let first = c.read_front.ensures.taken told h ws (form_front h ws pages b form) in
    let then = c.read_pages.ensures.taken told pages (asked b e same f.header vs c.deref.result.now c.deref-2.result.now c.deref.ensures.value c.deref-2.ensures.value x c.with_cells-header.ensures (c.in_ok-front.ensures.ok told) fits h ws pages form) in
    omega (arith, first, then)

pub store_of-requires-clause-unit : goal.store_of-requires-clause-unit
store_of-requires-clause-unit g c =
    c.in_ok-pages.ensures.unit ∙ ap unit_of (c.with_cells-header.ensures ∙ ap (with_cells c.in_ok-front.front.header) c.deref.ensures.value ∙ cells_kept c.in_ok-front.front.writes.items c.in_ok-front.front.header)

pub returns-in_err-store-clause-not_container : goal.returns-in_err-store-clause-not_container
returns-in_err-store-clause-not_container g c is told h ws pages form =
    let b = (g.H.Host.disk c.args.host.now).bytes in
    let e = (g.H.Host.disk c.read_front.new.host).bytes in
    let f = c.in_ok-front.front in
    let vs = f.writes.items in
    let same = (c.read_front.ensures.looks told).bytes in
    let x = c.with_cells-header.result in
    let fits : All (λ (w : CellWrite). FitsCell w.cell) vs = λ k d lt. (c.in_ok-front.ensures.fits k d lt).cell in
    let err : IsErrOf c.store_of.result attach_fault.NotAContainer = search rules in
    c.store_of.ensures.not_container err (subst (HasThings f.header vs c.in_ok-pages.pages.pages) (sym (c.requires told)) (things_asked b e same f.header vs c.deref.result.now c.deref-2.result.now c.deref.ensures.value c.deref-2.ensures.value x c.with_cells-header.ensures (c.in_ok-front.ensures.ok told) fits h ws pages form c.in_ok-pages.pages.pages (c.in_ok-pages.ensures.chain told)))

pub returns-clause-ok : goal.returns-clause-ok
returns-clause-ok g c told =
    let b = (g.H.Host.disk c.args.host.now).bytes in
    let e = (g.H.Host.disk c.read_front.new.host).bytes in
    let f = c.in_ok-front.front in
    let vs = f.writes.items in
    let same = (c.read_front.ensures.looks told).bytes in
    let x = c.with_cells-header.result in
    let fits : All (λ (w : CellWrite). FitsCell w.cell) vs = λ k d lt. (c.in_ok-front.ensures.fits k d lt).cell in
    let store = c.in_ok-store.store in
    let ensures = c.in_ok-store.ensures in
    let things = subst (HasThings f.header vs store.pages) (c.requires told) ensures.ok in
    let chain = found b e same f.header vs c.deref.result.now c.deref-2.result.now c.deref.ensures.value c.deref-2.ensures.value x c.with_cells-header.ensures c.in_ok-pages.pages.pages (c.in_ok-pages.ensures.chain told) in
    let chain_2 = subst (HasPages (unit_of f.header) (put_cells vs b) (first_page_of (with_cells f.header vs))) (sym ensures.pages) chain in
    let log = subst (λ n. All (LiesIn (unit_of f.header) n) (log_things f.header vs)) (c.requires told) c.in_ok-front.ensures.lies in (
      vs,
      record {
        form = parts_form f.header vs store.pages b (c.in_ok-front.ensures.ok told) fits log chain_2 things;
        header = ensures.header ∙ ap with_closed (c.with_cells-header.ensures ∙ ap (with_cells f.header) c.deref.ensures.value);
        some = c.in_ok-front.ensures.some;
        log = log;
        fits = fits;
        len = ensures.len ∙ c.requires told;
        objects = ensures.objects;
        system = ensures.system;
      },
    )
