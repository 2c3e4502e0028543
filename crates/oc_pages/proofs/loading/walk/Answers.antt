use Rattle.std.proofs.Common.{◌≡◌, ◌++◌, [], ◌∷◌, ℕ, List, length, length-append, sym, ap, subst, rules, arith, true, false}
use Rattle.std.specs.Prelude.{IsErrOf, All}
use Rattle.std.proofs.lemmas.List.Elements.{All-push}
use Rattle.oc_host.proofs.Moments.{looks_then}
use Rattle.oc_log.specs.Log.{put_cells, AllWithin}
use Rattle.oc_pages.specs.declared.fault.PagesFault.TheVariants as pages_fault
use Rattle.oc_pages.specs.declared.page.Page.{Page}
use Rattle.oc_pages.specs.Chains.{StandsAt, Leads}
use Rattle.oc_pages.specs.Pages.{is_empty, IsInRange}
use Rattle.oc_pages.proofs.Walks.{first_or, first_more, leads_more, leads_all, more_pages, no_fewer_pages, no_pages_there, no_pages_twice}
use Rattle.oc_pages.proofs.loading.walk.Goals as goal

pub returns-in_err-page-clause-no_page : goal.returns-in_err-page-clause-no_page
returns-in_err-page-clause-no_page g c is told pages has =
    let d = g.H.Host.disk c.args.host.now in
    let inv = c.loop-next.invariant in
    let some : is_empty c.loop-next.next ≡ false = search rules in
    let err : IsErrOf c.read_at.result pages_fault.NotAPage = search rules in
    no_pages_there c.args.unit (put_cells c.args.cells.now d.bytes) c.args.root c.loop-next.table.pages c.loop-next.next pages some (inv.leads told)
    (λ p stands in_range. c.read_at.ensures.no_page err told p (subst (λ (b : List ℕ). StandsAt c.args.unit (put_cells c.args.cells.now b) c.loop-next.next p) (sym (inv.looks told).bytes) stands) in_range) has

pub returns-in_err-page-clause-taken_along : goal.returns-in_err-page-clause-taken_along
returns-in_err-page-clause-taken_along g c told pages chain =
    let d = g.H.Host.disk c.args.host.now in
    let inv = c.loop-next.invariant in
    let some : is_empty c.loop-next.next ≡ false = search rules in
    let more = more_pages c.args.unit (put_cells c.args.cells.now d.bytes) c.args.root c.loop-next.table.pages c.loop-next.next pages some (inv.leads told) chain in
    omega (arith, more, inv.taken, c.read_at.ensures.taken)

pub loop-next-preserved : goal.loop-next-preserved
loop-next-preserved g c =
    let d = g.H.Host.disk c.args.host.now in
    let inv = c.loop-next.invariant in
    let done = c.loop-next.table.pages in
    let next = c.loop-next.next in
    let page = c.in_ok-page.page in
    let grown : c.take_in.new.table.pages ≡ done ++ page ∷ [] = c.in_ok-take_in.ensures.ok in
    let size : length page.cells ≡ 126 = search rules in
    record {
      size = inv.size;
      within = λ told. subst (λ (b : List ℕ). AllWithin (length b) c.args.cells.now) (sym (c.read_at.ensures.looks told).bytes) (inv.within told);
      looks = λ told. looks_then d (g.H.Host.disk c.loop-next.host) (g.H.Host.disk c.read_at.new.host) (inv.looks told) (c.read_at.ensures.looks told);
      leads = λ told. subst (λ (l : List Page). Leads c.args.unit (put_cells c.args.cells.now d.bytes) c.args.root l page.link) (sym grown)
          (leads_more c.args.unit (put_cells c.args.cells.now d.bytes) c.args.root done next page (inv.leads told) (subst (λ (b : List ℕ). StandsAt c.args.unit (put_cells c.args.cells.now b) next page) (inv.looks told).bytes (c.in_ok-page.ensures.ok told)));
      first = subst (λ (l : List Page). first_or page.link l ≡ c.args.root) (sym grown) (first_more c.args.root next done page page.link inv.first c.in_ok-page.ensures.at);
      in_range = subst (λ (l : List Page). All IsInRange l) (sym grown) (All-push IsInRange done page inv.in_range c.in_ok-page.ensures.in_range);
      full = subst (λ (l : List Page). All (λ p. length p.cells ≡ 126) l) (sym grown) (All-push (λ p. length p.cells ≡ 126) done page inv.full size);
      distinct = c.in_ok-take_in.ensures.distinct;
      later = omega (arith, inv.later, c.read_at.ensures.later);
      taken = omega (arith, inv.taken, c.read_at.ensures.taken, ap length grown, length-append done (page ∷ []));
    }

pub returns-in_err-take_in-clause-no_page : goal.returns-in_err-take_in-clause-no_page
returns-in_err-take_in-clause-no_page g c is told pages has =
    let d = g.H.Host.disk c.args.host.now in
    let inv = c.loop-next.invariant in
    let some : is_empty c.loop-next.next ≡ false = search rules in
    let err : IsErrOf c.take_in.result pages_fault.NotAPage = search rules in
    no_pages_twice c.args.unit (put_cells c.args.cells.now d.bytes) c.args.root c.loop-next.table.pages c.loop-next.next c.in_ok-page.page pages some (inv.leads told)
    (subst (λ (b : List ℕ). StandsAt c.args.unit (put_cells c.args.cells.now b) c.loop-next.next c.in_ok-page.page) (inv.looks told).bytes (c.in_ok-page.ensures.ok told))
    (c.take_in.ensures.twice err) has

pub returns-in_err-take_in-clause-looks : goal.returns-in_err-take_in-clause-looks
returns-in_err-take_in-clause-looks g c told =
    looks_then (g.H.Host.disk c.args.host.now) (g.H.Host.disk c.loop-next.host) (g.H.Host.disk c.read_at.new.host) (c.loop-next.invariant.looks told) (c.read_at.ensures.looks told)

pub returns-in_err-take_in-clause-taken_along : goal.returns-in_err-take_in-clause-taken_along
returns-in_err-take_in-clause-taken_along g c told pages chain =
    let d = g.H.Host.disk c.args.host.now in
    let inv = c.loop-next.invariant in
    let some : is_empty c.loop-next.next ≡ false = search rules in
    let more = more_pages c.args.unit (put_cells c.args.cells.now d.bytes) c.args.root c.loop-next.table.pages c.loop-next.next pages some (inv.leads told) chain in
    omega (arith, more, inv.taken, c.read_at.ensures.taken)

pub returns-clause-chain : goal.returns-clause-chain
returns-clause-chain g c told =
    let inv = c.loop-next.invariant in
    let none : is_empty c.loop-next.next ≡ true = search rules in
    record {
      chain = leads_all c.args.unit (put_cells c.args.cells.now (g.H.Host.disk c.args.host.now).bytes) c.args.root c.loop-next.table.pages c.loop-next.next none (inv.leads told);
      in_range = inv.in_range;
      distinct = inv.distinct;
    }

pub returns-clause-taken_along : goal.returns-clause-taken_along
returns-clause-taken_along g c told pages chain =
    let inv = c.loop-next.invariant in
    let fewer = no_fewer_pages c.args.unit (put_cells c.args.cells.now (g.H.Host.disk c.args.host.now).bytes) c.args.root c.loop-next.table.pages c.loop-next.next pages (inv.leads told) chain in
    omega (arith, fewer, inv.taken)
