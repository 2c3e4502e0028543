use Rattle.std.proofs.Common.{◌≡◌, ◌∙◌, ◌*◌, ℕ, sym, ap, subst, rules, arith}
use Rattle.oc_layout.specs.declared.cells.Cell.{Cell}
use Rattle.oc_log.specs.Log.{put_cells}
use Rattle.oc_log.proofs.Bytes.{length-put}
use Rattle.oc_pages.specs.Chains.{ReadsAs, page_at}
use Rattle.oc_pages.specs.Pages.{place_of}
use Rattle.oc_pages.proofs.loading.read_at.Goals as goal
use Rattle.oc_pages.proofs.loading.read_at.Goals.{then-place-ne-PAGE-via-then-place-ne-PAGE, then-place-ne-PAGE-via-else-place-ne-PAGE+then-at-len}

pub returns-then-place-ne-PAGE-clause-no_page : goal.returns-then-place-ne-PAGE-clause-no_page
returns-then-place-ne-PAGE-clause-no_page g c is told page stands in_range =
    let place : c.args.place ≡ place_of page = stands.place in
    let at = ap (λ (x : Cell). x.at) place in
    let len = ap (λ (x : Cell). x.len) place in
    let long = length-put c.args.cells.now (g.H.Host.disk c.args.host.now).bytes (c.requires.within told) in
    elim c.then-place-ne-PAGE.branch [
      | then-place-ne-PAGE-via-then-place-ne-PAGE w ↦ absurd (w.if-place-ne-PAGE.true len)
      | then-place-ne-PAGE-via-else-place-ne-PAGE+then-at-len w ↦
          let start : c.args.place.at * c.args.unit ≡ page.at * c.args.unit = ap (λ (n : ℕ). n * c.args.unit) at in
          absurd (omega (arith, w.if-at-len.true, start, stands.inside, long, c.requires.len told))
    ]

pub returns-in-Some-clause-ok : goal.returns-in-Some-clause-ok
returns-in-Some-clause-ok g c told =
    let page = c.in-Some.page in
    let unit = c.args.unit in
    let image = put_cells c.args.cells.now (g.H.Host.disk c.args.host.now).bytes in
    let long = length-put c.args.cells.now (g.H.Host.disk c.args.host.now).bytes (c.requires.within told) in
    let at : page.at ≡ c.args.place.at = c.in-Some.ensures.at in
    let len : c.args.place.len ≡ 1024 = search rules in
    let start : c.args.place.at * unit ≡ page.at * unit = ap (λ (n : ℕ). n * unit) (sym at) in
    let bytes = c.in_ok-bytes.ensures.bytes told ∙ ap (page_at unit image) (sym at) in
    record {
      place = λ i. record { at = sym at i; len = len i };
      inside = omega (arith, start, c.if-at-len.false, long, c.requires.len told);
      reads = subst (ReadsAs page) bytes c.in-Some.ensures.read;
    }
