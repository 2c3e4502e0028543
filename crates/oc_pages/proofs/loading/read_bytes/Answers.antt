use Rattle.std.proofs.Common.{◌≡◌, ◌∙◌, ℕ, length, sym, ap, rules, arith}
use Rattle.oc_log.specs.Log.{slice, put_cells}
use Rattle.oc_pages.proofs.loading.read_bytes.Goals as goal

pub returns-clause-bytes : goal.returns-clause-bytes
returns-clause-bytes g c told =
    let d = g.H.Host.disk c.args.host.now in
    let at = c.args.at in
    let size : length c.read.new.into ≡ 1024 = search rules in
    let was = c.in_ok-read.ensures.bytes told ∙ ap (λ (n : ℕ). slice at n d.bytes) (sym size) in
    c.lay.ensures d.bytes (c.requires.within told) (omega (arith, size, c.requires.inside told)) was
    ∙ ap (λ (n : ℕ). slice at n (put_cells c.args.cells.now d.bytes)) size
