use Rattle.std.proofs.Common.{◌≡◌, ◌∙◌, ◌-◌, ◌+◌, ◌++◌, [], ◌∷◌, length, drop, suc, sym, ap, subst, arith, rules, ℕ, List}
use Rattle.std.specs.Prelude.{All}
use Rattle.std.proofs.lemmas.List.Elements.{All-push}
use Rattle.oc_layout.specs.declared.cells.CellWrite.{CellWrite}
use Rattle.oc_layout.specs.Layout.{write_len, write_bytes, writes_bytes, first_write, first_writes, FitsWrite}
use Rattle.oc_layout.proofs.Spelled.{read_step, size_step, spelled_step}
use Rattle.oc_layout.proofs.log.writes_from.Goals as goal

pub loop-preserved : goal.loop-preserved
loop-preserved c =
    let was = c.loop.counter in
    let left : c.args.count - was ≡ suc (c.args.count - (was + 1)) = omega arith in
    let write = c.write_from.result in
    let rest : c.split_at.result.1.now ≡ drop (write_len c.args.wide) c.loop.rest.now = search rules in
    let pushed : c.push.new.self.items ≡ c.loop.cells.items ++ write ∷ [] = search rules in
    let more : c.loop.cells.items ++ write ∷ [] ≡ c.loop.cells.items ++ first_write c.args.wide c.loop.rest.now ∷ [] = ap (λ (w : CellWrite). c.loop.cells.items ++ w ∷ []) c.write_from.ensures.read in
    let front : c.loop.rest.now ≡ write_bytes c.args.wide write ++ c.split_at.result.1.now = c.write_from.ensures.spelled ∙ ap (λ (l : List ℕ). write_bytes c.args.wide write ++ l) (sym rest) in
    record {
      read = (λ i. (pushed ∙ more) i ++ first_writes c.args.wide (c.args.count - (was + 1)) (rest i)) ∙ read_step c.args.wide (c.args.count - was) (c.args.count - (was + 1)) c.loop.rest.now c.loop.cells.items (first_writes c.args.wide c.args.count c.args.bytes.now) left c.loop.invariant.read;
      fits = subst (λ (ws : List CellWrite). All (FitsWrite c.args.wide) ws) (sym pushed) (All-push (FitsWrite c.args.wide) c.loop.cells.items write c.loop.invariant.fits c.write_from.ensures.fits);
      spelled =
          c.loop.invariant.spelled
          ∙ ap (λ (l : List ℕ). writes_bytes c.args.wide c.loop.cells.items ++ l) front
          ∙ spelled_step c.args.wide c.loop.cells.items write c.split_at.result.1.now
          ∙ ap (λ (ws : List CellWrite). writes_bytes c.args.wide ws ++ c.split_at.result.1.now) (sym pushed);
      size = ap length rest ∙ size_step (write_len c.args.wide) (c.args.count - was) (c.args.count - (was + 1)) c.loop.rest.now left c.loop.invariant.size;
    }
