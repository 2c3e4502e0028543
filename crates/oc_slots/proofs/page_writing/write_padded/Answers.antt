use Rattle.std.proofs.Common.{◌≡◌, ◌∙◌, ◌-◌, ◌++◌, drop, replicate, subst}
use Rattle.oc_host.specs.Disk.{AfterWrite}
use Rattle.oc_slots.proofs.PageWrites.{last_zeros}
use Rattle.oc_slots.proofs.page_writing.write_padded.Goals as goal

pub returns-clause-disk : goal.returns-clause-disk
returns-clause-disk g c told =
    let bytes : c.split_at.result.1.now ≡ replicate c.args.zeros 0 ++ c.args.page.now =
    c.split_at.ensures.back ∙ (λ i. drop (127 - c.args.zeros) (c.split_at_mut-place.result.0.now ++ c.copy_from_slice.ensures.after i))
    ∙ last_zeros c.args.zeros c.split_at_mut-place.result.0.now c.args.page.now c.requires.few c.split_at_mut-place.ensures.front in
    subst (λ b. AfterWrite c.args.at b c.write_at.result (g.H.Host.disk c.args.host.now) (g.H.Host.disk c.write_at.new.self)) bytes (c.write_at.ensures.disk told)
