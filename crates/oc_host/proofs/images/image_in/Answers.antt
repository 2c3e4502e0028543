use Rattle.std.proofs.Common.{◌≡◌, ◌∙◌, List, take, sym, subst, ap, rules}
use Rattle.oc_host.specs.declared.images.Fill.TheVariants.{Kept, Lost, Byte}
use Rattle.oc_host.specs.declared.memory.Call.{Call}
use Rattle.oc_host.specs.Images.{image_at, with_write, filled, during}
use Rattle.oc_host.specs.ImageSteps.{AreImages}
use Rattle.oc_host.specs.Replay.{fresh, replay}
use Rattle.oc_host.proofs.ImageLaws.{image_at_is}
use Rattle.oc_host.proofs.images.image_in.Goals as goal

pub returns-in_ok-replayed-in-Kept : goal.returns-in_ok-replayed-in-Kept
returns-in_ok-replayed-in-Kept c =
    let start = fresh c.args.start.now in
    let calls = c.args.calls.now in
    let call = c.index-calls-number.result in
    let d = replay start (take c.args.number calls) in
    let are : AreImages 0 d c.in_ok-replayed-in-Kept.field-0 = subst (λ (l : List Call). AreImages 0 (replay start l) c.in_ok-replayed-in-Kept.field-0) c.split_at.ensures.front c.in_ok-replayed-in-Kept.ensures in
    let at : image_at Kept start calls c.args.number ≡ with_write call d.bytes = image_at_is Kept start calls c.args.number call c.requires ∙ ap (λ (one : Call). with_write one d.bytes) (sym c.index-calls-number.is) in
    search (rules, are.kept, at)

pub returns-in_ok-replayed-in-Lost : goal.returns-in_ok-replayed-in-Lost
returns-in_ok-replayed-in-Lost c =
    let start = fresh c.args.start.now in
    let calls = c.args.calls.now in
    let call = c.index-calls-number.result in
    let d = replay start (take c.args.number calls) in
    let are : AreImages 0 d c.in_ok-replayed-in-Lost.field-0 = subst (λ (l : List Call). AreImages 0 (replay start l) c.in_ok-replayed-in-Lost.field-0) c.split_at.ensures.front c.in_ok-replayed-in-Lost.ensures in
    let at : image_at Lost start calls c.args.number ≡ d.synced = image_at_is Lost start calls c.args.number call c.requires in
    search (rules, are.lost, at)

pub returns-in_ok-images-in-Byte : goal.returns-in_ok-images-in-Byte
returns-in_ok-images-in-Byte c =
    let start = fresh c.args.start.now in
    let calls = c.args.calls.now in
    let call = c.index-calls-number.result in
    let byte = c.in-Byte.byte in
    let d = replay start (take c.args.number calls) in
    let are : AreImages byte d c.in_ok-images-in-Byte.images = subst (λ (l : List Call). AreImages byte (replay start l) c.in_ok-images-in-Byte.images) c.split_at.ensures.front c.in_ok-images-in-Byte.ensures in
    let at : image_at (Byte byte) start calls c.args.number ≡ filled byte (during call d).spans d.synced = image_at_is (Byte byte) start calls c.args.number call c.requires ∙ ap (λ (one : Call). filled byte (during one d).spans d.synced) (sym c.index-calls-number.is) in
    search (rules, are.filled, at)
