use Rattle.std.proofs.Common.{◌-◌, arith, rules}
use Rattle.oc_host.specs.Disk.{In}
use Rattle.oc_host.specs.MemHost.{disk_of, disk_before, image_of}
use Rattle.oc_host.proofs.ImageLaws.{image_left}
use Rattle.oc_host.proofs.memory.MemHost.image.Goals as goal

pub returns-clause-left : goal.returns-clause-left
returns-clause-left c =
    let host = c.args.self.now in
    let left : In (c.args.call - 1) (disk_of host).past (image_of c.args.fill host c.args.call) (disk_before host c.args.call).said = image_left c.args.fill host.start.items host.calls.items (c.args.call - 1) (omega (arith, c.requires.some, c.requires.there)) in
    search (rules, left)
