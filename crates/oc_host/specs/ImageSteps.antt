-- The images that are carried along the calls.
use Rattle.std.specs.Prelude.{◌≡◌, ℕ}
use Rattle.oc_host.specs.declared.images.Images.{Images}
use Rattle.oc_host.specs.Disk.{Disk}
use Rattle.oc_host.specs.Images.{filled}

-- the file as it reads, as it was at the last sync, and that with this byte in each range that was written since
pub record AreImages (byte : ℕ) (d : Disk) (images : Images) : Type 0 where
  pub kept : images.kept.items ≡ d.bytes
  pub lost : images.lost.items ≡ d.synced
  pub filled : images.filled.items ≡ filled byte d.spans d.synced
