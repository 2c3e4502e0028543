-- The images that a file in memory shows of a stop.
use Rattle.std.specs.Prelude.{ℕ, zero, suc, List, [], ◌∷◌, length, replicate}
use Rattle.oc_host.specs.declared.images.Fill.{Fill}
use Rattle.oc_host.specs.declared.images.Fill.TheVariants.{Kept, Lost, Byte}
use Rattle.oc_host.specs.declared.memory.Call.{Call}
use Rattle.oc_host.specs.declared.memory.Call.TheVariants.{Looked, Wrote, Synced, Said}
use Rattle.oc_host.specs.Disk.{Span, Stop, Disk, over, now, writing, saying}
use Rattle.oc_host.specs.Replay.{after_call}

-- what settles the images of a stop in this call
abbrev pub during : Call → Disk → Stop
during Looked d = now d
during (Wrote at bytes done) d = writing at (length bytes.items) d
during Synced d = now d
during (Said bytes n) d = saying bytes.items d

-- b with what this call writes
abbrev pub with_write : Call → List ℕ → List ℕ
with_write Looked b = b
with_write (Wrote at bytes done) b = over at bytes.items b
with_write Synced b = b
with_write (Said bytes n) b = b

-- b with this byte in each of the spans
abbrev pub filled : ℕ → List Span → List ℕ → List ℕ
filled byte [] b = b
filled byte (span ∷ spans) b = over span.at (replicate span.len byte) (filled byte spans b)

-- The image of a stop in this call: the file as it reads with what the call writes, or as it was at the last sync, or that with this byte in
-- each range that was written since.
abbrev pub image_in : Fill → Call → Disk → List ℕ
image_in Kept call d = with_write call d.bytes
image_in Lost call d = d.synced
image_in (Byte byte) call d = filled byte (during call d).spans d.synced

-- in the call with this number, from 0
abbrev pub image_at : Fill → Disk → List Call → ℕ → List ℕ
image_at fill d [] n = d.bytes
image_at fill d (call ∷ calls) zero = image_in fill call d
image_at fill d (call ∷ calls) (suc n) = image_at fill (after_call call d) calls n
