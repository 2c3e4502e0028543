-- The disk that a record of calls makes.
use Rattle.std.specs.Prelude.{ℕ, if◌then◌else◌, List, [], ◌∷◌, length}
use Rattle.oc_host.specs.declared.memory.Call.{Call}
use Rattle.oc_host.specs.declared.memory.Call.TheVariants.{Looked, Wrote, Synced, Said}
use Rattle.oc_host.specs.Disk.{Disk, looked, wrote, wrote_as, synced_now, said_so}

-- a synced file with these bytes, before the first call
abbrev pub fresh : List ℕ → Disk
fresh bytes = record { bytes = bytes; synced = bytes; spans = []; top = length bytes; said = []; past = [] }

-- A write that isn't done leaves the bytes, and its range is open. Of a piece n bytes are said.
abbrev pub after_call : Call → Disk → Disk
after_call Looked d = looked d
after_call (Wrote at bytes done) d = if done then wrote at bytes.items d else wrote_as at (length bytes.items) d.bytes d
after_call Synced d = synced_now d
after_call (Said bytes n) d = said_so bytes.items n d

-- after these calls, the oldest first
abbrev pub replay : Disk → List Call → Disk
replay d [] = d
replay d (call ∷ calls) = replay (after_call call d) calls
