-- What a `MemSource` stands for.
use Rattle.std.specs.Prelude.{ℕ, List, drop}
use Rattle.oc_host.specs.declared.memory_source.MemSource.{MemSource}

-- the bytes that are still to come
abbrev pub left_of : MemSource → List ℕ
left_of source = drop source.at source.bytes.items

-- the numbers, from 1, of the reads that are to fail
abbrev pub planned_failures : MemSource → List ℕ
planned_failures source = source.fail.items

-- how many reads there were, or the greatest `u64`
abbrev pub reads_of : MemSource → ℕ
reads_of source = source.reads
