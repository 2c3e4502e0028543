use Rattle.std.proofs.Common.{◌≡◌, ◌++◌, drop, map}
use Rattle.oc_catalog.specs.Catalogs.{segments_of}
use Rattle.oc_lists.specs.Keeping.{list_numbers}
use Rattle.oc_lists.specs.Lists.{lists_then}
use Rattle.oc_store.specs.Last.{gone_segments, numbers_off, system_change}
use Rattle.oc_store.proofs.last.put_gone.Given as goal

-- those of the numbers so far that are gone are noted, and the rest is to come
abbrev pub invariant-loop-number : goal.invariant-loop-number
invariant-loop-number l =
    l.changes.items ++ map system_change (gone_segments (numbers_off (segments_of l.entries) (drop l.number-index l.number-items)))
    ≡ l.fn.changes.items ++ map system_change (gone_segments (numbers_off (segments_of l.entries) (list_numbers (lists_then l.lists))))
