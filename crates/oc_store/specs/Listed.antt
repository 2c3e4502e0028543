-- What the entries of each list are judged by beside their bytes, which segments there are, and what reading them takes.
use Rattle.std.specs.Prelude.{ℕ, nat_le, Bool, ◌&&◌, true, is_some, List, sum_by}
use Rattle.oc_model.specs.Schemas.{Schema}
use Rattle.oc_index.specs.declared.items.IndexItem.{IndexItem}
use Rattle.oc_catalog.specs.declared.catalog.ListEntry.{ListEntry}
use Rattle.oc_slots.specs.declared.slot.Side.TheVariants.{Committed}
use Rattle.oc_slots.specs.Stores.{Slots, committed_place, length_on}
use Rattle.oc_store.specs.Lists.{system_slot}

-- nothing more is asked of an entry of an index
abbrev pub index_suits : Schema → IndexItem → Bool
index_suits s e = true

-- the committed side has the segment of this number
abbrev pub is_there : Slots → ℕ → Bool
is_there s n = is_some (committed_place s (system_slot n))

-- so it has, and the number is one that a slot may have: at most 2,147,483,646
abbrev pub is_segment : Slots → ℕ → Bool
is_segment s n = nat_le n 2147483646 && is_there s n

-- how many bytes these segments have
abbrev pub segments_len : Slots → List ℕ → ℕ
segments_len s segments = sum_by (λ n. length_on Committed s (system_slot n)) segments

-- how many bytes the segments of these lists have
abbrev pub lists_len : Slots → List ListEntry → ℕ
lists_len s lists = sum_by (λ l. segments_len s l.segments) lists
