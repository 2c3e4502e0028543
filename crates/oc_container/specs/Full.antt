-- Why a commit finds no room.
use Rattle.std.specs.Prelude.{◌≡◌, ℕ, List, Some}
use Rattle.oc_layout.specs.Layout.{is_wide}
use Rattle.oc_room.specs.Rooms.{lacking, unplaced}
use Rattle.oc_slots.specs.declared.slot.SlotChange.{SlotChange}
use Rattle.oc_slots.specs.Planning.{moves_in, AreLengths}
use Rattle.oc_store.specs.Committing.{IsLast}
use Rattle.oc_store.specs.Filed.{FiledStore}

-- A commit of the store finds no room: something of this need has none in the file, which is so long then, and has this limit.
pub record LacksRoom (v : FiledStore) (need len limit : ℕ) : Type 0 where
  pub limit_is : limit ≡ ((v.slots).room).limit
  pub last : List SlotChange
  pub numbers : List ℕ
  pub lens : List ℕ
  pub is_last : IsLast v last numbers
  pub lengths : AreLengths (is_wide (v.slots).header) (v.slots).pages (moves_in v.slots last) last lens
  pub lacks : lacking ((v.slots).room).unit ((v.slots).room).limit (unplaced (v.slots).room) lens ≡ Some (record { need = need; length = len })
