-- Files that stand for a store.
use Rattle.std.proofs.Common.{◌≡◌, ℕ, Bool, List}
use Rattle.oc_host.specs.Disk.{Disk, IsImage, now}
use Rattle.oc_layout.specs.declared.cells.Header.{Header}
use Rattle.oc_model.specs.Stores.{Store}
use Rattle.oc_slots.specs.Attaching.{MayLeave}
use Rattle.oc_slots.specs.Forms.{GivesFrom}
use Rattle.oc_slots.specs.Maps.{SlotMap}
use Rattle.oc_slots.proofs.HeldGives.{held_gives}
use Rattle.oc_store.specs.Filed.{Agrees, FiledStore, Shows}
use Rattle.oc_store.specs.Stands.{Spells, Stands}
use Rattle.oc_store.specs.Stops.{StillStands}

-- a file that gives the slots that spell the store
pub gives_stands : (first : ℕ) (m : SlotMap) (s : Store) (image : List ℕ) → Spells first m s → GivesFrom first image m → Stands image s
gives_stands first m s image spells gives = record { first = first; from = record { slots = m; gives = gives.gives; spells = spells }; is_first = gives.is_first }

-- what a stop leaves of a file that is attached
pub may_stand : (anew : Bool) (d : Disk) (s : Store) → Stands d.bytes s → (image said : List ℕ) → MayLeave anew d image said → StillStands s d image said
may_stand anew d s stands image said may =
    (may.told, gives_stands stands.first (stands.from).slots s image (stands.from).spells (may.gives stands.first (stands.from).slots (record { gives = (stands.from).gives; is_first = stands.is_first })))

-- what a stop between two calls leaves
pub image_stands : (v : FiledStore) (d : Disk) (c s : Store) → Agrees v d → Shows v d c s → (image said : List ℕ) → IsImage (now d) image said → Stands image c
image_stands v d c s agrees shows image said is = gives_stands ((v.slots).header).first _ c image shows.spelled (held_gives (v.slots).header (v.slots).pages d (agrees.slots).holds image said is)
