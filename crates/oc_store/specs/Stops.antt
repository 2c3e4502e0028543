-- What a stop in a call on a store leaves.
use Rattle.std.specs.Prelude.{◌≡◌, ◌⊎◌, ℕ, List}
use Rattle.oc_host.specs.Disk.{Disk}
use Rattle.oc_model.specs.Stores.{Store}
use Rattle.oc_store.specs.Stands.{Stands}

-- what was said, and a file that stands for the store
abbrev pub StillStands : Store → Disk → List ℕ → List ℕ → Type 0
StillStands s d image said = (said ≡ d.said) × Stands image s

-- what was said, and a file that stands for the one store or for the other
abbrev pub StandsForEither : Store → Store → Disk → List ℕ → List ℕ → Type 0
StandsForEither c s d image said = (said ≡ d.said) × (Stands image c ⊎ Stands image s)
