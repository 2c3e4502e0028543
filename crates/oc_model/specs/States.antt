-- The state of the machine between two lines.
use Rattle.std.specs.Prelude.{ℕ, Bool, false, List, [], Option, None, unwrap_or}
use Rattle.oc_model.specs.declared.value.Entry.{Entry}
use Rattle.oc_model.specs.declared.reach.ClassSettings.{ClassSettings}
use Rattle.oc_model.specs.Maps.{Map, Text, at}
use Rattle.oc_model.specs.Stores.{Store}

-- An object in memory.
pub record Live : Type 0 where
  -- the number of its class
  pub class : ℕ
  -- its number in the store, none as long as it is unsaved
  pub number : Option ℕ
  pub active : Bool
  -- Its values under the ids of their fields, ascending. A reference is a handle, or 0 for null. A field without an entry has its default.
  pub entries : List Entry

-- What a script can set for a run.
pub record Settings : Type 0 where
  -- the depth of an activation that states none
  pub activation : ℕ
  -- the depth of a store that states none
  pub update : ℕ
  -- the settings of classes, by number
  pub classes : Map ClassSettings

pub record State : Type 0 where
  -- the store as the last commit left it
  pub committed : Store
  -- the store as the commands so far have left it
  pub session : Store
  -- the objects in memory, by handle
  pub live : Map Live
  -- the handle that the next one gets
  pub next_handle : ℕ
  -- the bound names with the handles of their objects, in the order in which they were first bound
  pub names : List (Text × ℕ)
  pub settings : Settings
  -- how many commits the run has made
  pub commits : ℕ

-- ---- settings

-- the settings of a class for which nothing is set
abbrev pub default_settings : ClassSettings
default_settings =
    record { minimum = 0; maximum = 65535; update = None; cascade_activate = false; cascade_update = false; cascade_delete = false }

-- the settings of a run for which nothing is set
abbrev pub start_settings : Settings
start_settings = record { activation = 5; update = 1; classes = [] }

-- the settings of a class
abbrev pub settings_of : Settings → ℕ → ClassSettings
settings_of s c = unwrap_or (at s.classes c) default_settings

-- ---- the start

-- the state in which a run over a store begins
abbrev pub start : Store → State
start s =
    record { committed = s; session = s; live = []; next_handle = 1; names = []; settings = start_settings; commits = 0 }
