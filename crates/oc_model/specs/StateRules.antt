-- What holds in every state between two lines.
use Rattle.std.specs.Prelude.{ℕ, ◌≡◌, ◌≤◌, ◌<◌, Bool, true, false, ◌&&◌, List, [], Some, None, is_some, unwrap_or}
use Rattle.std.specs.FinMap.{is_sorted}
use Rattle.std.specs.List.{list_all, list_any}
use Rattle.std.specs.Ordering.{nat_cmp}
use Rattle.oc_model.specs.declared.schema.FieldDef.{FieldDef}
use Rattle.oc_model.specs.declared.value.Entry.{Entry}
use Rattle.oc_model.specs.declared.reach.ClassSettings.{ClassSettings}
use Rattle.oc_model.specs.Maps.{Text, at}
use Rattle.oc_model.specs.Lists.{IsOneOf}
use Rattle.oc_model.specs.Schemas.{Schema, class_at, fields_of}
use Rattle.oc_model.specs.Stores.{class_of}
use Rattle.oc_model.specs.Spelling.{entry_fits}
use Rattle.oc_model.specs.StoreRules.{is_under, KeepsStore}
use Rattle.oc_model.specs.States.{State, Live, Settings}
use Rattle.oc_model.specs.Nodes.{named_in}

-- ---- settings

-- The settings of a class: the class is there, and no depth is over 65,535.
pub record HasDepths (s : Schema) (c : ℕ) (k : ClassSettings) : Type 0 where
  pub class : is_some (class_at s c) ≡ true
  pub minimum : k.minimum ≤ 65535
  pub maximum : k.maximum ≤ 65535
  pub update : unwrap_or k.update 0 ≤ 65535

pub record AreSettings (s : Schema) (settings : Settings) : Type 0 where
  pub activation : settings.activation ≤ 65535
  pub update : settings.update ≤ 65535
  pub ascend : is_sorted nat_cmp settings.classes ≡ true
  pub classes : (c : ℕ) (k : ClassSettings) → at settings.classes c ≡ Some k → HasDepths s c k

-- ---- live objects

-- every entry is that of one of the fields, and its value fits
abbrev pub are_of_fields : List FieldDef → List Entry → Bool
are_of_fields fields entries = list_all (λ e. list_any (λ f. is_under f e) fields && entry_fits e) entries

-- A live object in a state.
pub record IsLive (m : State) (o : Live) : Type 0 where
  -- its class is there
  pub class : is_some (class_at m.session.schema o.class) ≡ true
  -- its values are those of current fields, and fit
  pub fields : are_of_fields (fields_of m.session.schema o.class) o.entries ≡ true
  -- its references are handles of live objects
  pub references : (h : ℕ) → IsOneOf h (named_in m.session.schema o.class o.entries) → is_some (at m.live h) ≡ true
  -- its number is in the session, with its class
  pub stored : (n : ℕ) → o.number ≡ Some n → class_of m.session n ≡ Some o.class
  -- an inactive one has the defaults
  pub inactive : o.active ≡ false → o.entries ≡ []
  -- an unsaved one is active
  pub unsaved : o.number ≡ None → o.active ≡ true

-- ---- states

-- What holds in a state between two lines.
pub record IsState (m : State) : Type 0 where
  -- both stores keep their rules
  pub committed : KeepsStore m.committed
  pub session : KeepsStore m.session
  -- a live object's handle is below the next one
  pub ascend : is_sorted nat_cmp m.live ≡ true
  pub handles : (h : ℕ) → is_some (at m.live h) ≡ true → (1 ≤ h) × (h < m.next_handle)
  pub live : (h : ℕ) (o : Live) → at m.live h ≡ Some o → IsLive m o
  -- no two live objects have one number
  pub numbers : (g h : ℕ) (o p : Live) (n : ℕ) → at m.live g ≡ Some o → at m.live h ≡ Some p → o.number ≡ Some n → p.number ≡ Some n → g ≡ h
  -- a name's object is live
  pub names : (name : Text) (h : ℕ) → IsOneOf {X = Text × ℕ} (name, h) m.names → is_some (at m.live h) ≡ true
  pub settings : AreSettings m.session.schema m.settings
  -- an object of both stores has one class
  pub classes : (n : ℕ) → is_some (at m.committed.records n) ≡ true → is_some (at m.session.records n) ≡ true → class_of m.committed n ≡ class_of m.session n
  -- numbers are drawn upwards
  pub next : m.committed.next ≤ m.session.next
