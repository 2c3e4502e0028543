-- The live objects of a run by their handles.
use Rattle.std.specs.Prelude.{◌≡◌, ℕ, ◌+◌, ◌≤◌, ◌<◌, true, nat_lt, List, [], filter, option_map, is_some, unwrap_or, ◌↔◌}
use Rattle.std.specs.FinMap.{is_sorted}
use Rattle.std.specs.Ordering.{nat_cmp}
use Rattle.oc_model.specs.declared.value.Entry.{Entry}
use Rattle.oc_model.specs.Maps.{Map, at, with_at}
use Rattle.oc_heap.specs.declared.heap.Live.{Live}

-- The live objects, by handle, and which handles these are.
pub record Objects : Type 0 where
  pub live : Map Live
  -- the handles from this one on and below the next are live
  pub first : ℕ
  -- the handle that the next object gets
  pub next : ℕ

-- Exactly the handles from the first one on and below the next are live.
pub record HasHandles (h : Objects) : Type 0 where
  pub starts : 1 ≤ h.first
  pub order : h.first ≤ h.next
  pub ascend : is_sorted nat_cmp h.live ≡ true
  pub live : (k : ℕ) → (is_some (at h.live k) ≡ true) ↔ ((h.first ≤ k) × (k < h.next))

-- no live object; the next one gets this handle
abbrev pub empty_from : ℕ → Objects
empty_from k = record { live = []; first = k; next = k }

-- with one object more of this class, which has no entries
abbrev pub with_new : Objects → ℕ → Objects
with_new h c = record h { live = with_at h.live h.next (record { class = c; entries = [] }); next = h.next + 1 }

-- the object with what is made of its entries
abbrev pub refilled : (List Entry → List Entry) → Live → Live
refilled f o = record { class = o.class; entries = f o.entries }

-- with what is made of the entries of the object under this handle
abbrev pub with_entries : Objects → ℕ → (List Entry → List Entry) → Objects
with_entries h k f = unwrap_or (option_map (λ o. record h { live = with_at h.live k (refilled f o) }) (at h.live k)) h

-- without the objects from this handle on, which is the next one again
abbrev pub back_to : Objects → ℕ → Objects
back_to h k = record h { live = filter (λ e. nat_lt e.0 k) h.live; next = k }
