-- What a rollback gives back, and that the parts of the store stay together.
use Rattle.std.proofs.Common.{◌≡◌, ◌∙◌, ℕ, ◌+◌, ◌≤◌, List, [], ◌∷◌, ◌++◌, length, sym, ap, subst, arith, append-nil}
use Rattle.std.specs.Prelude.{All}
use Rattle.oc_layout.specs.declared.cells.Cell.{Cell}
use Rattle.oc_layout.specs.declared.cells.Header.{Header}
use Rattle.oc_layout.specs.declared.cells.Space as spaces
use Rattle.oc_layout.specs.declared.cells.Space.TheVariants.{Objects, System}
use Rattle.oc_layout.specs.Layout.{blocks}
use Rattle.oc_free.specs.FreeParts.{free_at}
use Rattle.oc_pages.specs.Pages.{Paged, things_of}
use Rattle.oc_room.specs.Rooms.{Space, Tiles, IsRoom, owners}
use Rattle.oc_slots.specs.declared.overlay.Overlay.{Overlay}
use Rattle.oc_slots.specs.Forms.{header_cell}
use Rattle.oc_slots.specs.Slots.{changes_of, places_in}
use Rattle.oc_slots.specs.Stores.{IsWhole, AreNumbers, fresh_of}
use Rattle.oc_slots.specs.Noting.{GoFree}
use Rattle.oc_slots.proofs.Things.{left_of, right_of}
use Rattle.oc_slots.proofs.Noted.{owners_append}
use Rattle.oc_slots.proofs.Tilings.{tiles_within, each_once}

module _ (h : Header) (pages : Paged) (o : Overlay) (room : Space) (fresh len : ℕ) (whole : IsWhole h pages o room fresh len) where
  abbrev base : List Cell
  base = header_cell ∷ things_of pages.pages

  -- the session's own slots can be given back
  pub fresh_go_free : GoFree room (fresh_of o)
  fresh_go_free = record {
    is_room = whole.is_room;
    some = right_of (λ c. 1 ≤ c.len) base (fresh_of o) whole.some;
    within = right_of (λ c. c.at + blocks room.unit c.len ≤ room.end) base (fresh_of o) (tiles_within room whole.is_room.unit (base ++ fresh_of o) whole.tiles whole.some);
    taken = λ k. omega (arith, each_once room whole.is_room.unit (base ++ fresh_of o) whole.tiles k, owners_append room.unit k base (fresh_of o));
    spare = omega (arith, whole.count, whole.spare);
  }

  -- once they are free only the committed side is there
  pub whole_back : (p : Overlay) (t : Space) → ((space : spaces.Space) → changes_of p space ≡ []) → ((k : ℕ) → free_at t.parts k ≡ free_at room.parts k + owners room.unit (fresh_of o) k) → IsRoom t
      → t.unit ≡ room.unit → t.end ≡ room.end → t.limit ≡ room.limit → IsWhole h pages p t 0 len
  whole_back p t none parts is_room unit end limit = record {
    in_range = whole.in_range;
    closed = whole.closed;
    page_unit = whole.page_unit;
    distinct = whole.distinct;
    is_room = is_room;
    unit = unit ∙ whole.unit;
    limit = limit ∙ whole.limit;
    end = end ∙ whole.end;
    tiles = subst (λ l. Tiles t (base ++ l)) (sym empty) (subst (Tiles t) (sym (append-nil base)) tiled);
    some = subst (λ l. All (λ c. 1 ≤ c.len) (base ++ l)) (sym empty) (subst (All (λ c. 1 ≤ c.len)) (sym (append-nil base)) (left_of (λ c. 1 ≤ c.len) base (fresh_of o) whole.some));
    count = sym (ap length empty);
    spare = omega arith;
    objects = subst AreNumbers (sym (none Objects)) (λ k d lt. absurd (omega (arith, lt)));
    system = subst AreNumbers (sym (none System)) (λ k d lt. absurd (omega (arith, lt)));
  }
    where
      empty : fresh_of p ≡ []
      empty i = places_in (none Objects i) ++ places_in (none System i)

      tiled : Tiles t base
      tiled = record {
        each = λ k lt. subst (λ u. owners u base k + free_at t.parts k ≡ 1) (sym unit) (omega (arith, whole.tiles.each k (omega (arith, lt, end)), parts k, owners_append room.unit k base (fresh_of o)));
        none = λ k ge. subst (λ u. owners u base k + free_at t.parts k ≡ 0) (sym unit) (omega (arith, whole.tiles.none k (omega (arith, ge, end)), parts k, owners_append room.unit k base (fresh_of o)));
      }
