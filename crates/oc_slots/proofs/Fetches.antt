-- Where slots lie, and that a look at the file leaves what it holds.
use Rattle.std.proofs.Common.{◌≡◌, ◌∙◌, ℕ, ◌+◌, ◌*◌, ◌≤◌, nat_eq, [], length, Some, sym, ap, subst, refl, arith}
use Rattle.std.specs.Map.{lookup}
use Rattle.std.specs.Option.{option_map_or}
use Rattle.oc_layout.specs.declared.cells.Cell.{Cell}
use Rattle.oc_layout.specs.declared.cells.Header.{Header}
use Rattle.oc_layout.specs.declared.cells.Space as spaces
use Rattle.oc_layout.specs.declared.cells.Space.TheVariants.{Objects, System}
use Rattle.oc_layout.specs.Layout.{unit_of}
use Rattle.oc_host.specs.Disk.{Disk, Looks}
use Rattle.oc_pages.specs.Pages.{Paged, pointer_of}
use Rattle.oc_room.specs.Rooms.{Space}
use Rattle.oc_slots.specs.declared.overlay.Overlay.{Overlay}
use Rattle.oc_slots.specs.declared.slot.Side.{Side}
use Rattle.oc_slots.specs.declared.slot.Side.TheVariants.{Committed, Session}
use Rattle.oc_slots.specs.declared.slot.SlotId.{SlotId}
use Rattle.oc_slots.specs.Cached.{Cached}
use Rattle.oc_slots.specs.Slots.{changes_of}
use Rattle.oc_slots.specs.Stores.{Slots, Agrees, AreRead, changes_in, place_on}
use Rattle.oc_slots.proofs.SessionBytes.{place_has}
use Rattle.oc_slots.proofs.SessionSteps.{seen}
use Rattle.oc_slots.proofs.Things.{pointed}

-- the disk with another past
abbrev after_look : Disk → Disk → Disk
after_look d e = record d { past = e.past }

looked_is : (d e : Disk) → Looks d e → after_look d e ≡ e
looked_is d e looks i = record { bytes = sym looks.bytes i; synced = sym looks.synced i; spans = sym looks.spans i; top = sym looks.top i; said = sym looks.said i; past = e.past }

-- a look leaves what the store and the file say of each other
pub agrees_looks : (s : Slots) (d e : Disk) → Looks d e → Agrees s d → Agrees s e
agrees_looks s d e looks agrees = subst (Agrees s) (looked_is d e looks) (record {
  holds = record {
    disk = record { no_shorter = agrees.holds.disk.no_shorter; no_longer = agrees.holds.disk.no_longer; kept = agrees.holds.disk.kept };
    header = agrees.holds.header;
    closed = agrees.holds.closed;
    room = agrees.holds.room;
    chain = agrees.holds.chain;
    inside = agrees.holds.inside;
    held = agrees.holds.held;
    apart = agrees.holds.apart;
  };
  len = agrees.len;
  fresh = agrees.fresh;
  cached = agrees.cached;
})

-- whatever is kept, the rest of what the store and the file say of each other stays
pub agrees_bare : (s : Slots) (d : Disk) → Agrees s d → Agrees (record s { cached = [] }) d
agrees_bare s d agrees = record { holds = agrees.holds; len = agrees.len; fresh = agrees.fresh; cached = λ k x lt. absurd (omega (arith, lt)) }

-- other slots may be kept, if they were read from the file
pub agrees_with : (s : Slots) (d : Disk) (es : Cached) → Agrees s d → AreRead (unit_of s.header) d.bytes es → Agrees (record s { cached = es }) d
agrees_with s d es agrees read = record { holds = agrees.holds; len = agrees.len; fresh = agrees.fresh; cached = read }

module _ (h : Header) (pages : Paged) (o : Overlay) (room : Space) (len : ℕ) (d : Disk) (agrees : Agrees (seen h pages o room len) d) where
  same_space : (space : spaces.Space) → changes_in (seen h pages o room len) space ≡ changes_of o space
  same_space Objects = refl
  same_space System = refl

  -- each slot lies in the file
  pub slot_lies : (side : Side) (id : SlotId) (c : Cell) → place_on side (seen h pages o room len) id ≡ Some c → c.at * unit_of h + c.len ≤ length d.bytes
  slot_lies Committed id c e = pointed (λ x. x.at * unit_of h + x.len ≤ length d.bytes) pages.pages (λ k x lt. (agrees.holds.inside k x lt).inside) id.space id.number c e
  slot_lies Session id c e =
      place_has (λ x. x.at * unit_of h + x.len ≤ length d.bytes) pages.pages o id c (λ k x lt. (agrees.holds.inside k x lt).inside) (λ k x lt. omega (arith, (agrees.fresh k x lt).inside, agrees.len))
      (ap (λ cs. option_map_or (λ x. x) (lookup (nat_eq id.number) cs) (pointer_of pages.pages id.space id.number)) (sym (same_space id.space)) ∙ e)
