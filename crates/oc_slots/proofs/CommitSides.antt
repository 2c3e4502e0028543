-- What a commit that changes nothing leaves, and how its lengths are told of a store.
use Rattle.std.proofs.Common.{◌≡◌, ◌≢◌, ◌∙◌, ℕ, ◌≤◌, nat_eq, true, List, [], ◌++◌, sym, ap, subst, refl}
use Rattle.std.specs.Prelude.{All, ◌||◌, ◌&&◌, is_some}
use Rattle.std.specs.List.{list_any}
use Rattle.std.specs.Map.{lookup}
use Rattle.std.specs.Option.{option_map_or}
use Rattle.oc_layout.specs.declared.cells.Header.{Header}
use Rattle.oc_layout.specs.declared.cells.Space as spaces
use Rattle.oc_layout.specs.declared.cells.Space.TheVariants.{Objects, System}
use Rattle.oc_layout.specs.Layout.{unit_of, is_wide}
use Rattle.oc_host.specs.Disk.{Disk}
use Rattle.oc_pages.specs.Pages.{Paged, pointer_of}
use Rattle.oc_room.specs.Rooms.{Space, IsRoom, IsSame}
use Rattle.oc_slots.specs.declared.overlay.Overlay.{Overlay}
use Rattle.oc_slots.specs.declared.slot.SlotChange.{SlotChange}
use Rattle.oc_slots.specs.declared.slot.SlotId.{SlotId}
use Rattle.oc_slots.specs.Cached.{Cached}
use Rattle.oc_slots.specs.Forms.{LiesIn}
use Rattle.oc_slots.specs.Held.{Holds}
use Rattle.oc_slots.specs.Maps.{content, changed, has_after, is_same}
use Rattle.oc_slots.specs.Slots.{changes_of, places_in}
use Rattle.oc_slots.specs.Stores.{Agrees, IsWhole, parts, session, session_place}
use Rattle.oc_slots.specs.Planning.{AreLengths, moves, moves_in}
use Rattle.oc_slots.proofs.IdleCommits.{idle_map, idle_there}
use Rattle.oc_slots.proofs.KeptPlaces.{changes_seen, session_is}
use Rattle.oc_slots.proofs.SessionChange.{whole_same}
use Rattle.oc_slots.proofs.SessionSteps.{seen}

-- where nothing was placed the parts are together as before
pub whole_again : (h : Header) (pages p : Paged) (o q : Overlay) (room r : Space) (fresh len : ℕ) → IsWhole h pages o room fresh len → p.pages ≡ pages.pages → p.unit ≡ pages.unit → IsSame room r → IsRoom r → fresh ≤ r.spare
    → ((space : spaces.Space) → changes_of q space ≡ changes_of o space) → IsWhole h p q r fresh len
whole_again h pages p o q room r fresh len whole same unit is is_room spare overlay =
    let w = whole_same h pages o q room r fresh len whole is is_room spare overlay in
    with_pages w
  where
    with_pages : IsWhole h pages q r fresh len → IsWhole h p q r fresh len
    with_pages w = subst (λ (x : Paged). IsWhole h x q r fresh len) back (alike w)
      where
        back : record pages { unit = p.unit; pages = p.pages; spare = p.spare } ≡ p
        back = refl

        alike : IsWhole h pages q r fresh len → IsWhole h (record pages { unit = p.unit; pages = p.pages; spare = p.spare }) q r fresh len
        alike w = subst (λ (x : Paged). IsWhole h x q r fresh len) (λ i. record pages { unit = sym unit i; pages = sym same i; spare = p.spare }) (spared w)
          where
            spared : IsWhole h pages q r fresh len → IsWhole h (record pages { spare = p.spare }) q r fresh len
            spared w = record {
              in_range = w.in_range;
              closed = w.closed;
              page_unit = w.page_unit;
              distinct = w.distinct;
              is_room = w.is_room;
              unit = w.unit;
              limit = w.limit;
              end = w.end;
              tiles = w.tiles;
              some = w.some;
              count = w.count;
              spare = w.spare;
              objects = w.objects;
              system = w.system;
            }

-- and the file is what the store left
pub agrees_again : (h : Header) (pages p : Paged) (o q : Overlay) (room r : Space) (len : ℕ) (es : Cached) (d : Disk) → p.pages ≡ pages.pages → ((space : spaces.Space) → changes_of q space ≡ changes_of o space) → Agrees (parts h pages o room len es) d
    → Agrees (parts h p q r len es) d
agrees_again h pages p o q room r len es d same overlay agrees = record {
  holds = subst (λ l. Holds h l d) (sym same) agrees.holds;
  len = agrees.len;
  fresh = subst (All (LiesIn (unit_of h) len)) (λ i. places_in (sym (overlay Objects) i) ++ places_in (sym (overlay System) i)) agrees.fresh;
  cached = agrees.cached;
}

module _ (h : Header) (pages : Paged) (o : Overlay) (room : Space) (len : ℕ) where
  -- a slot moves in the store that is seen
  pub moves_seen : (last : List SlotChange) (id : SlotId) → moves_in (seen h pages o room len) last id ≡ moves pages.pages o last id
  moves_seen last id i =
      (list_any (λ c. is_same c.id id) last || is_some (lookup (nat_eq id.number) (changes_seen h pages o room len [] id.space i)))
      && (has_after last id (is_some (option_map_or (λ x. x) (lookup (nat_eq id.number) (changes_seen h pages o room len [] id.space i)) (pointer_of pages.pages id.space id.number))) || is_some (pointer_of pages.pages id.space id.number))

  pub lengths_seen : (last : List SlotChange) (lens : List ℕ) → AreLengths (is_wide h) pages.pages (moves pages.pages o last) last lens → AreLengths (is_wide h) pages.pages (moves_in (seen h pages o room len) last) last lens
  lengths_seen last lens l = record {
    pointings = l.pointings;
    are_moved = λ id. l.are_moved id ∙ sym (moves_seen last id);
    distinct = l.distinct;
    targets = l.targets;
    objects = l.objects;
    system = l.system;
    objects_are = l.objects_are;
    system_are = l.system_are;
    are = l.are;
  }

  -- where a slot doesn't move, the last commit has it as the session with the last changes
  pub idle_map_seen : (last : List SlotChange) (d : Disk) (id : SlotId) → moves pages.pages o last id ≢ true → content (unit_of h) d.bytes (pointer_of pages.pages id.space id.number) ≡ changed last (session (seen h pages o room len) d) id
  idle_map_seen last d id idle = idle_map (unit_of h) d.bytes pages.pages o last (session (seen h pages o room len) d) id (ap (content (unit_of h) d.bytes) (session_is h pages o room len [] id)) idle

  -- and the slot is there as it was
  pub idle_there_seen : (last : List SlotChange) (id : SlotId) → moves pages.pages o last id ≢ true → is_some (pointer_of pages.pages id.space id.number) ≡ has_after last id (is_some (session_place (seen h pages o room len) id))
  idle_there_seen last id idle = idle_there pages.pages o last id idle ∙ ap (λ p. has_after last id (is_some p)) (sym (session_is h pages o room len [] id))
