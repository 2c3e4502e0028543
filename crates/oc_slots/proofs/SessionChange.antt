-- A change of the session: what is placed, noted and written keeps the parts of the store together.
use Rattle.std.proofs.Common.{◌≡◌, ◌∙◌, inl, inr, ℕ, zero, suc, ◌+◌, ◌-◌, ◌*◌, ◌<◌, ◌≤◌, max, true, false, cond, leb, nat_eq, List, [], ◌∷◌, ◌++◌, length, map, get_or, Option, sym, ap, subst, refl, arith}
use Rattle.std.specs.Prelude.{All}
use Rattle.std.specs.Prelude.{◌==◌}
use Rattle.std.proofs.Math.Nat.{mul-le-mul_right}
use Rattle.indexmap.specs.IndexMap.{insert_entry}
use Rattle.std.proofs.lemmas.Bool.{cases_lt}
use Rattle.std.proofs.lemmas.Bool.Decides.{nat_tests}
use Rattle.std.proofs.lemmas.List.{get_or-map, length-map}
use Rattle.std.proofs.lemmas.List.Elements.{All-append, All-cons}
use Rattle.oc_layout.specs.declared.cells.Cell.{Cell}
use Rattle.oc_layout.specs.declared.cells.Header.{Header}
use Rattle.oc_layout.specs.declared.cells.Space as spaces
use Rattle.oc_layout.specs.declared.cells.Space.TheVariants.{Objects, System}
use Rattle.oc_layout.specs.Layout.{unit_of, blocks}
use Rattle.oc_layout.proofs.Blocks.{blocks_hold}
use Rattle.oc_free.specs.FreeParts.{free_at}
use Rattle.oc_pages.specs.Pages.{Paged, space_number, things_of}
use Rattle.oc_room.specs.Rooms.{Space, Tiles, IsRoom, IsSame, GoesBack, owns, owners, open_at}
use Rattle.oc_room.proofs.Counting.{no_cell, blocks_least}
use Rattle.oc_slots.specs.declared.overlay.Overlay.{Overlay}
use Rattle.oc_slots.specs.declared.placed.Slot.{Slot}
use Rattle.oc_slots.specs.declared.placed.PlacedChange.{PlacedChange}
use Rattle.oc_slots.specs.declared.slot.SlotChange.{SlotChange}
use Rattle.oc_slots.specs.Forms.{header_cell}
use Rattle.oc_slots.specs.Slots.{Changes, changes_of, put_change, places_in, change_of, slots_of, cells_of, lengths_of}
use Rattle.oc_slots.specs.Stores.{fresh_of, AreChanges, AreNumbers, IsWhole}
use Rattle.oc_slots.specs.Noting.{noted, place_of, IsSession}
use Rattle.oc_slots.specs.Pieces.{end_of, end_after}
use Rattle.oc_slots.proofs.Noted.{owners_append}
use Rattle.oc_slots.proofs.PlacedSlots.{lengths_are}
use Rattle.oc_slots.proofs.Apart.{ends_before}
use Rattle.oc_slots.proofs.Headers.{blocks_rise}
use Rattle.oc_slots.proofs.Placing.{tiles_placed}
use Rattle.oc_slots.proofs.Tilings.{owner_of, tiles_within, each_once, blocks_reached}
use Rattle.oc_slots.proofs.Things.{tail_of, left_of, right_of}

-- the session's own slots are the same where the changes are
pub fresh_same : (o p : Overlay) → ((space : spaces.Space) → changes_of p space ≡ changes_of o space) → fresh_of p ≡ fresh_of o
fresh_same o p same i = places_in (same Objects i) ++ places_in (same System i)

-- each placed slot has a byte
pub some_placed : (changes : List SlotChange) (ps : List PlacedChange) → map change_of ps ≡ changes → All (λ n. 1 ≤ n) (lengths_of changes) → All (λ s. s.cell.len ≡ length s.bytes) (slots_of ps) → All (λ s. 1 ≤ s.cell.len) (slots_of ps)
some_placed changes ps are some sizes i d lt =
    let lengths : lengths_of changes ≡ map (λ (s : Slot). length s.bytes) (slots_of ps) = sym (ap lengths_of are) ∙ lengths_are ps in
    let one = subst (All (λ n. 1 ≤ n)) lengths some i 0 (omega (arith, lt, length-map (slots_of ps) (λ (s : Slot). length s.bytes))) in
    let here = get_or-map (λ (s : Slot). length s.bytes) (slots_of ps) i d 0 lt in
    omega (arith, one, here, sizes i d lt)

pub cells_some : (ss : List Slot) → All (λ s. 1 ≤ s.cell.len) ss → All (λ (c : Cell). 1 ≤ c.len) (map (λ (s : Slot). s.cell) ss)
cells_some [] some = λ k d lt. absurd (omega (arith, lt))
cells_some (s ∷ ss) some = All-cons (λ (c : Cell). 1 ≤ c.len) s.cell (map (λ (s : Slot). s.cell) ss) (some 0 s (omega arith)) (cells_some ss (tail_of (λ s. 1 ≤ s.cell.len) s ss some))

grows : (unit len : ℕ) (ss : List Slot) → len ≤ end_after unit len ss
grows unit len [] = omega arith
grows unit len (s ∷ ss) = omega (arith, grows unit (max len (end_of unit s)) ss)

-- each slot ends in the file as it will be
pub ends_in : (unit len : ℕ) (ss : List Slot) (i : ℕ) (d : Slot) → i < length ss → end_of unit (get_or ss i d) ≤ end_after unit len ss
ends_in unit len [] i d lt = absurd (omega (arith, lt))
ends_in unit len (s ∷ ss) zero d lt = omega (arith, grows unit (max len (end_of unit s)) ss)
ends_in unit len (s ∷ ss) (suc i) d lt = ends_in unit (max len (end_of unit s)) ss i d (omega (arith, lt))

-- and the file ends where the last of them does, or where it did
ends_by : (unit len top : ℕ) (ss : List Slot) → len ≤ top → ((i : ℕ) (d : Slot) → i < length ss → end_of unit (get_or ss i d) ≤ top) → end_after unit len ss ≤ top
ends_by unit len top [] le all = le
ends_by unit len top (s ∷ ss) le all = ends_by unit (max len (end_of unit s)) top ss (omega (arith, le, all 0 s (omega arith))) (λ i d lt. all (suc i) d (omega (arith, lt)))

numbers_put : (cs : Changes) (n : ℕ) (o : Option Cell) → (1 ≤ n) × (n ≤ 2147483646) → AreNumbers cs → AreNumbers (insert_entry nat_eq cs n o)
numbers_put [] n o is all = All-cons (λ e. (1 ≤ e.0) × (e.0 ≤ 2147483646)) (n, o) [] is all
numbers_put (e ∷ es) n o is all = go (nat_eq n e.0) refl (numbers_put es n o is (tail_of (λ e. (1 ≤ e.0) × (e.0 ≤ 2147483646)) e es all))
  where
    go : (b : _) → nat_eq n e.0 ≡ b → AreNumbers (insert_entry nat_eq es n o) → AreNumbers (insert_entry nat_eq (e ∷ es) n o)
    go true t rest = rw t (All-cons (λ e. (1 ≤ e.0) × (e.0 ≤ 2147483646)) (e.0, o) es (all 0 e (omega arith)) (tail_of (λ e. (1 ≤ e.0) × (e.0 ≤ 2147483646)) e es all))
    go false t rest = rw t (All-cons (λ e. (1 ≤ e.0) × (e.0 ≤ 2147483646)) e (insert_entry nat_eq es n o) (all 0 e (omega arith)) rest)

-- the numbers of changes that are noted are numbers of slots
pub numbers_noted : (ps : List PlacedChange) (space : spaces.Space) (cs : Changes) → All (λ p. (1 ≤ p.id.number) × (p.id.number ≤ 2147483646)) ps → AreNumbers cs → AreNumbers (noted ps space cs)
numbers_noted [] space cs are all = all
numbers_noted (p ∷ ps) space cs are all =
    numbers_noted ps space (put_change p.id (place_of p) space cs) (tail_of (λ p. (1 ≤ p.id.number) × (p.id.number ≤ 2147483646)) p ps are) (go (space_number space == space_number p.id.space) refl)
  where
    go : (b : _) → (space_number space == space_number p.id.space) ≡ b → AreNumbers (put_change p.id (place_of p) space cs)
    go true e = rw e (numbers_put cs p.id.number (place_of p) (are 0 p (omega arith)) all)
    go false e = rw e all

pub numbers_of : (changes : List SlotChange) (ps : List PlacedChange) → map change_of ps ≡ changes → All (λ c. (1 ≤ c.id.number) × (c.id.number ≤ 2147483646)) changes → All (λ p. (1 ≤ p.id.number) × (p.id.number ≤ 2147483646)) ps
numbers_of changes ps are all i d lt =
    subst (λ c. (1 ≤ c.id.number) × (c.id.number ≤ 2147483646)) (get_or-map change_of ps i d (change_of d) lt)
    (subst (All (λ c. (1 ≤ c.id.number) × (c.id.number ≤ 2147483646))) (sym are) all i (change_of d) (omega (arith, lt, length-map ps change_of)))

module _ (h : Header) (pages : Paged) (o p : Overlay) (room r : Space) (fresh len : ℕ) (changes : List SlotChange) (ps : List PlacedChange) (whole : IsWhole h pages o room fresh len) (is : AreChanges changes)
    (are : map change_of ps ≡ changes) (sizes : All (λ s. s.cell.len ≡ length s.bytes) (slots_of ps)) (opened : (k : ℕ) → open_at room k ≡ open_at r k + owners room.unit (cells_of ps) k)
    (back : GoesBack r (cells_of ps) room.end) (spare : fresh + length (cells_of ps) ≤ r.spare) (same : (space : spaces.Space) → changes_of p space ≡ changes_of o space)
    (unit : r.unit ≡ room.unit) (limit : r.limit ≡ room.limit) (is_room : IsRoom r) where
  abbrev base : List Cell
  base = header_cell ∷ things_of pages.pages

  abbrev cells : List Cell
  cells = cells_of ps

  pub r_unit : r.unit ≡ unit_of h
  r_unit = unit ∙ whole.unit

  pub pos : 0 < r.unit
  pos = is_room.unit

  slots_some : All (λ s. 1 ≤ s.cell.len) (slots_of ps)
  slots_some = some_placed changes ps are is.some sizes

  pub new_some : All (λ c. 1 ≤ c.len) cells
  new_some = cells_some (slots_of ps) slots_some

  fresh_is : fresh_of p ≡ fresh_of o
  fresh_is = fresh_same o p same

  -- what was there and what is placed tile the file
  pub tiled : Tiles r ((base ++ fresh_of p) ++ cells)
  tiled = subst (λ l. Tiles r ((base ++ l) ++ cells)) (sym fresh_is)
      (tiles_placed room r (base ++ fresh_of o) cells whole.tiles unit back.end opened is_room.within)

  old_some : All (λ c. 1 ≤ c.len) (base ++ fresh_of p)
  old_some = subst (λ l. All (λ c. 1 ≤ c.len) (base ++ l)) (sym fresh_is) whole.some

  pub all_some : All (λ c. 1 ≤ c.len) ((base ++ fresh_of p) ++ cells)
  all_some = All-append (λ c. 1 ≤ c.len) (base ++ fresh_of p) cells old_some new_some

  all_within : All (λ c. c.at + blocks r.unit c.len ≤ r.end) ((base ++ fresh_of p) ++ cells)
  all_within = tiles_within r pos ((base ++ fresh_of p) ++ cells) tiled all_some

  pub once : (k : ℕ) → owners r.unit ((base ++ fresh_of p) ++ cells) k + free_at r.parts k ≤ 1
  once = each_once r pos ((base ++ fresh_of p) ++ cells) tiled

  -- the placed slots can be noted
  pub session_ready : IsSession p r fresh cells
  session_ready = record {
    is_room = is_room;
    some = All-append (λ c. 1 ≤ c.len) (fresh_of p) cells (right_of (λ c. 1 ≤ c.len) base (fresh_of p) old_some) new_some;
    within = All-append (λ c. c.at + blocks r.unit c.len ≤ r.end) (fresh_of p) cells
        (right_of (λ c. c.at + blocks r.unit c.len ≤ r.end) base (fresh_of p) (left_of (λ c. c.at + blocks r.unit c.len ≤ r.end) (base ++ fresh_of p) cells all_within))
        (right_of (λ c. c.at + blocks r.unit c.len ≤ r.end) (base ++ fresh_of p) cells all_within);
    taken = λ k. omega (arith, once k, owners_append r.unit k (base ++ fresh_of p) cells, owners_append r.unit k base (fresh_of p), owners_append r.unit k (fresh_of p) cells);
    count = whole.count ∙ ap length (sym fresh_is);
    spare = spare;
  }

  slot_within : (i : ℕ) (d : Slot) → i < length (slots_of ps) → (get_or (slots_of ps) i d).cell.at + blocks r.unit (get_or (slots_of ps) i d).cell.len ≤ r.end
  slot_within i d lt =
      subst (λ c. c.at + blocks r.unit c.len ≤ r.end) (get_or-map (λ (s : Slot). s.cell) (slots_of ps) i d d.cell lt)
      (right_of (λ c. c.at + blocks r.unit c.len ≤ r.end) (base ++ fresh_of p) cells all_within i d.cell (omega (arith, lt, length-map (slots_of ps) (λ (s : Slot). s.cell))))

  -- each slot ends within the blocks of the file
  pub slot_ends : (i : ℕ) (d : Slot) → i < length (slots_of ps) → end_of r.unit (get_or (slots_of ps) i d) ≤ r.end * r.unit
  slot_ends i d lt =
      omega (arith, sizes i d lt, ends_before r.unit (get_or (slots_of ps) i d).cell.at (get_or (slots_of ps) i d).cell.len r.end pos (slot_within i d lt))

  -- the file has the blocks that its bytes take
  pub end_is : r.end ≡ blocks r.unit (end_after r.unit len (slots_of ps))
  end_is =
      let bytes = end_after r.unit len (slots_of ps) in
      let before : len ≤ room.end * r.unit = subst (λ e. len ≤ e * r.unit) (sym whole.end) (subst (λ u. len ≤ blocks (unit_of h) len * u) (sym r_unit) (blocks_hold (unit_of h) len (subst (λ u. 0 < u) r_unit pos))) in
      let longer : room.end * r.unit ≤ r.end * r.unit = mul-le-mul_right r.unit back.end in
      let most : blocks r.unit bytes ≤ r.end = blocks_least r.unit bytes r.end pos (ends_by r.unit len (r.end * r.unit) (slots_of ps) (omega (arith, before, longer)) slot_ends) in
      omega (arith, most, least)
    where
      least : r.end ≤ blocks r.unit (end_after r.unit len (slots_of ps))
      least = elim (cases_lt room.end r.end) [
        | inl grown ↦
            let last = r.end - 1 in
            let old_none : leb room.end last ≡ true = grind (arith, nat_tests, grown) in
            let new_none : leb r.end last ≡ false = grind (arith, nat_tests, grown) in
            let free_none = back.within last (omega (arith, grown)) in
            let owned : 1 ≤ owners r.unit cells last = subst (λ u. 1 ≤ owners u cells last) (sym unit) (omega (arith, opened last, ap {B = ℕ} (λ b. cond b 1 0) old_none, ap {B = ℕ} (λ b. cond b 1 0) new_none, free_none)) in
            let there = owner_of r.unit last cells owned in
            let i = there.0 in
            let lt : i < length (slots_of ps) = omega (arith, there.1, length-map (slots_of ps) (λ (s : Slot). s.cell)) in
            let d : Slot = record { cell = no_cell; bytes = [] } in
            let slot = get_or (slots_of ps) i d in
            let cell : get_or cells i no_cell ≡ slot.cell = get_or-map (λ (s : Slot). s.cell) (slots_of ps) i d no_cell lt in
            let own : owns r.unit last slot.cell ≡ true = subst (λ c. owns r.unit last c ≡ true) cell there.2 in
            let starts : slot.cell.at < r.end = grind (arith, nat_tests, own, grown) in
            let reach : r.end ≤ slot.cell.at + blocks r.unit slot.cell.len = grind (arith, nat_tests, own, grown) in
            blocks_reached r.unit r.end (end_after r.unit len (slots_of ps)) slot.cell pos starts reach (omega (arith, sizes i d lt, ends_in r.unit len (slots_of ps) i d lt))
        | inr not ↦
            omega (arith, not, whole.end, subst (λ u. blocks u len ≤ blocks r.unit (end_after r.unit len (slots_of ps))) r_unit (blocks_rise r.unit len (end_after r.unit len (slots_of ps)) pos (grows r.unit len (slots_of ps))))
      ]

  -- ---- noted

  module _ (q : Overlay) (t : Space) (n : ℕ) (session : IsSession q t n []) (changes_are : (space : spaces.Space) → changes_of q space ≡ noted ps space (changes_of p space))
      (moved : (k : ℕ) → free_at t.parts k + owners r.unit (fresh_of q) k ≡ free_at r.parts k + owners r.unit (fresh_of p) k + owners r.unit cells k)
      (t_unit : t.unit ≡ r.unit) (t_end : t.end ≡ r.end) (t_limit : t.limit ≡ r.limit) where
    tiled_noted : Tiles t (base ++ fresh_of q)
    tiled_noted = record {
      each = λ k lt. subst (λ u. owners u (base ++ fresh_of q) k + free_at t.parts k ≡ 1) (sym t_unit)
          (omega (arith, tiled.each k (omega (arith, lt, t_end)), moved k, owners_append r.unit k (base ++ fresh_of p) cells, owners_append r.unit k base (fresh_of p), owners_append r.unit k base (fresh_of q)));
      none = λ k ge. subst (λ u. owners u (base ++ fresh_of q) k + free_at t.parts k ≡ 0) (sym t_unit)
          (omega (arith, tiled.none k (omega (arith, ge, t_end)), moved k, owners_append r.unit k (base ++ fresh_of p) cells, owners_append r.unit k base (fresh_of p), owners_append r.unit k base (fresh_of q)));
    }

    fresh_some : All (λ c. 1 ≤ c.len) (fresh_of q)
    fresh_some = left_of (λ c. 1 ≤ c.len) (fresh_of q) [] session.some

    numbers : (space : spaces.Space) → AreNumbers (changes_of o space) → AreNumbers (changes_of q space)
    numbers space all = subst AreNumbers (sym (changes_are space)) (numbers_noted ps space (changes_of p space) (numbers_of changes ps are is.numbers) (subst AreNumbers (sym (same space)) all))

    pub whole_noted : IsWhole h pages q t n (end_after r.unit len (slots_of ps))
    whole_noted = record {
      in_range = whole.in_range;
      closed = whole.closed;
      page_unit = whole.page_unit;
      distinct = whole.distinct;
      is_room = session.is_room;
      unit = t_unit ∙ r_unit;
      limit = t_limit ∙ limit ∙ whole.limit;
      end = t_end ∙ end_is ∙ ap (λ u. blocks u (end_after r.unit len (slots_of ps))) r_unit;
      tiles = tiled_noted;
      some = All-append (λ c. 1 ≤ c.len) base (fresh_of q) (left_of (λ c. 1 ≤ c.len) base (fresh_of p) old_some) fresh_some;
      count = session.count;
      spare = omega (arith, session.spare);
      objects = numbers Objects whole.objects;
      system = numbers System whole.system;
    }

-- where nothing was placed the parts are together as before
pub whole_same : (h : Header) (pages : Paged) (o p : Overlay) (room r : Space) (fresh len : ℕ) → IsWhole h pages o room fresh len → IsSame room r → IsRoom r → fresh ≤ r.spare → ((space : spaces.Space) → changes_of p space ≡ changes_of o space) → IsWhole h pages p r fresh len
whole_same h pages o p room r fresh len whole is is_room spare same = record {
  in_range = whole.in_range;
  closed = whole.closed;
  page_unit = whole.page_unit;
  distinct = whole.distinct;
  is_room = is_room;
  unit = is.unit ∙ whole.unit;
  limit = is.limit ∙ whole.limit;
  end = is.end ∙ whole.end;
  tiles = subst (λ l. Tiles r (header_cell ∷ things_of pages.pages ++ l)) (sym fresh_is) (record {
    each = λ k lt. (λ i. owners (is.unit i) (header_cell ∷ things_of pages.pages ++ fresh_of o) k + free_at (is.parts i) k) ∙ whole.tiles.each k (omega (arith, lt, is.end));
    none = λ k ge. (λ i. owners (is.unit i) (header_cell ∷ things_of pages.pages ++ fresh_of o) k + free_at (is.parts i) k) ∙ whole.tiles.none k (omega (arith, ge, is.end));
  });
  some = subst (λ l. All (λ c. 1 ≤ c.len) (header_cell ∷ things_of pages.pages ++ l)) (sym fresh_is) whole.some;
  count = whole.count ∙ ap length (sym fresh_is);
  spare = spare;
  objects = subst AreNumbers (sym (same Objects)) whole.objects;
  system = subst AreNumbers (sym (same System)) whole.system;
}
  where
    fresh_is : fresh_of p ≡ fresh_of o
    fresh_is = fresh_same o p same
