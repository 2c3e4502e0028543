-- Whatever a stop leaves of a file that holds its committed side gives that side's map.
use Rattle.std.proofs.Common.{◌≡◌, ◌∙◌, inl, ℕ, ◌+◌, ◌-◌, ◌*◌, ◌<◌, ◌≤◌, List, [], length, get_or, sym, ap, subst, refl, arith}
use Rattle.std.specs.Prelude.{All}
use Rattle.oc_layout.specs.declared.cells.Cell.{Cell}
use Rattle.oc_layout.specs.declared.cells.Header.{Header}
use Rattle.oc_layout.specs.Layout.{unit_of, first_page_of}
use Rattle.oc_host.specs.Disk.{Disk, IsImage, Fixed, now}
use Rattle.oc_pages.specs.declared.page.Page.{Page}
use Rattle.oc_pages.specs.Pages.{things_of}
use Rattle.oc_pages.specs.Chains.{HasPages}
use Rattle.oc_slots.specs.Forms.{Begins, LiesIn, HasForm, GivesFrom, header_cell}
use Rattle.oc_slots.specs.Held.{IsHeld, Holds, map_of}
use Rattle.oc_slots.specs.Maps.{SlotMap, Same}
use Rattle.oc_slots.proofs.Headers.{unit_some, blocks_rise, begins_alike}
use Rattle.oc_slots.proofs.Things.{IsAlike, tail_of, slots_alike, pages_alike}

-- a thing that is held lies in what was synced
pub held_inside : (unit : ℕ) (d : Disk) (thing : Cell) → 1 ≤ thing.len → IsHeld unit d thing → thing.at * unit + thing.len ≤ length d.synced
held_inside unit d thing some held =
    let last : thing.at * unit + thing.len - 1 < length d.synced = (held (thing.at * unit + thing.len - 1) (omega (arith, some)) (omega (arith, some))).0 in
    omega (arith, last, some)

module _ (h : Header) (pages : List Page) (d : Disk) (holds : Holds h pages d) (image said : List ℕ) (im : IsImage (now d) image said) where
  unit : ℕ
  unit = unit_of h

  pub fixed_same : (k : ℕ) → Fixed d k → get_or image k 0 ≡ get_or d.bytes k 0
  fixed_same k fixed = im.kept k fixed.0 fixed.1 ∙ sym (holds.disk.kept k fixed)

  header_held : IsHeld (unit_of h) d header_cell
  header_held = holds.held 0 header_cell (omega arith)

  header_same : (k : ℕ) → k < 128 → get_or image k 0 ≡ get_or d.bytes k 0
  header_same k lt = fixed_same k (header_held k (omega arith) (omega (arith, lt)))

  long : 128 ≤ length image
  long = let last : 127 < length d.synced = (header_held 127 (omega arith) (omega arith)).0 in omega (arith, last, im.no_shorter)

  begins : Begins h image
  begins = begins_alike d.bytes image header_same h long holds.header

  held : All (IsHeld (unit_of h) d) (things_of pages)
  held = tail_of (IsHeld (unit_of h) d) header_cell (things_of pages) holds.held

  inside : All (LiesIn (unit_of h) (length image)) (things_of pages)
  inside k c lt = record {
    some = (holds.inside k c lt).some;
    inside = let last = held_inside (unit_of h) d _ (holds.inside k c lt).some (held k c lt) in omega (arith, last, im.no_shorter);
  }

  alike : All (IsAlike (unit_of h) d.bytes image) (things_of pages)
  alike i c lt = λ k ge below. fixed_same k (held i c lt k ge below)

  pub form : HasForm h [] pages image
  form = record {
    header = begins;
    room = let rise = blocks_rise (unit_of h) (length image) d.top (unit_some h holds.header.in_range) im.no_longer in omega (arith, rise, holds.room);
    log = inl ((λ opened. holds.closed (ap (λ (x : Header). x.gate) begins.fields ∙ opened)), refl);
    chain = subst (λ x. HasPages (unit_of h) image (first_page_of x) pages) begins.fields (pages_alike (unit_of h) d.bytes image pages holds.inside inside alike (first_page_of h) holds.chain);
    inside = inside;
    apart = holds.apart;
    targets = λ k w lt. absurd (omega (arith, lt));
  }

  pub held_gives : GivesFrom h.first image (map_of h pages d.bytes)
  held_gives = record {
    gives = record {
      header = h;
      writes = [];
      pages = pages;
      form = form;
      slots = λ id. sym (slots_alike (unit_of h) d.bytes image pages holds.inside inside alike id.space id.number);
    };
    is_first = refl;
  }

-- an image gives any map that is the same
pub gives_same : (first : ℕ) (image : List ℕ) (m n : SlotMap) → Same m n → GivesFrom first image n → GivesFrom first image m
gives_same first image m n same from =
    let g = from.gives in
    record { gives = record { header = g.header; writes = g.writes; pages = g.pages; form = g.form; slots = λ id. same id ∙ g.slots id }; is_first = from.is_first }
