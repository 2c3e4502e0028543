-- A write beside what a file holds of its committed side.
use Rattle.std.proofs.Common.{◌≡◌, inl, inr, ℕ, ◌+◌, ◌≤◌, max, List, ◌∷◌, length, sym, subst, arith}
use Rattle.std.specs.Prelude.{All}
use Rattle.std.proofs.lemmas.Bool.{cases_lt}
use Rattle.oc_layout.specs.declared.cells.Cell.{Cell}
use Rattle.oc_layout.specs.declared.cells.Header.{Header}
use Rattle.oc_layout.specs.Layout.{unit_of, room_of, first_page_of, blocks}
use Rattle.oc_host.specs.Disk.{Disk, IsDisk, IsImage, over, writing, wrote}
use Rattle.oc_log.proofs.Bytes.{length-over, over_out}
use Rattle.oc_pages.specs.declared.page.Page.{Page}
use Rattle.oc_pages.specs.Pages.{things_of}
use Rattle.oc_slots.specs.Maps.{Same}
use Rattle.oc_slots.specs.Forms.{LiesIn, GivesFrom, header_cell}
use Rattle.oc_slots.specs.Held.{IsHeld, IsBeside, Holds, map_of}
use Rattle.oc_slots.proofs.Headers.{begins_alike}
use Rattle.oc_slots.proofs.Things.{IsAlike, tail_of, slots_alike, pages_alike}
use Rattle.oc_slots.proofs.HeldGives.{gives_same, held_gives}

module _ (h : Header) (pages : List Page) (d : Disk) (holds : Holds h pages d) (at : ℕ) (bytes : List ℕ) (start : at ≤ length d.bytes)
    (room : blocks (unit_of h) (at + length bytes) ≤ room_of h) (beside : All (IsBeside (unit_of h) at (length bytes)) (header_cell ∷ things_of pages)) (sound : IsDisk (wrote at bytes d)) where
  -- the bytes of a thing beside the write are as before
  thing_same : (thing : Cell) → IsBeside (unit_of h) at (length bytes) thing → IsAlike (unit_of h) d.bytes (over at bytes d.bytes) thing
  thing_same thing aside k ge lt = over_out at bytes d.bytes k start (elim aside [ inl before ↦ inl (omega (arith, before, lt)) | inr after ↦ inr (omega (arith, after, ge)) ])

  longer : length (over at bytes d.bytes) ≡ max (length d.bytes) (at + length bytes)
  longer = length-over at bytes d.bytes start

  alike : All (IsAlike (unit_of h) d.bytes (over at bytes d.bytes)) (things_of pages)
  alike i c lt = thing_same _ (tail_of (IsBeside (unit_of h) at (length bytes)) header_cell (things_of pages) beside i c lt)

  inside : All (LiesIn (unit_of h) (length (over at bytes d.bytes))) (things_of pages)
  inside i c lt = record { some = (holds.inside i c lt).some; inside = omega (arith, longer, (holds.inside i c lt).inside) }

  still_held : (thing : Cell) → IsBeside (unit_of h) at (length bytes) thing → IsHeld (unit_of h) d thing → IsHeld (unit_of h) (wrote at bytes d) thing
  still_held thing aside held k ge lt = ((held k ge lt).0, (elim aside [ inl before ↦ inl (omega (arith, before, lt)) | inr after ↦ inr (omega (arith, after, ge)) ], (held k ge lt).1))

  top : blocks (unit_of h) (max d.top (at + length bytes)) ≤ room_of h
  top = elim (cases_lt d.top (at + length bytes)) [
    | inl less ↦ let same : max d.top (at + length bytes) ≡ at + length bytes = omega (arith, less) in subst (λ n. blocks (unit_of h) n ≤ room_of h) (sym same) room
    | inr more ↦ let same : max d.top (at + length bytes) ≡ d.top = omega (arith, more) in subst (λ n. blocks (unit_of h) n ≤ room_of h) (sym same) holds.room
  ]

  pub still_holds : Holds h pages (wrote at bytes d)
  still_holds = record {
    disk = sound;
    header = begins_alike d.bytes (over at bytes d.bytes) (λ k lt. thing_same header_cell (beside 0 header_cell (omega arith)) k (omega arith) (omega (arith, lt))) h (omega (arith, longer, holds.header.long)) holds.header;
    closed = holds.closed;
    room = top;
    chain = pages_alike (unit_of h) d.bytes (over at bytes d.bytes) pages holds.inside inside alike (first_page_of h) holds.chain;
    inside = inside;
    held = λ i c lt. still_held _ (beside i c lt) (holds.held i c lt);
    apart = holds.apart;
  }

  pub same_map : Same (map_of h pages (wrote at bytes d).bytes) (map_of h pages d.bytes)
  same_map id = slots_alike (unit_of h) d.bytes (over at bytes d.bytes) pages holds.inside inside alike id.space id.number

  -- a stop in the write leaves the committed side
  pub gives_in_write : (image said : List ℕ) → IsImage (writing at (length bytes) d) image said → GivesFrom h.first image (map_of h pages d.bytes)
  gives_in_write image said im =
      gives_same h.first image (map_of h pages d.bytes) (map_of h pages (wrote at bytes d).bytes) (λ id. sym (same_map id)) (held_gives h pages (wrote at bytes d) still_holds image said im)
