-- A synced file of the form with a closed gate holds its committed side.
use Rattle.std.proofs.Common.{◌≢◌, ℕ, ◌≤◌, ◌<◌, List, [], length, sym, ap, subst, arith}
use Rattle.std.specs.Prelude.{All}
use Rattle.std.proofs.lemmas.List.Elements.{All-cons}
use Rattle.oc_layout.specs.declared.cells.Cell.{Cell}
use Rattle.oc_layout.specs.declared.cells.Header.{Header}
use Rattle.oc_layout.specs.Layout.{unit_of, room_of, blocks, first_page_of}
use Rattle.oc_host.specs.Disk.{Disk, Span, IsSynced, IsDisk, Fixed, Outside}
use Rattle.oc_pages.specs.declared.page.Page.{Page}
use Rattle.oc_pages.specs.Pages.{things_of}
use Rattle.oc_pages.specs.Chains.{HasPages}
use Rattle.oc_slots.specs.Forms.{HasForm, LiesIn, header_cell}
use Rattle.oc_slots.specs.Held.{IsHeld, Holds}

module _ (h : Header) (pages : List Page) (d : Disk) (form : HasForm h [] pages d.bytes) (synced : IsSynced d) (sound : IsDisk d) (closed : h.gate ≢ 1) where
  -- no stop takes a byte of a synced file away
  fixed : (k : ℕ) → k < length d.bytes → Fixed d k
  fixed k lt = (omega (arith, lt, ap length synced.bytes), subst (λ (l : List Span). Outside k l) (sym synced.spans) tt)

  thing_held : (c : Cell) → LiesIn (unit_of h) (length d.bytes) c → IsHeld (unit_of h) d c
  thing_held c lies k ge lt = fixed k (omega (arith, lt, lies.inside))

  things_held : (cells : List Cell) → All (LiesIn (unit_of h) (length d.bytes)) cells → All (IsHeld (unit_of h) d) cells
  things_held cells lies k c lt = thing_held _ (lies k c lt)

  pub formed_holds : Holds h pages d
  formed_holds = record {
    disk = sound;
    header = form.header;
    closed = closed;
    room = subst (λ n. blocks (unit_of h) n ≤ room_of h) (sym synced.top) form.room;
    chain = subst (λ x. HasPages (unit_of h) d.bytes (first_page_of x) pages) (sym form.header.fields) form.chain;
    inside = form.inside;
    held = All-cons (IsHeld (unit_of h) d) header_cell (things_of pages) (λ k ge lt. fixed k (omega (arith, lt, form.header.long))) (things_held (things_of pages) form.inside);
    apart = form.apart;
  }
