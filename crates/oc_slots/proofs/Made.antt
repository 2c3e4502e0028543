-- A container that is made.
use Rattle.std.proofs.Common.{◌≡◌, ◌∙◌, inl, inr, ℕ, zero, suc, ◌+◌, ◌*◌, ◌<◌, ◌≤◌, true, false, cond, List, [], ◌∷◌, ◌++◌, length, take, Option, Some, None, refl, sym, ap, subst, arith, append-nil, Ok, Result}
use Rattle.std.specs.Prelude.{All, IfSome}
use Rattle.std.proofs.lemmas.Bool.{cases_Bool}
use Rattle.std.proofs.lemmas.Bool.Decides.{nat_tests}
use Rattle.std.proofs.lemmas.List.{drop_all}
use Rattle.std.proofs.lemmas.List.Sums.{sum_by-cons}
use Rattle.oc_host.specs.Disk.{Disk, IsDisk, IsSynced, LeavesOnly, AfterWrite, AfterSync, over, now, writing, wrote, synced_now}
use Rattle.oc_host.specs.declared.host.Failed.{Failed}
use Rattle.oc_host.proofs.Moments.{Gives, started, writes, syncs, only_bytes, synced}
use Rattle.oc_layout.specs.declared.cells.Header.{Header}
use Rattle.oc_layout.specs.Layout.{unit_of, room_of, first_page_of, blocks, FitsCell}
use Rattle.oc_layout.specs.Headers.{header_bytes, is_in_range, FitsHeader, SpellsHeader}
use Rattle.oc_pages.specs.Pages.{no_cell}
use Rattle.oc_free.specs.FreeParts.{free_at}
use Rattle.oc_room.specs.Rooms.{Space, Tiles, owns}
use Rattle.oc_room.proofs.Counting.{blocks_least}
use Rattle.oc_slots.specs.declared.slot.Making.{Making}
use Rattle.oc_slots.specs.Attaching.{IsMaking, StaysShort, made_header, with_blocks, plain_header}
use Rattle.oc_slots.specs.Forms.{Begins, HasForm, LiesIn, header_cell}
use Rattle.oc_slots.specs.Slots.{places_in}
use Rattle.oc_slots.specs.Stores.{Slots, Agrees, AreRead}
use Rattle.oc_slots.proofs.FirstBytes.{spelled_begins}
use Rattle.oc_slots.proofs.Formed.{formed_holds}
use Rattle.oc_slots.proofs.Headers.{unit_some}

-- ---- the room of a file that has no more than its header

pub room_is : (h : Header) → is_in_range h ≡ true → blocks (unit_of h) 128 ≤ room_of h
room_is h range =
    let pos = unit_some h range in
    let room : 128 ≤ room_of h = grind (arith, nat_tests, range) in
    blocks_least (unit_of h) 128 (room_of h) pos (omega (arith, room, pos, product (unit_of h) (room_of h) pos))
  where
    product : (u n : ℕ) → 0 < u → n ≤ n * u
    product zero n pos = absurd (omega (arith, pos))
    product (suc u) n pos = omega arith

pub header_tiles : (s : Space) → s.parts ≡ [] → s.end ≡ blocks s.unit 128 → Tiles s (header_cell ∷ [])
header_tiles s parts end = record {
  each = λ k lt.
      let own : owns s.unit k header_cell ≡ true = grind (arith, nat_tests, lt, end) in
      let free : free_at s.parts k ≡ 0 = ap (λ l. free_at l k) parts in
      omega (arith, sum_by-cons (λ c. cond (owns s.unit k c) 1 0) header_cell [], ap {B = ℕ} (λ b. cond b 1 0) own, free);
  none = λ k ge.
      let own : owns s.unit k header_cell ≡ false = grind (arith, nat_tests, ge, end) in
      let free : free_at s.parts k ≡ 0 = ap (λ l. free_at l k) parts in
      omega (arith, sum_by-cons (λ c. cond (owns s.unit k c) 1 0) header_cell [], ap {B = ℕ} (λ b. cond b 1 0) own, free);
}

-- ---- the header

fits_plain : (limit first : ℕ) → limit ≤ 2147483647 → first ≤ 2147483646 → FitsHeader (plain_header limit first)
fits_plain limit first l f =
    let none : FitsCell no_cell = record { at = omega arith; len = omega arith } in
    record { limit = omega (arith, l); first = omega (arith, f); root = none; log = none; gate = omega arith; block = omega arith; block_limit = omega arith; block_root = none; spare = none; form = omega arith }

with_fits : (o : Option ℕ) (h : Header) → FitsHeader h → IfSome o (λ b. (1 ≤ b) × (b ≤ 127)) → FitsHeader (with_blocks o h)
with_fits None h fits is = fits
with_fits (Some b) h fits is = record { limit = fits.limit; first = fits.first; root = fits.root; log = fits.log; gate = fits.gate; block = omega (arith, is.1); block_limit = fits.limit; block_root = fits.block_root; spare = fits.spare; form = omega arith }

range_of : (o : Option ℕ) (limit first : ℕ) → (128 ≤ limit) × (limit ≤ 2147483647) → (1 ≤ first) × (first ≤ 2147483646) → IfSome o (λ b. (1 ≤ b) × (b ≤ 127)) → is_in_range (with_blocks o (plain_header limit first)) ≡ true
range_of None limit first l f is = grind (arith, nat_tests, l.0, l.1, f.0, f.1)
range_of (Some b) limit first l f is = grind (arith, nat_tests, l.0, l.1, f.0, f.1, is.0, is.1)

pub made_range : (m : Making) → IsMaking m → is_in_range (made_header m) ≡ true
made_range m is = range_of m.block m.limit m.first is.limit is.first is.block

gate_shut : (o : Option ℕ) (limit first : ℕ) → (with_blocks o (plain_header limit first)).gate ≡ 0
gate_shut None limit first = refl
gate_shut (Some b) limit first = refl

pub made_gate : (m : Making) → (made_header m).gate ≡ 0
made_gate m = gate_shut m.block m.limit m.first

no_first : (o : Option ℕ) (limit first : ℕ) → first_page_of (with_blocks o (plain_header limit first)) ≡ no_cell
no_first None limit first = refl
no_first (Some b) limit first = refl

module _ (m : Making) (is : IsMaking m) where
  range : is_in_range (made_header m) ≡ true
  range = made_range m is

  spells : SpellsHeader (made_header m) (take 128 (header_bytes (made_header m)))
  spells = record { fits = with_fits m.block (plain_header m.limit m.first) (fits_plain m.limit m.first is.limit.1 is.first.1) is.block; in_range = range; bytes = refl }

  begins : Begins (made_header m) (header_bytes (made_header m))
  begins = spelled_begins (made_header m) (header_bytes (made_header m)) spells

  pub made_form : HasForm (made_header m) [] [] (header_bytes (made_header m))
  made_form = record {
    header = begins;
    room = room_is (made_header m) range;
    log = inl ((λ opened. absurd (omega (arith, made_gate m, ap (λ (x : Header). x.gate) begins.fields, opened))), refl);
    chain = record {
      chain = ap first_page_of (sym begins.fields) ∙ no_first m.block m.limit m.first;
      in_range = λ k d lt. absurd (omega (arith, lt));
      distinct = λ i j d below lt. absurd (omega (arith, lt));
    };
    inside = λ k d lt. absurd (omega (arith, lt));
    apart = λ k. elim (cases_Bool (owns (unit_of (made_header m)) k header_cell)) [
      | inl e ↦ omega (arith, sum_by-cons (λ c. cond (owns (unit_of (made_header m)) k c) 1 0) header_cell [], ap {B = ℕ} (λ b. cond b 1 0) e)
      | inr e ↦ omega (arith, sum_by-cons (λ c. cond (owns (unit_of (made_header m)) k c) 1 0) header_cell [], ap {B = ℕ} (λ b. cond b 1 0) e)
    ];
    targets = λ k d lt. absurd (omega (arith, lt));
  }

  pub made_agrees : (s : Slots) (d : Disk) → s.header ≡ made_header m → s.pages ≡ [] → s.len ≡ 128 → s.objects ≡ [] → s.system ≡ [] → s.cached ≡ [] → d.bytes ≡ header_bytes (made_header m) → IsSynced d → IsDisk d → Agrees s d
  made_agrees s d header pages len objects system kept file is_synced sound = record {
    holds = formed_holds s.header s.pages d
        (subst (λ b. HasForm s.header [] s.pages b) (sym file) (subst (λ l. HasForm s.header [] l (header_bytes (made_header m))) (sym pages) (subst (λ x. HasForm x [] [] (header_bytes (made_header m))) (sym header) made_form)))
        is_synced sound (λ opened. absurd (omega (arith, made_gate m, ap (λ (x : Header). x.gate) header, opened)));
    len = len ∙ sym (ap length file);
    fresh = subst (All (LiesIn (unit_of s.header) s.len)) (λ i. places_in (sym objects i) ++ places_in (sym system i)) (λ k d lt. absurd (omega (arith, lt)));
    cached = subst (AreRead (unit_of s.header) d.bytes) (sym kept) (λ k e lt. absurd (omega (arith, lt)));
  }

-- ---- what a stop leaves meanwhile

over_short : (x b : List ℕ) → length b ≤ length x → over 0 x b ≡ x
over_short x b le = (λ i. x ++ drop_all (0 + length x) b (omega (arith, le)) i) ∙ append-nil x

module _ (d : Disk) (is : IsSynced d) (short : length d.bytes ≤ 128) (x : List ℕ) (size : length x ≡ 128) where
  now_short : Gives (now d) (StaysShort d)
  now_short image said im = let same = only_bytes d is image said im in record { told = same.1; short = omega (arith, ap length same.0, short) }

  writing_short : Gives (writing 0 (length x) d) (StaysShort d)
  writing_short image said im = record {
    told = im.told.1 ∙ ap (λ l. d.said ++ l) (none im.told.0) ∙ append-nil d.said;
    short = omega (arith, im.no_longer, is.top, short, size);
  }
    where
      none : (n : ℕ) → take {A = ℕ} n [] ≡ []
      none zero = refl
      none (suc n) = refl

  pub write_runs : (r : Result Unit Failed) (e : Disk) → AfterWrite 0 x r d e → LeavesOnly d e (StaysShort d)
  write_runs r e after = writes d d (StaysShort d) 0 x r e after (started d (StaysShort d)) writing_short

  pub sync_runs : (r : Result Unit Failed) (e f : Disk) → e ≡ wrote 0 x d → AfterSync r e f → LeavesOnly d f (StaysShort d)
  sync_runs r e f is_e after =
      syncs d e (StaysShort d) r f after
      (subst (λ y. LeavesOnly d y (StaysShort d)) (sym is_e) (writes d d (StaysShort d) 0 x (Ok tt) (wrote 0 x d) refl (started d (StaysShort d)) writing_short))
      (subst (λ y. Gives (now y) (StaysShort d)) (sym is_e) writing_short)
      (subst (λ y. StaysShort d y.bytes y.said) (sym is_e) (record { told = refl; short = omega (arith, ap length (over_short x d.bytes (omega (arith, size, short))), size) }))

  pub made_bytes : (e f : Disk) → e ≡ wrote 0 x d → f ≡ synced_now e → (f.bytes ≡ x) × IsSynced f
  made_bytes e f is_e is_f = (
    ap (λ (y : Disk). y.bytes) is_f ∙ ap (λ (y : Disk). y.bytes) is_e ∙ over_short x d.bytes (omega (arith, size, short)),
    subst IsSynced (sym is_f) (synced e),
  )
