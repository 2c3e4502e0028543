-- Pieces of slots that share no block: what they are written beside, and that each slot has its bytes then.
use Rattle.std.proofs.Common.{◌≡◌, ◌∙◌, ◌⊎◌, inl, inr, ℕ, suc, ◌+◌, ◌-◌, ◌*◌, ◌<◌, ◌≤◌, max, true, false, List, [], ◌∷◌, length, replicate, get_or, Option, Some, None, ap, subst, refl, arith, length-append}
use Rattle.std.specs.Prelude.{All, AllPairs, nat_lt, ◌==◌}
use Rattle.std.proofs.lemmas.Bool.{cases_lt, cases_eq}
use Rattle.std.proofs.lemmas.List.{length-replicate}
use Rattle.std.proofs.lemmas.List.Elements.{All-cons}
use Rattle.std.proofs.lemmas.Bool.Decides.{nat_tests}
use Rattle.oc_layout.specs.declared.cells.Cell.{Cell}
use Rattle.oc_layout.specs.Layout.{blocks}
use Rattle.oc_layout.proofs.Blocks.{blocks_reach}
use Rattle.oc_host.specs.Disk.{over}
use Rattle.oc_log.specs.Log.{slice}
use Rattle.oc_log.proofs.Bytes.{length-over, over_out, slice_same, slice_over}
use Rattle.oc_room.proofs.Counting.{some_blocks}
use Rattle.oc_slots.specs.declared.placed.Slot.{Slot}
use Rattle.oc_slots.specs.Held.{IsBeside}
use Rattle.oc_slots.specs.Pieces.{Piece, over_all, Fit, AreBeside, AreWithin, ShareNone, from, end_of, piece_of, pieces_of, end_after}
use Rattle.oc_slots.proofs.Apart.{ends_before}
use Rattle.oc_slots.proofs.Joins.{over_both}
use Rattle.oc_slots.proofs.Things.{tail_of}

-- the thing is the cell before, or shares no block with it
abbrev pub IsClear : ℕ → Option Cell → Cell → Type 0
IsClear unit before thing = (p : Cell) → before ≡ Some p → (thing ≡ p) ⊎ ShareNone unit p thing

-- where the bytes that are written for a slot may begin
data Begins (unit len : ℕ) (before : Option Cell) (c : Cell) (at : ℕ) : Type 0 where
  at_end : at ≡ len → len < c.at * unit → Begins unit len before c at
  at_start : at ≡ c.at * unit → c.at * unit ≤ len → Begins unit len before c at
  behind : (p : Cell) → before ≡ Some p → p.at + blocks unit p.len ≡ c.at → at ≡ p.at * unit + p.len → c.at * unit ≤ len → Begins unit len before c at

begins : (unit len : ℕ) (before : Option Cell) (c : Cell) → Begins unit len before c (from unit len before c)
begins unit len before c = elim (cases_lt len (c.at * unit)) [
  | inl lt ↦ at_end (short before lt) lt
  | inr ge ↦ far before ge
]
  where
    short : (o : Option Cell) → len < c.at * unit → from unit len o c ≡ len
    short None lt = let t : nat_lt len (c.at * unit) ≡ true = grind (arith, nat_tests, lt) in rw t refl
    short (Some p) lt = let t : nat_lt len (c.at * unit) ≡ true = grind (arith, nat_tests, lt) in rw t refl

    far : (o : Option Cell) → c.at * unit ≤ len → Begins unit len o c (from unit len o c)
    far None ge = let t : nat_lt len (c.at * unit) ≡ false = grind (arith, nat_tests, ge) in at_start (rw t refl) ge
    far (Some p) ge =
        let t : nat_lt len (c.at * unit) ≡ false = grind (arith, nat_tests, ge) in
        elim (cases_eq (p.at + blocks unit p.len) c.at) [
          | inl e ↦ let b : (p.at + blocks unit p.len == c.at) ≡ true = grind (arith, nat_tests, e) in behind p refl e (rw t (rw b refl)) ge
          | inr ne ↦ let b : (p.at + blocks unit p.len == c.at) ≡ false = grind (arith, nat_tests, ne) in at_start (rw t (rw b refl)) ge
        ]

module _ (unit : ℕ) (pos : 0 < unit) where
  from_start : (len : ℕ) (before : Option Cell) (c : Cell) → from unit len before c ≤ c.at * unit
  from_start len before c = elim (begins unit len before c) [
    | at_end e lt ↦ omega (arith, e, lt)
    | at_start e le ↦ omega (arith, e)
    | behind p is on e le ↦ omega (arith, e, ends_before unit p.at p.len c.at pos (omega (arith, on)))
  ]

  -- less than a block is filled before a slot that begins no later than the block behind the file
  pub from_near : (len : ℕ) (before : Option Cell) (c : Cell) → c.at ≤ blocks unit len → c.at * unit < from unit len before c + unit
  from_near len before c near = elim (begins unit len before c) [
    | at_end e lt ↦ omega (arith, e, blocks_reach unit len c.at pos near)
    | at_start e le ↦ omega (arith, e, pos)
    | behind p is on e le ↦ omega (arith, e, blocks_reach unit p.len (blocks unit p.len) pos (omega arith), ap (λ n. n * unit) on)
  ]

  from_end : (len : ℕ) (before : Option Cell) (c : Cell) → from unit len before c ≤ len
  from_end len before c = elim (begins unit len before c) [
    | at_end e lt ↦ omega (arith, e, lt)
    | at_start e le ↦ omega (arith, e, le)
    | behind p is on e le ↦ omega (arith, e, le, ends_before unit p.at p.len c.at pos (omega (arith, on)))
  ]

  -- a piece ends where its slot does
  piece_end : (len : ℕ) (before : Option Cell) (s : Slot) → (piece_of unit len before s).at + length (piece_of unit len before s).bytes ≡ end_of unit s
  piece_end len before s =
      let zeros = s.cell.at * unit - from unit len before s.cell in
      omega (arith, from_start len before s.cell, length-append (replicate {A = ℕ} zeros 0) s.bytes, length-replicate {A = ℕ} zeros 0)

  -- a thing that ends where the file does or before, and shares no block with the slot, has none of the bytes that are written for it
  piece_beside : (len : ℕ) (before : Option Cell) (s : Slot) (thing : Cell) → s.cell.len ≡ length s.bytes → 1 ≤ thing.len → thing.at * unit + thing.len ≤ len → ShareNone unit s.cell thing → IsClear unit before thing
      → IsBeside unit (piece_of unit len before s).at (length (piece_of unit len before s).bytes) thing
  piece_beside len before s thing size some within apart clear = elim apart [
    | inl after ↦ inr (omega (arith, piece_end len before s, size, ends_before unit s.cell.at s.cell.len thing.at pos after))
    | inr ahead ↦ inl (elim (begins unit len before s.cell) [
      | at_end e lt ↦ omega (arith, e, within)
      | at_start e le ↦ omega (arith, e, ends_before unit thing.at thing.len s.cell.at pos ahead)
      | behind p is on e le ↦ elim (clear p is) [
        | inl same ↦ omega (arith, e, ap {B = ℕ} (λ (c : Cell). c.at * unit + c.len) same)
        | inr other ↦ elim other [
          | inl later ↦ absurd (omega (arith, on, later, ahead, some_blocks unit thing.len pos some))
          | inr earlier ↦ omega (arith, e, ends_before unit thing.at thing.len p.at pos earlier)
        ]
      ]
    ])
  ]

  -- so it is with all pieces
  pub pieces_beside : (len : ℕ) (before : Option Cell) (ss : List Slot) (thing : Cell) → All (λ s. s.cell.len ≡ length s.bytes) ss → 1 ≤ thing.len → thing.at * unit + thing.len ≤ len → All (λ s. ShareNone unit s.cell thing) ss
      → IsClear unit before thing → AreBeside unit thing (pieces_of unit len before ss)
  pieces_beside len before [] thing sizes some within apart clear = λ k d lt. absurd (omega (arith, lt))
  pieces_beside len before (s ∷ ss) thing sizes some within apart clear =
      All-cons (λ p. IsBeside unit p.at (length p.bytes) thing) (piece_of unit len before s) (pieces_of unit (max len (end_of unit s)) (Some s.cell) ss)
      (piece_beside len before s thing (sizes 0 s (omega arith)) some within (apart 0 s (omega arith)) clear)
      (pieces_beside (max len (end_of unit s)) (Some s.cell) ss thing (tail_of (λ s. s.cell.len ≡ length s.bytes) s ss sizes) some (omega (arith, within)) (tail_of (λ s. ShareNone unit s.cell thing) s ss apart)
      (λ p is. inr (subst (λ c. ShareNone unit c thing) (the is) (apart 0 s (omega arith)))))
    where
      the : {p : Cell} → Some s.cell ≡ Some p → s.cell ≡ p
      the e = cc

  -- no piece ends behind where all slots end
  pub pieces_within : (len : ℕ) (before : Option Cell) (ss : List Slot) (end : ℕ) → ((i : ℕ) (d : Slot) → i < length ss → end_of unit (get_or ss i d) ≤ end) → AreWithin end (pieces_of unit len before ss)
  pieces_within len before [] end all = λ k d lt. absurd (omega (arith, lt))
  pieces_within len before (s ∷ ss) end all =
      All-cons (λ p. p.at + length p.bytes ≤ end) (piece_of unit len before s) (pieces_of unit (max len (end_of unit s)) (Some s.cell) ss) (omega (arith, piece_end len before s, all 0 s (omega arith)))
      (pieces_within (max len (end_of unit s)) (Some s.cell) ss end (λ i d lt. all (suc i) d (omega (arith, lt))))

  grown : (len : ℕ) (before : Option Cell) (s : Slot) (b : List ℕ) → length b ≡ len → length (over (piece_of unit len before s).at (piece_of unit len before s).bytes b) ≡ max len (end_of unit s)
  grown len before s b size =
      omega (arith, length-over (piece_of unit len before s).at (piece_of unit len before s).bytes b (omega (arith, from_end len before s.cell, size)), size, piece_end len before s)

  pub pieces_fit : (len : ℕ) (before : Option Cell) (ss : List Slot) (b : List ℕ) → length b ≡ len → Fit (pieces_of unit len before ss) b
  pieces_fit len before [] b size = tt
  pieces_fit len before (s ∷ ss) b size = (omega (arith, from_end len before s.cell, size), pieces_fit (max len (end_of unit s)) (Some s.cell) ss (over (piece_of unit len before s).at (piece_of unit len before s).bytes b) (grown len before s b size))

  pub pieces_length : (len : ℕ) (before : Option Cell) (ss : List Slot) (b : List ℕ) → length b ≡ len → length (over_all (pieces_of unit len before ss) b) ≡ end_after unit len ss
  pieces_length len before [] b size = size
  pieces_length len before (s ∷ ss) b size = pieces_length (max len (end_of unit s)) (Some s.cell) ss (over (piece_of unit len before s).at (piece_of unit len before s).bytes b) (grown len before s b size)

  -- the bytes of a slot are there once its piece is written
  piece_bytes : (len : ℕ) (before : Option Cell) (s : Slot) (b : List ℕ) → length b ≡ len → slice (s.cell.at * unit) (length s.bytes) (over (piece_of unit len before s).at (piece_of unit len before s).bytes b) ≡ s.bytes
  piece_bytes len before s b size =
      let at = from unit len before s.cell in
      let zeros : List ℕ = replicate (s.cell.at * unit - at) 0 in
      let fits : at ≤ length b = omega (arith, from_end len before s.cell, size) in
      let start : at + length zeros ≡ s.cell.at * unit = omega (arith, from_start len before s.cell, length-replicate {A = ℕ} (s.cell.at * unit - at) 0) in
      let room : s.cell.at * unit ≤ length (over at zeros b) = omega (arith, length-over at zeros b fits, start) in
      ap (slice (s.cell.at * unit) (length s.bytes)) (over_both at zeros s.bytes b fits ∙ (λ i. over (start i) s.bytes (over at zeros b))) ∙ slice_over (s.cell.at * unit) s.bytes (over at zeros b) room

-- a thing beside all pieces has its bytes as before
pub beside_same : (unit : ℕ) (ps : List Piece) (b : List ℕ) (thing : Cell) → Fit ps b → AreBeside unit thing ps → (k : ℕ) → thing.at * unit ≤ k → k < thing.at * unit + thing.len → get_or (over_all ps b) k 0 ≡ get_or b k 0
beside_same unit [] b thing fit beside k ge lt = refl
beside_same unit (p ∷ ps) b thing fit beside k ge lt =
    beside_same unit ps (over p.at p.bytes b) thing fit.1 (tail_of (λ p. IsBeside unit p.at (length p.bytes) thing) p ps beside) k ge lt
    ∙ over_out p.at p.bytes b k fit.0 (elim (beside 0 p (omega arith)) [ inl before ↦ inl (omega (arith, before, lt)) | inr after ↦ inr (omega (arith, after, ge)) ])

module _ (unit : ℕ) (pos : 0 < unit) where
  pub end_grows : (len : ℕ) (ss : List Slot) → len ≤ end_after unit len ss
  end_grows len [] = omega arith
  end_grows len (s ∷ ss) = omega (arith, end_grows (max len (end_of unit s)) ss)

  -- each slot has its bytes once all pieces are written
  pub slots_written : (len : ℕ) (before : Option Cell) (ss : List Slot) (b : List ℕ) → length b ≡ len → All (λ s. s.cell.len ≡ length s.bytes) ss → All (λ s. 1 ≤ s.cell.len) ss
      → AllPairs (λ s t. ShareNone unit s.cell t.cell) ss → All (λ s. (slice (s.cell.at * unit) s.cell.len (over_all (pieces_of unit len before ss) b) ≡ s.bytes) × (end_of unit s ≤ end_after unit len ss)) ss
  slots_written len before [] b size sizes some apart = λ k d lt. absurd (omega (arith, lt))
  slots_written len before (s ∷ ss) b size sizes some apart =
      let c = over (piece_of unit len before s).at (piece_of unit len before s).bytes b in
      let longer = max len (end_of unit s) in
      let grows = grown unit pos len before s b size in
      let fit = pieces_fit unit pos longer (Some s.cell) ss c grows in
      let here = sizes 0 s (omega arith) in
      let beside = pieces_beside unit pos longer (Some s.cell) ss s.cell (tail_of (λ s. s.cell.len ≡ length s.bytes) s ss sizes) (some 0 s (omega arith)) (omega (arith, here)) (λ k d lt. flip (get_or ss k d) (apart 0 (suc k) d (omega arith) (omega (arith, lt)))) (λ p is. inl (the is)) in
      let after = pieces_length unit pos longer (Some s.cell) ss c grows in
      All-cons (λ t. (slice (t.cell.at * unit) t.cell.len (over_all (pieces_of unit longer (Some s.cell) ss) c) ≡ t.bytes) × (end_of unit t ≤ end_after unit longer ss)) s ss (
        slice_same (s.cell.at * unit) s.cell.len c (over_all (pieces_of unit longer (Some s.cell) ss) c) (omega (arith, grows, here)) (omega (arith, after, end_grows longer ss, here)) (beside_same unit (pieces_of unit longer (Some s.cell) ss) c s.cell fit beside)
            ∙ ap (λ n. slice (s.cell.at * unit) n c) here ∙ piece_bytes unit pos len before s b size,
        omega (arith, end_grows longer ss),
      )
      (slots_written longer (Some s.cell) ss c grows (tail_of (λ s. s.cell.len ≡ length s.bytes) s ss sizes) (tail_of (λ s. 1 ≤ s.cell.len) s ss some) (λ i j d lt inside. apart (suc i) (suc j) d (omega (arith, lt)) (omega (arith, inside))))
    where
      the : {p : Cell} → Some s.cell ≡ Some p → s.cell ≡ p
      the e = cc

      flip : (t : Slot) → ShareNone unit s.cell t.cell → ShareNone unit t.cell s.cell
      flip t (inl a) = inr a
      flip t (inr b) = inl b
