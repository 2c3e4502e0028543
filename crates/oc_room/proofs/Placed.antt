-- Things placed one after another.
use Rattle.std.proofs.Common.{◌≡◌, ◌∙◌, ℕ, suc, ◌+◌, max, ◌<◌, ◌≤◌, true, false, cond, leb, List, [], ◌∷◌, ◌++◌, length, map, take, drop, get_or, Some, None, ap, ap₂, sym, subst, subst₂, inl, inr, refl, arith}
use Rattle.std.specs.List.{All}
use Rattle.std.proofs.lemmas.Bool.{cases_lt}
use Rattle.std.proofs.lemmas.Bool.Decides.{nat_tests}
use Rattle.std.proofs.lemmas.List.{drop_more, map-append}
use Rattle.std.proofs.Math.Seq.{take-suc}
use Rattle.std.proofs.lemmas.List.Sums.{fold_more, sum_by-append, sum_by-cons}
use Rattle.std.proofs.lemmas.List.Elements.{All-append}
use Rattle.std.specs.Prelude.{IsErrOf, Err}
use Rattle.oc_layout.specs.declared.cells.Cell.{Cell}
use Rattle.oc_layout.specs.Layout.{blocks}
use Rattle.oc_model.specs.Space.{Part}
use Rattle.oc_free.specs.FreeParts.{AreFree, free_at}
use Rattle.oc_free.proofs.ByBlocks.{by_blocks, free_once}
use Rattle.oc_free.proofs.Edits.{counted}
use Rattle.oc_room.specs.declared.fault.RoomFault.TheVariants as room_fault
use Rattle.oc_room.specs.Rooms.{Space, Placed, owns, owners, open_at, place_next, placed, finds_room, lacking, IsSame, LiesIn, LiesApart, GoesBack, AreInOrder}
use Rattle.oc_room.proofs.Counting.{some_blocks}
use Rattle.oc_room.proofs.Few.{few}

-- ---- the first that finds no room

pub lacking_room : (unit limit : ℕ) (p : Placed) (len : ℕ) (lens : List ℕ) → finds_room unit limit p len ≡ true → lacking unit limit p (len ∷ lens) ≡ lacking unit limit (place_next unit p len) lens
unfolding lacking
lacking_room unit limit p len lens found = rw found refl

pub lacking_none : (unit limit : ℕ) (p : Placed) (len : ℕ) (lens : List ℕ) → finds_room unit limit p len ≡ false → lacking unit limit p (len ∷ lens) ≡ Some (record { need = blocks unit len; length = p.end })
unfolding lacking
lacking_none unit limit p len lens found = rw found refl

pub lacking_end : (unit limit : ℕ) (p : Placed) → lacking unit limit p [] ≡ None
unfolding lacking
lacking_end unit limit p = refl

module _ (unit limit : ℕ) (first p : Placed) (lens : List ℕ) (i : ℕ) (lt : i < length lens) where
  pub placed_more : (next : Placed) → placed unit first (take i lens) ≡ p → place_next unit p (get_or lens i 0) ≡ next → placed unit first (take (i + 1) lens) ≡ next
  placed_more next so_far step = fold_more (place_next unit) first lens i 0 lt ∙ ap (λ q. place_next unit q (get_or lens i 0)) so_far ∙ step

  pub lacking_more : (next : Placed) → lacking unit limit first lens ≡ lacking unit limit p (drop i lens) → finds_room unit limit p (get_or lens i 0) ≡ true → place_next unit p (get_or lens i 0) ≡ next
      → lacking unit limit first lens ≡ lacking unit limit next (drop (i + 1) lens)
  lacking_more next rest found step =
      rest ∙ ap (lacking unit limit p) (drop_more lens i 0 lt) ∙ lacking_room unit limit p (get_or lens i 0) (drop (i + 1) lens) found ∙ ap (λ q. lacking unit limit q (drop (i + 1) lens)) step

  pub lacking_here : lacking unit limit first lens ≡ lacking unit limit p (drop i lens) → finds_room unit limit p (get_or lens i 0) ≡ false
      → lacking unit limit first lens ≡ Some (record { need = blocks unit (get_or lens i 0); length = p.end })
  lacking_here rest found = rest ∙ ap (lacking unit limit p) (drop_more lens i 0 lt) ∙ lacking_none unit limit p (get_or lens i 0) (drop (i + 1) lens) found

-- ---- the things so far

-- one thing behind the others
pub owners_behind : (unit k : ℕ) (cells : List Cell) (c : Cell) → owners unit (cells ++ c ∷ []) k ≡ owners unit cells k + cond (owns unit k c) 1 0
owners_behind unit k cells c =
    omega (arith, sum_by-append (λ c. cond (owns unit k c) 1 0) cells (c ∷ []), sum_by-cons (λ c. cond (owns unit k c) 1 0) c [])

pub all_behind : (P : Cell → Type 0) (cells : List Cell) (c : Cell) → All P cells → P c → All P (cells ++ c ∷ [])
all_behind P cells c all one = All-append P cells (c ∷ []) all (λ k d lt. subst (λ i. P (get_or (c ∷ []) i d)) (zero_is k lt) one)
  where
    zero_is : (k : ℕ) → k < length (c ∷ []) → 0 ≡ k
    zero_is k lt = omega (arith, lt)

-- the lengths are those placed so far
pub lens_behind : (lens : List ℕ) (i : ℕ) (cells : List Cell) (c : Cell) → i < length lens → map {B = ℕ} (λ c. c.len) cells ≡ take i lens → c.len ≡ get_or lens i 0 → map {B = ℕ} (λ c. c.len) (cells ++ c ∷ []) ≡ take (i + 1) lens
lens_behind lens i cells c lt so_far len = map-append (λ c. c.len) cells (c ∷ []) ∙ ap₂ (λ a n. a ++ n ∷ []) so_far len ∙ sym (subst (λ n. take n lens ≡ take i lens ++ get_or lens i 0 ∷ []) suc_is (take-suc lens i 0 lt))
  where
    suc_is : suc i ≡ i + 1
    suc_is = omega arith

-- a thing that lies in a free part or at the end lies apart from the end of the file before
pub lies_apart : (s : Space) (end : ℕ) (c : Cell) → 1 ≤ blocks s.unit c.len → end ≤ s.end → ((k : ℕ) → end ≤ k → free_at s.parts k ≡ 0) → LiesIn s c → LiesApart s.unit end c
lies_apart s end c some le none (inl inside) = elim (cases_lt end (c.at + blocks s.unit c.len)) [
  | inr ends ↦ inl ends
  | inl behind ↦ elim (cases_lt c.at end) [
    | inr begins ↦ inr begins
    | inl before ↦
        let owned : owns s.unit end c ≡ true = grind (arith, nat_tests, behind, before) in
        absurd (omega (arith, inside end owned, none end (omega arith)))
  ]
]
lies_apart s end c some le none (inr at_end) = inr (omega (arith, at_end, le))

module _ (s t : Space) (cells : List Cell) (opened : (k : ℕ) → open_at s k ≡ open_at t k + owners s.unit cells k) (free : AreFree s.parts) (within : (k : ℕ) → s.end ≤ k → free_at s.parts k ≡ 0) where
  open_once : (k : ℕ) → open_at s k ≤ 1
  open_once k = elim (cases_lt k s.end) [
    | inl below ↦ let not : leb s.end k ≡ false = grind (arith, nat_tests, below) in omega (arith, free_once s.parts free k, ap {B = ℕ} (λ b. cond b 1 0) not)
    | inr behind ↦ let is : leb s.end k ≡ true = grind (arith, nat_tests, behind) in omega (arith, within k behind, ap {B = ℕ} (λ b. cond b 1 0) is)
  ]

  -- no block is in two of the things
  pub apart : (k : ℕ) → owners s.unit cells k ≤ 1
  apart k = omega (arith, open_once k, opened k)

  -- the blocks before the end are still free, or in one of the things
  pub apart_below : s.end ≤ t.end → (k : ℕ) → k < s.end → free_at t.parts k + owners s.unit cells k ≡ free_at s.parts k
  apart_below le k lt =
      let here : leb s.end k ≡ false = grind (arith, nat_tests, lt) in
      let there : leb t.end k ≡ false = grind (arith, nat_tests, lt, le) in
      omega (arith, opened k, ap {B = ℕ} (λ b. cond b 1 0) here, ap {B = ℕ} (λ b. cond b 1 0) there)

  pub once_below : s.end ≤ t.end → (k : ℕ) → k < s.end → free_at t.parts k + owners s.unit cells k ≤ 1
  once_below le k lt = omega (arith, apart_below le k lt, free_once s.parts free k)

  -- each begins before the end
  begins : 0 < s.unit → All (λ c. 1 ≤ c.len) cells → All (λ c. c.at < t.end) cells
  begins pos some i d lt =
      let c = get_or cells i d in
      let blocks = some_blocks s.unit c.len pos (some i d lt) in
      let here : owns s.unit c.at c ≡ true = grind (arith, nat_tests, blocks) in
      let owned = counted (owns s.unit c.at) cells i d lt here in
      elim (cases_lt c.at t.end) [
        | inl before ↦ before
        | inr behind ↦ let is : leb t.end c.at ≡ true = grind (arith, nat_tests, behind) in absurd (omega (arith, owned, opened c.at, open_once c.at, ap {B = ℕ} (λ b. cond b 1 0) is))
      ]

  -- they are no more than the file's blocks
  pub few_cells : 0 < s.unit → All (λ c. 1 ≤ c.len) cells → length cells ≤ t.end
  few_cells pos some = few s.unit t.end pos cells some (begins pos some) apart

  -- they can be given back
  pub goes_back : s.end ≤ t.end → t.unit ≡ s.unit → All (λ c. 1 ≤ c.len) cells → All (LiesApart s.unit s.end) cells → ((k : ℕ) → s.end ≤ k → free_at t.parts k ≡ 0) → length cells ≤ t.spare → GoesBack t cells s.end
  goes_back le unit some lies none spare = record {
    some = some;
    lies = subst (λ u. All (LiesApart u s.end) cells) (sym unit) lies;
    apart = λ k lt. subst (λ u. free_at t.parts k + owners u cells k ≤ 1) (sym unit) (once_below le k lt);
    within = none;
    end = le;
    spare = spare;
  }

  -- given back, the parts are those of before
  pub as_before : s.end ≤ t.end → (parts : List Part) → AreFree parts → ((k : ℕ) → k < s.end → free_at parts k ≡ free_at t.parts k + owners s.unit cells k) → ((k : ℕ) → s.end ≤ k → free_at parts k ≡ 0) → parts ≡ s.parts
  as_before le parts frees below behind = by_blocks parts s.parts frees free same
    where
      same : (k : ℕ) → free_at parts k ≡ free_at s.parts k
      same k = elim (cases_lt k s.end) [
        | inl lt ↦ omega (arith, below k lt, apart_below le k lt)
        | inr ge ↦ omega (arith, behind k ge, within k ge)
      ]

-- what goes back into a room goes back into the same one
pub goes_back_too : (s t : Space) (things : List Cell) (to : ℕ) → IsSame s t → length things ≤ t.spare → GoesBack s things to → GoesBack t things to
goes_back_too s t things to same spare back = record {
  some = back.some;
  lies = subst (λ u. All (LiesApart u to) things) (sym same.unit) back.lies;
  apart = λ k lt. subst₂ (λ (ps : List Part) u. free_at ps k + owners u things k ≤ 1) (sym same.parts) (sym same.unit) (back.apart k lt);
  within = λ k ge. subst (λ (ps : List Part). free_at ps k ≡ 0) (sym same.parts) (back.within k ge);
  end = omega (arith, back.end, same.end);
  spare = spare;
}

-- ---- the fault

pub full_parts : (a b c d e f : ℕ) → room_fault.Full a b c ≡ room_fault.Full d e f → (a ≡ d) × (b ≡ e) × (c ≡ f)
full_parts a b c d e f same = (cc, cc, cc)

pub same_error : {T E : Type 0} (x y : E) → IsErrOf {T = T} (Err x) y → x ≡ y
same_error x y same = cc

-- one thing more, in order
pub order_behind : (unit end last next : ℕ) (cells : List Cell) (c : Cell) → AreInOrder unit end cells last → c.at ≤ last → next ≡ max last (c.at + blocks unit c.len) → AreInOrder unit end (cells ++ c ∷ []) next
order_behind unit end last next [] c order begins grows =
    (omega (arith, begins, order), grows ∙ ap (λ n. max n (c.at + blocks unit c.len)) order)
order_behind unit end last next (d ∷ ds) c order begins grows = (order.0, order_behind unit (max end (d.at + blocks unit d.len)) last next ds c order.1 begins grows)
