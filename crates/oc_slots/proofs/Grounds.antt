-- Things that lie in a file, with the room around them.
use Rattle.std.proofs.Common.{◌≡◌, inl, inr, ℕ, ◌+◌, ◌-◌, ◌*◌, ◌<◌, ◌≤◌, Bool, true, false, cond, List, [], ◌∷◌, ◌++◌, length, Result, Ok, Err, refl, sym, ap, subst, arith}
use Rattle.std.specs.Prelude.{All, Any, IsTrue, IfOk, nat_le, ◌&&◌, if◌then◌else◌}
use Rattle.std.proofs.Math.Nat.{mul-le-mul_left}
use Rattle.std.proofs.lemmas.Bool.{cases_lt}
use Rattle.std.proofs.lemmas.Bool.Decides.{nat_tests}
use Rattle.std.proofs.lemmas.List.Sums.{sum_by-cons}
use Rattle.std.proofs.lemmas.List.Elements.{All-head, All-tail, All-cons}
use Rattle.oc_layout.specs.declared.cells.Cell.{Cell}
use Rattle.oc_layout.specs.declared.cells.CellWrite.{CellWrite}
use Rattle.oc_layout.specs.declared.cells.Header.{Header}
use Rattle.oc_layout.specs.Layout.{unit_of, blocks, is_below, is_ascending}
use Rattle.oc_layout.proofs.Blocks.{blocks_hold}
use Rattle.oc_free.specs.FreeParts.{free_at}
use Rattle.oc_pages.specs.declared.page.Page.{Page}
use Rattle.oc_pages.specs.Targets.{IsTargetIn}
use Rattle.oc_room.specs.Rooms.{Space, Tiles, AreApart, owns, owners}
use Rattle.oc_room.proofs.Counting.{blocks_least}
use Rattle.oc_room.proofs.Placed.{owners_behind}
use Rattle.oc_slots.specs.Attaching.{SuitsTarget, IsBehindRoot}
use Rattle.oc_slots.specs.Forms.{LiesIn, IsTarget, header_cell, log_things, root_place}

pub ok_map : {T E : Type 0} (r : Result T E) (P Q : T → Type 0) → IfOk r P → ((x : T) → P x → Q x) → IfOk r Q
ok_map (Ok x) P Q p f = f x p
ok_map (Err e) P Q p f = tt

pub ok_two : {T E : Type 0} (r : Result T E) (P Q : T → Type 0) → IfOk r P → IfOk r Q → IfOk r (λ x. P x × Q x)
ok_two (Ok x) P Q p q = (p, q)
ok_two (Err e) P Q p q = tt

-- ---- things that lie in a file

-- a thing that lies in a file ends no later than its blocks
pub ends_within : (unit len : ℕ) (c : Cell) → 0 < unit → LiesIn unit len c → c.at + blocks unit c.len ≤ blocks unit len
ends_within unit len c pos lies =
    let m = blocks unit len in
    let held : len ≤ m * unit = blocks_hold unit len pos in
    let below : c.at < m = elim (cases_lt c.at m) [
      | inl lt ↦ lt
      | inr ge ↦ let over : unit * m ≤ unit * c.at = mul-le-mul_left unit ge in absurd (omega (arith, over, held, lies.inside, lies.some))
    ] in
    let parts : m ≡ c.at + (m - c.at) = omega (arith, below) in
    let product : m * unit ≡ (c.at + (m - c.at)) * unit = ap (λ n. n * unit) parts in
    let least : blocks unit c.len ≤ m - c.at = blocks_least unit c.len (m - c.at) pos (omega (arith, product, held, lies.inside)) in
    omega (arith, least, below)

pub none_behind : (unit len k : ℕ) (things : List Cell) → 0 < unit → All (LiesIn unit len) things → blocks unit len ≤ k → owners unit things k ≡ 0
none_behind unit len k [] pos lie le = refl
none_behind unit len k (c ∷ cs) pos lie le =
    let ends = ends_within unit len c pos (All-head (LiesIn unit len) c cs lie) in
    let not_it : owns unit k c ≡ false = grind (arith, nat_tests, ends, le) in
    omega (arith, sum_by-cons (λ x. cond (owns unit k x) 1 0) c cs, ap {B = ℕ} (λ b. cond b 1 0) not_it, none_behind unit len k cs pos (All-tail (LiesIn unit len) c cs lie) le)

pub all_apart : (unit len : ℕ) (things : List Cell) → 0 < unit → All (LiesIn unit len) things → ((k : ℕ) → owners unit things k ≤ 1) → AreApart unit (blocks unit len) things
all_apart unit len things pos lie once k = elim (cases_lt k (blocks unit len)) [
  | inl lt ↦ let test : nat_le (blocks unit len) k ≡ false = grind (arith, nat_tests, lt) in subst (λ b. owners unit things k ≤ (if b then 0 else 1)) (sym test) (once k)
  | inr ge ↦
      let test : nat_le (blocks unit len) k ≡ true = grind (arith, nat_tests, ge) in
      let none = none_behind unit len k things pos lie ge in
      subst (λ b. owners unit things k ≤ (if b then 0 else 1)) (sym test) (omega (arith, none))
]

-- ---- the room around them

pub tiled_once : (s : Space) (things : List Cell) → Tiles s things → (k : ℕ) → owners s.unit things k + free_at s.parts k ≤ 1
tiled_once s things tiles k = elim (cases_lt k s.end) [
  | inl lt ↦ omega (arith, tiles.each k lt)
  | inr ge ↦ omega (arith, tiles.none k ge)
]

-- the header behind the things and before them
pub one_moved : (unit k : ℕ) (things : List Cell) → owners unit (things ++ header_cell ∷ []) k ≡ owners unit (header_cell ∷ things) k
one_moved unit k things = omega (arith, owners_behind unit k things header_cell, sum_by-cons (λ c. cond (owns unit k c) 1 0) header_cell things)

pub two_moved : (unit k : ℕ) (log : Cell) (things : List Cell) → owners unit ((things ++ header_cell ∷ []) ++ log ∷ []) k ≡ owners unit (header_cell ∷ log ∷ things) k
two_moved unit k log things =
    let own : Cell → ℕ = λ c. cond (owns unit k c) 1 0 in
    omega (arith, owners_behind unit k (things ++ header_cell ∷ []) log, owners_behind unit k things header_cell, sum_by-cons own header_cell (log ∷ things), sum_by-cons own log things)

pub log_owned : (unit k : ℕ) (log : Cell) (things : List Cell) → owners unit ((things ++ header_cell ∷ []) ++ log ∷ []) k ≡ owners unit (header_cell ∷ things) k + cond (owns unit k log) 1 0
log_owned unit k log things = omega (arith, owners_behind unit k (things ++ header_cell ∷ []) log, one_moved unit k things)

pub tiled_front : (s : Space) (things : List Cell) → Tiles s (things ++ header_cell ∷ []) → Tiles s (header_cell ∷ things)
tiled_front s things tiles = record {
  each = λ k lt. omega (arith, one_moved s.unit k things, tiles.each k lt);
  none = λ k ge. omega (arith, one_moved s.unit k things, tiles.none k ge);
}

-- the blocks of the log are taken, and then free
module _ (old : Space) (log : Cell) (things : List Cell) (tiles : Tiles old ((things ++ header_cell ∷ []) ++ log ∷ [])) where
  pub log_taken : (k : ℕ) → owns old.unit k log ≡ true → free_at old.parts k ≡ 0
  log_taken k own =
      let one : cond (owns old.unit k log) 1 0 ≡ 1 = ap {B = ℕ} (λ b. cond b 1 0) own in
      omega (arith, tiled_once old ((things ++ header_cell ∷ []) ++ log ∷ []) tiles k, log_owned old.unit k log things, one)

  pub log_freed : (new : Space) → new.unit ≡ old.unit → new.end ≡ old.end → ((k : ℕ) → free_at new.parts k ≡ free_at old.parts k + cond (owns old.unit k log) 1 0) → Tiles new (header_cell ∷ things)
  log_freed new unit end freed = record {
    each = λ k lt. subst (λ u. owners u (header_cell ∷ things) k + free_at new.parts k ≡ 1) (sym unit) (omega (arith, tiles.each k (omega (arith, lt, end)), log_owned old.unit k log things, freed k));
    none = λ k ge. subst (λ u. owners u (header_cell ∷ things) k + free_at new.parts k ≡ 0) (sym unit) (omega (arith, tiles.none k (omega (arith, ge, end)), log_owned old.unit k log things, freed k));
  }

pub no_log : (h : Header) (ws : List CellWrite) → length ws ≡ 0 → log_things h ws ≡ []
no_log h [] e = refl
no_log h (w ∷ ws) e = absurd (omega (arith, e))

pub a_log : (h : Header) (ws : List CellWrite) → 0 < length ws → log_things h ws ≡ h.log ∷ []
a_log h [] lt = absurd (omega (arith, lt))
a_log h (w ∷ ws) lt = refl

-- ---- where an open log puts its cells

split : (x y : Bool) → IsTrue (x && y) → IsTrue x × IsTrue y
split true y t = (refl, t)
split false y t = absurd cc

above : (ws : List CellWrite) (t : ℕ) → IsTrue (is_below t ws) → IsTrue (is_ascending ws) → All (λ w. t < w.target) ws
above [] t b a = λ k d lt. absurd (omega (arith, lt))
above (w ∷ ws) t b a =
    let both = split (is_below w.target ws) (is_ascending ws) a in
    let first : t < w.target = grind (arith, nat_tests, b) in
    All-cons (λ (x : CellWrite). t < x.target) w ws first (λ k d lt. omega (arith, first, above ws w.target both.0 both.1 k d lt))

module _ (h : Header) (pages : List Page) where
  pub targets_all : (ws rest : List CellWrite) → IsBehindRoot h ws rest → All (λ w. IsTargetIn (unit_of h) pages w.target) rest → All (λ w. IsTarget h pages w.target) ws
  targets_all [] rest is all = λ k d lt. absurd (omega (arith, lt))
  targets_all (w ∷ ws) rest (inl root) all = All-cons (λ x. IsTarget h pages x.target) w ws (inl root.0) (λ k d lt. inr (subst (λ l. All (λ x. IsTargetIn (unit_of h) pages x.target) l) root.1 all k d lt))
  targets_all (w ∷ ws) rest (inr other) all = λ k d lt. inr (subst (λ l. All (λ x. IsTargetIn (unit_of h) pages x.target) l) other.1 all k d lt)

  small : root_place h ≤ 48
  small = grind (arith)

  -- none of the writes behind the root cell's is the root cell's
  no_roots : (len : ℕ) (ws rest : List CellWrite) → IsBehindRoot h ws rest → All (SuitsTarget h len) ws → IsTrue (is_ascending ws) → All (λ w. root_place h < w.target) rest
  no_roots len [] rest is suit asc = subst (λ l. All (λ w. root_place h < w.target) l) (sym is) (λ k d lt. absurd (omega (arith, lt)))
  no_roots len (w ∷ ws) rest (inl root) suit asc =
      let both = split (is_below w.target ws) (is_ascending ws) asc in
      subst (λ l. All (λ x. root_place h < x.target) l) (sym root.1) (λ k d lt. omega (arith, above ws w.target both.0 both.1 k d lt, root.0))
  no_roots len (w ∷ ws) rest (inr other) suit asc =
      let both = split (is_below w.target ws) (is_ascending ws) asc in
      let first : root_place h < w.target = elim (All-head (SuitsTarget h len) w ws suit) [ inl root ↦ absurd (other.0 root) | inr lies ↦ omega (arith, lies.0, small) ] in
      subst (λ l. All (λ x. root_place h < x.target) l) (sym other.1) (All-cons (λ (x : CellWrite). root_place h < x.target) w ws first (λ k d lt. omega (arith, first, above ws w.target both.0 both.1 k d lt)))

  -- what holds of all writes holds of those behind
  of_rest : (P : CellWrite → Type 0) (ws rest : List CellWrite) → IsBehindRoot h ws rest → All P ws → All P rest
  of_rest P [] rest is all = subst (All P) (sym is) all
  of_rest P (w ∷ ws) rest (inl root) all = subst (All P) (sym root.1) (All-tail P w ws all)
  of_rest P (w ∷ ws) rest (inr other) all = subst (All P) (sym other.1) all

  pub no_targets : (len : ℕ) (ws rest : List CellWrite) → IsBehindRoot h ws rest → Any (λ w. ¬ IsTargetIn (unit_of h) pages w.target) rest → All (SuitsTarget h len) ws → IsTrue (is_ascending ws)
      → All (λ w. IsTarget h pages w.target) ws → ⊥
  no_targets len ws rest is bad suit asc all =
      let target = subst (λ (w : CellWrite). IsTarget h pages w.target) bad.3 (of_rest (λ w. IsTarget h pages w.target) ws rest is all bad.0 bad.1 bad.2) in
      let behind = subst (λ (w : CellWrite). root_place h < w.target) bad.3 (no_roots len ws rest is suit asc bad.0 bad.1 bad.2) in
      elim target [ inl root ↦ omega (arith, root, behind) | inr there ↦ bad.4 there ]
