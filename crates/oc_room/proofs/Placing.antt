-- One thing placed: in the front of a part, at the end, or nowhere.
use Rattle.std.proofs.Common.{◌≡◌, ◌≤◌, ◌<◌, ◌+◌, ℕ, true, false, cond, leb, List, [], ◌∷◌, ◌++◌, Option, Some, None, option_map, refl, sym, ap, ◌∙◌, inl, inr, ◌-◌, arith}
use Rattle.std.specs.Prelude.{IfSome}
use Rattle.std.proofs.lemmas.Bool.{cases_lt}
use Rattle.std.proofs.lemmas.Bool.Decides.{nat_tests}
use Rattle.oc_layout.specs.declared.cells.Cell.{Cell}
use Rattle.oc_layout.specs.Layout.{blocks}
use Rattle.oc_model.specs.Space.{Part, best_fit, without}
use Rattle.oc_free.specs.FreeParts.{free_at, has_block}
use Rattle.oc_room.specs.Rooms.{Space, Placed, place_in, place_next, finds_room, is_nameable}

-- a part with this address was found
found_part : (o : Option Part) (at : ℕ) → Some at ≡ option_map (λ (p : Part). p.address) o → (p : Part) × (o ≡ Some p) × (p.address ≡ at)
found_part None at h = absurd (clash h)
  where
    clash : Some at ≡ None → ⊥
    clash e = cc
found_part (Some p) at h = (p, refl, cc)

no_part_found : (o : Option Part) → None ≡ option_map (λ (p : Part). p.address) o → o ≡ None
no_part_found None h = refl
no_part_found (Some p) h = absurd (clash h)
  where
    clash : None ≡ Some p.address → ⊥
    clash e = cc

module _ (unit : ℕ) (cells : List Cell) (parts : List Part) (end len : ℕ) where
  pub next_in_part : (at : ℕ) → Some at ≡ option_map (λ (p : Part). p.address) (best_fit parts (blocks unit len))
      → place_next unit (record { cells = cells; parts = parts; end = end }) len ≡ record { cells = cells ++ record { at = at; len = len } ∷ []; parts = without parts at (blocks unit len); end = end }
  next_in_part at h =
      let p = found_part (best_fit parts (blocks unit len)) at h in
      ap (place_in unit len (record { cells = cells; parts = parts; end = end })) p.1
      ∙ ap {B = Placed} (λ a. record { cells = cells ++ record { at = a; len = len } ∷ []; parts = without parts a (blocks unit len); end = end }) p.2

  pub next_at_end : None ≡ option_map (λ (p : Part). p.address) (best_fit parts (blocks unit len))
      → place_next unit (record { cells = cells; parts = parts; end = end }) len ≡ record { cells = cells ++ record { at = end; len = len } ∷ []; parts = parts; end = end + blocks unit len }
  next_at_end h = ap (place_in unit len (record { cells = cells; parts = parts; end = end })) (no_part_found (best_fit parts (blocks unit len)) h)

  pub room_in_part : (limit at : ℕ) → len ≤ 4294967295 → Some at ≡ option_map (λ (p : Part). p.address) (best_fit parts (blocks unit len))
      → finds_room unit limit (record { cells = cells; parts = parts; end = end }) len ≡ true
  room_in_part limit at small h =
      let p = found_part (best_fit parts (blocks unit len)) at h in
      let named : is_nameable len ≡ true = grind (arith, nat_tests, small) in
      rw (p.1, named) refl

  pub room_at_end : (limit : ℕ) → len ≤ 4294967295 → None ≡ option_map (λ (p : Part). p.address) (best_fit parts (blocks unit len))
      → finds_room unit limit (record { cells = cells; parts = parts; end = end }) len ≡ leb (end + blocks unit len) limit
  room_at_end limit small h =
      let named : is_nameable len ≡ true = grind (arith, nat_tests, small) in
      rw (no_part_found (best_fit parts (blocks unit len)) h, named) refl

  pub no_room_for_long : (limit : ℕ) → 4294967295 < len → finds_room unit limit (record { cells = cells; parts = parts; end = end }) len ≡ false
  no_room_for_long limit long = let unnamed : is_nameable len ≡ false = grind (arith, nat_tests, long) in rw unnamed refl

-- no block behind the end became free
pub still_within : (old new : List Part) (end at n : ℕ) → ((k : ℕ) → end ≤ k → free_at old k ≡ 0)
    → ((k : ℕ) → free_at old k ≡ free_at new k + (cond (has_block k (record { address = at; blocks = n })) 1 0)) → (k : ℕ) → end ≤ k → free_at new k ≡ 0
still_within old new end at n none took k le = omega (arith, none k le, took k)

-- what was free ends within the file
pub ends_within : (old new : List Part) (end at n : ℕ) → 1 ≤ n → ((k : ℕ) → end ≤ k → free_at old k ≡ 0)
    → ((k : ℕ) → free_at old k ≡ free_at new k + (cond (has_block k (record { address = at; blocks = n })) 1 0)) → at + n ≤ end
ends_within old new end at n some none took =
    let last = at + n - 1 in
    let inside : has_block last (record { address = at; blocks = n }) ≡ true = grind (arith, nat_tests, some) in
    elim (cases_lt last end) [
      | inl before ↦ omega (arith, before, some)
      | inr behind ↦ absurd (omega (arith, none last behind, took last, ap {B = ℕ} (λ b. cond b 1 0) inside))
    ]

pub became_free : (old new : List Part) (end at n : ℕ) → at + n ≤ end → ((k : ℕ) → end ≤ k → free_at old k ≡ 0)
    → ((k : ℕ) → free_at new k ≡ free_at old k + (cond (has_block k (record { address = at; blocks = n })) 1 0)) → (k : ℕ) → end ≤ k → free_at new k ≡ 0
became_free old new end at n inside none gave k le =
    let outside : has_block k (record { address = at; blocks = n }) ≡ false = grind (arith, nat_tests, inside, le) in
    omega (arith, none k le, gave k, ap {B = ℕ} (λ b. cond b 1 0) outside)

pub appended : (r : Option Cell) (v t : Space) (len need : ℕ) → IfSome r (λ c. c ≡ record { at = v.end; len = len }) → t.parts ≡ v.parts → IfSome r (λ c. t.end ≡ v.end + need)
    → need ≡ blocks v.unit len → None ≡ option_map (λ (p : Part). p.address) (best_fit v.parts (blocks v.unit len))
    → IfSome r (λ c. (cells : List Cell) → place_next v.unit (record { cells = cells; parts = v.parts; end = v.end }) len ≡ record { cells = cells ++ c ∷ []; parts = t.parts; end = t.end })
appended None v t len need is same grew needs nowhere = tt
appended (Some c) v t len need is same grew needs nowhere = λ cells.
    let at_end : t.end ≡ v.end + blocks v.unit len = grew ∙ ap (λ n. v.end + n) needs in
    next_at_end v.unit cells v.parts v.end len nowhere ∙ (λ i. record { cells = cells ++ sym is i ∷ []; parts = sym same i; end = sym at_end i })
