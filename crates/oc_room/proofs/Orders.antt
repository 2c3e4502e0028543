-- Things placed in order, and lengths placed behind others.
use Rattle.std.proofs.Common.{◌≡◌, ◌∙◌, ℕ, zero, suc, ◌+◌, max, ◌≤◌, Bool, true, false, List, [], ◌∷◌, ◌++◌, map, Option, Some, None, sym, subst, refl, arith}
use Rattle.std.specs.List.{All}
use Rattle.std.proofs.lemmas.Bool.Decides.{nat_tests}
use Rattle.std.proofs.lemmas.List.{get_or-map, length-map}
use Rattle.oc_layout.specs.declared.cells.Cell.{Cell}
use Rattle.oc_layout.specs.Layout.{blocks, FitsCell}
use Rattle.oc_model.specs.Space.{Part, Shortage, best_fit}
use Rattle.oc_room.specs.Rooms.{Placed, place_in, place_next, placed, finds_room, lacking, AreInOrder}
use Rattle.oc_room.proofs.Placed.{lacking_room, lacking_none, lacking_end}

-- ---- in order

-- the file doesn't get shorter
pub order_end : (unit end last : ℕ) (cells : List Cell) → AreInOrder unit end cells last → end ≤ last
order_end unit end last [] is = omega (arith, is)
order_end unit end last (c ∷ cs) is = omega (arith, order_end unit (max end (c.at + blocks unit c.len)) last cs is.1)

-- each begins in the file as it is in the end, or at its end
pub order_begins : (unit end last : ℕ) (cells : List Cell) → AreInOrder unit end cells last → All (λ c. c.at ≤ last) cells
order_begins unit end last [] is k d lt = absurd (omega (arith, lt))
order_begins unit end last (c ∷ cs) is zero d lt = omega (arith, is.0, order_end unit (max end (c.at + blocks unit c.len)) last cs is.1)
order_begins unit end last (c ∷ cs) is (suc k) d lt = order_begins unit (max end (c.at + blocks unit c.len)) last cs is.1 k d (omega (arith, lt))

-- a row behind another
pub order_append : (unit end mid last : ℕ) (xs ys : List Cell) → AreInOrder unit end xs mid → AreInOrder unit mid ys last → AreInOrder unit end (xs ++ ys) last
order_append unit end mid last [] ys first behind = subst (λ n. AreInOrder unit n ys last) first behind
order_append unit end mid last (c ∷ cs) ys first behind = (first.0, order_append unit (max end (c.at + blocks unit c.len)) mid last cs ys first.1 behind)

-- ---- lengths behind others

-- where the first ones find room, the first that finds none is among the others
pub lacking_behind : (unit limit : ℕ) (p : Placed) (xs ys : List ℕ) → lacking unit limit p xs ≡ None → lacking unit limit p (xs ++ ys) ≡ lacking unit limit (placed unit p xs) ys
lacking_behind unit limit p [] ys none = refl
lacking_behind unit limit p (x ∷ xs) ys none = go (finds_room unit limit p x) refl (lacking_behind unit limit (place_next unit p x) xs ys)
  where
    clash : (s : Shortage) → Some s ≡ None → ⊥
    clash s e = cc

    go : (b : Bool) → finds_room unit limit p x ≡ b → (lacking unit limit (place_next unit p x) xs ≡ None → lacking unit limit (place_next unit p x) (xs ++ ys) ≡ lacking unit limit (placed unit (place_next unit p x) xs) ys)
        → lacking unit limit p (x ∷ xs ++ ys) ≡ lacking unit limit (placed unit p (x ∷ xs)) ys
    go true found rest = lacking_room unit limit p x (xs ++ ys) found ∙ rest (sym (lacking_room unit limit p x xs found) ∙ none)
    go false found rest = absurd (clash _ (sym (lacking_none unit limit p x xs found) ∙ none))

-- and what lacks among the first ones lacks among all
pub lacking_before : (unit limit : ℕ) (p : Placed) (xs ys : List ℕ) (s : Shortage) → lacking unit limit p xs ≡ Some s → lacking unit limit p (xs ++ ys) ≡ Some s
lacking_before unit limit p [] ys s some = absurd (clash (sym (lacking_end unit limit p) ∙ some))
  where
    clash : None ≡ Some s → ⊥
    clash e = cc
lacking_before unit limit p (x ∷ xs) ys s some = go (finds_room unit limit p x) refl (lacking_before unit limit (place_next unit p x) xs ys s)
  where
    go : (b : Bool) → finds_room unit limit p x ≡ b → (lacking unit limit (place_next unit p x) xs ≡ Some s → lacking unit limit (place_next unit p x) (xs ++ ys) ≡ Some s) → lacking unit limit p (x ∷ xs ++ ys) ≡ Some s
    go true found rest = lacking_room unit limit p x (xs ++ ys) found ∙ rest (sym (lacking_room unit limit p x xs found) ∙ some)
    go false found rest = lacking_none unit limit p x (xs ++ ys) found ∙ sym (lacking_none unit limit p x xs found) ∙ some

-- ---- what has been placed before doesn't matter

module _ (unit limit : ℕ) where
  pub lacking_anew : (parts : List Part) (end : ℕ) (cells others : List Cell) (lens : List ℕ)
      → lacking unit limit (record { cells = cells; parts = parts; end = end }) lens ≡ lacking unit limit (record { cells = others; parts = parts; end = end }) lens
  lacking_anew parts end cells others [] = lacking_end unit limit (record { cells = cells; parts = parts; end = end }) ∙ sym (lacking_end unit limit (record { cells = others; parts = parts; end = end }))
  lacking_anew parts end cells others (len ∷ lens) = go (finds_room unit limit one len) refl (then (best_fit parts (blocks unit len)) (λ ps n xs ys. lacking_anew ps n xs ys lens))
    where
      one : Placed
      one = record { cells = cells; parts = parts; end = end }

      two : Placed
      two = record { cells = others; parts = parts; end = end }

      then : (o : Option Part) → ((ps : List Part) (n : ℕ) (xs ys : List Cell) → lacking unit limit (record { cells = xs; parts = ps; end = n }) lens ≡ lacking unit limit (record { cells = ys; parts = ps; end = n }) lens)
          → lacking unit limit (place_in unit len one o) lens ≡ lacking unit limit (place_in unit len two o) lens
      then (Some part) rest = rest _ _ _ _
      then None rest = rest _ _ _ _

      go : (b : Bool) → finds_room unit limit one len ≡ b → lacking unit limit (place_next unit one len) lens ≡ lacking unit limit (place_next unit two len) lens → lacking unit limit one (len ∷ lens) ≡ lacking unit limit two (len ∷ lens)
      go true found rest = lacking_room unit limit one len lens found ∙ rest ∙ sym (lacking_room unit limit two len lens found)
      go false found rest = lacking_none unit limit one len lens found ∙ sym (lacking_none unit limit two len lens found)

module _ (unit : ℕ) where
  pub end_anew : (parts : List Part) (end : ℕ) (cells others : List Cell) (lens : List ℕ)
      → (placed unit (record { cells = cells; parts = parts; end = end }) lens).end ≡ (placed unit (record { cells = others; parts = parts; end = end }) lens).end
  end_anew parts end cells others [] = refl
  end_anew parts end cells others (len ∷ lens) = then (best_fit parts (blocks unit len)) (λ ps n xs ys. end_anew ps n xs ys lens)
    where
      one : Placed
      one = record { cells = cells; parts = parts; end = end }

      two : Placed
      two = record { cells = others; parts = parts; end = end }

      then : (o : Option Part) → ((ps : List Part) (n : ℕ) (xs ys : List Cell) → (placed unit (record { cells = xs; parts = ps; end = n }) lens).end ≡ (placed unit (record { cells = ys; parts = ps; end = n }) lens).end)
          → (placed unit (place_in unit len one o) lens).end ≡ (placed unit (place_in unit len two o) lens).end
      then (Some part) rest = rest _ _ _ _
      then None rest = rest _ _ _ _

  pub placed_behind : (p : Placed) (xs ys : List ℕ) → placed unit p (xs ++ ys) ≡ placed unit (placed unit p xs) ys
  placed_behind p [] ys = refl
  placed_behind p (x ∷ xs) ys = placed_behind (place_next unit p x) xs ys

-- ---- the numbers of cells that are placed

-- where nothing lacks a cell can name each length
pub lengths_named : (unit limit : ℕ) (p : Placed) (lens : List ℕ) → lacking unit limit p lens ≡ None → All (λ len. len ≤ 4294967295) lens
lengths_named unit limit p [] none = λ k d lt. absurd (omega (arith, lt))
lengths_named unit limit p (len ∷ lens) none = go (finds_room unit limit p len) refl (lengths_named unit limit (place_next unit p len) lens)
  where
    clash : (s : Shortage) → Some s ≡ None → ⊥
    clash s e = cc

    go : (b : Bool) → finds_room unit limit p len ≡ b → (lacking unit limit (place_next unit p len) lens ≡ None → All (λ n. n ≤ 4294967295) lens) → All (λ n. n ≤ 4294967295) (len ∷ lens)
    go false found rest = absurd (clash _ (sym (lacking_none unit limit p len lens found) ∙ none))
    go true found rest = all
      where
        all : All (λ n. n ≤ 4294967295) (len ∷ lens)
        all zero d lt = grind (arith, nat_tests, found)
        all (suc k) d lt = rest (sym (lacking_room unit limit p len lens found) ∙ none) k d (omega (arith, lt))

-- they have 32 bits
pub cells_fit : (unit limit end last : ℕ) (p : Placed) (cells : List Cell) (lens : List ℕ) → lacking unit limit p lens ≡ None → map (λ (c : Cell). c.len) cells ≡ lens → AreInOrder unit end cells last → last ≤ 2147483647 → All FitsCell cells
cells_fit unit limit end last p cells lens none are order few k d lt =
    let named = subst (All (λ len. len ≤ 4294967295)) (sym are) (lengths_named unit limit p lens none) k d.len (omega (arith, lt, length-map cells (λ (c : Cell). c.len))) in
    let here = get_or-map (λ (c : Cell). c.len) cells k d d.len lt in
    record {
      at = omega (arith, order_begins unit end last cells order k d lt, few);
      len = omega (arith, named, here);
    }
