-- The lengths of what a commit places behind its slots.
use Rattle.std.proofs.Common.{◌≡◌, ◌∙◌, ℕ, zero, suc, ◌+◌, ◌-◌, ◌≤◌, List, [], ◌∷◌, ◌++◌, length, map, take, replicate, get_or, Option, Some, None, sym, ap, refl, arith, length-append}
use Rattle.std.specs.Prelude.{All}
use Rattle.std.proofs.Math.Seq.{take-suc}
use Rattle.std.proofs.lemmas.List.{get_or-map, length-map, length-replicate, get_or-append_right, take_all}
use Rattle.std.proofs.lemmas.List.Elements.{All-cons, All-nil}
use Rattle.oc_layout.specs.declared.cells.Cell.{Cell}
use Rattle.oc_pages.specs.Pages.{no_cell}
use Rattle.oc_slots.specs.declared.new_pages.NewPage.{NewPage}
use Rattle.oc_slots.specs.declared.turnover.Pointing.{Pointing}
use Rattle.oc_slots.specs.Pointings.{writes_of}
use Rattle.oc_slots.specs.Turnovers.{places_of, AreNew}
use Rattle.oc_slots.proofs.AddedPages.{count_new, places_new}

-- no more writes than pointings
pub writes_few : (ps : List Pointing) → length (writes_of ps) ≤ length ps
writes_few [] = omega arith
writes_few (p ∷ ps) = go p.target refl (writes_few ps)
  where
    go : (o : Option ℕ) → p.target ≡ o → length (writes_of ps) ≤ length ps → length (writes_of (p ∷ ps)) ≤ length (p ∷ ps)
    go None e rest = rw e (omega (arith, rest))
    go (Some t) e rest = rw e (omega (arith, rest))

-- each of the lengths has a byte
pub lengths_some : (n len : ℕ) → 1 ≤ len → All (λ l. 1 ≤ l) (replicate n 1024 ++ len ∷ [])
lengths_some zero len some = All-cons (λ l. 1 ≤ l) len [] some (All-nil (λ l. 1 ≤ l))
lengths_some (suc n) len some = All-cons (λ l. 1 ≤ l) 1024 (replicate n 1024 ++ len ∷ []) (omega arith) (lengths_some n len some)

pub how_many : (n len : ℕ) → length (replicate n 1024 ++ len ∷ []) ≡ n + 1
how_many n len = length-append (replicate n 1024) (len ∷ []) ∙ ap (λ m. m + 1) (length-replicate n 1024)

-- cells of these lengths: the pages, and the log behind them
module _ (n len : ℕ) (cells : List Cell) (lens : map (λ (c : Cell). c.len) cells ≡ replicate n 1024 ++ len ∷ []) where
  pub long : length cells ≡ n + 1
  long = sym (length-map cells (λ (c : Cell). c.len)) ∙ ap length lens ∙ how_many n len

  pub last_len : (get_or cells n no_cell).len ≡ len
  last_len =
      let here : length (replicate {A = ℕ} n 1024) ≡ n = length-replicate n 1024 in
      let first : n - n ≡ 0 = omega arith in
      sym (get_or-map (λ (c : Cell). c.len) cells n no_cell 0 (omega (arith, long)))
      ∙ ap (λ l. get_or l n 0) lens
      ∙ get_or-append_right (replicate n 1024) (len ∷ []) n n 0 here (omega arith)
      ∙ ap (λ k. get_or (len ∷ []) k 0) first

  pub cells_are : (objects system : List ℕ) (added : List NewPage) → n ≡ length objects + length system → AreNew objects system cells added → cells ≡ places_of added ++ get_or cells n no_cell ∷ []
  cells_are objects system added is new =
      let here = places_new objects system cells added new len (lens ∙ ap (λ m. replicate m 1024 ++ len ∷ []) is) ∙ ap (λ m. take m cells) (count_new objects system cells added new ∙ sym is) in
      sym (take_all (suc n) cells (omega (arith, long))) ∙ take-suc cells n no_cell (omega (arith, long)) ∙ ap (λ l. l ++ get_or cells n no_cell ∷ []) (sym here)
