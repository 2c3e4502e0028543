-- Pages that own blocks of their own have no byte in common.
use Rattle.std.proofs.Common.{inl, inr, ℕ, zero, suc, ◌<◌, ◌≤◌, cond, List, [], ◌∷◌, length, get_or, arith}
use Rattle.std.specs.Prelude.{AllPairs, not, filter}
use Rattle.std.proofs.lemmas.List.Sums.{sum_by-cons, sum_by-append}
use Rattle.oc_layout.specs.declared.cells.Cell.{Cell}
use Rattle.oc_pages.specs.declared.page.Page.{Page}
use Rattle.oc_pages.specs.Chains.{AreApart}
use Rattle.oc_pages.specs.Pages.{is_empty, place_of, things_in, things_of}
use Rattle.oc_room.specs.Rooms.{owns, owners}
use Rattle.oc_slots.specs.Pieces.{ShareNone}
use Rattle.oc_slots.proofs.Apart.{ends_before}
use Rattle.oc_slots.proofs.Tilings.{none_shared}

abbrev pointers : Page → List Cell
pointers p = filter (λ c. not (is_empty c)) p.cells

module _ (unit : ℕ) (pos : 0 < unit) where
  abbrev own : ℕ → Cell → ℕ
  own k c = cond (owns unit k c) 1 0

  -- a page's place is among the things
  counted : (k : ℕ) (pages : List Page) (i : ℕ) (d : Page) → i < length pages → own k (place_of (get_or pages i d)) ≤ owners unit (things_of pages) k
  counted k [] i d lt = absurd (omega (arith, lt))
  counted k (p ∷ ps) zero d lt = omega (arith, sum_by-append (own k) (things_in p) (things_of ps), sum_by-cons (own k) (place_of p) (pointers p))
  counted k (p ∷ ps) (suc i) d lt = omega (arith, sum_by-append (own k) (things_in p) (things_of ps), counted k ps i d (omega (arith, lt)))

  apart_bytes : (p q : Page) → ShareNone unit (place_of p) (place_of q) → AreApart unit p q
  apart_bytes p q (inl before) = inl (ends_before unit p.at 1024 q.at pos before)
  apart_bytes p q (inr behind) = inr (ends_before unit q.at 1024 p.at pos behind)

pub pages_apart : (unit : ℕ) (pages : List Page) → 0 < unit → ((k : ℕ) → owners unit (things_of pages) k ≤ 1) → AllPairs (AreApart unit) pages
pages_apart unit [] pos once i j d lt inside = absurd (omega (arith, inside))
pages_apart unit (p ∷ ps) pos once zero zero d lt inside = absurd (omega (arith, lt))
pages_apart unit (p ∷ ps) pos once zero (suc j) d lt inside =
    apart_bytes unit pos p (get_or ps j d) (none_shared unit (place_of p) (place_of (get_or ps j d)) pos (omega arith) (omega arith)
    (λ k. omega (arith, once k, sum_by-append (own unit pos k) (things_in p) (things_of ps), sum_by-cons (own unit pos k) (place_of p) (pointers p), counted unit pos k ps j d (omega (arith, inside)))))
pages_apart unit (p ∷ ps) pos once (suc i) zero d lt inside = absurd (omega (arith, lt))
pages_apart unit (p ∷ ps) pos once (suc i) (suc j) d lt inside =
    pages_apart unit ps pos (λ k. omega (arith, once k, sum_by-append (own unit pos k) (things_in p) (things_of ps))) i j d (omega (arith, lt)) (omega (arith, inside))
