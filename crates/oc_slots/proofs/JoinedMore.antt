-- Pieces of slots behind pieces that are in runs.
use Rattle.std.proofs.Common.{◌≡◌, ℕ, max, List, [], ◌∷◌, ◌++◌, Option, Some, None, sym, ap, subst, subst₂, refl, append-nil}
use Rattle.std.proofs.lemmas.List.{append_assoc}
use Rattle.oc_layout.specs.declared.cells.Cell.{Cell}
use Rattle.oc_host.specs.Disk.{over}
use Rattle.oc_slots.specs.declared.placed.Slot.{Slot}
use Rattle.oc_slots.specs.Pieces.{Piece, over_all, Fit, AreJoined, end_of, piece_of, pieces_of, end_after, last_after}
use Rattle.oc_slots.proofs.Joins.{join_new}

pub pieces_append : (unit len : ℕ) (before : Option Cell) (xs ys : List Slot) → pieces_of unit len before (xs ++ ys) ≡ pieces_of unit len before xs ++ pieces_of unit (end_after unit len xs) (last_after before xs) ys
pieces_append unit len before [] ys = refl
pieces_append unit len before (x ∷ xs) ys = ap (λ (l : List Piece). piece_of unit len before x ∷ l) (pieces_append unit (max len (end_of unit x)) (Some x.cell) xs ys)

pub over_append : (xs ys : List Piece) (b : List ℕ) → over_all (xs ++ ys) b ≡ over_all ys (over_all xs b)
over_append [] ys b = refl
over_append (x ∷ xs) ys b = over_append xs ys (over x.at x.bytes b)

pub fit_split : (xs ys : List Piece) (b : List ℕ) → Fit (xs ++ ys) b → Fit xs b × Fit ys (over_all xs b)
fit_split [] ys b fit = (tt, fit)
fit_split (x ∷ xs) ys b fit = let rest = fit_split xs ys (over x.at x.bytes b) fit.1 in ((fit.0, rest.0), rest.1)

pub fit_join : (xs ys : List Piece) (b : List ℕ) → Fit xs b → Fit ys (over_all xs b) → Fit (xs ++ ys) b
fit_join [] ys b first second = second
fit_join (x ∷ xs) ys b first second = (first.0, fit_join xs ys (over x.at x.bytes b) first.1 second)

-- each of them is a run of its own
joined_append : (pieces runs more : List Piece) → AreJoined pieces runs → AreJoined (pieces ++ more) (runs ++ more)
joined_append pieces runs [] joined = subst₂ AreJoined (sym (append-nil pieces)) (sym (append-nil runs)) joined
joined_append pieces runs (p ∷ ps) joined =
    subst₂ AreJoined (append_assoc pieces (p ∷ []) ps) (append_assoc runs (p ∷ []) ps)
    (joined_append (pieces ++ p ∷ []) (runs ++ p ∷ []) ps (join_new pieces runs p joined))

pub joined_more : (unit len : ℕ) (xs ys : List Slot) (runs : List Piece) → AreJoined (pieces_of unit len None xs) runs
    → AreJoined (pieces_of unit len None (xs ++ ys)) (runs ++ pieces_of unit (end_after unit len xs) (last_after None xs) ys)
joined_more unit len xs ys runs joined =
    let more = pieces_of unit (end_after unit len xs) (last_after None xs) ys in
    subst (λ (l : List Piece). AreJoined l (runs ++ more)) (sym (pieces_append unit len None xs ys)) (joined_append (pieces_of unit len None xs) runs more joined)
