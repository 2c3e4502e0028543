-- The pieces of slots, as the list of slots grows at its end.
use Rattle.std.proofs.Common.{Vec, Global, ◌≡◌, ◌∙◌, ℕ, max, List, [], ◌∷◌, ◌++◌, Option, Some, None, sym, ap, subst, refl}
use Rattle.oc_layout.specs.declared.cells.Cell.{Cell}
use Rattle.oc_slots.specs.declared.placed.Slot.{Slot}
use Rattle.oc_slots.specs.declared.run.Run.{Run}
use Rattle.oc_slots.specs.declared.run.Planned.{Planned}
use Rattle.oc_slots.specs.Pieces.{Piece, as_pieces, end_of, piece_of, pieces_of, end_after, last_after, AreJoined, IsPlanned}

pub pieces_last : (unit len : ℕ) (before : Option Cell) (ss : List Slot) (s : Slot) → pieces_of unit len before (ss ++ s ∷ []) ≡ pieces_of unit len before ss ++ piece_of unit (end_after unit len ss) (last_after before ss) s ∷ []
pieces_last unit len before [] s = refl
pieces_last unit len before (x ∷ xs) s = ap (λ l. piece_of unit len before x ∷ l) (pieces_last unit (max len (end_of unit x)) (Some x.cell) xs s)

pub end_last : (unit len : ℕ) (ss : List Slot) (s : Slot) → end_after unit len (ss ++ s ∷ []) ≡ max (end_after unit len ss) (end_of unit s)
end_last unit len [] s = refl
end_last unit len (x ∷ xs) s = end_last unit (max len (end_of unit x)) xs s

pub last_last : (before : Option Cell) (ss : List Slot) (s : Slot) → last_after before (ss ++ s ∷ []) ≡ Some s.cell
last_last before [] s = refl
last_last before (x ∷ xs) s = last_last (Some x.cell) xs s

-- one slot more is planned
pub plan_last : (unit len : ℕ) (done : List Slot) (s : Slot) (old new : Planned) → IsPlanned unit len done old
    → ((pieces : List Piece) → AreJoined pieces (as_pieces old.runs.items) → AreJoined (pieces ++ piece_of unit old.end old.before s ∷ []) (as_pieces new.runs.items))
    → new.end ≡ max old.end (end_of unit s) → new.before ≡ Some s.cell → IsPlanned unit len (done ++ s ∷ []) new
plan_last unit len done s old new is joins end before = record {
  runs = subst (λ l. AreJoined l (as_pieces new.runs.items)) (sym (pieces_last unit len None done s))
      (subst (λ e. AreJoined (pieces_of unit len None done ++ piece_of unit e (last_after None done) s ∷ []) (as_pieces new.runs.items)) is.end
      (subst (λ o. AreJoined (pieces_of unit len None done ++ piece_of unit old.end o s ∷ []) (as_pieces new.runs.items)) is.before (joins (pieces_of unit len None done) is.runs)));
  end = end ∙ ap (λ e. max e (end_of unit s)) is.end ∙ sym (end_last unit len done s);
  before = before ∙ sym (last_last None done s);
}

pub none_planned : (unit len : ℕ) (runs : Vec Run Global) → runs.items ≡ [] → IsPlanned unit len [] (record { runs = runs; end = len; before = None })
none_planned unit len runs empty = record {
  runs = subst (λ l. AreJoined [] (as_pieces l)) (sym empty) (record { same = λ b fit. (refl, tt); beside = λ u t some all. all; within = λ e all. all });
  end = refl;
  before = refl;
}
