-- Pieces in runs: the lists of pieces and of runs grow at their ends.
use Rattle.std.proofs.Common.{◌≡◌, ◌∙◌, inl, inr, ℕ, ◌+◌, ◌≤◌, List, [], ◌∷◌, ◌++◌, length, take, drop, sym, ap, subst, refl, arith, length-append}
use Rattle.std.specs.Prelude.{All}
use Rattle.std.proofs.Math.Seq.{take-append_seam, drop-append-add, get_or-append_seam}
use Rattle.std.proofs.lemmas.List.{append_assoc, get_or_append_left, length-take-le, drop-drop}
use Rattle.std.proofs.lemmas.List.Elements.{All-append, All-cons}
use Rattle.oc_host.specs.Disk.{over}
use Rattle.oc_slots.specs.Held.{IsBeside}
use Rattle.oc_slots.specs.Pieces.{Piece, over_all, Fit, AreJoined}

pub over_last : (ps : List Piece) (p : Piece) (b : List ℕ) → over_all (ps ++ p ∷ []) b ≡ over p.at p.bytes (over_all ps b)
over_last [] p b = refl
over_last (q ∷ qs) p b = over_last qs p (over q.at q.bytes b)

pub fit_last : (ps : List Piece) (p : Piece) (b : List ℕ) → Fit ps b → p.at ≤ length (over_all ps b) → Fit (ps ++ p ∷ []) b
fit_last [] p b fit le = (le, tt)
fit_last (q ∷ qs) p b fit le = (fit.0, fit_last qs p (over q.at q.bytes b) fit.1 le)

pub fit_front : (ps : List Piece) (p : Piece) (b : List ℕ) → Fit (ps ++ p ∷ []) b → Fit ps b × (p.at ≤ length (over_all ps b))
fit_front [] p b fit = (tt, fit.0)
fit_front (q ∷ qs) p b fit = let rest = fit_front qs p (over q.at q.bytes b) fit.1 in ((fit.0, rest.0), rest.1)

-- bytes in two parts, one after the other
pub over_both : (at : ℕ) (xs ys b : List ℕ) → at ≤ length b → over at (xs ++ ys) b ≡ over (at + length xs) ys (over at xs b)
over_both at xs ys b le = sym (
    (λ i. take (seam i) whole ++ ys ++ drop (seam i + length ys) whole)
    ∙ (λ i. take-append_seam front rest i ++ ys ++ drop-append-add front rest (length ys) i)
    ∙ (λ i. append_assoc (take at b) xs ys i ++ drop-drop (length ys) (at + length xs) b i)
    ∙ (λ i. take at b ++ (xs ++ ys) ++ drop (ends i) b))
  where
    front : List ℕ
    front = take at b ++ xs

    rest : List ℕ
    rest = drop (at + length xs) b

    whole : List ℕ
    whole = front ++ rest

    seam : at + length xs ≡ length (take at b ++ xs)
    seam = omega (arith, length-append (take at b) xs, length-take-le at b le)

    ends : at + length xs + length ys ≡ at + length (xs ++ ys)
    ends = omega (arith, length-append xs ys)

-- what holds of all but the last and of the last holds of all
pub all_last : {X : Type 0} (P : X → Type 0) (xs : List X) (x : X) → All P xs → P x → All P (xs ++ x ∷ [])
all_last P xs x all here = All-append P xs (x ∷ []) all (All-cons P x [] here (λ k d lt. absurd (omega (arith, lt))))

pub all_front : {X : Type 0} (P : X → Type 0) (xs : List X) (x : X) → All P (xs ++ x ∷ []) → All P xs × P x
all_front P xs x all = (
  λ k d lt. subst P (get_or_append_left xs (x ∷ []) d k lt) (all k d (omega (arith, lt, length-append xs (x ∷ [])))),
  subst P (get_or-append_seam xs x [] x) (all (length xs) x (omega (arith, length-append xs (x ∷ [])))),
)

-- a run of its own
pub join_new : (pieces runs : List Piece) (p : Piece) → AreJoined pieces runs → AreJoined (pieces ++ p ∷ []) (runs ++ p ∷ [])
join_new pieces runs p joined = record {
  same = λ b fit.
      let front = fit_front pieces p b fit in
      let before = joined.same b front.0 in
      (over_last runs p b ∙ ap (over p.at p.bytes) before.0 ∙ sym (over_last pieces p b), fit_last runs p b before.1 (subst (λ l. p.at ≤ length l) (sym before.0) front.1));
  beside = λ unit thing some all. let front = all_front (λ q. IsBeside unit q.at (length q.bytes) thing) pieces p all in
      all_last (λ q. IsBeside unit q.at (length q.bytes) thing) runs p (joined.beside unit thing some front.0) front.1;
  within = λ end all. let front = all_front (λ q. q.at + length q.bytes ≤ end) pieces p all in all_last (λ q. q.at + length q.bytes ≤ end) runs p (joined.within end front.0) front.1;
}

-- the last run goes on
pub join_last : (pieces runs : List Piece) (r p : Piece) → AreJoined pieces (runs ++ r ∷ []) → r.at + length r.bytes ≡ p.at
    → AreJoined (pieces ++ p ∷ []) (runs ++ record { at = r.at; bytes = r.bytes ++ p.bytes } ∷ [])
join_last pieces runs r p joined touch = record {
  same = λ b fit.
      let front = fit_front pieces p b fit in
      let before = joined.same b front.0 in
      let last = fit_front runs r b before.1 in
      let long : Piece = record { at = r.at; bytes = r.bytes ++ p.bytes } in (
        over_last runs long b ∙ over_both r.at r.bytes p.bytes (over_all runs b) last.1 ∙ (λ i. over (touch i) p.bytes (sym (over_last runs r b) i)) ∙ ap (over p.at p.bytes) before.0 ∙ sym (over_last pieces p b),
        fit_last runs long b last.0 last.1,
      );
  beside = λ unit thing some all.
      let front = all_front (λ q. IsBeside unit q.at (length q.bytes) thing) pieces p all in
      let last = all_front (λ q. IsBeside unit q.at (length q.bytes) thing) runs r (joined.beside unit thing some front.0) in
      all_last (λ q. IsBeside unit q.at (length q.bytes) thing) runs (record { at = r.at; bytes = r.bytes ++ p.bytes }) last.0
      (elim last.1 [
        | inl before ↦ inl before
        | inr behind ↦ elim front.1 [
          | inl before ↦ absurd (omega (arith, some, behind, before, touch))
          | inr after ↦ inr (omega (arith, after, touch, length-append r.bytes p.bytes))
        ]
      ]);
  within = λ end all.
      let front = all_front (λ q. q.at + length q.bytes ≤ end) pieces p all in
      let last = all_front (λ q. q.at + length q.bytes ≤ end) runs r (joined.within end front.0) in
      all_last (λ q. q.at + length q.bytes ≤ end) runs (record { at = r.at; bytes = r.bytes ++ p.bytes }) last.0 (omega (arith, front.1, touch, length-append r.bytes p.bytes));
}
