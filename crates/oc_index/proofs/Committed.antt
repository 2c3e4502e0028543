-- The indexes as a commit leaves them.
use Rattle.std.proofs.Common.{◌≡◌, ◌∙◌, ap, ap₂, sym, refl, ℕ, zero, suc, ◌+◌, ◌<◌, ◌≤◌, List, [], ◌∷◌, ◌++◌, length, map, take, drop, get_or, set, flat_map, arith, append-nil, append_assoc}
use Rattle.std.proofs.lemmas.List.{take_all, drop_all, take_more_set, drop-set-lt, length-set}
use Rattle.std.proofs.lemmas.List.Concat.{flat_map-append}
use Rattle.oc_chunks.specs.Opening.{spare_of}
use Rattle.oc_chunks.proofs.Settled.{same_rest, next_rest}
use Rattle.oc_index.specs.declared.indexes.Field.{Field}
use Rattle.oc_index.specs.Fields.{FieldList}
use Rattle.oc_index.specs.Indexed.{now_of, ids_of, written_fields, written_list, marked_now, spare_over}
use Rattle.oc_index.proofs.Ordered.{set_ids}

pub written_more : (spare : List ℕ) (gs hs : List (ℕ × FieldList)) → written_fields spare (gs ++ hs) ≡ written_fields spare gs ++ written_fields (spare_over spare gs) hs
written_more spare [] hs = refl
written_more spare (g ∷ gs) hs = ap (λ l. (g.0, written_list spare g.1) ∷ l) (written_more (spare_of spare g.1.chunks) gs hs)

-- what is written is marked
pub marked_written : (spare : List ℕ) (gs : List (ℕ × FieldList)) → map (λ g. (g.0, marked_now g.1)) (written_fields spare gs) ≡ written_fields spare gs
marked_written spare [] = refl
marked_written spare (g ∷ gs) = ap (λ l. (g.0, written_list spare g.1) ∷ l) (marked_written (spare_of spare g.1.chunks) gs)

drop_split : {Y : Type 0} (xs : List Y) (i : ℕ) (d : Y) → i < length xs → d ≡ get_or xs i d → drop i xs ≡ d ∷ drop (suc i) xs
drop_split [] i d lt is = absurd (omega (arith, lt))
drop_split (x ∷ xs) zero d lt is = ap (λ e. e ∷ xs) (sym is)
drop_split (x ∷ xs) (suc i) d lt is = drop_split xs i d (omega (arith, lt)) is

-- the fields that are written so far
pub record AreWritten (nums : List ℕ) (init fs : List Field) (spare : List ℕ) (at : ℕ) : Type 0 where
  pub long : length fs ≡ length init
  pub rest : drop at fs ≡ drop at init
  pub ids : ids_of fs ≡ ids_of init
  pub fields : flat_map now_of (take at fs) ++ written_fields spare (flat_map now_of (drop at init)) ≡ written_fields nums (flat_map now_of init)

pub written_step : (nums : List ℕ) (init fs : List Field) (spare : List ℕ) (at : ℕ) → AreWritten nums init fs spare at → at < length fs → (q n : Field) → q ≡ get_or fs at q → n.id ≡ q.id → now_of n ≡ written_fields spare (now_of q) → (left : List ℕ) → left ≡ spare_over spare (now_of q) → AreWritten nums init (set fs at n) left (at + 1)
written_step nums init fs spare at w lt q n q_is id now left left_is =
    let lt_init : at < length init = omega (arith, w.long, lt) in
    let q_init : q ≡ get_or init at q = q_is ∙ same_rest fs init at q lt w.rest in
    let gs = flat_map now_of (drop (at + 1) init) in
    let behind : flat_map now_of (drop at init) ≡ now_of q ++ gs = ap (flat_map now_of) (drop_split init at q lt_init q_init ∙ ap (λ k. q ∷ drop k init) {x = suc at} {y = at + 1} (omega arith)) in
    record {
      long = length-set fs at n ∙ w.long;
      rest = drop-set-lt (at + 1) fs at n (omega arith) ∙ next_rest fs init at w.rest;
      ids = set_ids fs at q n lt q_is id ∙ w.ids;
      fields =
          ap₂ (λ k l. flat_map now_of k ++ written_fields l gs) (take_more_set fs at n lt) left_is
          ∙ ap (λ l. l ++ written_fields (spare_over spare (now_of q)) gs) (flat_map-append now_of (take at fs) (n ∷ []) ∙ ap (λ l. flat_map now_of (take at fs) ++ l) (append-nil (now_of n) ∙ now))
          ∙ append_assoc (flat_map now_of (take at fs)) (written_fields spare (now_of q)) (written_fields (spare_over spare (now_of q)) gs)
          ∙ ap (λ l. flat_map now_of (take at fs) ++ l) (sym (written_more spare (now_of q) gs) ∙ ap (written_fields spare) (sym behind))
          ∙ w.fields;
    }

pub written_all : (nums : List ℕ) (init fs : List Field) (spare : List ℕ) (at : ℕ) → AreWritten nums init fs spare at → length init ≤ at → flat_map now_of fs ≡ written_fields nums (flat_map now_of init)
written_all nums init fs spare at w le =
    sym (append-nil (flat_map now_of fs))
    ∙ ap₂ (λ k l. flat_map now_of k ++ written_fields spare (flat_map now_of l)) (sym (take_all at fs (omega (arith, w.long, le)))) (sym (drop_all at init le))
    ∙ w.fields
