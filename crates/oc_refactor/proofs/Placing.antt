-- A field put in its place by id.
use Rattle.std.proofs.Common.{◌≡◌, refl, sym, ap, ◌∙◌, ℕ, zero, suc, ◌≤◌, ◌<◌, true, false, ◌==◌, nat_lt, List, [], ◌∷◌, map, slice_get, slice_set, arith, true≢false, nat_cmp}
use Rattle.std.specs.List.{insert}
use Rattle.std.specs.Prelude.{if◌then◌else◌}
use Rattle.std.specs.declared.cmp.Ordering.TheVariants.{Less, Equal, Greater}
use Rattle.std.specs.FinMap.Entries.{by_order}
use Rattle.std.specs.Cmp.{nat_cmp_is}
use Rattle.std.proofs.lemmas.Bool.{eqb-true}
use Rattle.std.proofs.lemmas.Bool.Decides.{nat_tests}
use Rattle.oc_model.specs.declared.schema.FieldDef.{FieldDef}
use Rattle.oc_model.specs.Maps.{Map, with_at}
use Rattle.oc_model.specs.SchemaSteps.{by_id}
use Rattle.oc_refactor.specs.ById.{keyed, place_in, has_this_id}
use Rattle.oc_refactor.proofs.Ascending.{put_all}

above : (m n : ℕ) → n < m → nat_cmp m n ≡ Greater
above m n h = sym (nat_cmp_is m n Greater h)

below : (m n : ℕ) → m < n → nat_cmp m n ≡ Less
below m n h = sym (nat_cmp_is m n Less h)

alike : (m n : ℕ) → m ≡ n → nat_cmp m n ≡ Equal
alike m n h = sym (nat_cmp_is m n Equal h)

less : (m n : ℕ) → nat_lt m n ≡ true → m < n
less m n h = grind (arith, nat_tests, h)

not_less : (m n : ℕ) → nat_lt m n ≡ false → n ≤ m
not_less m n h = grind (arith, nat_tests, h)

-- in front of a greater one
pub put_in : (fs : List FieldDef) (f : FieldDef) → has_this_id f.id (slice_get fs (place_in f.id fs)) ≡ false → keyed (insert fs (place_in f.id fs) f) ≡ with_at (keyed fs) f.id f
put_in [] f h = refl
put_in (g ∷ fs) f h =
    (elim (nat_lt g.id f.id) as
    (λ b. nat_lt g.id f.id ≡ b → has_this_id f.id (slice_get (g ∷ fs) (if b then suc (place_in f.id fs) else zero)) ≡ false
    → keyed (insert (g ∷ fs) (if b then suc (place_in f.id fs) else zero) f)
    ≡ by_order (nat_cmp f.id g.id) ((f.id, f) ∷ (g.id, g) ∷ keyed fs) ((g.id, f) ∷ keyed fs) ((g.id, g) ∷ with_at (keyed fs) f.id f)) [
      | true ↦ λ e h.
          ap (λ m. (g.id, g) ∷ m) (put_in fs f h)
          ∙ ap (λ r. by_order r ((f.id, f) ∷ (g.id, g) ∷ keyed fs) ((g.id, f) ∷ keyed fs) ((g.id, g) ∷ with_at (keyed fs) f.id f)) (sym (above f.id g.id (less g.id f.id e)))
      | false ↦ λ e h.
          let lt : f.id < g.id = strictly f.id g.id (not_less g.id f.id e) h in
          ap (λ r. by_order r ((f.id, f) ∷ (g.id, g) ∷ keyed fs) ((g.id, f) ∷ keyed fs) ((g.id, g) ∷ with_at (keyed fs) f.id f)) (sym (below f.id g.id lt))
    ]) refl h
  where
    strictly : (m n : ℕ) → m ≤ n → (n == m) ≡ false → m < n
    strictly m n le h = grind (arith, nat_tests, le, h)

-- in place of the one with its id
pub put_over : (fs : List FieldDef) (f : FieldDef) → has_this_id f.id (slice_get fs (place_in f.id fs)) ≡ true → keyed (slice_set fs (place_in f.id fs) f) ≡ with_at (keyed fs) f.id f
put_over [] f h = absurd (true≢false (sym h))
put_over (g ∷ fs) f h =
    (elim (nat_lt g.id f.id) as
    (λ b. nat_lt g.id f.id ≡ b → has_this_id f.id (slice_get (g ∷ fs) (if b then suc (place_in f.id fs) else zero)) ≡ true
    → keyed (slice_set (g ∷ fs) (if b then suc (place_in f.id fs) else zero) f)
    ≡ by_order (nat_cmp f.id g.id) ((f.id, f) ∷ (g.id, g) ∷ keyed fs) ((g.id, f) ∷ keyed fs) ((g.id, g) ∷ with_at (keyed fs) f.id f)) [
      | true ↦ λ e h.
          ap (λ m. (g.id, g) ∷ m) (put_over fs f h)
          ∙ ap (λ r. by_order r ((f.id, f) ∷ (g.id, g) ∷ keyed fs) ((g.id, f) ∷ keyed fs) ((g.id, g) ∷ with_at (keyed fs) f.id f)) (sym (above f.id g.id (less g.id f.id e)))
      | false ↦ λ e h.
          let q : g.id ≡ f.id = eqb-true g.id f.id h in
          ap (λ n. (n, f) ∷ keyed fs) (sym q)
          ∙ ap (λ r. by_order r ((f.id, f) ∷ (g.id, g) ∷ keyed fs) ((g.id, f) ∷ keyed fs) ((g.id, g) ∷ with_at (keyed fs) f.id f)) (sym (alike f.id g.id (sym q)))
    ]) refl h

-- ---- the fields of a map whose keys are their ids

values_keyed : (fs : List FieldDef) → map (λ (e : ℕ × FieldDef). e.1) (keyed fs) ≡ fs
values_keyed [] = refl
values_keyed (f ∷ fs) = ap (λ gs. f ∷ gs) (values_keyed fs)

pub keyed_by_id : (fs gs : List FieldDef) → keyed fs ≡ put_all [] gs → fs ≡ by_id gs
keyed_by_id fs gs h = sym (values_keyed fs) ∙ ap (map (λ (e : ℕ × FieldDef). e.1)) h

-- one field more
pub put_turn : (m n : Map FieldDef) (f : FieldDef) (fs : List FieldDef) → n ≡ with_at m f.id f → put_all n fs ≡ put_all m (f ∷ fs)
put_turn m n f fs h = ap (λ k. put_all k fs) h
