-- Lists that are parts of others.
use Rattle.std.proofs.Common.{◌≡◌, ◌∙◌, inl, inr, ap, sym, refl, subst, ℕ, Bool, true, false, nat_eq, cond, not, ◌||◌, IsTrue, List, [], ◌∷◌, ◌++◌, map, filter}
use Rattle.std.specs.List.{list_all, list_any}
use Rattle.std.proofs.lemmas.Bool.{and_from, and_parts, not-true, or_parts}
use Rattle.oc_model.specs.SchemaRules.{are_apart}
use Rattle.oc_model.specs.Maps.{is_in}
use Rattle.oc_lists.specs.Moving.{ArePartOf}

module _ {X : Type 0} where
  pub part_self : (xs : List X) → ArePartOf xs xs
  part_self [] = refl
  part_self (x ∷ xs) = inl (refl, part_self xs)

  pub part_none : (ys : List X) → ArePartOf [] ys
  part_none [] = refl
  part_none (y ∷ ys) = tt

  pub part_less : (xs : List X) (y : X) (ys : List X) → ArePartOf xs ys → ArePartOf xs (y ∷ ys)
  part_less [] y ys p = tt
  part_less (x ∷ xs) y ys p = inr p

  pub part_then : (xs ys zs : List X) → ArePartOf xs ys → ArePartOf ys zs → ArePartOf xs zs
  part_then xs ys [] p q = subst (ArePartOf xs) q p
  part_then [] ys (z ∷ zs) p q = tt
  part_then (x ∷ xs) [] (z ∷ zs) p q = absurd (cc)
  part_then (x ∷ xs) (y ∷ ys) (z ∷ zs) (inl p) (inl q) = inl (p.0 ∙ q.0, part_then xs ys zs p.1 q.1)
  part_then (x ∷ xs) (y ∷ ys) (z ∷ zs) (inr p) (inl q) = inr (part_then (x ∷ xs) ys zs p q.1)
  part_then (x ∷ xs) (y ∷ ys) (z ∷ zs) p (inr q) = inr (part_then (x ∷ xs) (y ∷ ys) zs p q)

  pub part_append : (ws xs ys zs : List X) → ArePartOf ws xs → ArePartOf ys zs → ArePartOf (ws ++ ys) (xs ++ zs)
  part_append ws [] ys zs p q = subst (λ l. ArePartOf (l ++ ys) zs) (sym p) q
  part_append [] (x ∷ xs) ys zs p q = part_less ys x (xs ++ zs) (part_append [] xs ys zs (part_none xs) q)
  part_append (w ∷ ws) (x ∷ xs) ys zs (inl p) q = inl (p.0, part_append ws xs ys zs p.1 q)
  part_append (w ∷ ws) (x ∷ xs) ys zs (inr p) q = inr (part_append (w ∷ ws) xs ys zs p q)

  pub part_filter : (t : X → Bool) (xs : List X) → ArePartOf (filter t xs) xs
  part_filter t [] = refl
  part_filter t (x ∷ xs) =
      (elim (t x) as (λ b. ArePartOf (cond b (x ∷ filter t xs) (filter t xs)) (x ∷ xs)) [
        | true ↦ inl (refl, part_filter t xs)
        | false ↦ part_less (filter t xs) x xs (part_filter t xs)
      ])

  -- what passes of the whole passes of a part
  pub part_passes : (t : X → Bool) (xs ys : List X) → ArePartOf xs ys → IsTrue (list_all t ys) → IsTrue (list_all t xs)
  part_passes t xs [] p h = subst (λ l. IsTrue (list_all t l)) (sym p) h
  part_passes t [] (y ∷ ys) p h = refl
  part_passes t (x ∷ xs) (y ∷ ys) (inl p) h =
      let b = and_parts (t y) (list_all t ys) h in
      and_from (t x) (list_all t xs) (ap t p.0 ∙ b.0) (part_passes t xs ys p.1 b.1)
  part_passes t (x ∷ xs) (y ∷ ys) (inr p) h = part_passes t (x ∷ xs) ys p (and_parts (t y) (list_all t ys) h).1

  pub part_fails : (t : X → Bool) (xs ys : List X) → ArePartOf xs ys → list_any t ys ≡ false → list_any t xs ≡ false
  part_fails t xs [] p h = subst (λ l. list_any t l ≡ false) (sym p) h
  part_fails t [] (y ∷ ys) p h = refl
  part_fails t (x ∷ xs) (y ∷ ys) (inl p) h =
      let b = or_parts (t y) (list_any t ys) h in
      ap (λ a. a || list_any t xs) (ap t p.0 ∙ b.0) ∙ part_fails t xs ys p.1 b.1
  part_fails t (x ∷ xs) (y ∷ ys) (inr p) h = part_fails t (x ∷ xs) ys p (or_parts (t y) (list_any t ys) h).1

pub part_map : {X Y : Type 0} (f : X → Y) (xs ys : List X) → ArePartOf xs ys → ArePartOf (map f xs) (map f ys)
part_map f xs [] p = ap (map f) p
part_map f [] (y ∷ ys) p = tt
part_map f (x ∷ xs) (y ∷ ys) (inl p) = inl (ap f p.0, part_map f xs ys p.1)
part_map f (x ∷ xs) (y ∷ ys) (inr p) = inr (part_map f (x ∷ xs) ys p)

-- numbers of which none comes twice
pub part_apart : (ms ns : List ℕ) → ArePartOf ms ns → are_apart ns ≡ true → are_apart ms ≡ true
part_apart ms [] p h = subst (λ l. are_apart l ≡ true) (sym p) h
part_apart [] (n ∷ ns) p h = refl
part_apart (m ∷ ms) (n ∷ ns) (inl p) h =
    let b = and_parts (not (is_in ns n)) (are_apart ns) h in
    let off : is_in ns m ≡ false = ap (is_in ns) p.0 ∙ not-true (is_in ns n) b.0 in
    and_from (not (is_in ms m)) (are_apart ms) (ap not (part_fails (nat_eq m) ms ns p.1 off)) (part_apart ms ns p.1 b.1)
part_apart (m ∷ ms) (n ∷ ns) (inr p) h = part_apart (m ∷ ms) ns p (and_parts (not (is_in ns n)) (are_apart ns) h).1
