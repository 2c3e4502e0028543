-- Names kept as the entries of a map.
use Rattle.std.proofs.Common.{◌≡◌, ℕ, true, false, not, cond, nat_eq, List, [], ◌∷◌, map, filter, Some, refl, sym, ap, ◌∙◌}
use Rattle.std.specs.Map.{lookup}
use Rattle.std.proofs.lemmas.Cmp.{nat_list_eq_equiv}
use Rattle.indexmap.specs.IndexMap.{insert_entry}
use lib.Pointwise.{pointwise, bytes_decides}
use Rattle.oc_model.specs.Maps.{same}
use Rattle.oc_machine.specs.Memory.{bound, with_bound, without_name}

module _ {V : Type 0} (bytes : V → List ℕ) where
  -- the names with their handles
  abbrev pub named : List (V × ℕ) → List (List ℕ × ℕ)
  named es = map (λ (e : V × ℕ). (bytes e.0, e.1)) es

  turned : (a b : List ℕ) → pointwise nat_eq a b ≡ same b a
  turned a b = nat_list_eq_equiv.symm a b

  -- an entry put in the map binds its name
  pub bound_now : (es : List (V × ℕ)) (k : V) (h : ℕ) → named (insert_entry (λ x y. pointwise nat_eq (bytes x) (bytes y)) es k h) ≡ with_bound (named es) (bytes k) h
  bound_now [] k h = refl
  bound_now (e ∷ es) k h =
      (elim (pointwise nat_eq (bytes k) (bytes e.0)) as (λ b. pointwise nat_eq (bytes k) (bytes e.0) ≡ b
      → named (cond b ((e.0, h) ∷ es) (e ∷ insert_entry (λ x y. pointwise nat_eq (bytes x) (bytes y)) es k h))
      ≡ cond b ((bytes k, h) ∷ named es) ((bytes e.0, e.1) ∷ with_bound (named es) (bytes k) h)) [
        | true ↦ λ is. ap (λ (t : List ℕ). (t, h) ∷ named es) (sym ((bytes_decides (bytes k) (bytes e.0)).0 is))
        | false ↦ λ _. ap (λ (r : List (List ℕ × ℕ)). (bytes e.0, e.1) ∷ r) (bound_now es k h)
      ]) refl
      ∙ ap (λ b. cond b ((bytes k, h) ∷ named es) ((bytes e.0, e.1) ∷ with_bound (named es) (bytes k) h)) (turned (bytes k) (bytes e.0))

  -- a look-up in the map finds the handle of the name
  pub bound_is : (es : List (V × ℕ)) (name : List ℕ) → lookup (λ k. pointwise nat_eq name (bytes k)) es ≡ bound (named es) name
  bound_is [] name = refl
  bound_is (e ∷ es) name =
      (λ i. cond (turned name (bytes e.0) i) (Some e.1) (bound_is es name i))

  -- the entries of other names are the names without that one
  pub unbound : (es : List (V × ℕ)) (name : List ℕ) → named (filter (λ (e : V × ℕ). not (pointwise nat_eq (bytes e.0) name)) es) ≡ without_name (named es) name
  unbound [] name = refl
  unbound (e ∷ es) name =
      elim (pointwise nat_eq (bytes e.0) name) as (λ b. named (cond (not b) (e ∷ filter (λ (f : V × ℕ). not (pointwise nat_eq (bytes f.0) name)) es) (filter (λ (f : V × ℕ). not (pointwise nat_eq (bytes f.0) name)) es))
      ≡ cond (not b) ((bytes e.0, e.1) ∷ without_name (named es) name) (without_name (named es) name)) [
        | true ↦ unbound es name
        | false ↦ ap (λ (r : List (List ℕ × ℕ)). (bytes e.0, e.1) ∷ r) (unbound es name)
      ]
