-- The cases of `meets`, as the code's own variants name them.
use Rattle.std.proofs.Common.{◌≡◌, ℕ, Bool, true, false, not, ◌&&◌, ◌||◌, ◌==◌, List, [], ◌∷◌, refl, ap}
use Rattle.std.specs.List.{list_all, list_any}
use Rattle.oc_model.specs.declared.value.Atom.{Atom}
use Rattle.oc_model.specs.declared.query.Op.{Op}
use Rattle.oc_model.specs.declared.query.Expr.{Expr}
use Rattle.oc_model.specs.declared.query.Expr.TheVariants.{All, Not, And, Or, Test, Null, Is, Inside}
use Rattle.oc_model.specs.Maps.{Text}
use Rattle.oc_model.specs.Stores.{Store}
use Rattle.oc_model.specs.Queries.{meets, values, passes, ref_meets, is_of}
use Rattle.oc_model.specs.Orders.{is_null}

pub meets_all : (s : Store) (n : ℕ) → meets s All n ≡ true
unfolding meets
meets_all s n = refl

pub meets_test : (s : Store) (path : List Text) (o : Op) (literal : Atom) (n : ℕ) → meets s (Test path o literal) n ≡ list_any (passes o literal) (values s path n)
unfolding meets
meets_test s path o literal n = refl

pub meets_null : (s : Store) (path : List Text) (n : ℕ) → meets s (Null path) n ≡ list_any is_null (values s path n)
unfolding meets
meets_null s path n = refl

pub meets_is : (s : Store) (path : List Text) (m n : ℕ) → meets s (Is path m) n ≡ list_any (ref_meets (λ k. k == m)) (values s path n)
unfolding meets
meets_is s path m n = refl

and_true : (b : Bool) → (b && true) ≡ b
and_true true = refl
and_true false = refl

pub meets_not : (s : Store) (e : Expr) (n : ℕ) → meets s (Not e) n ≡ not (meets s e n)
unfolding meets
meets_not s e n = ap not (and_true (meets s e n))

pub meets_and : (s : Store) (es : List Expr) (n : ℕ) → meets s (And es) n ≡ list_all (λ e. meets s e n) es
unfolding meets
meets_and s [] n = refl
meets_and s (e ∷ es) n = ap (λ b. meets s e n && b) (meets_and s es n)

pub meets_or : (s : Store) (es : List Expr) (n : ℕ) → meets s (Or es) n ≡ list_any (λ e. meets s e n) es
unfolding meets
meets_or s [] n = refl
meets_or s (e ∷ es) n = ap (λ b. meets s e n || b) (meets_or s es n)

any_alike : (p q : Atom → Bool) → ((a : Atom) → p a ≡ q a) → (xs : List Atom) → list_any p xs ≡ list_any q xs
any_alike p q h [] = refl
any_alike p q h (x ∷ xs) = λ i. h x i || any_alike p q h xs i

ref_alike : (p q : ℕ → Bool) → ((m : ℕ) → p m ≡ q m) → (a : Atom) → ref_meets p a ≡ ref_meets q a
ref_alike p q h a = ap (λ (f : ℕ → Bool). ref_meets f a) (λ i m. h m i)

pub meets_inside : (s : Store) (path : List Text) (c : ℕ) (e : Expr) (n : ℕ) → meets s (Inside path c e) n ≡ list_any (ref_meets (λ m. is_of s c m && meets s e m)) (values s path n)
unfolding meets
meets_inside s path c e n =
    any_alike _ (ref_meets (λ m. is_of s c m && meets s e m)) (ref_alike _ (λ m. is_of s c m && meets s e m) (λ m. ap (λ b. is_of s c m && b) (and_true (meets s e m)))) (values s path n)
