-- What holds of each element, or of each two, of joined lists.
use Rattle.std.proofs.Common.{◌≡◌, ℕ, zero, suc, ◌<◌, ◌≤◌, Bool, true, List, [], ◌∷◌, ◌++◌, length, take, drop, get_or, arith}
use Rattle.std.specs.List.{AllWithin}
use Rattle.std.specs.List.Sorted.{IsPartitionedBy}
use Rattle.oc_chunks.specs.Ascending.{Each, Pairs}

module _ {X : Type 0} (P : X → Type 0) where
  pub each_append : (xs ys : List X) → Each P xs → Each P ys → Each P (xs ++ ys)
  each_append [] ys a b = b
  each_append (x ∷ xs) ys a b = (a.0, each_append xs ys a.1 b)

  pub each_front : (xs ys : List X) → Each P (xs ++ ys) → Each P xs
  each_front [] ys a = tt
  each_front (x ∷ xs) ys a = (a.0, each_front xs ys a.1)

  pub each_rest : (xs ys : List X) → Each P (xs ++ ys) → Each P ys
  each_rest [] ys a = a
  each_rest (x ∷ xs) ys a = each_rest xs ys a.1

  pub each_take : (n : ℕ) (xs : List X) → Each P xs → Each P (take n xs)
  each_take zero xs a = tt
  each_take (suc n) [] a = tt
  each_take (suc n) (x ∷ xs) a = (a.0, each_take n xs a.1)

  pub each_drop : (n : ℕ) (xs : List X) → Each P xs → Each P (drop n xs)
  each_drop zero xs a = a
  each_drop (suc n) [] a = tt
  each_drop (suc n) (x ∷ xs) a = each_drop n xs a.1

  -- the two parts of a list by place
  pub each_within : (n : ℕ) (xs : List X) → n ≤ length xs → AllWithin P xs 0 n → Each P (take n xs)
  each_within zero xs le a = tt
  each_within (suc n) [] le a = tt
  each_within (suc n) (x ∷ xs) le a = (a 0 x (omega arith) (omega arith), each_within n xs (omega arith) (λ k d l h. a (suc k) d (omega arith) (omega arith)))

  pub each_behind : (n : ℕ) (xs : List X) → AllWithin P xs n (length xs) → Each P (drop n xs)
  each_behind zero [] a = tt
  each_behind zero (x ∷ xs) a = (a 0 x (omega arith) (omega arith), each_behind zero xs (λ k d l h. a (suc k) d (omega arith) (omega arith)))
  each_behind (suc n) [] a = tt
  each_behind (suc n) (x ∷ xs) a = each_behind n xs (λ k d l h. a (suc k) d (omega arith) (omega arith))

  pub each_at : (i : ℕ) (d : X) (xs : List X) → i < length xs → Each P xs → P (get_or xs i d)
  each_at i d [] lt a = absurd (omega arith)
  each_at zero d (x ∷ xs) lt a = a.0
  each_at (suc i) d (x ∷ xs) lt a = each_at i d xs (omega arith) a.1

pub each_more : {X : Type 0} (P Q : X → Type 0) (xs : List X) → ((x : X) → P x → Q x) → Each P xs → Each Q xs
each_more P Q [] f a = tt
each_more P Q (x ∷ xs) f a = (f x a.0, each_more P Q xs f a.1)

-- ---- pairs

module _ {X : Type 0} (R : X → X → Type 0) where
  pub pairs_front : (xs ys : List X) → Pairs R (xs ++ ys) → Pairs R xs
  pairs_front [] ys a = tt
  pairs_front (x ∷ xs) ys a = (each_front (R x) xs ys a.0, pairs_front xs ys a.1)

  pub pairs_rest : (xs ys : List X) → Pairs R (xs ++ ys) → Pairs R ys
  pairs_rest [] ys a = a
  pairs_rest (x ∷ xs) ys a = pairs_rest xs ys a.1

  -- each of the first list is so related to each of the second
  pub pairs_across : (xs ys : List X) → Pairs R (xs ++ ys) → Each (λ x. Each (R x) ys) xs
  pairs_across [] ys a = tt
  pairs_across (x ∷ xs) ys a = (each_rest (R x) xs ys a.0, pairs_across xs ys a.1)

  pub pairs_append : (xs ys : List X) → Pairs R xs → Pairs R ys → Each (λ x. Each (R x) ys) xs → Pairs R (xs ++ ys)
  pairs_append [] ys a b c = b
  pairs_append (x ∷ xs) ys a b c = (each_append (R x) xs ys a.0 c.0, pairs_append xs ys a.1 b c.1)

  -- one element fewer
  pub pairs_without : (xs : List X) (x : X) (ys : List X) → Pairs R (xs ++ x ∷ ys) → Pairs R (xs ++ ys)
  pairs_without [] x ys a = a.1
  pairs_without (w ∷ xs) x ys a = (each_append (R w) xs ys (each_front (R w) xs (x ∷ ys) a.0) (each_rest (R w) xs (x ∷ ys) a.0).1, pairs_without xs x ys a.1)

  -- one element more
  pub pairs_with : (xs : List X) (x : X) (ys : List X) → Pairs R (xs ++ ys) → Each (λ w. R w x) xs → Each (R x) ys → Pairs R (xs ++ x ∷ ys)
  pairs_with [] x ys a b c = (c, a)
  pairs_with (w ∷ xs) x ys a b c = (each_append (R w) xs (x ∷ ys) (each_front (R w) xs ys a.0) (b.0, each_rest (R w) xs ys a.0), pairs_with xs x ys a.1 b.1 c)

-- a test that holds of what comes before an element of which it holds
pub partitioned : {X : Type 0} (q : X → Bool) (xs : List X) → Pairs (λ x y. q y ≡ true → q x ≡ true) xs → IsPartitionedBy q xs
partitioned q [] a i j d le lt it = absurd (omega arith)
partitioned q (x ∷ xs) a zero zero d le lt it = it
partitioned q (x ∷ xs) a zero (suc j) d le lt it = each_at (λ y. q y ≡ true → q x ≡ true) j d xs (omega arith) a.0 it
partitioned q (x ∷ xs) a (suc i) zero d le lt it = absurd (omega arith)
partitioned q (x ∷ xs) a (suc i) (suc j) d le lt it = partitioned q xs a.1 i j d (omega arith) (omega arith) it

pub pairs_more : {X : Type 0} (R S : X → X → Type 0) (xs : List X) → ((x y : X) → R x y → S x y) → Pairs R xs → Pairs S xs
pairs_more R S [] f a = tt
pairs_more R S (x ∷ xs) f a = (each_more (R x) (S x) xs (f x) a.0, pairs_more R S xs f a.1)
