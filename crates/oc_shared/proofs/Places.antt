-- A change of a list at a place in front of its middle, at it and behind it.
use Rattle.std.proofs.Common.{◌≡◌, ℕ, zero, suc, ◌+◌, ◌-◌, ◌≤◌, ◌<◌, List, [], ◌∷◌, ◌++◌, length, Some, refl, ap, sym, ◌∙◌, arith}
use Rattle.std.specs.Prelude.{slice_get, slice_set, insert, remove}
use Rattle.std.proofs.lemmas.List.{set-append_left, set-append_right}
use Rattle.std.proofs.lemmas.List.Edits.{insert-append_left, insert-append_right, remove-append_left, remove-append_right, insert_end}
use Rattle.std.proofs.Math.Seq.{set-append_seam}

got_here : {X : Type 0} (xs : List X) (y : X) (ys : List X) (k : ℕ) → slice_get (xs ++ y ∷ ys) (length xs + k) ≡ slice_get (y ∷ ys) k
got_here [] y ys k = let e : 0 + k ≡ k = omega arith in ap (slice_get (y ∷ ys)) e
got_here (x ∷ xs) y ys k = let e : suc (length xs) + k ≡ suc (length xs + k) = omega arith in ap (slice_get (x ∷ xs ++ y ∷ ys)) e ∙ got_here xs y ys k

pub got_front : {X : Type 0} (xs : List X) (y : X) (ys : List X) (i : ℕ) → i < length xs → slice_get (xs ++ y ∷ ys) i ≡ slice_get xs i
got_front [] y ys i lt = absurd (omega arith)
got_front (x ∷ xs) y ys zero lt = refl
got_front (x ∷ xs) y ys (suc i) lt = got_front xs y ys i (omega arith)

pub got_middle : {X : Type 0} (xs : List X) (y : X) (ys : List X) (i : ℕ) → i ≡ length xs → slice_get (xs ++ y ∷ ys) i ≡ Some y
got_middle xs y ys i e = let k : i ≡ length xs + 0 = omega arith in ap (slice_get (xs ++ y ∷ ys)) k ∙ got_here xs y ys 0

pub got_back : {X : Type 0} (xs : List X) (y : X) (ys : List X) (n i : ℕ) → n ≡ length xs → n < i → slice_get (xs ++ y ∷ ys) i ≡ slice_get ys (i - n - 1)
got_back xs y ys n i e lt = let k : i ≡ length xs + suc (i - n - 1) = omega arith in ap (slice_get (xs ++ y ∷ ys)) k ∙ got_here xs y ys (suc (i - n - 1))

pub inserted_last : {X : Type 0} (xs : List X) (n : ℕ) (z : X) → n ≡ length xs → insert xs n z ≡ xs ++ z ∷ []
inserted_last xs n z e = ap (λ k. insert xs k z) e ∙ insert_end xs z

module _ {X : Type 0} (xs : List X) (y : X) (ys : List X) (z : X) where
  -- the place in what is behind the middle
  behind : (n i : ℕ) → n < i → i - n ≡ suc (i - n - 1)
  behind n i lt = omega arith

  pub inserted_front : (i : ℕ) → i ≤ length xs → insert (xs ++ y ∷ ys) i z ≡ insert xs i z ++ y ∷ ys
  inserted_front i le = insert-append_left xs (y ∷ ys) i z le

  pub inserted_back : (n i : ℕ) → n ≡ length xs → n < i → insert (xs ++ y ∷ ys) i z ≡ xs ++ y ∷ insert ys (i - n - 1) z
  inserted_back n i e lt = let le : n ≤ i = omega arith in insert-append_right xs (y ∷ ys) n i z (sym e) le ∙ ap (λ k. xs ++ insert (y ∷ ys) k z) (behind n i lt)

  pub removed_front : (i : ℕ) → i < length xs → remove (xs ++ y ∷ ys) i ≡ remove xs i ++ y ∷ ys
  removed_front i lt = remove-append_left xs (y ∷ ys) i lt

  pub removed_middle : (i : ℕ) → i ≡ length xs → remove (xs ++ y ∷ ys) i ≡ xs ++ ys
  removed_middle i e = let le : i ≤ i = omega arith in let z : i - i ≡ 0 = omega arith in remove-append_right xs (y ∷ ys) i i (sym e) le ∙ ap (λ k. xs ++ remove (y ∷ ys) k) z

  pub removed_back : (n i : ℕ) → n ≡ length xs → n < i → remove (xs ++ y ∷ ys) i ≡ xs ++ y ∷ remove ys (i - n - 1)
  removed_back n i e lt = let le : n ≤ i = omega arith in remove-append_right xs (y ∷ ys) n i (sym e) le ∙ ap (λ k. xs ++ remove (y ∷ ys) k) (behind n i lt)

  pub replaced_front : (i : ℕ) → i < length xs → slice_set (xs ++ y ∷ ys) i z ≡ slice_set xs i z ++ y ∷ ys
  replaced_front i lt = set-append_left xs (y ∷ ys) i z lt

  pub replaced_middle : (i : ℕ) → i ≡ length xs → slice_set (xs ++ y ∷ ys) i z ≡ xs ++ z ∷ ys
  replaced_middle i e = ap (λ k. slice_set (xs ++ y ∷ ys) k z) e ∙ set-append_seam xs y ys z

  pub replaced_back : (n i : ℕ) → n ≡ length xs → n < i → slice_set (xs ++ y ∷ ys) i z ≡ xs ++ y ∷ slice_set ys (i - n - 1) z
  replaced_back n i e lt = let le : n ≤ i = omega arith in set-append_right xs (y ∷ ys) n i z (sym e) le ∙ ap (λ k. xs ++ slice_set (y ∷ ys) k z) (behind n i lt)
