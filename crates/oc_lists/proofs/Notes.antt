-- The classes of objects, as the extents have them and as they were noted.
use Rattle.std.proofs.Common.{◌≡◌, ◌∙◌, ap, sym, refl, subst, ℕ, Bool, true, false, cond, not, ◌==◌, List, [], ◌∷◌, filter, find, Option, None, Some, IsSome, option_map, nat_cmp}
use Rattle.std.specs.BTreeMap.{is_at}
use Rattle.std.specs.Map.{lookup}
use Rattle.std.specs.Option.{option_map_or}
use Rattle.std.specs.Ordering.{is_eq, is_lt}
use Rattle.std.specs.Cmp.{nat_cmp_total, tied_itself}
use Rattle.std.proofs.lemmas.Bool.{eq-eqb, eqb-true}
use Rattle.std.proofs.lemmas.Map.Lookups.{exact_unsigned}
use Rattle.oc_model.proofs.Reaching.{is_equal}
use Rattle.oc_model.specs.Lists.{placed}
use Rattle.oc_index.specs.declared.items.ExtentItem.{ExtentItem}
use Rattle.oc_index.specs.Items.{extent_cmp}
use Rattle.oc_index.specs.Ranges.{is_numbered}
use Rattle.oc_lists.specs.Keeping.{class_noted, AreNoted, Noted}
use Rattle.oc_lists.specs.Lists.{class_in}
use Rattle.oc_lists.specs.Refiling.{relisted}

abbrev numbered_off : ℕ → ExtentItem → Bool
numbered_off k e = not (is_numbered k e)

-- the test of equality by comparison
same_test : (a b : ℕ) → is_eq (nat_cmp a b) ≡ (a == b)
same_test a b =
    (elim (a == b) as (λ t. (a == b) ≡ t → is_eq (nat_cmp a b) ≡ t) [
      | true ↦ λ h. ap (λ n. is_eq (nat_cmp a n)) (sym (eqb-true a b h)) ∙ ap is_eq (tied_itself nat_cmp_total a)
      | false ↦ λ h. (elim (is_eq (nat_cmp a b)) as (λ t. is_eq (nat_cmp a b) ≡ t → t ≡ false) [
        | true ↦ λ same. sym (eq-eqb a b (exact_unsigned a b (is_equal _ same))) ∙ h
        | false ↦ λ other. refl
      ]) refl
    ]) refl

-- ---- a list of objects with one changed

other_number : (k n : ℕ) (e : ExtentItem) → (k == n) ≡ false → is_numbered k e ≡ true → is_numbered n e ≡ false
other_number k n e off is = same_test e.number n ∙ ap (λ m. m == n) (exact_unsigned e.number k (is_equal _ is)) ∙ off

find_other : (k n : ℕ) (es : List ExtentItem) → (k == n) ≡ false → find (is_numbered n) (filter (numbered_off k) es) ≡ find (is_numbered n) es
find_other k n [] off = refl
find_other k n (e ∷ es) off =
    (elim (is_numbered k e) as (λ t. is_numbered k e ≡ t → find (is_numbered n) (cond (not t) (e ∷ filter (numbered_off k) es) (filter (numbered_off k) es)) ≡ cond (is_numbered n e) (Some e) (find (is_numbered n) es)) [
      | true ↦ λ is. find_other k n es off ∙ sym (ap (λ t. cond t (Some e) (find (is_numbered n) es)) (other_number k n e off is))
      | false ↦ λ isnt. ap (λ o. cond (is_numbered n e) (Some e) o) (find_other k n es off)
    ]) refl

find_gone : (k : ℕ) (es : List ExtentItem) → find (is_numbered k) (filter (numbered_off k) es) ≡ None
find_gone k [] = refl
find_gone k (e ∷ es) =
    (elim (is_numbered k e) as (λ t. is_numbered k e ≡ t → find (is_numbered k) (cond (not t) (e ∷ filter (numbered_off k) es) (filter (numbered_off k) es)) ≡ None) [
      | true ↦ λ is. find_gone k es
      | false ↦ λ isnt. ap (λ t. cond t (Some e) (find (is_numbered k) (filter (numbered_off k) es))) isnt ∙ find_gone k es
    ]) refl

placed_other : (n : ℕ) (x : ExtentItem) (es : List ExtentItem) → is_numbered n x ≡ false → find (is_numbered n) (placed extent_cmp x es) ≡ find (is_numbered n) es
placed_other n x [] off = ap (λ t. cond t (Some x) None) off
placed_other n x (e ∷ es) off =
    (elim (is_lt (extent_cmp e x)) as (λ t. find (is_numbered n) (cond t (e ∷ placed extent_cmp x es) (x ∷ e ∷ es)) ≡ cond (is_numbered n e) (Some e) (find (is_numbered n) es)) [
      | true ↦ ap (λ o. cond (is_numbered n e) (Some e) o) (placed_other n x es off)
      | false ↦ ap (λ t. cond t (Some x) (cond (is_numbered n e) (Some e) (find (is_numbered n) es))) off
    ])

placed_found : (k : ℕ) (x : ExtentItem) (es : List ExtentItem) → is_numbered k x ≡ true → find (is_numbered k) es ≡ None → find (is_numbered k) (placed extent_cmp x es) ≡ Some x
placed_found k x [] is none = ap (λ t. cond t (Some x) None) is
placed_found k x (e ∷ es) is none =
    (elim (is_lt (extent_cmp e x)) as (λ t. find (is_numbered k) (cond t (e ∷ placed extent_cmp x es) (x ∷ e ∷ es)) ≡ Some x) [
      | true ↦ (elim (is_numbered k e) as (λ t. cond t (Some e) (find (is_numbered k) es) ≡ None → cond t (Some e) (find (is_numbered k) (placed extent_cmp x es)) ≡ Some x) [
        | true ↦ λ h. absurd (cc)
        | false ↦ λ h. placed_found k x es is h
      ]) none
      | false ↦ ap (λ t. cond t (Some x) (cond (is_numbered k e) (Some e) (find (is_numbered k) es))) is
    ])

-- the class of each object after one changed
pub class_relisted : (k : ℕ) (class : Option ℕ) (es : List ExtentItem) (n : ℕ) → class_in (relisted k class es) n ≡ cond (k == n) class (class_in es n)
class_relisted k None es n =
    (elim (k == n) as (λ t. (k == n) ≡ t → class_in (filter (numbered_off k) es) n ≡ cond t None (class_in es n)) [
      | true ↦ λ same. ap (λ m. class_in (filter (numbered_off k) es) m) (sym (eqb-true k n same)) ∙ ap (option_map (λ (e : ExtentItem). e.class)) (find_gone k es)
      | false ↦ λ off. ap (option_map (λ (e : ExtentItem). e.class)) (find_other k n es off)
    ]) refl
class_relisted k (Some c) es n =
    let x : ExtentItem = record { number = k; class = c } in
    (elim (k == n) as (λ t. (k == n) ≡ t → class_in (placed extent_cmp x (filter (numbered_off k) es)) n ≡ cond t (Some c) (class_in es n)) [
      | true ↦ λ same. ap (λ m. class_in (placed extent_cmp x (filter (numbered_off k) es)) m) (sym (eqb-true k n same)) ∙ ap (option_map (λ (e : ExtentItem). e.class)) (placed_found k x (filter (numbered_off k) es) (ap is_eq (tied_itself nat_cmp_total k)) (find_gone k es))
      | false ↦ λ off. ap (option_map (λ (e : ExtentItem). e.class)) (placed_other n x (filter (numbered_off k) es) (same_test k n ∙ off) ∙ find_other k n es off)
    ]) refl

-- ---- what was noted

noted_stays : (o : Option (Option ℕ)) (a b : Option ℕ) → IsSome o → option_map_or (λ c. c) o a ≡ option_map_or (λ c. c) o b
noted_stays None a b some = absurd (cc)
noted_stays (Some c) a b some = refl

-- the class of one object is noted for the first time
pub first_noted : (old new : Noted) (es : List ExtentItem) (k : ℕ) (class : Option ℕ) → class ≡ class_in es k → lookup (is_at (nat_cmp k)) old ≡ None
    → ((q : ℕ) → lookup (is_at (nat_cmp q)) new ≡ cond (is_at (nat_cmp k) q) (Some class) (lookup (is_at (nat_cmp q)) old)) → (n : ℕ) → class_noted new (class_in es n) n ≡ class_noted old (class_in es n) n
first_noted old new es k class is none more n =
    ap (λ o. option_map_or (λ c. c) o (class_in es n)) (more n) ∙ (elim (is_at (nat_cmp k) n) as (λ t. is_at (nat_cmp k) n ≡ t → option_map_or (λ c. c) (cond t (Some class) (lookup (is_at (nat_cmp n)) old)) (class_in es n) ≡ class_noted old (class_in es n) n) [
      | true ↦ λ same.
          let key : k ≡ n = exact_unsigned k n (is_equal _ same) in
          is ∙ ap (class_in es) key ∙ sym (ap (λ o. option_map_or (λ c. c) o (class_in es n)) (ap (λ m. lookup (is_at (nat_cmp m)) old) (sym key) ∙ none))
      | false ↦ λ other. refl
    ]) refl

-- one change of an object whose class is noted
pub noted_more : (old new : Noted) (es : List ExtentItem) (k : ℕ) (class : Option ℕ) → IsSome (lookup (is_at (nat_cmp k)) new) → ((n : ℕ) → class_noted new (class_in es n) n ≡ class_noted old (class_in es n) n)
    → (then : List ExtentItem) → AreNoted old es then → AreNoted new (relisted k class es) then
noted_more old new es k class some still then h n =
    h n ∙ sym (still n) ∙ (elim (k == n) as (λ t. (k == n) ≡ t → class_noted new (class_in es n) n ≡ class_noted new (cond t class (class_in es n)) n) [
      | true ↦ λ same. noted_stays (lookup (is_at (nat_cmp n)) new) (class_in es n) class (subst (λ m. IsSome (lookup (is_at (nat_cmp m)) new)) (eqb-true k n same) some)
      | false ↦ λ other. refl
    ]) refl ∙ sym (ap (λ o. class_noted new o n) (class_relisted k class es n))
