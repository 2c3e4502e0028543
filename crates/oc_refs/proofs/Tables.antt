-- The two maps of a table, and the triples that they stand for.
use Rattle.std.proofs.Common.{◌≡◌, ℕ, zero, suc, ◌+◌, ◌*◌, ◌^◌, ◌≤◌, Bool, true, false, not, cond, nat_eq, ◌==◌, List, [], ◌∷◌, map, length, Option, Some, None, is_some, refl, sym, ap, ◌∙◌, subst, nat_cmp, arith, true≢false}
use Rattle.std.specs.Ordering.{eq_by_cmp}
use Rattle.std.specs.Cmp.{nat_cmp_total, nat_eq_equiv, unsigned_tied}
use Rattle.std.specs.Map.{lookup}
use Rattle.std.proofs.lemmas.Bool.Decides.{nat_tests}
use Rattle.std.proofs.lemmas.List.{length-map}
use Rattle.std.proofs.Math.Nat.{pow-zero, pow-suc}
use Rattle.std.proofs.lemmas.Map.Lookups.{exact_unsigned}
use Rattle.std.specs.FinMap.{find, put, entries, entries_sorted, get-from_entries, get-entries, len-entries, len-empty}
use Rattle.std.specs.FinMap.Entries.{where_key, same_entries, is_sorted-put, find-put, is_sorted-where_key, find-where_key, length-put, length_without}
use Rattle.oc_refs.specs.declared.table.Ref.{Ref}
use Rattle.oc_refs.specs.Triples.{by_number, by_handle, with_ref, without, with_active, AreDistinct}
use Rattle.oc_refs.specs.Kept.{in_order, triples, Agree}
use Rattle.oc_refs.proofs.InOrder.{find_is, AllNamed, all_named, number_found, put_new, put_over, removed, differ, distinct_by, none_passes, one_passes}

-- the entries in order have what the map has
find_listed : (es : List (ℕ × Ref)) (n : ℕ) → find nat_cmp n (entries (in_order es)) ≡ lookup (nat_eq n) es
find_listed es n = sym (get-entries (in_order es) n) ∙ get-from_entries nat_cmp_total es n ∙ find_is n es

named_list : (es : List (ℕ × Ref)) → ((n : ℕ) (r : Ref) → lookup (nat_eq n) es ≡ Some r → r.number ≡ n) → AllNamed (entries (in_order es))
named_list es named = all_named (entries (in_order es)) (entries_sorted (in_order es)) (λ n r f. named n r (sym (find_listed es n) ∙ f))

pub number_is : (es : List (ℕ × Ref)) (ns : List (ℕ × ℕ)) (n : ℕ) → Agree es ns → by_number (triples es) n ≡ lookup (nat_eq n) es
number_is es ns n a = number_found n (entries (in_order es)) (named_list es a.named) ∙ find_listed es n

-- ---- changes

-- the test of a key, either way round
key_test : (k q : ℕ) → nat_eq k q ≡ eq_by_cmp nat_cmp q k
key_test k q = nat_eq_equiv.symm k q ∙ sym (unsigned_tied q k)

-- one entry more, or another in its place
put_is : (old new : List (ℕ × Ref)) (k : ℕ) (r : Ref) → ((q : ℕ) → lookup (nat_eq q) new ≡ cond (nat_eq k q) (Some r) (lookup (nat_eq q) old)) → entries (in_order new) ≡ put nat_cmp k r (entries (in_order old))
put_is old new k r h =
    let es = entries (in_order old) in
    same_entries nat_cmp nat_cmp_total exact_unsigned (entries (in_order new)) (put nat_cmp k r es) (entries_sorted (in_order new)) (is_sorted-put nat_cmp nat_cmp_total k r es (entries_sorted (in_order old)))
    (λ q. find_listed new q ∙ h q ∙ (λ i. cond (key_test k q i) (Some r) (sym (find_listed old q) i)) ∙ sym (find-put nat_cmp nat_cmp_total q k r es))

turned_round : {A : Type 0} (b : Bool) (x y : A) → cond (not b) x y ≡ cond b y x
turned_round true x y = refl
turned_round false x y = refl

-- one entry less
gone_is : (old new : List (ℕ × Ref)) (k : ℕ) → ((q : ℕ) → lookup (nat_eq q) new ≡ cond (nat_eq k q) None (lookup (nat_eq q) old))
    → entries (in_order new) ≡ where_key nat_cmp (λ x. not (eq_by_cmp nat_cmp k x)) (entries (in_order old))
gone_is old new k h =
    let es = entries (in_order old) in
    let p : ℕ → Bool = λ x. not (eq_by_cmp nat_cmp k x) in
    same_entries nat_cmp nat_cmp_total exact_unsigned (entries (in_order new)) (where_key nat_cmp p es) (entries_sorted (in_order new)) (is_sorted-where_key nat_cmp p es (entries_sorted (in_order old)))
    (λ q. find_listed new q ∙ h q ∙ (λ i. cond (sym (unsigned_tied k q) i) None (sym (find_listed old q) i))
    ∙ sym (find-where_key nat_cmp p q (λ x t. ap p (sym (exact_unsigned q x t))) es ∙ turned_round (eq_by_cmp nat_cmp k q) (find nat_cmp q es) None))

-- ---- look-ups by handle

some_same : {X : Type 0} (x y : X) → Some x ≡ Some y → x ≡ y
some_same x y e = cc

none_some : {X : Type 0} (x : X) → None ≡ Some x → ⊥
none_some x e = cc

is_same : (a b : ℕ) → (a == b) ≡ true → a ≡ b
is_same a b h = grind (arith, nat_tests)

to_itself : (a b : ℕ) → a ≡ b → nat_eq a b ≡ true
to_itself a b h = grind (arith, nat_tests)

pub handle_none : (es : List (ℕ × Ref)) (ns : List (ℕ × ℕ)) (h : ℕ) → Agree es ns → lookup (nat_eq h) ns ≡ None → by_handle (triples es) h ≡ None
handle_none es ns h a gone =
    none_passes (λ r. r.handle == h) (entries (in_order es)) (entries_sorted (in_order es))
    (λ n r found.
    (elim (r.handle == h) as (λ b. (r.handle == h) ≡ b → b ≡ false) [
      | false ↦ λ _. refl
      | true ↦ λ e. absurd (none_some n (sym gone ∙ ap (λ k. lookup (nat_eq k) ns) (sym (is_same r.handle h e)) ∙ a.handled n r (sym (find_listed es n) ∙ found)))
    ]) refl)

pub handle_some : (es : List (ℕ × Ref)) (ns : List (ℕ × ℕ)) (h n : ℕ) → Agree es ns → lookup (nat_eq h) ns ≡ Some n → by_handle (triples es) h ≡ lookup (nat_eq n) es
handle_some es ns h n a has =
    let f = a.found h n has in
    one_passes (λ r. r.handle == h) (entries (in_order es)) n f.0 (entries_sorted (in_order es)) (find_listed es n ∙ f.1) (to_itself _ _ f.2)
    (λ m q found e.
    let there : lookup (nat_eq m) es ≡ Some q = sym (find_listed es m) ∙ found in
    let same : m ≡ n = some_same m n (sym (a.handled m q there) ∙ ap (λ k. lookup (nat_eq k) ns) (is_same q.handle h e) ∙ has) in
    some_same q f.0 (sym there ∙ ap (λ k. lookup (nat_eq k) es) same ∙ f.1))
    ∙ sym f.1

-- no triple has a handle that isn't told
pub handle_gone : (es : List (ℕ × Ref)) (ns : List (ℕ × ℕ)) (h : ℕ) → Agree es ns → by_handle (triples es) h ≡ None → lookup (nat_eq h) ns ≡ None
handle_gone es ns h a gone =
    (elim (lookup (nat_eq h) ns) as (λ o. lookup (nat_eq h) ns ≡ o → o ≡ None) [
      | None ↦ λ _. refl
      | Some n ↦ λ e. let f = a.found h n e in absurd (none_some f.0 (sym gone ∙ handle_some es ns h n a e ∙ f.1))
    ]) refl

pub distinct : (es : List (ℕ × Ref)) (ns : List (ℕ × ℕ)) → Agree es ns → AreDistinct (triples es)
distinct es ns a =
    let there : (n : ℕ) (r : Ref) → find nat_cmp n (entries (in_order es)) ≡ Some r → lookup (nat_eq n) es ≡ Some r = λ n r found. sym (find_listed es n) ∙ found in
    record {
      numbers = distinct_by (λ r. r.number) (entries (in_order es)) (entries_sorted (in_order es)) (λ m n q r x y same. sym (a.named m q (there m q x)) ∙ same ∙ a.named n r (there n r y));
      handles = distinct_by (λ r. r.handle) (entries (in_order es)) (entries_sorted (in_order es))
          (λ m n q r x y same. some_same m n (sym (a.handled m q (there m q x)) ∙ ap (λ k. lookup (nat_eq k) ns) same ∙ a.handled n r (there n r y)));
    }

-- ---- changes of the triples

abbrev pub Puts : {X : Type 0} → List (ℕ × X) → List (ℕ × X) → ℕ → Option X → Type 0
Puts old new k o = (q : ℕ) → lookup (nat_eq q) new ≡ cond (nat_eq k q) o (lookup (nat_eq q) old)

pub with_new : (es fs : List (ℕ × Ref)) (ns : List (ℕ × ℕ)) (r : Ref) → Agree es ns → Puts es fs r.number (Some r) → lookup (nat_eq r.number) es ≡ None → triples fs ≡ with_ref r (triples es)
with_new es fs ns r a puts gone =
    ap (λ xs. map (λ e. e.1) xs) (put_is es fs r.number r puts) ∙ put_new r.number r (entries (in_order es)) (named_list es a.named) refl (find_listed es r.number ∙ gone)

pub with_turned : (es fs : List (ℕ × Ref)) (ns : List (ℕ × ℕ)) (k : ℕ) (active : Bool) (r : Ref) → Agree es ns → lookup (nat_eq k) es ≡ Some r
    → Puts es fs k (Some (record { number = r.number; handle = r.handle; active = active })) → triples fs ≡ with_active k active (triples es)
with_turned es fs ns k active r a has puts =
    ap (λ xs. map (λ e. e.1) xs) (put_is es fs k (record { number = r.number; handle = r.handle; active = active }) puts)
    ∙ put_over k active r (entries (in_order es)) (named_list es a.named) (entries_sorted (in_order es)) (find_listed es k ∙ has)

pub with_less : (es fs : List (ℕ × Ref)) (ns : List (ℕ × ℕ)) (k : ℕ) → Agree es ns → Puts es fs k None → triples fs ≡ without k (triples es)
with_less es fs ns k a puts = ap (λ xs. map (λ e. e.1) xs) (gone_is es fs k puts) ∙ removed k (entries (in_order es)) (named_list es a.named)

-- ---- what the two maps keep

-- with one triple more: both maps have it
pub agree_more : (es fs : List (ℕ × Ref)) (ns ms : List (ℕ × ℕ)) (r : Ref) → Agree es ns → lookup (nat_eq r.number) es ≡ None → lookup (nat_eq r.handle) ns ≡ None
    → Puts es fs r.number (Some r) → Puts ns ms r.handle (Some r.number) → length fs ≡ length es + 1 → Agree fs ms
agree_more es fs ns ms r a gone free puts links longer =
    let k = r.number in
    let h = r.handle in
    record {
      count = counted;
      named = λ n q e. (elim (nat_eq k n) as (λ b. nat_eq k n ≡ b → cond b (Some r) (lookup (nat_eq n) es) ≡ Some q → q.number ≡ n) [
        | true ↦ λ same e. ap (λ (t : Ref). t.number) (sym (some_same r q e)) ∙ is_same k n same
        | false ↦ λ _ e. a.named n q e
      ]) refl (sym (puts n) ∙ e);
      handled = λ n q e. links q.handle ∙ (elim (nat_eq k n) as (λ b. nat_eq k n ≡ b → cond b (Some r) (lookup (nat_eq n) es) ≡ Some q → cond (nat_eq h q.handle) (Some k) (lookup (nat_eq q.handle) ns) ≡ Some n) [
        | true ↦ λ same e. ap (λ b. cond b (Some k) (lookup (nat_eq q.handle) ns)) (to_itself h q.handle (ap (λ (t : Ref). t.handle) (some_same r q e))) ∙ ap Some (is_same k n same)
        | false ↦ λ _ e.
            ap (λ b. cond b (Some k) (lookup (nat_eq q.handle) ns)) (another h q.handle (λ same. none_some n (sym free ∙ ap (λ g. lookup (nat_eq g) ns) same ∙ a.handled n q e)))
            ∙ a.handled n q e
      ]) refl (sym (puts n) ∙ e);
      found = λ g n e. (elim (nat_eq h g) as (λ b. nat_eq h g ≡ b → cond b (Some k) (lookup (nat_eq g) ns) ≡ Some n → (q : Ref) × (lookup (nat_eq n) fs ≡ Some q) × (q.handle ≡ g)) [
        | true ↦ λ same e. (r, puts n ∙ ap (λ b. cond b (Some r) (lookup (nat_eq n) es)) (to_itself k n (some_same k n e)), is_same h g same)
        | false ↦ λ _ e.
            let f = a.found g n e in
            (f.0, puts n ∙ ap (λ b. cond b (Some r) (lookup (nat_eq n) es)) (another k n (λ same. none_some f.0 (sym gone ∙ ap (λ m. lookup (nat_eq m) es) same ∙ f.1))) ∙ f.1, f.2)
      ]) refl (sym (links g) ∙ e);
    }
  where
    another : (x y : ℕ) → (x ≡ y → ⊥) → nat_eq x y ≡ false
    another x y apart = differ x y apart

    counted : length (triples fs) ≡ length fs
    counted =
        length-map (entries (in_order fs)) (λ e. e.1) ∙ ap length (put_is es fs r.number r puts)
        ∙ length-put nat_cmp nat_cmp_total r.number r (entries (in_order es)) (entries_sorted (in_order es))
        ∙ ap (λ o. cond (is_some o) (length (entries (in_order es))) (length (entries (in_order es)) + 1)) (find_listed es r.number ∙ gone)
        ∙ ap (λ n. n + 1) (sym (length-map (entries (in_order es)) (λ e. e.1)) ∙ a.count)
        ∙ sym longer

-- with a triple in the place of one of the same number and handle
pub agree_turned : (es fs : List (ℕ × Ref)) (ns : List (ℕ × ℕ)) (k : ℕ) (active : Bool) (r : Ref) → Agree es ns → lookup (nat_eq k) es ≡ Some r
    → Puts es fs k (Some (record { number = r.number; handle = r.handle; active = active })) → length fs ≡ length es → Agree fs ns
agree_turned es fs ns k active r a has puts long =
    let new : Ref = record { number = r.number; handle = r.handle; active = active } in
    record {
      count = counted;
      named = λ n q e. (elim (nat_eq k n) as (λ b. nat_eq k n ≡ b → cond b (Some new) (lookup (nat_eq n) es) ≡ Some q → q.number ≡ n) [
        | true ↦ λ same e. ap (λ (t : Ref). t.number) (sym (some_same new q e)) ∙ a.named k r has ∙ is_same k n same
        | false ↦ λ _ e. a.named n q e
      ]) refl (sym (puts n) ∙ e);
      handled = λ n q e. (elim (nat_eq k n) as (λ b. nat_eq k n ≡ b → cond b (Some new) (lookup (nat_eq n) es) ≡ Some q → lookup (nat_eq q.handle) ns ≡ Some n) [
        | true ↦ λ same e. ap (λ (t : Ref). lookup (nat_eq t.handle) ns) (sym (some_same new q e)) ∙ a.handled k r has ∙ ap Some (is_same k n same)
        | false ↦ λ _ e. a.handled n q e
      ]) refl (sym (puts n) ∙ e);
      found = λ g n e.
          let f = a.found g n e in
          let w : (q : Ref) × (cond (nat_eq k n) (Some new) (lookup (nat_eq n) es) ≡ Some q) × (q.handle ≡ g) =
          (elim (nat_eq k n) as (λ b. nat_eq k n ≡ b → (q : Ref) × (cond b (Some new) (lookup (nat_eq n) es) ≡ Some q) × (q.handle ≡ g)) [
            | true ↦ λ same. (new, refl, ap (λ (t : Ref). t.handle) (some_same r f.0 (sym has ∙ ap (λ m. lookup (nat_eq m) es) (is_same k n same) ∙ f.1)) ∙ f.2)
            | false ↦ λ _. f
          ]) refl in
          (w.0, puts n ∙ w.1, w.2);
    }
  where
    counted : length (triples fs) ≡ length fs
    counted =
        length-map (entries (in_order fs)) (λ e. e.1) ∙ ap length (put_is es fs k (record { number = r.number; handle = r.handle; active = active }) puts)
        ∙ length-put nat_cmp nat_cmp_total k (record { number = r.number; handle = r.handle; active = active }) (entries (in_order es)) (entries_sorted (in_order es))
        ∙ ap (λ o. cond (is_some o) (length (entries (in_order es))) (length (entries (in_order es)) + 1)) (find_listed es k ∙ has)
        ∙ sym (length-map (entries (in_order es)) (λ e. e.1)) ∙ a.count
        ∙ sym long

-- without a triple: neither map has it
pub agree_less : (es fs : List (ℕ × Ref)) (ns ms : List (ℕ × ℕ)) (k : ℕ) (r : Ref) → Agree es ns → lookup (nat_eq k) es ≡ Some r
    → Puts es fs k None → Puts ns ms r.handle None → length fs + 1 ≡ length es → Agree fs ms
agree_less es fs ns ms k r a has puts links shorter =
    record {
      count = counted;
      named = λ n q e. a.named n q (before n q e);
      handled = λ n q e. links q.handle ∙ ap (λ b. cond b None (lookup (nat_eq q.handle) ns)) (differ r.handle q.handle (λ same. apart n q e (some_same n k (sym (a.handled n q (before n q e)) ∙ ap (λ g. lookup (nat_eq g) ns) (sym same) ∙ a.handled k r has)))) ∙ a.handled n q (before n q e);
      found = λ g n e.
          let f = a.found g n (linked g n e) in
          (f.0, puts n ∙ ap (λ b. cond b None (lookup (nat_eq n) es)) (differ k n (λ same. unlinked g n e (ap (λ (t : Ref). t.handle) (some_same r f.0 (sym has ∙ ap (λ m. lookup (nat_eq m) es) same ∙ f.1)) ∙ f.2))) ∙ f.1, f.2);
    }
  where
    before : (n : ℕ) (q : Ref) → lookup (nat_eq n) fs ≡ Some q → lookup (nat_eq n) es ≡ Some q
    before n q e =
        (elim (nat_eq k n) as (λ b. cond b None (lookup (nat_eq n) es) ≡ Some q → lookup (nat_eq n) es ≡ Some q) [ true ↦ λ e. absurd (none_some q e) | false ↦ λ e. e ]) (sym (puts n) ∙ e)

    apart : (n : ℕ) (q : Ref) → lookup (nat_eq n) fs ≡ Some q → n ≡ k → ⊥
    apart n q e same = none_some q (sym (puts n ∙ ap (λ b. cond b None (lookup (nat_eq n) es)) (to_itself k n (sym same))) ∙ e)

    linked : (g n : ℕ) → lookup (nat_eq g) ms ≡ Some n → lookup (nat_eq g) ns ≡ Some n
    linked g n e =
        (elim (nat_eq r.handle g) as (λ b. cond b None (lookup (nat_eq g) ns) ≡ Some n → lookup (nat_eq g) ns ≡ Some n) [ true ↦ λ e. absurd (none_some n e) | false ↦ λ e. e ]) (sym (links g) ∙ e)

    unlinked : (g n : ℕ) → lookup (nat_eq g) ms ≡ Some n → r.handle ≡ g → ⊥
    unlinked g n e same = none_some n (sym (links g ∙ ap (λ b. cond b None (lookup (nat_eq g) ns)) (to_itself r.handle g same)) ∙ e)

    counted : length (triples fs) ≡ length fs
    counted =
        let xs = entries (in_order es) in
        let one : 1 + length (where_key nat_cmp (λ x. not (eq_by_cmp nat_cmp k x)) xs) ≡ length xs =
        subst (λ o. cond (is_some o) 1 0 + length (where_key nat_cmp (λ x. not (eq_by_cmp nat_cmp k x)) xs) ≡ length xs) (find_listed es k ∙ has) (length_without nat_cmp nat_cmp_total k xs (entries_sorted (in_order es))) in
        let all : length xs ≡ length es = sym (length-map xs (λ e. e.1)) ∙ a.count in
        let left : length (triples fs) ≡ length (where_key nat_cmp (λ x. not (eq_by_cmp nat_cmp k x)) xs) = length-map (entries (in_order fs)) (λ e. e.1) ∙ ap length (gone_is es fs k puts) in
        omega arith

-- ---- the empty table

no_length : {X : Type 0} (xs : List X) → length xs ≡ 0 → xs ≡ []
no_length [] h = refl
no_length (x ∷ xs) h = absurd (omega arith)

pub none_listed : (es : List (ℕ × Ref)) → es ≡ [] → triples es ≡ []
none_listed es e =
    ap triples e ∙ ap (λ (xs : List (ℕ × Ref)). map (λ e. e.1) xs) (no_length (entries (in_order [])) (sym (len-entries (in_order [])) ∙ len-empty nat_cmp Ref))

pub none_agree : (es : List (ℕ × Ref)) (ns : List (ℕ × ℕ)) → es ≡ [] → ns ≡ [] → Agree es ns
none_agree es ns e f =
    record {
      count = ap length (none_listed es e) ∙ sym (ap length e);
      named = λ n r has. absurd (none_some r (sym (ap (lookup (nat_eq n)) e) ∙ has));
      handled = λ n r has. absurd (none_some r (sym (ap (lookup (nat_eq n)) e) ∙ has));
      found = λ h n has. absurd (none_some n (sym (ap (lookup (nat_eq h)) f) ∙ has));
    }

-- entered and taken away again
pub put_and_gone : (old mid new : List (ℕ × ℕ)) (k : ℕ) (n : ℕ) → lookup (nat_eq k) old ≡ None → Puts old mid k (Some n) → Puts mid new k None → (q : ℕ) → lookup (nat_eq q) new ≡ lookup (nat_eq q) old
put_and_gone old mid new k n free puts gone q =
    gone q ∙ ap (λ o. cond (nat_eq k q) None o) (puts q)
    ∙ (elim (nat_eq k q) as (λ b. nat_eq k q ≡ b → cond b None (cond b (Some n) (lookup (nat_eq q) old)) ≡ lookup (nat_eq q) old) [
      | true ↦ λ same. sym free ∙ ap (λ m. lookup (nat_eq m) old) (is_same k q same)
      | false ↦ λ _. refl
    ]) refl

-- the two maps agree also where their entries stand in another order
pub agree_again : (es fs : List (ℕ × Ref)) (ns ms : List (ℕ × ℕ)) → Agree es ns → fs ≡ es → ((q : ℕ) → lookup (nat_eq q) ms ≡ lookup (nat_eq q) ns) → Agree fs ms
agree_again es fs ns ms a e same =
    record {
      count = ap (λ xs. length (triples xs)) e ∙ a.count ∙ sym (ap length e);
      named = λ n r has. a.named n r (sym (ap (lookup (nat_eq n)) e) ∙ has);
      handled = λ n r has. same r.handle ∙ a.handled n r (sym (ap (lookup (nat_eq n)) e) ∙ has);
      found = λ h n has. let f = a.found h n (sym (same h) ∙ has) in (f.0, ap (lookup (nat_eq n)) e ∙ f.1, f.2);
    }

-- ---- what a look-up costs

-- where one of the entries is found there is a triple
pub some_there : (es : List (ℕ × Ref)) (ns : List (ℕ × ℕ)) (n : ℕ) → Agree es ns → is_some (lookup (nat_eq n) es) ≡ true → 1 ≤ length (triples es)
some_there es ns n a has = let some : 1 ≤ length es = not_empty es has in omega (arith, a.count)
  where
    not_empty : (es : List (ℕ × Ref)) → is_some (lookup (nat_eq n) es) ≡ true → 1 ≤ length es
    not_empty [] has = absurd (true≢false (sym has))
    not_empty (e ∷ es) has = omega arith

square : (n : ℕ) → n ^ 2 ≡ n * n
square n = let one : 1 * n ≡ n = omega arith in pow-suc n 1 ∙ ap (λ m. m * n) (pow-suc n 0 ∙ ap (λ m. m * n) (pow-zero n) ∙ one)

-- two steps at most, and none in an empty table
pub few_steps : (s l : ℕ) → s ≤ 2 → (1 ≤ s → 1 ≤ l) → 2 ^ s ≤ (l + 1) ^ 2
few_steps zero l few some = subst (λ n. 1 ≤ n) (sym (square (l + 1))) (omega arith)
few_steps (suc s) zero few some = let no : 1 ≤ 0 = some (omega arith) in absurd (omega arith)
few_steps (suc zero) (suc m) few some = subst (λ n. 2 ≤ n) (sym (square (suc m + 1))) (omega arith)
few_steps (suc (suc zero)) (suc m) few some = subst (λ n. 4 ≤ n) (sym (square (suc m + 1))) (omega arith)
few_steps (suc (suc (suc s))) (suc m) few some = absurd (omega arith)
