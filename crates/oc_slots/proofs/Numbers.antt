-- The numbers of slots.
use Rattle.std.proofs.Common.{◌≡◌, ◌∙◌, ℕ, zero, suc, ◌+◌, ◌≤◌, ◌<◌, Bool, true, false, nat_eq, List, [], ◌∷◌, ◌++◌, length, map, take, get_or, Option, None, inl, inr, sym, ap, subst, refl, arith}
use Rattle.std.specs.Prelude.{◌↔◌, ◌⊎◌, Contains, IsSome}
use Rattle.std.specs.Map.{lookup}
use Rattle.std.specs.Option.{option_map_or}
use Rattle.std.proofs.lemmas.Bool.Decides.{nat_tests}
use Rattle.std.proofs.lemmas.List.{take_more, take_all, map-append, append_assoc}
use Rattle.std.proofs.lemmas.List.Elements.{Contains-append_left, Contains-append_right, Contains-append_cases}
use Rattle.oc_layout.specs.declared.cells.Cell.{Cell}
use Rattle.oc_slots.specs.Slots.{Changes}

-- the number of a change
abbrev pub key_of : ℕ × Option Cell → ℕ
key_of e = e.0

pub keys_more : (numbers : List ℕ) (cs : Changes) (i : ℕ) → i < length cs → numbers ++ map key_of (take i cs) ++ (get_or cs i (0, None)).0 ∷ [] ≡ numbers ++ map key_of (take (i + 1) cs)
keys_more numbers cs i lt =
    append_assoc numbers (map key_of (take i cs)) ((get_or cs i (0, None)).0 ∷ [])
    ∙ ap (λ l. numbers ++ l) (sym (map-append key_of (take i cs) (get_or cs i (0, None) ∷ [])) ∙ ap (map key_of) (sym (take_more cs i (0, None) lt)))

pub keys_whole : (numbers : List ℕ) (cs : Changes) (i : ℕ) → length cs ≤ i → numbers ++ map key_of (take i cs) ≡ numbers ++ map key_of cs
keys_whole numbers cs i le = ap (λ l. numbers ++ map key_of l) (take_all i cs le)

pub none_in : (xs : List ℕ) (n : ℕ) (P : Type 0) → xs ≡ [] → Contains xs n ↔ (Contains [] n × P)
none_in xs n P empty = (λ there. absurd (omega (arith, there.1, ap length empty)), λ both. absurd (omega (arith, both.0.1)))

module _ (P : ℕ → Type 0) (numbers : List ℕ) (i : ℕ) where
  pub there_more : (x : ℕ) → i < length numbers → x ≡ get_or numbers i 0 → (old new : List ℕ) (n : ℕ) → Contains old n ↔ (Contains (take i numbers) n × P n) → Contains new n ↔ (Contains old n ⊎ ((x ≡ n) × P n)) → Contains new n ↔ (Contains (take (i + 1) numbers) n × P n)
  there_more x lt is old new n before put =
      let more : take (i + 1) numbers ≡ take i numbers ++ x ∷ [] = take_more numbers i 0 lt ∙ (λ j. take i numbers ++ sym is j ∷ []) in (
        λ there. elim (put.0 there) [
          | inl earlier ↦ (subst (λ l. Contains l n) (sym more) (Contains-append_left (take i numbers) (x ∷ []) n (before.0 earlier).0), (before.0 earlier).1)
          | inr here ↦ (subst (λ l. Contains l n) (sym more) (Contains-append_right (take i numbers) (x ∷ []) n (0, omega arith, here.0)), here.1)
        ],
        λ both. elim (Contains-append_cases (take i numbers) (x ∷ []) n (subst (λ l. Contains l n) more both.0)) [
          | inl earlier ↦ put.1 (inl (before.1 (earlier, both.1)))
          | inr here ↦ put.1 (inr (the here, both.1))
        ],
      )
    where
      the : {n : ℕ} → Contains (x ∷ []) n → x ≡ n
      the (zero, lt, e) = e
      the (suc k, lt, e) = absurd (omega (arith, lt))

  pub there_whole : length numbers ≤ i → (there : List ℕ) (n : ℕ) → Contains there n ↔ (Contains (take i numbers) n × P n) → Contains there n ↔ (Contains numbers n × P n)
  there_whole le there n is = subst (λ l. Contains there n ↔ (Contains l n × P n)) (take_all i numbers le) is

-- a slot that the session has is one of the pages' or was noted
module _ (n : ℕ) (base : Option Cell) (committed : List ℕ) where
  noted_key : (cs : Changes) → IsSome (option_map_or (λ x. x) (lookup (nat_eq n) cs) base) → (IsSome base → Contains committed n) → Contains (committed ++ map key_of cs) n
  noted_key [] some based = Contains-append_left committed [] n (based some)
  noted_key (e ∷ es) some based = go (nat_eq n e.0) refl (noted_key es)
    where
      go : (b : Bool) → nat_eq n e.0 ≡ b → (IsSome (option_map_or (λ x. x) (lookup (nat_eq n) es) base) → (IsSome base → Contains committed n) → Contains (committed ++ map key_of es) n) → Contains (committed ++ map key_of (e ∷ es)) n
      go true t rest = Contains-append_right committed (map key_of (e ∷ es)) n (0, omega arith, same)
        where
          same : e.0 ≡ n
          same = grind (arith, nat_tests, t)
      go false t rest = elim (Contains-append_cases committed (map key_of es) n (rest (subst IsSome (later t) some) based)) [
        | inl old ↦ Contains-append_left committed (map key_of (e ∷ es)) n old
        | inr (k, lt, is) ↦ Contains-append_right committed (map key_of (e ∷ es)) n (suc k, omega (arith, lt), is)
      ]
        where
          later : nat_eq n e.0 ≡ false → option_map_or (λ x. x) (lookup (nat_eq n) (e ∷ es)) base ≡ option_map_or (λ x. x) (lookup (nat_eq n) es) base
          later t = rw t refl

  pub session_key : (cs : Changes) → (IsSome base → Contains committed n) → IsSome (option_map_or (λ x. x) (lookup (nat_eq n) cs) base) → Contains (committed ++ map key_of cs) n
  session_key cs based some = noted_key cs some based
