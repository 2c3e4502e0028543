-- There are lengths that a commit would place, whether or not they find room.
use Rattle.std.proofs.Common.{◌≡◌, ◌∙◌, inl, inr, ℕ, zero, suc, ◌+◌, ◌*◌, ◌<◌, ◌≤◌, ◌&&◌, ◌||◌, nat_eq, Bool, true, false, List, [], ◌∷◌, ◌++◌, length, map, replicate, Option, Some, None, sym, ap, subst, refl, arith}
use Rattle.std.specs.Prelude.{All, AllPairs, Contains, is_some, not, option_map, if◌then◌else◌}
use Rattle.std.specs.List.{list_any}
use Rattle.std.specs.Map.{lookup}
use Rattle.std.proofs.lemmas.Bool.{cases_eq}
use Rattle.std.proofs.lemmas.Bool.Decides.{nat_tests}
use Rattle.std.proofs.lemmas.List.{append_assoc}
use Rattle.std.proofs.lemmas.List.Elements.{All-cons, All-nil}
use Rattle.std.proofs.lemmas.List.Folds.{list_any-append}
use Rattle.oc_layout.specs.declared.cells.Space.{Space}
use Rattle.oc_layout.specs.declared.cells.Space.TheVariants.{Objects, System}
use Rattle.oc_pages.specs.declared.page.Page.{Page}
use Rattle.oc_pages.specs.Order.{AreAscending}
use Rattle.oc_pages.specs.Pages.{no_cell, has_number, page_of, page_holding, IsMissing}
use Rattle.oc_slots.specs.declared.overlay.Overlay.{Overlay}
use Rattle.oc_slots.specs.declared.slot.SlotChange.{SlotChange}
use Rattle.oc_slots.specs.declared.slot.SlotId.{SlotId}
use Rattle.oc_slots.specs.declared.turnover.Pointing.{Pointing}
use Rattle.oc_slots.specs.Maps.{is_same}
use Rattle.oc_slots.specs.Slots.{Changes, changes_of, lengths_of}
use Rattle.oc_slots.specs.Pointings.{is_pointed, AreDistinct}
use Rattle.oc_slots.specs.Turnovers.{numbers_in, slot_at}
use Rattle.oc_slots.specs.Planning.{AreLengths, moves, log_length}
use Rattle.oc_slots.proofs.SameSlots.{same_itself, same_slot, flipped}

no_way : false ≡ true → ⊥
no_way e = cc

-- ---- the numbers that pass a test, ascending

module _ (test : ℕ → Bool) where
  -- those of the n from k on
  abbrev passing : ℕ → ℕ → List ℕ
  passing k zero = []
  passing k (suc n) = if test k then k ∷ passing (k + 1) n else passing (k + 1) n

  passes : (k n : ℕ) → test k ≡ true → passing k (suc n) ≡ k ∷ passing (k + 1) n
  passes k n e = rw e refl

  fails : (k n : ℕ) → test k ≡ false → passing k (suc n) ≡ passing (k + 1) n
  fails k n e = rw e refl

  passing_low : (k n : ℕ) → All (λ m. k ≤ m) (passing k n)
  passing_low k zero = All-nil (λ m. k ≤ m)
  passing_low k (suc n) = go (test k) refl (λ i d lt. omega (arith, passing_low (k + 1) n i d lt))
    where
      go : (b : Bool) → test k ≡ b → All (λ m. k ≤ m) (passing (k + 1) n) → All (λ m. k ≤ m) (passing k (suc n))
      go true e rest = subst (All (λ m. k ≤ m)) (sym (passes k n e)) (All-cons (λ m. k ≤ m) k (passing (k + 1) n) (omega arith) rest)
      go false e rest = subst (All (λ m. k ≤ m)) (sym (fails k n e)) rest

  front : (k : ℕ) (xs : List ℕ) → All (λ m. k + 1 ≤ m) xs → AllPairs (λ a b. a < b) xs → AllPairs (λ a b. a < b) (k ∷ xs)
  front k xs low rest i zero d lt inside = absurd (omega (arith, lt))
  front k xs low rest zero (suc j) d lt inside = omega (arith, low j d (omega (arith, inside)))
  front k xs low rest (suc i) (suc j) d lt inside = rest i j d (omega (arith, lt)) (omega (arith, inside))

  passing_ascends : (k n : ℕ) → AllPairs (λ a b. a < b) (passing k n)
  passing_ascends k zero = λ i j d lt inside. absurd (omega (arith, inside))
  passing_ascends k (suc n) = go (test k) refl (passing_ascends (k + 1) n)
    where
      go : (b : Bool) → test k ≡ b → AllPairs (λ a b. a < b) (passing (k + 1) n) → AllPairs (λ a b. a < b) (passing k (suc n))
      go true e rest = subst (AllPairs (λ a b. a < b)) (sym (passes k n e)) (front k (passing (k + 1) n) (passing_low (k + 1) n) rest)
      go false e rest = subst (AllPairs (λ a b. a < b)) (sym (fails k n e)) rest

  -- just these
  passing_there : (k n m : ℕ) → Contains (passing k n) m → test m ≡ true
  passing_there k zero m there = absurd (omega (arith, there.1))
  passing_there k (suc n) m there = go (test k) refl (passing_there (k + 1) n m)
    where
      first : (xs : List ℕ) → test k ≡ true → (Contains xs m → test m ≡ true) → Contains (k ∷ xs) m → test m ≡ true
      first xs e rest (zero, lt, is) = ap test (sym is) ∙ e
      first xs e rest (suc i, lt, is) = rest (i, omega (arith, lt), is)

      go : (b : Bool) → test k ≡ b → (Contains (passing (k + 1) n) m → test m ≡ true) → test m ≡ true
      go true e rest = first (passing (k + 1) n) e rest (subst (λ l. Contains l m) (passes k n e) there)
      go false e rest = rest (subst (λ l. Contains l m) (fails k n e) there)

  passing_has : (k n m : ℕ) → k ≤ m → m < k + n → test m ≡ true → Contains (passing k n) m
  passing_has k zero m low high is = absurd (omega (arith, low, high))
  passing_has k (suc n) m low high is = go (test k) refl (λ lower. passing_has (k + 1) n m lower (omega (arith, high)) is)
    where
      later : (xs : List ℕ) → Contains xs m → Contains (k ∷ xs) m
      later xs (i, lt, e) = (suc i, omega (arith, lt), e)

      go : (b : Bool) → test k ≡ b → (k + 1 ≤ m → Contains (passing (k + 1) n) m) → Contains (passing k (suc n)) m
      go true e rest = subst (λ l. Contains l m) (sym (passes k n e)) (elim (cases_eq k m) [
        | inl same ↦ (0, omega arith, same)
        | inr apart ↦ later (passing (k + 1) n) (rest (above apart))
      ])
        where
          above : (k ≡ m → ⊥) → k + 1 ≤ m
          above apart = omega (arith, low, apart)
      go false e rest = subst (λ l. Contains l m) (sym (fails k n e)) (elim (cases_eq k m) [
        | inl same ↦ absurd (no_way (sym e ∙ ap test same ∙ is))
        | inr apart ↦ rest (above apart)
      ])
        where
          above : (k ≡ m → ⊥) → k + 1 ≤ m
          above apart = omega (arith, low, apart)

-- ---- the pages that are missing

-- no number is greater than all of them together
abbrev together : List ℕ → ℕ
together [] = 0
together (n ∷ ns) = n + together ns

not_greater : (ns : List ℕ) (n : ℕ) → Contains ns n → n ≤ together ns
not_greater [] n there = absurd (omega (arith, there.1))
not_greater (m ∷ ns) n (zero, lt, e) = let same : m ≡ n = e in omega (arith, same)
not_greater (m ∷ ns) n (suc k, lt, e) = omega (arith, not_greater ns n (k, omega (arith, lt), e))

any_there : (test : ℕ → Bool) (ns : List ℕ) → list_any test ns ≡ true → (n : ℕ) × Contains ns n × (test n ≡ true)
any_there test [] some = absurd (no_way some)
any_there test (n ∷ ns) some = go (test n) refl (any_there test ns)
  where
    go : (b : Bool) → test n ≡ b → (list_any test ns ≡ true → (m : ℕ) × Contains ns m × (test m ≡ true)) → (m : ℕ) × Contains (n ∷ ns) m × (test m ≡ true)
    go true e rest = (n, (0, omega arith, refl), e)
    go false e rest =
        let there = rest (sym (skips e) ∙ some) in
        (there.0, (suc there.1.0, omega (arith, there.1.1), there.1.2), there.2)
      where
        skips : test n ≡ false → list_any test (n ∷ ns) ≡ list_any test ns
        skips e = rw e refl

there_any : (test : ℕ → Bool) (ns : List ℕ) (n : ℕ) → Contains ns n → test n ≡ true → list_any test ns ≡ true
there_any test [] n there is = absurd (omega (arith, there.1))
there_any test (m ∷ ns) n (zero, lt, e) is = rw (ap test e ∙ is) refl
there_any test (m ∷ ns) n (suc k, lt, e) is = or_right (test m) (list_any test ns) (there_any test ns n (k, omega (arith, lt), e) is)
  where
    or_right : (a b : Bool) → b ≡ true → (a || b) ≡ true
    or_right true b e = refl
    or_right false b e = e

-- the pages that are missing for some numbers are a list
missing_are : (pages : List Page) (space : Space) (ns : List ℕ) → (indexes : List ℕ) × AreAscending (IsMissing pages space ns) indexes
missing_are pages space ns = (passing lacks 0 (together ns), record { ascend = passing_ascends lacks 0 (together ns); exact = λ index. (to index, from index) })
  where
    lacks : ℕ → Bool
    lacks index = list_any (has_number index) ns && not (is_some (page_of pages space index))

    both : (a b : Bool) → (a && b) ≡ true → (a ≡ true) × (b ≡ true)
    both true b e = (refl, e)
    both false b e = absurd (no_way e)

    none_of : (o : Option Page) → not (is_some o) ≡ true → o ≡ None
    none_of None e = refl
    none_of (Some p) e = absurd (no_way e)

    to : (index : ℕ) → Contains (passing lacks 0 (together ns)) index → IsMissing pages space ns index
    to index there =
        let is = both (list_any (has_number index) ns) (not (is_some (page_of pages space index))) (passing_there lacks 0 (together ns) index there) in
        let number = any_there (has_number index) ns is.0 in
        record { number = number.0; among = number.1; has = number.2; none = none_of (page_of pages space index) is.1 }

    from : (index : ℕ) → IsMissing pages space ns index → Contains (passing lacks 0 (together ns)) index
    from index is =
        let above : 126 * index < is.number = grind (arith, nat_tests, is.has) in
        passing_has lacks 0 (together ns) index (omega arith) (omega (arith, above, not_greater ns is.number is.among))
        (λ i. there_any (has_number index) ns is.number is.among is.has i && not (is_some (is.none i)))

-- ---- the pointings of the slots that move

module _ (pages : List Page) (moved : SlotId → Bool) where
  abbrev pointing : SlotId → Pointing
  pointing id = record { id = id; cell = no_cell; target = option_map (λ p. p.at) (page_holding pages id.space id.number) }

  -- each slot of the list that moves, once
  abbrev chosen : List SlotId → List Pointing
  chosen [] = []
  chosen (i ∷ is) = if moved i && not (is_pointed (chosen is) i) then pointing i ∷ chosen is else chosen is

  takes : (i : SlotId) (is : List SlotId) → (moved i && not (is_pointed (chosen is) i)) ≡ true → chosen (i ∷ is) ≡ pointing i ∷ chosen is
  takes i is e = rw e refl

  leaves : (i : SlotId) (is : List SlotId) → (moved i && not (is_pointed (chosen is) i)) ≡ false → chosen (i ∷ is) ≡ chosen is
  leaves i is e = rw e refl

  chosen_targets : (is : List SlotId) → All (λ p. is_some p.target ≡ is_some (page_holding pages p.id.space p.id.number)) (chosen is)
  chosen_targets [] = All-nil (λ (p : Pointing). is_some p.target ≡ is_some (page_holding pages p.id.space p.id.number))
  chosen_targets (i ∷ is) = go (moved i && not (is_pointed (chosen is) i)) refl (chosen_targets is)
    where
      one : (o : Option Page) → is_some (option_map (λ (p : Page). p.at) o) ≡ is_some o
      one None = refl
      one (Some p) = refl

      go : (b : Bool) → (moved i && not (is_pointed (chosen is) i)) ≡ b → All (λ p. is_some p.target ≡ is_some (page_holding pages p.id.space p.id.number)) (chosen is)
          → All (λ p. is_some p.target ≡ is_some (page_holding pages p.id.space p.id.number)) (chosen (i ∷ is))
      go true e rest =
          subst (All (λ p. is_some p.target ≡ is_some (page_holding pages p.id.space p.id.number))) (sym (takes i is e))
          (All-cons (λ (p : Pointing). is_some p.target ≡ is_some (page_holding pages p.id.space p.id.number)) (pointing i) (chosen is) (one (page_holding pages i.space i.number)) rest)
      go false e rest = subst (All (λ p. is_some p.target ≡ is_some (page_holding pages p.id.space p.id.number))) (sym (leaves i is e)) rest

  -- none of them is of a slot that isn't pointed
  unpointed : (ps : List Pointing) (id : SlotId) → is_pointed ps id ≡ false → All (λ p. is_same id p.id ≡ false) ps
  unpointed [] id none = All-nil (λ (p : Pointing). is_same id p.id ≡ false)
  unpointed (p ∷ ps) id none = go (is_same p.id id) refl none (unpointed ps id)
    where
      go : (b : Bool) → is_same p.id id ≡ b → (b || is_pointed ps id) ≡ false → (is_pointed ps id ≡ false → All (λ q. is_same id q.id ≡ false) ps) → All (λ q. is_same id q.id ≡ false) (p ∷ ps)
      go true e none rest = absurd (no_way (sym none))
      go false e none rest = All-cons (λ (q : Pointing). is_same id q.id ≡ false) p ps (flipped p.id id e) (rest none)

  chosen_distinct : (is : List SlotId) → AreDistinct (chosen is)
  chosen_distinct [] = λ i j d lt inside. absurd (omega (arith, inside))
  chosen_distinct (i ∷ is) = go (moved i && not (is_pointed (chosen is) i)) refl (chosen_distinct is)
    where
      in_front : (xs : List Pointing) → All (λ q. is_same i q.id ≡ false) xs → AreDistinct xs → AreDistinct (pointing i ∷ xs)
      in_front xs apart rest a zero d lt inside = absurd (omega (arith, lt))
      in_front xs apart rest zero (suc b) d lt inside = apart b d (omega (arith, inside))
      in_front xs apart rest (suc a) (suc b) d lt inside = rest a b d (omega (arith, lt)) (omega (arith, inside))

      not_there : (a b : Bool) → (a && not b) ≡ true → b ≡ false
      not_there a false e = refl
      not_there true true e = absurd (no_way e)
      not_there false true e = absurd (no_way e)

      go : (b : Bool) → (moved i && not (is_pointed (chosen is) i)) ≡ b → AreDistinct (chosen is) → AreDistinct (chosen (i ∷ is))
      go true e rest = subst AreDistinct (sym (takes i is e)) (in_front (chosen is) (unpointed (chosen is) i (not_there (moved i) (is_pointed (chosen is) i) e)) rest)
      go false e rest = subst AreDistinct (sym (leaves i is e)) rest

  chosen_are : (is : List SlotId) (id : SlotId) → is_pointed (chosen is) id ≡ (moved id && list_any (λ i. is_same i id) is)
  chosen_are [] id = sym (nothing (moved id))
    where
      nothing : (b : Bool) → (b && false) ≡ false
      nothing true = refl
      nothing false = refl
  chosen_are (i ∷ is) id = go (is_same i id) refl (moved i && not (is_pointed (chosen is) i)) refl (chosen_are is id)
    where
      -- where the slot is taken, it moves
      taken : (m p : Bool) → (m && not p) ≡ true → m ≡ true
      taken true p e = refl
      taken false p e = absurd (no_way e)

      -- and where it isn't, it doesn't move or is there
      left : (m p q : Bool) → (m && not p) ≡ false → p ≡ (m && q) → p ≡ (m && true)
      left true true q e is = refl
      left true false q e is = absurd (no_way (sym e))
      left false p q e is = is

      go : (s : Bool) → is_same i id ≡ s → (b : Bool) → (moved i && not (is_pointed (chosen is) i)) ≡ b → is_pointed (chosen is) id ≡ (moved id && list_any (λ x. is_same x id) is)
          → is_pointed (chosen (i ∷ is)) id ≡ (moved id && (is_same i id || list_any (λ x. is_same x id) is))
      go true s true e rest =
          ap (λ l. is_pointed l id) (takes i is e)
          ∙ (λ k. s k || is_pointed (chosen is) id)
          ∙ sym ((λ k. (ap moved (sym (same_slot i id s)) ∙ taken (moved i) (is_pointed (chosen is) i) e) k && (s k || list_any (λ x. is_same x id) is)))
      go true s false e rest =
          let here : (moved id && not (is_pointed (chosen is) id)) ≡ false = sym (ap (λ x. moved x && not (is_pointed (chosen is) x)) (same_slot i id s)) ∙ e in
          ap (λ l. is_pointed l id) (leaves i is e)
          ∙ left (moved id) (is_pointed (chosen is) id) (list_any (λ x. is_same x id) is) here rest
          ∙ (λ k. moved id && (sym s k || list_any (λ x. is_same x id) is))
      go false s true e rest =
          ap (λ l. is_pointed l id) (takes i is e)
          ∙ (λ k. s k || is_pointed (chosen is) id)
          ∙ rest
          ∙ (λ k. moved id && (sym s k || list_any (λ x. is_same x id) is))
      go false s false e rest =
          ap (λ l. is_pointed l id) (leaves i is e)
          ∙ rest
          ∙ (λ k. moved id && (sym s k || list_any (λ x. is_same x id) is))

-- ---- the slots that may move

-- the slots that the overlay has in a space
abbrev noted_ids : Space → Changes → List SlotId
noted_ids space cs = map (λ e. slot_at space e.0) cs

noted_named : (id : SlotId) (cs : Changes) → is_some (lookup (nat_eq id.number) cs) ≡ true → list_any (λ i. is_same i id) (noted_ids id.space cs) ≡ true
noted_named id [] some = absurd (no_way some)
noted_named id (e ∷ es) some = go (nat_eq id.number e.0) refl (noted_named id es)
  where
    later : nat_eq id.number e.0 ≡ false → is_some (lookup (nat_eq id.number) (e ∷ es)) ≡ is_some (lookup (nat_eq id.number) es)
    later t = rw t refl

    or_right : (a b : Bool) → b ≡ true → (a || b) ≡ true
    or_right true b t = refl
    or_right false b t = t

    go : (b : Bool) → nat_eq id.number e.0 ≡ b → (is_some (lookup (nat_eq id.number) es) ≡ true → list_any (λ i. is_same i id) (noted_ids id.space es) ≡ true) → list_any (λ i. is_same i id) (noted_ids id.space (e ∷ es)) ≡ true
    go true t rest =
        let number : id.number ≡ e.0 = grind (arith, nat_tests, t) in
        let here : is_same (slot_at id.space e.0) id ≡ true = (λ k. is_same (slot_at id.space (sym number k)) id) ∙ same_itself id in
        rw here refl
    go false t rest = or_right (is_same (slot_at id.space e.0) id) (list_any (λ i. is_same i id) (noted_ids id.space es)) (rest (sym (later t) ∙ some))

changed_named : (last : List SlotChange) (id : SlotId) → list_any (λ c. is_same c.id id) last ≡ list_any (λ i. is_same i id) (map (λ c. c.id) last)
changed_named [] id = refl
changed_named (c ∷ cs) id = ap (λ b. is_same c.id id || b) (changed_named cs id)

module _ (pages : List Page) (o : Overlay) (last : List SlotChange) where
  abbrev ids : List SlotId
  ids = map (λ c. c.id) last ++ (noted_ids Objects (changes_of o Objects) ++ noted_ids System (changes_of o System))

  any_of : (id : SlotId) → list_any (λ i. is_same i id) (map (λ c. c.id) last ++ (noted_ids Objects (changes_of o Objects) ++ noted_ids System (changes_of o System)))
      ≡ (list_any (λ i. is_same i id) (map (λ c. c.id) last) || (list_any (λ i. is_same i id) (noted_ids Objects (changes_of o Objects)) || list_any (λ i. is_same i id) (noted_ids System (changes_of o System))))
  any_of id =
      list_any-append (λ i. is_same i id) (map (λ c. c.id) last) (noted_ids Objects (changes_of o Objects) ++ noted_ids System (changes_of o System))
      ∙ ap (λ b. list_any (λ i. is_same i id) (map (λ c. c.id) last) || b) (list_any-append (λ i. is_same i id) (noted_ids Objects (changes_of o Objects)) (noted_ids System (changes_of o System)))

  -- each slot that moves is one of them
  moves_named : (id : SlotId) → moves pages o last id ≡ true → list_any (λ i. is_same i id) (map (λ c. c.id) last ++ (noted_ids Objects (changes_of o Objects) ++ noted_ids System (changes_of o System))) ≡ true
  moves_named id moving = any_of id ∙ go (list_any (λ c. is_same c.id id) last) refl (is_some (lookup (nat_eq id.number) (changes_of o id.space))) refl moving
    where
      in_space : (space : Space) → id.space ≡ space → is_some (lookup (nat_eq id.number) (changes_of o id.space)) ≡ true
          → (list_any (λ i. is_same i id) (noted_ids Objects (changes_of o Objects)) || list_any (λ i. is_same i id) (noted_ids System (changes_of o System))) ≡ true
      in_space Objects e some = by (list_any (λ i. is_same i id) (noted_ids System (changes_of o System))) (list_any (λ i. is_same i id) (noted_ids Objects (changes_of o Objects))) (subst (λ s. list_any (λ i. is_same i id) (noted_ids s (changes_of o s)) ≡ true) e (noted_named id (changes_of o id.space) some))
        where
          by : (b a : Bool) → a ≡ true → (a || b) ≡ true
          by b true t = refl
          by b false t = absurd (no_way t)
      in_space System e some = by (list_any (λ i. is_same i id) (noted_ids Objects (changes_of o Objects))) (list_any (λ i. is_same i id) (noted_ids System (changes_of o System))) (subst (λ s. list_any (λ i. is_same i id) (noted_ids s (changes_of o s)) ≡ true) e (noted_named id (changes_of o id.space) some))
        where
          by : (a b : Bool) → b ≡ true → (a || b) ≡ true
          by true b t = refl
          by false b t = t

      go : (a : Bool) → list_any (λ c. is_same c.id id) last ≡ a → (b : Bool) → is_some (lookup (nat_eq id.number) (changes_of o id.space)) ≡ b → moves pages o last id ≡ true
          → (list_any (λ i. is_same i id) (map (λ c. c.id) last) || (list_any (λ i. is_same i id) (noted_ids Objects (changes_of o Objects)) || list_any (λ i. is_same i id) (noted_ids System (changes_of o System)))) ≡ true
      go true named b noted moving = rw (sym (changed_named last id) ∙ named) refl
      go false named true noted moving = or_right (list_any (λ i. is_same i id) (map (λ c. c.id) last)) _ (in_space id.space refl noted)
        where
          or_right : (a b : Bool) → b ≡ true → (a || b) ≡ true
          or_right true b t = refl
          or_right false b t = t
      go false named false noted moving = absurd (no_way (sym (still named noted) ∙ moving))
        where
          still : list_any (λ c. is_same c.id id) last ≡ false → is_some (lookup (nat_eq id.number) (changes_of o id.space)) ≡ false → moves pages o last id ≡ false
          still n m = rw (n, m) refl

  -- the lengths that a commit would place behind its slots
  pub lengths_are_there : (wide : Bool) → (lens : List ℕ) × AreLengths wide pages (moves pages o last) last (lengths_of last ++ lens)
  lengths_are_there wide =
      let ps = chosen pages (moves pages o last) ids in
      let objects = missing_are pages Objects (numbers_in Objects ps) in
      let system = missing_are pages System (numbers_in System ps) in (
        replicate (length objects.0 + length system.0) 1024 ++ log_length wide (length objects.0 + length system.0) ps ∷ [],
        record {
          pointings = ps;
          are_moved = λ id. chosen_are pages (moves pages o last) ids id ∙ all_named id;
          distinct = chosen_distinct pages (moves pages o last) ids;
          targets = chosen_targets pages (moves pages o last) ids;
          objects = objects.0;
          system = system.0;
          objects_are = objects.1;
          system_are = system.1;
          are = sym (append_assoc (lengths_of last) (replicate (length objects.0 + length system.0) 1024) (log_length wide (length objects.0 + length system.0) ps ∷ []));
        },
      )
    where
      all_named : (id : SlotId) → (moves pages o last id && list_any (λ i. is_same i id) (map (λ c. c.id) last ++ (noted_ids Objects (changes_of o Objects) ++ noted_ids System (changes_of o System)))) ≡ moves pages o last id
      all_named id = go (moves pages o last id) refl
        where
          go : (b : Bool) → moves pages o last id ≡ b → (moves pages o last id && list_any (λ i. is_same i id) (map (λ c. c.id) last ++ (noted_ids Objects (changes_of o Objects) ++ noted_ids System (changes_of o System)))) ≡ moves pages o last id
          go true e = ap (λ b. moves pages o last id && b) (moves_named id e) ∙ one (moves pages o last id)
            where
              one : (b : Bool) → (b && true) ≡ b
              one true = refl
              one false = refl
          go false e = rw e refl
