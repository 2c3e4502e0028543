-- A change that is noted in an overlay.
use Rattle.std.proofs.Common.{◌≡◌, ◌∙◌, ℕ, ◌+◌, ◌≤◌, ◌<◌, Bool, true, false, nat_eq, cond, List, [], ◌∷◌, ◌++◌, length, get_or, Option, Some, None, sym, ap, subst, refl, arith, length-append}
use Rattle.std.specs.Prelude.{All, Contains}
use Rattle.std.specs.Map.{lookup}
use Rattle.std.specs.Option.{option_flatten}
use Rattle.std.proofs.lemmas.List.{get_or_default}
use Rattle.std.proofs.lemmas.List.Elements.{All-append, Contains-append_left, Contains-append_right}
use Rattle.std.proofs.lemmas.List.Sums.{sum_by-append}
use Rattle.indexmap.specs.IndexMap.{insert_entry}
use Rattle.oc_layout.specs.declared.cells.Cell.{Cell}
use Rattle.oc_layout.specs.declared.cells.Space.{Space}
use Rattle.oc_layout.specs.declared.cells.Space.TheVariants.{Objects, System}
use Rattle.oc_layout.specs.Layout.{blocks}
use Rattle.oc_free.specs.FreeParts.{free_at}
use Rattle.oc_room.specs.Rooms.{owns, owners}
use Rattle.oc_room.specs.Rooms as rooms
use Rattle.oc_room.proofs.Counting.{no_cell, owners_within, some_blocks}
use Rattle.oc_room.proofs.Few.{few}
use Rattle.oc_slots.specs.declared.overlay.Overlay.{Overlay}
use Rattle.oc_slots.specs.declared.slot.SlotId.{SlotId}
use Rattle.oc_slots.specs.Slots.{Changes, changes_of, put_change, cell_list, places_in}
use Rattle.oc_slots.specs.Stores.{fresh_of}
use Rattle.oc_slots.specs.Noting.{noted_cells, IsSession}
use Rattle.oc_slots.proofs.Things.{left_of, right_of}

-- what is counted of cells
module _ (m : List Cell → ℕ) (add : (xs ys : List Cell) → m (xs ++ ys) ≡ m xs + m ys) where
  none : m [] ≡ 0
  none = omega (arith, add [] [])

  -- the places that are noted now and the one that was noted before
  pub put_measure : (cs : Changes) (n : ℕ) (o : Option Cell) → m (places_in (insert_entry nat_eq cs n o)) + m (cell_list (option_flatten (lookup (nat_eq n) cs))) ≡ m (places_in cs) + m (cell_list o)
  put_measure [] n o = omega (arith, add (cell_list o) [], none)
  put_measure (e ∷ es) n o = go (nat_eq n e.0) refl (put_measure es n o)
    where
      go : (b : Bool) → nat_eq n e.0 ≡ b → m (places_in (insert_entry nat_eq es n o)) + m (cell_list (option_flatten (lookup (nat_eq n) es))) ≡ m (places_in es) + m (cell_list o)
          → m (places_in (insert_entry nat_eq (e ∷ es) n o)) + m (cell_list (option_flatten (lookup (nat_eq n) (e ∷ es)))) ≡ m (places_in (e ∷ es)) + m (cell_list o)
      go true t rest = rw t (omega (arith, add (cell_list o) (places_in es), add (cell_list e.1) (places_in es)))
      go false t rest = rw t (omega (arith, rest, add (cell_list e.1) (places_in (insert_entry nat_eq es n o)), add (cell_list e.1) (places_in es)))

  pub put_fresh : (old new : Overlay) (id : SlotId) (o : Option Cell) → ((space : Space) → changes_of new space ≡ put_change id o space (changes_of old space)) → m (fresh_of new) + m (noted_cells old id) ≡ m (fresh_of old) + m (cell_list o)
  put_fresh old new id o put = go id.space refl
    where
      objects : Changes
      objects = changes_of old Objects

      system : Changes
      system = changes_of old System

      go : (space : Space) → id.space ≡ space → m (fresh_of new) + m (noted_cells old id) ≡ m (fresh_of old) + m (cell_list o)
      go Objects e =
          let one : changes_of new Objects ≡ insert_entry nat_eq (changes_of old Objects) id.number o = put Objects ∙ rw e refl in
          let two : changes_of new System ≡ changes_of old System = put System ∙ rw e refl in
          let was : noted_cells old id ≡ cell_list (option_flatten (lookup (nat_eq id.number) (changes_of old Objects))) = rw e refl in
          omega (
            arith,
            ap m was,
            ap (λ l. m (places_in l)) one,
            ap (λ l. m (places_in l)) two,
            put_measure (changes_of old Objects) id.number o,
            add (places_in (changes_of new Objects)) (places_in (changes_of new System)),
            add (places_in (changes_of old Objects)) (places_in (changes_of old System)),
          )
      go System e =
          let one : changes_of new System ≡ insert_entry nat_eq (changes_of old System) id.number o = put System ∙ rw e refl in
          let two : changes_of new Objects ≡ changes_of old Objects = put Objects ∙ rw e refl in
          let was : noted_cells old id ≡ cell_list (option_flatten (lookup (nat_eq id.number) (changes_of old System))) = rw e refl in
          omega (
            arith,
            ap m was,
            ap (λ l. m (places_in l)) one,
            ap (λ l. m (places_in l)) two,
            put_measure (changes_of old System) id.number o,
            add (places_in (changes_of new Objects)) (places_in (changes_of new System)),
            add (places_in (changes_of old Objects)) (places_in (changes_of old System)),
          )

-- what holds of all places that were noted, and of the new one, holds of all that are noted now
module _ (P : Cell → Type 0) where
  put_members : (cs : Changes) (n : ℕ) (o : Option Cell) → All P (places_in cs) → All P (cell_list o) → All P (places_in (insert_entry nat_eq cs n o))
  put_members [] n o all here = All-append P (cell_list o) [] here all
  put_members (e ∷ es) n o all here = go (nat_eq n e.0) refl (put_members es n o (right_of P (cell_list e.1) (places_in es) all) here)
    where
      go : (b : Bool) → nat_eq n e.0 ≡ b → All P (places_in (insert_entry nat_eq es n o)) → All P (places_in (insert_entry nat_eq (e ∷ es) n o))
      go true t rest = rw t (All-append P (cell_list o) (places_in es) here (right_of P (cell_list e.1) (places_in es) all))
      go false t rest = rw t (All-append P (cell_list e.1) (places_in (insert_entry nat_eq es n o)) (left_of P (cell_list e.1) (places_in es) all) rest)

  pub fresh_members : (old new : Overlay) (id : SlotId) (o : Option Cell) → ((space : Space) → changes_of new space ≡ put_change id o space (changes_of old space)) → All P (fresh_of old) → All P (cell_list o) → All P (fresh_of new)
  fresh_members old new id o put all here = go id.space refl
    where
      go : (space : Space) → id.space ≡ space → All P (fresh_of new)
      go Objects e =
          let one : changes_of new Objects ≡ insert_entry nat_eq (changes_of old Objects) id.number o = put Objects ∙ rw e refl in
          let two : changes_of new System ≡ changes_of old System = put System ∙ rw e refl in
          All-append P (places_in (changes_of new Objects)) (places_in (changes_of new System))
          (subst (λ l. All P (places_in l)) (sym one) (put_members (changes_of old Objects) id.number o (left_of P (places_in (changes_of old Objects)) (places_in (changes_of old System)) all) here))
          (subst (λ l. All P (places_in l)) (sym two) (right_of P (places_in (changes_of old Objects)) (places_in (changes_of old System)) all))
      go System e =
          let one : changes_of new System ≡ insert_entry nat_eq (changes_of old System) id.number o = put System ∙ rw e refl in
          let two : changes_of new Objects ≡ changes_of old Objects = put Objects ∙ rw e refl in
          All-append P (places_in (changes_of new Objects)) (places_in (changes_of new System))
          (subst (λ l. All P (places_in l)) (sym two) (left_of P (places_in (changes_of old Objects)) (places_in (changes_of old System)) all))
          (subst (λ l. All P (places_in l)) (sym one) (put_members (changes_of old System) id.number o (right_of P (places_in (changes_of old Objects)) (places_in (changes_of old System)) all) here))

-- each of the list is in it
pub each_in : (xs : List Cell) → All (λ c. Contains xs c) xs
each_in xs k d lt = (k, lt, get_or_default xs k (get_or xs k d) d lt)

-- what is noted now was noted before, or is the new place
pub fresh_contained : (old new : Overlay) (id : SlotId) (o : Option Cell) → ((space : Space) → changes_of new space ≡ put_change id o space (changes_of old space)) → (c : Cell) → Contains (fresh_of new) c → Contains (fresh_of old ++ cell_list o) c
fresh_contained old new id o put c (k, lt, e) =
    let all = fresh_members (λ x. Contains (fresh_of old ++ cell_list o) x) old new id o put
    (λ i d below. Contains-append_left (fresh_of old) (cell_list o) _ (each_in (fresh_of old) i d below)) (λ i d below. Contains-append_right (fresh_of old) (cell_list o) _ (each_in (cell_list o) i d below)) in
    subst (λ x. Contains (fresh_of old ++ cell_list o) x) e (all k c lt)

module _ (unit : ℕ) where
  pub owners_append : (k : ℕ) (xs ys : List Cell) → owners unit (xs ++ ys) k ≡ owners unit xs k + owners unit ys k
  owners_append k xs ys = sum_by-append (λ c. cond (owns unit k c) 1 0) xs ys

-- no more slots are noted and placed than the file has blocks
pub few_noted : (o : Overlay) (room : rooms.Space) (counted : ℕ) (more : List Cell) → IsSession o room counted more → length (fresh_of o) + length more ≤ room.end
few_noted o room counted more is =
    let inside : All (λ c. c.at < room.end) (fresh_of o ++ more) = λ k d lt. omega (arith, is.within k d lt, some_blocks room.unit _ is.is_room.unit (is.some k d lt)) in
    omega (arith, length-append (fresh_of o) more, few room.unit room.end is.is_room.unit (fresh_of o ++ more) is.some inside (λ k. omega (arith, is.taken k)))

-- a slot that was noted before has a byte, lies in the file, and none of its blocks is free
module _ (o : Overlay) (room : rooms.Space) (counted : ℕ) (more : List Cell) (is : IsSession o room counted more) (id : SlotId) (c : Cell) (was : option_flatten (lookup (nat_eq id.number) (changes_of o id.space)) ≡ Some c) where
  in_space : (cs : Changes) (n : ℕ) → option_flatten (lookup (nat_eq n) cs) ≡ Some c → Contains (places_in cs) c
  in_space [] n e = absurd (none e)
    where
      none : None ≡ Some c → ⊥
      none e = cc
  in_space (x ∷ xs) n e = go (nat_eq n x.0) refl (in_space xs n)
    where
      here : (q : Option Cell) → q ≡ Some c → Contains (cell_list q) c
      here q e = subst (λ r. Contains (cell_list r) c) (sym e) (0, omega arith, refl)

      go : (b : Bool) → nat_eq n x.0 ≡ b → (option_flatten (lookup (nat_eq n) xs) ≡ Some c → Contains (places_in xs) c) → Contains (places_in (x ∷ xs)) c
      go true t rest = Contains-append_left (cell_list x.1) (places_in xs) c (here x.1 (sym (first t) ∙ e))
        where
          first : nat_eq n x.0 ≡ true → option_flatten (lookup (nat_eq n) (x ∷ xs)) ≡ x.1
          first t = rw t refl
      go false t rest = Contains-append_right (cell_list x.1) (places_in xs) c (rest (sym (later t) ∙ e))
        where
          later : nat_eq n x.0 ≡ false → option_flatten (lookup (nat_eq n) (x ∷ xs)) ≡ option_flatten (lookup (nat_eq n) xs)
          later t = rw t refl

  among : Contains (fresh_of o) c
  among = go id.space refl
    where
      go : (space : Space) → id.space ≡ space → Contains (fresh_of o) c
      go Objects e = Contains-append_left (places_in (changes_of o Objects)) (places_in (changes_of o System)) c (in_space (changes_of o Objects) id.number ((λ i. option_flatten (lookup (nat_eq id.number) (changes_of o (sym e i)))) ∙ was))
      go System e = Contains-append_right (places_in (changes_of o Objects)) (places_in (changes_of o System)) c (in_space (changes_of o System) id.number ((λ i. option_flatten (lookup (nat_eq id.number) (changes_of o (sym e i)))) ∙ was))

  both : Contains (fresh_of o ++ more) c
  both = Contains-append_left (fresh_of o) more c among

  of_all : (P : Cell → Type 0) → All P (fresh_of o ++ more) → P c
  of_all P all = subst P both.2 (all both.0 c both.1)

  pub noted_some : 1 ≤ c.len
  noted_some = of_all (λ x. 1 ≤ x.len) is.some

  pub noted_within : c.at + blocks room.unit c.len ≤ room.end
  noted_within = of_all (λ x. x.at + blocks room.unit x.len ≤ room.end) is.within

  pub noted_one : 1 ≤ length (fresh_of o)
  noted_one = omega (arith, among.1)

  pub noted_taken : (k : ℕ) → owns room.unit k c ≡ true → free_at room.parts k ≡ 0
  noted_taken k own =
      let here = owners_within room.unit k both.0 (fresh_of o ++ more) both.1 in
      let same : get_or (fresh_of o ++ more) both.0 no_cell ≡ c = get_or_default (fresh_of o ++ more) both.0 no_cell c both.1 ∙ both.2 in
      omega (arith, is.taken k, here, ap {B = ℕ} (λ x. cond (owns room.unit k x) 1 0) same, ap {B = ℕ} (λ b. cond b 1 0) own)
