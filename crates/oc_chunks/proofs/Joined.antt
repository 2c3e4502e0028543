-- Chunks of which some neighbours are joined.
use Rattle.std.proofs.Common.{◌≡◌, ◌⊎◌, ◌∙◌, ap, ap₂, sym, refl, subst, inl, inr, ℕ, Bool, true, false, ◌||◌, ◌&&◌, List, [], ◌∷◌, ◌++◌, append-nil, append_assoc}
use Rattle.std.specs.List.{list_any}
use Rattle.std.proofs.lemmas.Bool.{false≢true}
use Rattle.std.proofs.lemmas.List.Concat.{flat_map-append}
use Rattle.std.proofs.lemmas.List.Folds.{list_any-append}
use Rattle.oc_chunks.specs.Chunks.{Chunk, joined}
use Rattle.oc_chunks.specs.Joining.{is_small, are_small, ComesFirst, Joins, NoneSmall}

or_first : (a b : Bool) → a ≡ true → (a || b) ≡ true
or_first true b it = refl
or_first false b it = absurd (false≢true it)

or_second : (a b : Bool) → b ≡ true → (a || b) ≡ true
or_second true b it = refl
or_second false b it = it

either : (a b : Bool) → (a || b) ≡ true → (a ≡ true) ⊎ (b ≡ true)
either true b it = inl refl
either false b it = inr it

pub both : (a b : Bool) → (a && b) ≡ true → (a ≡ true) × (b ≡ true)
both true b it = (refl, it)
both false b it = absurd (false≢true it)

module _ {X : Type 0} (bytes : X → ℕ) (most : ℕ) where
  abbrev has_changed : Chunk X → Bool
  has_changed c = c.changed

  -- the two as one
  abbrev pub joint_of : Chunk X → Chunk X → Chunk X
  joint_of c d = record { entries = c.entries ++ d.entries; number = c.number; changed = true }

  pub joins_self : (cs : List (Chunk X)) → Joins bytes most cs cs
  joins_self [] = refl
  joins_self (c ∷ cs) = (record { first = c; more = []; rest = cs; split = refl; is = inl (refl, refl) }, joins_self cs)

  module _ (c : Chunk X) (old : List (Chunk X)) (f : ComesFirst bytes most c old) where
    came_entries : c.entries ≡ joined (f.first ∷ f.more)
    came_entries = elim f.is [
      | inl same ↦ ap (λ d. d.entries) same.0 ∙ sym (append-nil f.first.entries) ∙ ap (λ l. joined (f.first ∷ l)) (sym same.1)
      | inr joint ↦ joint.entries
    ]

    came_number : c.number ≡ f.first.number
    came_number = elim f.is [ inl same ↦ ap (λ d. d.number) same.0 | inr joint ↦ joint.number ]

    came_changed : c.changed ≡ true → list_any has_changed (f.first ∷ f.more) ≡ true
    came_changed it = elim f.is [
      | inl same ↦ or_first f.first.changed (list_any has_changed f.more) (sym (ap has_changed same.0) ∙ it)
      | inr joint ↦ joint.one_changed
    ]

  -- two neighbours more are joined
  pub joins_more : (old before : List (Chunk X)) (c d : Chunk X) (after : List (Chunk X)) → are_small bytes most c d ≡ true → Joins bytes most old (before ++ c ∷ d ∷ after) → Joins bytes most old (before ++ joint_of c d ∷ after)
  joins_more old [] c d after small j =
      let f = j.0 in
      let s = j.1.0 in
      let first = f.first ∷ f.more in
      let second = s.first ∷ s.more in
      let it = both (c.changed || d.changed) (is_small bytes most (c.entries ++ d.entries)) small in
      let one : (list_any has_changed first || list_any has_changed second) ≡ true = elim (either c.changed d.changed it.0) [
        | inl changed ↦ or_first (list_any has_changed first) (list_any has_changed second) (came_changed c old f changed)
        | inr changed ↦ or_second (list_any has_changed first) (list_any has_changed second) (came_changed d f.rest s changed)
      ] in (
        record {
          first = f.first;
          more = f.more ++ second;
          rest = s.rest;
          split = f.split ∙ ap (λ l. f.first ∷ (f.more ++ l)) s.split ∙ ap (λ l. f.first ∷ l) (sym (append_assoc f.more second s.rest));
          is = inr (record {
            entries = ap₂ (λ k l. k ++ l) (came_entries c old f) (came_entries d f.rest s) ∙ sym (flat_map-append (λ e. e.entries) first second);
            number = came_number c old f;
            changed = refl;
            one_changed = list_any-append has_changed first second ∙ one;
            small = it.1;
          });
        },
        j.1.1,
      )
  joins_more old (b ∷ before) c d after small j = (j.0, joins_more j.0.rest before c d after small j.1)

  -- the entries stay
  pub joined_same : (old new : List (Chunk X)) → Joins bytes most old new → joined new ≡ joined old
  joined_same old [] j = ap joined (sym j)
  joined_same old (c ∷ new) j =
      let f = j.0 in
      ap₂ (λ k l. k ++ l) (came_entries c old f) (joined_same f.rest new j.1) ∙ sym (ap joined f.split ∙ flat_map-append (λ e. e.entries) (f.first ∷ f.more) f.rest)

  -- ---- chunks of which no neighbours are small

  pub none_front : (cs ds : List (Chunk X)) → NoneSmall bytes most (cs ++ ds) → NoneSmall bytes most cs
  none_front [] ds n = tt
  none_front (c ∷ []) ds n = tt
  none_front (c ∷ d ∷ cs) ds n = (n.0, none_front (d ∷ cs) ds n.1)

  pub none_more : (cs : List (Chunk X)) (c d : Chunk X) → NoneSmall bytes most (cs ++ c ∷ []) → are_small bytes most c d ≡ false → NoneSmall bytes most (cs ++ c ∷ d ∷ [])
  none_more [] c d n off = (off, tt)
  none_more (b ∷ []) c d n off = (n.0, (off, tt))
  none_more (a ∷ b ∷ cs) c d n off = (n.0, none_more (b ∷ cs) c d n.1 off)

  pub none_one : (cs : List (Chunk X)) → (c : Chunk X) → cs ≡ c ∷ [] → NoneSmall bytes most cs
  none_one cs c is = subst (NoneSmall bytes most) (sym is) tt
