-- What a text begins with, ends with and contains, by what stands before and behind.
use Rattle.std.proofs.Common.{◌≡◌, ◌↔◌, Bool, true, false, ◌||◌, [], ◌∷◌, ◌++◌, length, take, drop, ◌-◌, refl, ap, sym, true≢false}
use Rattle.std.specs.Str.Iter.{HasSubslice}
use Rattle.std.proofs.lemmas.Bool.Decides.{Decides-eqb}
use Rattle.std.proofs.lemmas.Slice.Eq.{starts_is, ends_is}
use Rattle.oc_model.specs.Maps.{Text}
use Rattle.oc_model.specs.Queries.{begins_with, closes_with, has_part}

pub begins_is : (part text : Text) → (begins_with part text ≡ true) ↔ ((rest : Text) × (text ≡ part ++ rest))
begins_is part text = let r = starts_is Decides-eqb text part (begins_with part text) refl in (λ h. (drop (length part) text, r.0 h), λ p. r.1 p.0 p.1)

pub closes_is : (part text : Text) → (closes_with part text ≡ true) ↔ ((front : Text) × (text ≡ front ++ part))
closes_is part text = let r = ends_is Decides-eqb text part (closes_with part text) refl in (λ h. (take (length text - length part) text, r.0 h), λ p. r.1 p.0 p.1)

part_of_front : (part text : Text) → begins_with part text ≡ true → HasSubslice text part
part_of_front part text h = let r = (begins_is part text).0 h in ([], r.0, r.1)

has_part_gives : (part text : Text) → has_part part text ≡ true → HasSubslice text part
has_part_gives part [] h =
    (elim (begins_with part []) as (λ b. begins_with part [] ≡ b → (b || false) ≡ true → HasSubslice [] part) [
      | true ↦ λ e _. part_of_front part [] e
      | false ↦ λ _ h. absurd (true≢false (sym h))
    ]) refl h
has_part_gives part (c ∷ t) h =
    (elim (begins_with part (c ∷ t)) as (λ b. begins_with part (c ∷ t) ≡ b → (b || has_part part t) ≡ true → HasSubslice (c ∷ t) part) [
      | true ↦ λ e _. part_of_front part (c ∷ t) e
      | false ↦ λ _ h. let r = has_part_gives part t h in (c ∷ r.0, r.1, ap (λ u. c ∷ u) r.2)
    ]) refl h

begins_has : (part text : Text) → begins_with part text ≡ true → has_part part text ≡ true
begins_has part [] h = ap (λ b. b || false) h
begins_has part (c ∷ t) h = ap (λ b. b || has_part part t) h

later_has : (part : Text) (b : Bool) (t : Text) → has_part part t ≡ true → (b || has_part part t) ≡ true
later_has part true t h = refl
later_has part false t h = h

has_part_from : (part text front rest : Text) → text ≡ front ++ (part ++ rest) → has_part part text ≡ true
has_part_from part text [] rest e = begins_has part text ((begins_is part text).1 (rest, e))
has_part_from part [] (x ∷ front) rest e = absurd (let f : [] ≡ x ∷ (front ++ (part ++ rest)) = e in cc)
has_part_from part (c ∷ t) (x ∷ front) rest e =
    let f : c ∷ t ≡ x ∷ (front ++ (part ++ rest)) = e in
    let g : t ≡ front ++ (part ++ rest) = cc in
    later_has part (begins_with part (c ∷ t)) t (has_part_from part t front rest g)

pub has_part_is : (part text : Text) → (has_part part text ≡ true) ↔ HasSubslice text part
has_part_is part text = (has_part_gives part text, λ p. has_part_from part text p.0 p.1 p.2)
