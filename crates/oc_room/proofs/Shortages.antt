-- The first length that finds no room, in bytes and in blocks.
use Rattle.std.proofs.Common.{◌≡◌, ◌∙◌, ℕ, suc, ◌+◌, ◌≤◌, Bool, true, false, cond, leb, List, [], ◌∷◌, map, Option, Some, None, sym, ap, refl, arith}
use Rattle.std.specs.List.{All}
use Rattle.std.proofs.lemmas.Bool.Decides.{nat_tests}
use Rattle.oc_layout.specs.Layout.{blocks}
use Rattle.oc_model.specs.Space.{Part, Shortage, best_fit, without, shortage}
use Rattle.oc_room.specs.Rooms.{Space, Placed, is_nameable, unplaced, place_in, lacking}

-- what is lacking when the first need goes to this part, or to the end
abbrev after_first : List Part → ℕ → ℕ → ℕ → List ℕ → Option Part → Option Shortage
after_first free len limit need needs (Some p) = shortage (without free p.address need) len limit needs
after_first free len limit need needs None = elim (leb (len + need) limit) [ true ↦ shortage free (len + need) limit needs | false ↦ Some (record { need = need; length = len }) ]

by_first : (free : List Part) (len limit need : ℕ) (needs : List ℕ) → shortage free len limit (need ∷ needs) ≡ after_first free len limit need needs (best_fit free need)
unfolding shortage best_fit
by_first free len limit need needs = refl

step_model : (free : List Part) (len limit need : ℕ) (needs : List ℕ) (o : Option Part) → best_fit free need ≡ o → shortage free len limit (need ∷ needs) ≡ after_first free len limit need needs o
step_model free len limit need needs o e = by_first free len limit need needs ∙ ap (after_first free len limit need needs) e

step_here : (unit limit : ℕ) (p : Placed) (len : ℕ) (lens : List ℕ) (o : Option Part) (b : Bool) → best_fit p.parts (blocks unit len) ≡ o → leb (p.end + blocks unit len) limit ≡ b → is_nameable len ≡ true
    → lacking unit limit p (len ∷ lens) ≡ elim o [ Some q ↦ lacking unit limit (place_in unit len p (Some q)) lens | None ↦ cond b (lacking unit limit (place_in unit len p None) lens) (Some (record { need = blocks unit len; length = p.end })) ]
unfolding lacking
step_here unit limit p len lens (Some q) b e room named = rw (e, named) refl
step_here unit limit p len lens None b e room named = rw (e, named, room) refl

nothing_lacks : (unit limit : ℕ) (p : Placed) → lacking unit limit p [] ≡ shortage p.parts p.end limit []
unfolding lacking shortage
nothing_lacks unit limit p = refl

lacking_from : (unit limit : ℕ) (p : Placed) (lens : List ℕ) → All (λ len. len ≤ 4294967295) lens → lacking unit limit p lens ≡ shortage p.parts p.end limit (map (blocks unit) lens)
lacking_from unit limit p [] named = nothing_lacks unit limit p
lacking_from unit limit p (len ∷ lens) named = go (best_fit p.parts (blocks unit len)) refl (leb (p.end + blocks unit len) limit) refl (λ q. lacking_from unit limit q lens (λ k d lt. named (suc k) d (omega (arith, lt))))
  where
    is : is_nameable len ≡ true
    is = grind (arith, nat_tests, named 0 0 (omega arith))

    go : (o : Option Part) → best_fit p.parts (blocks unit len) ≡ o → (b : Bool) → leb (p.end + blocks unit len) limit ≡ b
        → ((q : Placed) → lacking unit limit q lens ≡ shortage q.parts q.end limit (map (blocks unit) lens))
        → lacking unit limit p (len ∷ lens) ≡ shortage p.parts p.end limit (map (blocks unit) (len ∷ lens))
    go (Some q) e b room rest =
        step_here unit limit p len lens (Some q) b e room is
        ∙ rest (place_in unit len p (Some q))
        ∙ sym (step_model p.parts p.end limit (blocks unit len) (map (blocks unit) lens) (Some q) e)
    go None e true room rest =
        step_here unit limit p len lens None true e room is
        ∙ rest (place_in unit len p None)
        ∙ sym (step_model p.parts p.end limit (blocks unit len) (map (blocks unit) lens) None e ∙ rw (after_first, room) refl)
    go None e false room rest =
        step_here unit limit p len lens None false e room is
        ∙ sym (step_model p.parts p.end limit (blocks unit len) (map (blocks unit) lens) None e ∙ rw (after_first, room) refl)

pub lacking_is : (unit limit : ℕ) (room : Space) (lens : List ℕ) → All (λ len. len ≤ 4294967295) lens → lacking unit limit (unplaced room) lens ≡ shortage room.parts room.end limit (map (blocks unit) lens)
lacking_is unit limit room lens named = lacking_from unit limit (unplaced room) lens named
