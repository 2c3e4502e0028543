use Rattle.std.proofs.Common.{◌≡◌, ◌∙◌, ℕ, nat_eq, ◌++◌, map, sym, ap, subst, refl}
use Rattle.std.specs.Prelude.{Contains, IsSome}
use Rattle.std.specs.Map.{lookup}
use Rattle.std.specs.Option.{option_map_or}
use Rattle.oc_layout.specs.declared.cells.Space as spaces
use Rattle.oc_layout.specs.declared.cells.Space.TheVariants.{Objects, System}
use Rattle.oc_pages.specs.Pages.{pointer_of}
use Rattle.oc_pages.proofs.Listings.{ascending_are}
use Rattle.oc_slots.specs.Slots.{changes_of}
use Rattle.oc_slots.specs.Stores.{Slots, changes_in, session_place}
use Rattle.oc_slots.proofs.Numbers.{key_of, session_key}
use Rattle.oc_slots.proofs.SessionSteps.{seen}
use Rattle.oc_slots.proofs.store.SlotStore.session_numbers.Goals as goal

pub returns : goal.returns
returns c =
    let s = c.self.inside in
    let place : ℕ → _ = λ n. session_place c.args.self.now (record { space = c.args.space; number = n }) in
    let all = c.put_numbers.new.numbers.items in
    let joined : all ≡ c.args.committed.items ++ map key_of (changes_of s.overlay c.args.space) = c.in_ok-put_numbers.ensures in
    ascending_are (Contains c.in_ok-there.there.items) (λ n. IsSome (place n)) c.in_ok-once.once.items
    (λ n.
    let both = c.in_ok-there.ensures n in (
      λ there. (both.0 there).1,
      λ some. both.1 (
        subst (λ l. Contains l n) (sym (c.deref.ensures.value ∙ joined)) (session_key n (pointer_of s.pages.pages c.args.space n) c.args.committed.items (changes_of s.overlay c.args.space)
            (λ base. (c.requires.exact n).1 (subst (λ (v : Slots). IsSome (pointer_of v.pages c.args.space n)) c.self.view_is base)) (subst IsSome (sym (is n)) some)),
        some,
      ),
    ))
    c.in_ok-once.ensures
  where
    in_space : (space : spaces.Space) → changes_in (seen c.self.inside.header c.self.inside.pages c.self.inside.overlay c.self.inside.room c.self.inside.len) space ≡ changes_of c.self.inside.overlay space
    in_space Objects = refl
    in_space System = refl

    is : (n : ℕ) → option_map_or (λ x. x) (lookup (nat_eq n) (changes_of c.self.inside.overlay c.args.space)) (pointer_of c.self.inside.pages.pages c.args.space n) ≡ session_place c.args.self.now (record { space = c.args.space; number = n })
    is n = ap (λ cs. option_map_or (λ x. x) (lookup (nat_eq n) cs) (pointer_of c.self.inside.pages.pages c.args.space n)) (sym (in_space c.args.space)) ∙ (λ i. session_place (c.self.view_is i) (record { space = c.args.space; number = n }))
