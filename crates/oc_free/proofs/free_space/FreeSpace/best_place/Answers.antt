use Rattle.std.proofs.Common.{◌≡◌, ◌<◌, ◌∙◌, ap, sym, subst, length, Some, None, arith}
use Rattle.std.proofs.lemmas.Bool.Decides.{nat_tests}
use Rattle.std.proofs.lemmas.List.{get_or_default}
use Rattle.oc_model.specs.Space.{Part}
use Rattle.oc_free.specs.Orders.{no_part, part_at, IsFirstFit, IsPlaceOf}
use Rattle.oc_free.proofs.Fits.{IsBest, best_fit_is, best_only, none_fits, first_is_best}
use Rattle.oc_free.proofs.Ordered.{in_addresses, placed_at, read_part}
use Rattle.oc_free.proofs.free_space.FreeSpace.best_place.Goals as goal

-- none by size holds the need
module _ (c : goal.Then-rank-len) where
  past : c.first_fit-rank.result ≡ length c.self.inside.by_size.items
  past = c.if-rank-len.true ∙ (c.len.ensures ∙ (sym c.deref.ensures.len ∙ ap length c.deref.ensures.value))

  none : IsBest c.self.inside.by_address.items c.args.need None
  none = none_fits _ _ c.self.invariant c.args.need c.first_fit-rank.result (subst (λ l. IsFirstFit c.args.need l c.first_fit-rank.result) c.deref.ensures.value c.first_fit-rank.ensures) past

pub returns-then-rank-len-clause-best : goal.returns-then-rank-len-clause-best
returns-then-rank-len-clause-best c = rw (← c.self.view_is) (best_only c.self.inside.by_address.items c.args.need _ None (best_fit_is _ _) (none c))

pub returns-then-rank-len-clause-none : goal.returns-then-rank-len-clause-none
returns-then-rank-len-clause-none c = rw (← c.self.view_is) (λ k d lt. subst (λ (q : Part). q.blocks < c.args.need) (get_or_default c.self.inside.by_address.items k no_part d lt) (none c k lt))

-- the first by size that holds it is the best, and stands at the place of its address
module _ (c : goal.After-place_of) where
  within : c.first_fit-rank.result < length c.self.inside.by_size.items
  within = grind (arith, nat_tests, c.first_fit-rank.ensures.within, c.if-rank-len.false, c.len.ensures, c.deref.ensures.len, ap length c.deref.ensures.value)

  fit : IsFirstFit c.args.need c.self.inside.by_size.items c.first_fit-rank.result
  fit = subst (λ l. IsFirstFit c.args.need l c.first_fit-rank.result) c.deref.ensures.value c.first_fit-rank.ensures

  seen : c.index.result.now ≡ part_at c.self.inside.by_size.items c.first_fit-rank.result
  seen = read_part _ _ _ within c.index.ensures

  place : IsPlaceOf (part_at c.self.inside.by_size.items c.first_fit-rank.result).address c.self.inside.by_address.items c.place_of.result
  place = subst (λ n. IsPlaceOf n c.self.inside.by_address.items c.place_of.result) (c.address.ensures ∙ ap (λ (q : Part). q.address) seen)
      (subst (λ l. IsPlaceOf c.address.result l c.place_of.result) c.deref-2.ensures.value c.place_of.ensures)

  at : (c.place_of.result < length c.self.inside.by_address.items) × (part_at c.self.inside.by_address.items c.place_of.result ≡ part_at c.self.inside.by_size.items c.first_fit-rank.result)
  at = placed_at _ _ _ c.self.invariant.free.apart place (in_addresses _ _ c.self.invariant c.first_fit-rank.result within)

  is_best : IsBest c.self.inside.by_address.items c.args.need (Some (part_at c.self.inside.by_address.items c.place_of.result))
  is_best = subst (λ q. IsBest c.self.inside.by_address.items c.args.need (Some q)) (sym at.1) (first_is_best _ _ c.self.invariant c.args.need c.first_fit-rank.result fit within)

pub returns-clause-best : goal.returns-clause-best
returns-clause-best c = rw (← c.self.view_is) (best_only c.self.inside.by_address.items c.args.need _ _ (best_fit_is _ _) (is_best c))

pub returns-clause-within : goal.returns-clause-within
returns-clause-within c = rw (← c.self.view_is) (at c).0

pub returns-clause-holds : goal.returns-clause-holds
returns-clause-holds c = rw (← c.self.view_is) (is_best c).1
