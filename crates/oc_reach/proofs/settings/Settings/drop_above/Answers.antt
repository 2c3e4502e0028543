-- The closure tests the class alone.
use Rattle.std.proofs.Common.{◌≡◌, nat_le, filter, sym, refl, ap, ◌∙◌, ℕ}
use Rattle.std.proofs.lemmas.Map.Entries.{filter_from_retain_pairs}
use Rattle.oc_model.specs.declared.reach.ClassSettings.{ClassSettings}
use Rattle.oc_model.specs.Maps.{Map}
use Rattle.oc_model.specs.States.{Settings}
use Rattle.oc_reach.proofs.settings.Settings.drop_above.Goals as goal

abbrev of_parts : ℕ → ℕ → Map ClassSettings → Settings
of_parts activation update classes = record { activation = activation; update = update; classes = classes }

pub returns : goal.returns
returns c =
    let test : ℕ × ClassSettings → _ = λ (e : ℕ × ClassSettings). nat_le e.0 c.args.classes in
    let kept = filter_from_retain_pairs _ (λ f. f.0.now ≡ c.args.classes) test
    (λ g k v b w g' i t.
    let said = t.called.met.0.said-raw.1.1.1.1 in
    (said.0 ∙ ap (λ n. nat_le n g.0.now) t.shows.0 ∙ ap (nat_le k) i, sym t.leaves ∙ said.1 ∙ t.shows.1, ap (λ x. x.now) t.called.met.1 ∙ i))
    _ c.self.inside.classes.entries c.retain.new.self.entries refl c.retain.ensures.filtered in
    ap (of_parts c.self.inside.activation c.self.inside.update) kept
    ∙ ap (λ (s : Settings). of_parts s.activation s.update (filter test s.classes)) c.self.view_is
