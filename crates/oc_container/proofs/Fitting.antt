-- When a value that is written fits.
use Rattle.std.proofs.Common.{◌≡◌, refl, ◌∙◌, List, map}
use Rattle.std.specs.List.{list_all}
use Rattle.oc_model.specs.declared.value.Base.{Base}
use Rattle.oc_model.specs.declared.value.Kind.{Kind}
use Rattle.oc_model.specs.declared.value.Kind.TheVariants as kind
use Rattle.oc_model.specs.declared.command.Single.{Single}
use Rattle.oc_model.specs.declared.command.Single.TheVariants as single
use Rattle.oc_model.specs.declared.command.ValueText.{ValueText}
use Rattle.oc_model.specs.declared.command.ValueText.TheVariants as valued
use Rattle.oc_model.specs.States.{State}
use Rattle.oc_model.specs.Values.{fits, fits_base}
use Rattle.oc_machine.specs.Values.{atom_of, value_of}

module _ (m : State) where
  one_alone : (b : Base) (s : Single) → fits (kind.One b) (value_of m (kind.One b) (valued.One s)) ≡ fits_base b (atom_of m b s)
  one_alone b single.Null = refl
  one_alone b (single.Bool x) = refl
  one_alone b (single.Int n) = refl
  one_alone b (single.Text t) = refl
  one_alone b (single.Name name) = refl
  one_alone b (single.Num n) = refl

  -- a single value fits a field of one where it fits its base
  pub one_fits : (k : Kind) (x : ValueText) (b : Base) (s : Single) → k ≡ kind.One b → x ≡ valued.One s → fits k (value_of m k x) ≡ fits_base b (atom_of m b s)
  one_fits k x b s is one = (λ i. fits (is i) (value_of m (is i) (one i))) ∙ one_alone b s

  -- an array fits where each of its elements fits the base
  pub many_fits : (k : Kind) (x : ValueText) (b : Base) (ss : List Single) → k ≡ kind.Many b → x ≡ valued.Many ss → fits k (value_of m k x) ≡ list_all (fits_base b) (map (atom_of m b) ss)
  many_fits k x b ss is many = λ i. fits (is i) (value_of m (is i) (many i))
