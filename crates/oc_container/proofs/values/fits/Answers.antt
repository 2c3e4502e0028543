use Rattle.std.proofs.Common.{sym, ap, ◌∙◌, map}
use Rattle.std.specs.List.{list_all}
use Rattle.oc_model.specs.Values.{fits_base}
use Rattle.oc_machine.specs.Values.{atom_of}
use Rattle.oc_container.proofs.Fitting.{many_fits, one_fits}
use Rattle.oc_container.proofs.values.fits.Goals as goal

pub returns-in-One-One : goal.returns-in-One-One
returns-in-One-One c = λ m. c.fits_single.ensures m ∙ sym (one_fits m c.args.kind c.args.value.now c.in-One-One.base c.in-One-One.single c.in-One-One.is-0 c.in-One-One.is-1)

pub returns-in-Many-Many : goal.returns-in-Many-Many
returns-in-Many-Many c = λ m.
    c.fits_singles.ensures m
    ∙ ap (λ ss. list_all (fits_base c.in-Many-Many.base) (map (atom_of m c.in-Many-Many.base) ss)) c.as_slice.ensures
    ∙ sym (many_fits m c.args.kind c.args.value.now c.in-Many-Many.base c.in-Many-Many.singles c.in-Many-Many.is-0 c.in-Many-Many.is-1)
