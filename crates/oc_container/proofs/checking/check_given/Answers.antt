use Rattle.std.proofs.Common.{◌≡◌, not, Err, sym, ap, ◌∙◌, rules}
use Rattle.std.specs.Option.{option_copied}
use Rattle.oc_model.specs.declared.answer.Word.TheVariants as word
use Rattle.oc_model.specs.Refusals.{◌>>◌, unless as unless_in}
use Rattle.oc_model.specs.Values.{fits as fits_in}
use Rattle.oc_machine.specs.Values.{value_found, value_of}
use Rattle.oc_container.specs.Givens.{given_checked, names_back}
use Rattle.oc_container.specs.Outlined.{outlined}
use Rattle.oc_container.proofs.Checks.{one_checked, refused_first, refused_second, taken_twice}
use Rattle.oc_container.proofs.checking.check_given.Goals as goal

pub returns-in_err-unless : goal.returns-in_err-unless
returns-in_err-unless c =
    let m = outlined c.args.store.now c.args.live.now in
    let g = c.args.given.now in
    let f = c.in-Some.field.now in
    let b = c.is_named.result in
    let checked : given_checked m c.args.class (names_back c.args.earlier.now) g ≡ (unless_in (not b) word.Exists >> value_found m g.value >> unless_in (fits_in f.kind (value_of m f.kind g.value)) word.Kind) =
    one_checked m c.args.class c.args.earlier.now g c.schema.result.now c.as_slice-name.result.now f b c.schema.ensures c.as_slice-name.ensures (sym c.field_named.ensures ∙ ap option_copied c.in-Some.is) c.is_named.ensures in
    let w = c.in_err-unless.field-0.0 in
    let told : c.from_residual.result ≡ Err w = search rules in
    told ∙ sym (refused_first _ _ _ w (sym c.unless.ensures ∙ c.in_err-unless.was)) ∙ sym checked

pub returns-in_err-find_value : goal.returns-in_err-find_value
returns-in_err-find_value c =
    let m = outlined c.args.store.now c.args.live.now in
    let g = c.args.given.now in
    let f = c.in-Some.field.now in
    let b = c.is_named.result in
    let checked : given_checked m c.args.class (names_back c.args.earlier.now) g ≡ (unless_in (not b) word.Exists >> value_found m g.value >> unless_in (fits_in f.kind (value_of m f.kind g.value)) word.Kind) =
    one_checked m c.args.class c.args.earlier.now g c.schema.result.now c.as_slice-name.result.now f b c.schema.ensures c.as_slice-name.ensures (sym c.field_named.ensures ∙ ap option_copied c.in-Some.is) c.is_named.ensures in
    let w = c.in_err-find_value.field-0.0 in
    let told : c.from_residual-in_err-find_value.result ≡ Err w = search rules in
    told ∙ sym (refused_second _ _ _ w (sym c.unless.ensures ∙ c.in_ok-unless.was) (sym c.find_value.ensures ∙ c.in_err-find_value.was)) ∙ sym checked

pub returns : goal.returns
returns c =
    let m = outlined c.args.store.now c.args.live.now in
    let g = c.args.given.now in
    let f = c.in-Some.field.now in
    let b = c.is_named.result in
    let checked : given_checked m c.args.class (names_back c.args.earlier.now) g ≡ (unless_in (not b) word.Exists >> value_found m g.value >> unless_in (fits_in f.kind (value_of m f.kind g.value)) word.Kind) =
    one_checked m c.args.class c.args.earlier.now g c.schema.result.now c.as_slice-name.result.now f b c.schema.ensures c.as_slice-name.ensures (sym c.field_named.ensures ∙ ap option_copied c.in-Some.is) c.is_named.ensures in
    c.unless-2.ensures ∙ ap (λ t. unless_in t word.Kind) (c.fits.ensures m)
    ∙ sym (taken_twice _ _ _ (sym c.unless.ensures ∙ c.in_ok-unless.was) (sym c.find_value.ensures ∙ c.in_ok-find_value.was)) ∙ sym checked
