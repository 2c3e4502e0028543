-- Kinds, values, and fields with one or the other: what is spelled is read, and what is read is spelled.
use Rattle.std.proofs.Common.{◌≡◌, inl, inr, true, false, not, List, [], ◌∷◌, ◌++◌, refl, sym, ap, ◌∙◌, subst, pos, drop}
use Rattle.std.specs.Prelude.{codes, Option, Some, neg_ℤ}
use Rattle.oc_model.specs.declared.value.Base.{Base}
use Rattle.oc_model.specs.declared.value.Base.TheVariants as base
use Rattle.oc_model.specs.declared.value.Kind.{Kind}
use Rattle.oc_model.specs.declared.value.Kind.TheVariants as kind
use Rattle.oc_model.specs.declared.command.Single.{Single}
use Rattle.oc_model.specs.declared.command.Single.TheVariants as single
use Rattle.oc_model.specs.declared.command.ValueText.{ValueText}
use Rattle.oc_model.specs.declared.command.ValueText.TheVariants as valued
use Rattle.oc_model.specs.Maps.{Text}
use Rattle.oc_machine.specs.declared.token.Sign.{Sign}
use Rattle.oc_machine.specs.declared.token.Sign.TheVariants.{OpenBracket, CloseBracket, Colon}
use Rattle.oc_machine.specs.declared.token.Token.{Token}
use Rattle.oc_machine.specs.declared.token.Token.TheVariants.{Word as a_word, Nat, Minus, Num, Text as a_text, Sign as a_sign}
use Rattle.oc_machine.specs.Lexing.{◌>>=◌}
use Rattle.oc_machine.specs.Parsers.{Parser, next_is, expect, is_reserved, up_to}
use Rattle.oc_machine.specs.ReadingValues.{base_named, a_kind, decl, single_named, single_of, a_single, a_value, given}
use Rattle.oc_machine.specs.GrammarValues.{Tokens, IsName, base_word, SpellsKind, SpellsDecl, SpellsSingle, SpellsValue, SpellsGiven}
use Rattle.oc_machine.proofs.Combinators.{none_some, some_same, test_some, not_true, no_word, ReadsBefore, Any, Fronts, ReadsOnly, pure_gives, then_gives, name_gives, expect_gives, choice_gives, sign_tells, token_only, word_gives, named_gives, otherwise}
use Rattle.oc_machine.proofs.Lists.{UpTo, Opens, up_to_read, up_to_only}

-- ---- kinds

base_is : (t : Text) (b : Base) → base_named t ≡ Some b → t ≡ base_word b
base_is t =
    named_gives t (codes "bool") base.Bool _ _ (λ e. e)
    (named_gives t (codes "i8") base.I8 _ _ (λ e. e)
    (named_gives t (codes "i16") base.I16 _ _ (λ e. e)
    (named_gives t (codes "i32") base.I32 _ _ (λ e. e)
    (named_gives t (codes "i64") base.I64 _ _ (λ e. e)
    (named_gives t (codes "u64") base.U64 _ _ (λ e. e)
    (named_gives t (codes "i128") base.I128 _ _ (λ e. e)
    (named_gives t (codes "text") base.Text _ _ (λ e. e)
    (named_gives t (codes "ref") base.Ref _ _ (λ e. e) (λ b h. none_some b h)))))))))

base_read : (b : Base) → base_named (base_word b) ≡ Some b
base_read base.Bool = refl
base_read base.I8 = refl
base_read base.I16 = refl
base_read base.I32 = refl
base_read base.I64 = refl
base_read base.U64 = refl
base_read base.I128 = refl
base_read base.Text = refl
base_read base.Ref = refl

abbrev many_of : Base × Tokens → Option (Kind × Tokens)
many_of r = expect CloseBracket r.1 >>= λ c. Some (kind.Many r.0, c.1)

pub kind_read : ReadsBefore Any a_kind SpellsKind
unfolding a_kind
kind_read (kind.One b) us rest any e =
    ap (λ (t : Tokens). a_kind (t ++ rest)) e
    ∙ ap (λ (o : Option Base). ◌>>=◌ {A = Base × Tokens} (o >>= λ c. Some (c, rest)) λ r. Some (kind.One r.0, r.1)) (base_read b)
kind_read (kind.Many b) us rest any e =
    ap (λ (t : Tokens). a_kind (t ++ rest)) e
    ∙ ap (λ (o : Option Base). ◌>>=◌ {A = Base × Tokens} (o >>= λ c. Some (c, a_sign CloseBracket ∷ rest)) many_of) (base_read b)

pub kind_only : ReadsOnly a_kind SpellsKind
unfolding a_kind
kind_only =
    choice_gives (next_is OpenBracket) (a_sign OpenBracket) _ _ _ (sign_tells OpenBracket)
    (word_gives base_named base_word _ (λ ts. Fronts SpellsKind (a_sign OpenBracket ∷ ts)) base_is λ b.
    expect_gives CloseBracket _ _ (
    pure_gives (kind.Many b) _ λ ts. (a_sign OpenBracket ∷ a_word (base_word b) ∷ a_sign CloseBracket ∷ [], (refl, refl))))
    (word_gives base_named base_word _ _ base_is λ b.
    pure_gives (kind.One b) _ λ ts. (a_word (base_word b) ∷ [], (refl, refl)))

pub decl_read : ReadsBefore Any decl SpellsDecl
unfolding decl
decl_read d us rest any (named, (vs, b)) =
    rw (b.1, named, kind_read d.kind vs rest tt b.0) refl

pub decl_only : ReadsOnly decl SpellsDecl
unfolding decl
decl_only =
    name_gives _ _ λ n named.
    expect_gives Colon _ _ (
    then_gives a_kind SpellsKind _ (λ ts. Fronts SpellsDecl (a_word n ∷ a_sign Colon ∷ ts)) kind_only λ k us s.
    pure_gives (record { name = n; kind = k }) _ λ ts. (a_word n ∷ a_sign Colon ∷ us, ((named, (us, (s, refl))), refl)))

-- ---- values

named_single : (t : Text) (v : Single) → single_named t ≡ Some v → SpellsSingle v (a_word t ∷ [])
named_single t =
    named_gives t (codes "null") single.Null _ _ (λ e. ap (λ (w : Text). a_word w ∷ []) e)
    (named_gives t (codes "true") (single.Bool true) _ _ (λ e. ap (λ (w : Text). a_word w ∷ []) e)
    (named_gives t (codes "false") (single.Bool false) _ _ (λ e. ap (λ (w : Text). a_word w ∷ []) e)
    λ v h.
    let c = test_some {B = Single} (not (is_reserved t)) (Some (single.Name t)) v h in
    subst (λ (s : Single). SpellsSingle s (a_word t ∷ [])) (some_same (single.Name t) v c.1) (not_true (is_reserved t) c.0, refl)))

single_is : (t : Token) (v : Single) → single_of t ≡ Some v → SpellsSingle v (t ∷ [])
single_is (a_word t) v h = named_single t v h
single_is (Nat n) v h = subst (λ (s : Single). SpellsSingle s (Nat n ∷ [])) (some_same (single.Int (pos n)) v h) (n, inl (refl, refl))
single_is (Minus n) v h = subst (λ (s : Single). SpellsSingle s (Minus n ∷ [])) (some_same (single.Int (neg_ℤ (pos n))) v h) (n, inr (refl, refl))
single_is (Num n) v h = subst (λ (s : Single). SpellsSingle s (Num n ∷ [])) (some_same (single.Num n) v h) refl
single_is (a_text t) v h = subst (λ (s : Single). SpellsSingle s (a_text t ∷ [])) (some_same (single.Text t) v h) refl
single_is (a_sign s) v h = none_some v h

single_only : ReadsOnly a_single SpellsSingle
single_only = token_only single_of SpellsSingle single_is

name_is_single : (n : Text) → IsName n → single_named n ≡ Some (single.Name n)
name_is_single n named =
    rw (named, no_word n (codes "null") named refl, no_word n (codes "true") named refl, no_word n (codes "false") named refl) refl

single_read : ReadsBefore Any a_single SpellsSingle
single_read single.Null us rest any e = ap (λ (t : Tokens). a_single (t ++ rest)) e
single_read (single.Bool true) us rest any e = ap (λ (t : Tokens). a_single (t ++ rest)) e
single_read (single.Bool false) us rest any e = ap (λ (t : Tokens). a_single (t ++ rest)) e
single_read (single.Int n) us rest any (k, inl e) =
    ap (λ (t : Tokens). a_single (t ++ rest)) e.1 ∙ ap (λ z. Some (single.Int z, rest)) (sym e.0)
single_read (single.Int n) us rest any (k, inr e) =
    ap (λ (t : Tokens). a_single (t ++ rest)) e.1 ∙ ap (λ z. Some (single.Int z, rest)) (sym e.0)
single_read (single.Text t) us rest any e = ap (λ (t : Tokens). a_single (t ++ rest)) e
single_read (single.Num n) us rest any e = ap (λ (t : Tokens). a_single (t ++ rest)) e
single_read (single.Name n) us rest any e =
    ap (λ (t : Tokens). a_single (t ++ rest)) e.1 ∙ ap (λ (o : Option Single). o >>= λ v. Some (v, rest)) (name_is_single n e.0)

-- a single value never begins with a sign
single_opens : (s : Sign) → Opens s a_single SpellsSingle
single_opens s single.Null us rest e = ap (λ (t : Tokens). next_is s (t ++ rest)) e
single_opens s (single.Bool true) us rest e = ap (λ (t : Tokens). next_is s (t ++ rest)) e
single_opens s (single.Bool false) us rest e = ap (λ (t : Tokens). next_is s (t ++ rest)) e
single_opens s (single.Int n) us rest (k, inl e) = ap (λ (t : Tokens). next_is s (t ++ rest)) e.1
single_opens s (single.Int n) us rest (k, inr e) = ap (λ (t : Tokens). next_is s (t ++ rest)) e.1
single_opens s (single.Text t) us rest e = ap (λ (t : Tokens). next_is s (t ++ rest)) e
single_opens s (single.Num n) us rest e = ap (λ (t : Tokens). next_is s (t ++ rest)) e
single_opens s (single.Name n) us rest e = ap (λ (t : Tokens). next_is s (t ++ rest)) e.1

abbrev many_read : Parser ValueText
many_read ts = up_to CloseBracket a_single ts >>= λ r. Some (valued.Many r.0, r.1)

abbrev one_read : Parser ValueText
one_read ts = a_single ts >>= λ r. Some (valued.One r.0, r.1)

pub value_read : ReadsBefore Any a_value SpellsValue
unfolding a_value
value_read (valued.One v) us rest any s =
    otherwise {B = Option (ValueText × Tokens)} (next_is OpenBracket (us ++ rest)) (many_read (drop 1 (us ++ rest))) (one_read (us ++ rest)) (single_opens OpenBracket v us rest s)
    ∙ ap (λ (o : Option (Single × Tokens)). o >>= λ r. Some (valued.One r.0, r.1)) (single_read v us rest tt s)
value_read (valued.Many vs) us rest any (ws, b) =
    ap (λ (t : Tokens). a_value (t ++ rest)) b.1
    ∙ ap (λ (o : Option (List Single × Tokens)). o >>= λ r. Some (valued.Many r.0, r.1))
    (up_to_read CloseBracket a_single SpellsSingle refl single_read (single_opens CloseBracket) vs (ws ++ a_sign CloseBracket ∷ []) rest tt (ws, (b.0, refl)))

pub value_only : ReadsOnly a_value SpellsValue
unfolding a_value
value_only =
    choice_gives (next_is OpenBracket) (a_sign OpenBracket) _ _ _ (sign_tells OpenBracket)
    (then_gives (up_to CloseBracket a_single) (UpTo CloseBracket SpellsSingle) _ (λ ts. Fronts SpellsValue (a_sign OpenBracket ∷ ts)) (up_to_only CloseBracket a_single SpellsSingle single_only) λ vs us s.
    pure_gives (valued.Many vs) _ λ ts. (a_sign OpenBracket ∷ us, ((s.0, (s.1.0, ap (λ (t : Tokens). a_sign OpenBracket ∷ t) s.1.1)), refl)))
    (then_gives a_single SpellsSingle _ _ single_only λ v us s.
    pure_gives (valued.One v) _ λ ts. (us, (s, refl)))

pub given_read : ReadsBefore Any given SpellsGiven
unfolding given
given_read d us rest any (named, (vs, b)) =
    rw (b.1, named, value_read d.value vs rest tt b.0) refl

pub given_only : ReadsOnly given SpellsGiven
unfolding given
given_only =
    name_gives _ _ λ n named.
    expect_gives Colon _ _ (
    then_gives a_value SpellsValue _ (λ ts. Fronts SpellsGiven (a_word n ∷ a_sign Colon ∷ ts)) value_only λ v us s.
    pure_gives (record { name = n; value = v }) _ λ ts. (a_word n ∷ a_sign Colon ∷ us, ((named, (us, (s, refl))), refl)))

-- ---- in braces

pub opens_decl : (s : Sign) → Opens s decl SpellsDecl
opens_decl s d us rest (named, (vs, b)) = ap (λ (t : Tokens). next_is s (t ++ rest)) b.1

pub opens_given : (s : Sign) → Opens s given SpellsGiven
opens_given s d us rest (named, (vs, b)) = ap (λ (t : Tokens). next_is s (t ++ rest)) b.1
