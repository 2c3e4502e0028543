-- Lines: what is read is spelled.
use Rattle.std.proofs.Common.{◌≡◌, Bool, true, false, List, [], ◌∷◌, ◌++◌, refl, sym, ap, ◌∙◌, subst, arith}
use Rattle.std.specs.Prelude.{codes, Option, Some, None}
use Rattle.std.proofs.lemmas.List.{append-nil}
use Rattle.oc_model.specs.declared.command.RunDepth.TheVariants as run_depth
use Rattle.oc_model.specs.declared.command.NumberSetting.{NumberSetting}
use Rattle.oc_model.specs.declared.command.NumberSetting.TheVariants as setting
use Rattle.oc_model.specs.declared.command.FlagSetting.{FlagSetting}
use Rattle.oc_model.specs.declared.command.FlagSetting.TheVariants as flag
use Rattle.oc_model.specs.declared.command.SideText.{SideText}
use Rattle.oc_model.specs.declared.command.SideText.TheVariants as side
use Rattle.oc_model.specs.declared.command.CritText.{CritText}
use Rattle.oc_model.specs.declared.command.Command.{Command}
use Rattle.oc_model.specs.declared.command.Command.TheVariants.{Class, RenameClass, RenameField, Convert, Index, Unindex, ConfigRun, ConfigNumber, ConfigFlag, New, Make, Let, BindNumber, BindField, Forget, Names, Show, PeekName, PeekNumber, Store, Delete, Activate, Deactivate, Refresh, Purge, Query, Example, Commit, Rollback}
use Rattle.oc_model.specs.Maps.{Text}
use Rattle.oc_machine.specs.declared.token.Sign.TheVariants.{OpenBrace, CloseBrace, Colon, Comma, Dot, Equal}
use Rattle.oc_machine.specs.declared.token.Token.TheVariants.{Word as a_word, Nat, Num, Sign as a_sign}
use Rattle.oc_machine.specs.Lexing.{◌>>=◌}
use Rattle.oc_machine.specs.Parsers.{name, next_is, next_says, optional, enclosed, whole}
use Rattle.oc_machine.specs.ReadingValues.{a_kind, decl, a_value, given}
use Rattle.oc_machine.specs.ReadingExpressions.{an_expr, criterion}
use Rattle.oc_machine.specs.Reading.{class_line, to_name, rename_line, convert_line, index_line, unindex_line, run_setting, switch_named, number_setting, flag_setting, class_setting, config_line, new_line, make_line, let_line, store_line, delete_line, activate_line, deactivate_line, refresh_line, purge_line, bind_line, forget_line, show_line, side_named, peek_line, criteria, query_line, example_line, by_word, command_of}
use Rattle.oc_machine.specs.GrammarValues.{Tokens, IsName, SpellsName, Optionally, InBraces, SpellsKind, SpellsDecl, SpellsValue, SpellsGiven}
use Rattle.oc_machine.specs.GrammarExpressions.{SpellsExpr, SpellsCriterion, SpellsCriteria}
use Rattle.oc_machine.specs.Grammar.{Spells, number_word, flag_word, switch_word, side_word}
use Rattle.oc_machine.proofs.Combinators.{none_some, some_same, Gives, ReadsOnly, pure_gives, then_gives, name_gives, nat_gives, expect_gives, expect_word_gives, word_gives, named_gives, said_gives, choice_gives, sign_tells, word_tells, optional_only, optional_nat_gives, name_or_number_gives}
use Rattle.oc_machine.proofs.Lists.{Listed, list_only, enclosed_only}
use Rattle.oc_machine.proofs.Values.{kind_only, decl_only, value_only, given_only}
use Rattle.oc_machine.proofs.Atoms.{name_only, criterion_only}
use Rattle.oc_machine.proofs.Expressions.{expr_only}

-- where nothing is left, the word and these tokens spell the command
abbrev Line : Text → Tokens → Command → Tokens → Type 0
Line w ts c rest = rest ≡ [] → Spells c (a_word w ∷ ts)

ends : (us ts : Tokens) → ts ≡ [] → us ++ ts ≡ us
ends us ts e = ap (λ (t : Tokens). us ++ t) e ∙ append-nil us

-- ---- lines on the schema

class_only : Gives class_line (Line (codes "class"))
unfolding class_line
class_only =
    name_gives _ _ λ n named.
    then_gives (optional (next_is Colon) name) (Optionally (a_sign Colon) SpellsName) _ (λ ts. Line (codes "class") (a_word n ∷ ts))
    (optional_only (next_is Colon) (a_sign Colon) name SpellsName (sign_tells Colon) name_only) λ parent us s.
    then_gives (enclosed OpenBrace CloseBrace decl) (InBraces SpellsDecl) _ (λ ts. Line (codes "class") (a_word n ∷ (us ++ ts)))
    (enclosed_only OpenBrace CloseBrace decl SpellsDecl decl_only) λ ds vs b.
    pure_gives (Class n parent ds) _ λ ts e.
    (named, (us, vs, (s, (b, ap (λ (t : Tokens). a_word (codes "class") ∷ a_word n ∷ (us ++ t)) (ends vs ts e)))))

to_gives : {B : Type 0} (g : Text × Tokens → Option (B × Tokens)) (P : Tokens → B → Tokens → Type 0)
    → ((n : Text) → IsName n → (ts : Tokens) (x : B) (rest : Tokens) → g (n, ts) ≡ Some (x, rest) → P (a_word (codes "to") ∷ a_word n ∷ ts) x rest)
    → (ts : Tokens) (x : B) (rest : Tokens) → (to_name ts >>= g) ≡ Some (x, rest) → P ts x rest
to_gives g P k =
    then_gives to_name (λ n us. IsName n × (us ≡ a_word (codes "to") ∷ a_word n ∷ [])) g P to_only
    λ n us s ts x rest h. subst (λ (vs : Tokens). P (vs ++ ts) x rest) (sym s.1) (k n s.0 ts x rest h) where
      to_only : ReadsOnly to_name (λ n us. IsName n × (us ≡ a_word (codes "to") ∷ a_word n ∷ []))
      to_only =
          expect_word_gives (codes "to") _ _ λ ts x rest h.
          let a = name_only ts x rest h in
          (a_word (codes "to") ∷ a.0, ((a.1.0.0, ap (λ (t : Tokens). a_word (codes "to") ∷ t) a.1.0.1), ap (λ (t : Tokens). a_word (codes "to") ∷ t) a.1.1))

rename_only : Gives rename_line (Line (codes "rename"))
unfolding rename_line
rename_only =
    name_gives _ _ λ c named.
    choice_gives (next_is Dot) (a_sign Dot) _ _ (λ ts. Line (codes "rename") (a_word c ∷ ts)) (sign_tells Dot)
    (name_gives _ (λ ts. Line (codes "rename") (a_word c ∷ a_sign Dot ∷ ts)) λ f field.
    to_gives _ (λ ts. Line (codes "rename") (a_word c ∷ a_sign Dot ∷ a_word f ∷ ts)) λ n to.
    pure_gives (RenameField c f n) _ λ ts e. (named, (field, (to, cc))))
    (to_gives _ (λ ts. Line (codes "rename") (a_word c ∷ ts)) λ n to.
    pure_gives (RenameClass c n) _ λ ts e. (named, (to, cc)))

convert_only : Gives convert_line (Line (codes "convert"))
unfolding convert_line
convert_only =
    name_gives _ _ λ c named.
    expect_gives Dot _ _ (
    name_gives _ _ λ f field.
    expect_word_gives (codes "from") _ _ (
    then_gives a_kind SpellsKind _ (λ ts. Line (codes "convert") (a_word c ∷ a_sign Dot ∷ a_word f ∷ a_word (codes "from") ∷ ts)) kind_only λ k us s.
    pure_gives (Convert c f k) _ λ ts e.
    (named, (field, (us, (s, ap (λ (t : Tokens). a_word (codes "convert") ∷ a_word c ∷ a_sign Dot ∷ a_word f ∷ a_word (codes "from") ∷ t) (ends us ts e)))))))

index_only : Gives index_line (Line (codes "index"))
unfolding index_line
index_only =
    name_gives _ _ λ c named.
    expect_gives Dot _ _ (
    name_gives _ _ λ f field.
    pure_gives (Index c f) _ λ ts e. (named, (field, cc)))

unindex_only : Gives unindex_line (Line (codes "unindex"))
unfolding unindex_line
unindex_only =
    name_gives _ _ λ c named.
    expect_gives Dot _ _ (
    name_gives _ _ λ f field.
    pure_gives (Unindex c f) _ λ ts e. (named, (field, cc)))

-- ---- settings

-- behind a class and a setting
abbrev Set : Text → Text → Tokens → Command → Tokens → Type 0
Set c w ts = Line (codes "config") (a_word c ∷ a_sign Dot ∷ a_word w ∷ ts)

number_only : (c : Text) → IsName c → (s : NumberSetting) → Gives (number_setting c s) (Set c (number_word s))
number_only c named s =
    nat_gives _ _ λ k.
    pure_gives (ConfigNumber c s k) _ λ ts e. (named, cc)

switch_is : (t : Text) (b : Bool) → switch_named t ≡ Some b → t ≡ switch_word b
switch_is t =
    named_gives t (codes "on") true _ _ (λ e. e)
    (named_gives t (codes "off") false _ _ (λ e. e) (λ b h. none_some b h))

flag_only : (c : Text) → IsName c → (s : FlagSetting) → Gives (flag_setting c s) (Set c (flag_word s))
flag_only c named s =
    word_gives switch_named switch_word _ _ switch_is λ b.
    pure_gives (ConfigFlag c s b) _ λ ts e. (named, cc)

setting_only : (c : Text) → IsName c → (w : Text) → Gives (class_setting c w) (Set c w)
setting_only c named w =
    said_gives w (codes "minimum") _ _ (Set c) (number_only c named setting.Minimum)
    (said_gives w (codes "maximum") _ _ (Set c) (number_only c named setting.Maximum)
    (said_gives w (codes "update") _ _ (Set c) (number_only c named setting.Update)
    (said_gives w (codes "cascade_activate") _ _ (Set c) (flag_only c named flag.CascadeActivate)
    (said_gives w (codes "cascade_update") _ _ (Set c) (flag_only c named flag.CascadeUpdate)
    (said_gives w (codes "cascade_delete") _ _ (Set c) (flag_only c named flag.CascadeDelete)
    (λ ts x rest h. none_some (x, rest) h))))))

run_only : (w : Text) → Gives (run_setting w) (λ ts. Line (codes "config") (a_word w ∷ ts))
run_only w =
    said_gives w (codes "activation") _ _ (λ v ts. Line (codes "config") (a_word v ∷ ts))
    (nat_gives _ _ λ k. pure_gives (ConfigRun run_depth.Activation k) _ λ ts e. cc)
    (said_gives w (codes "update") _ _ (λ v ts. Line (codes "config") (a_word v ∷ ts))
    (nat_gives _ _ λ k. pure_gives (ConfigRun run_depth.Update k) _ λ ts e. cc)
    (λ ts x rest h. none_some (x, rest) h))

config_only : Gives config_line (Line (codes "config"))
unfolding config_line
config_only =
    name_gives _ _ λ c named.
    choice_gives (next_is Dot) (a_sign Dot) _ _ (λ ts. Line (codes "config") (a_word c ∷ ts)) (sign_tells Dot)
    (name_gives _ (λ ts. Line (codes "config") (a_word c ∷ a_sign Dot ∷ ts)) λ w any. setting_only c named w)
    (run_only c)

-- ---- lines on objects

new_only : Gives new_line (Line (codes "new"))
unfolding new_line
new_only =
    name_gives _ _ λ n named.
    name_gives _ _ λ c class.
    then_gives (enclosed OpenBrace CloseBrace given) (InBraces SpellsGiven) _ (λ ts. Line (codes "new") (a_word n ∷ a_word c ∷ ts))
    (enclosed_only OpenBrace CloseBrace given SpellsGiven given_only) λ gs us b.
    pure_gives (New n c gs) _ λ ts e.
    (named, (class, (us, (b, ap (λ (t : Tokens). a_word (codes "new") ∷ a_word n ∷ a_word c ∷ t) (ends us ts e)))))

make_only : Gives make_line (Line (codes "make"))
unfolding make_line
make_only =
    name_gives _ _ λ c named.
    then_gives (enclosed OpenBrace CloseBrace given) (InBraces SpellsGiven) _ (λ ts. Line (codes "make") (a_word c ∷ ts))
    (enclosed_only OpenBrace CloseBrace given SpellsGiven given_only) λ gs us b.
    pure_gives (Make c gs) _ λ ts e.
    (named, (us, (b, ap (λ (t : Tokens). a_word (codes "make") ∷ a_word c ∷ t) (ends us ts e))))

let_only : Gives let_line (Line (codes "let"))
unfolding let_line
let_only =
    name_gives _ _ λ n named.
    expect_gives Dot _ _ (
    name_gives _ _ λ f field.
    expect_gives Equal _ _ (
    then_gives a_value SpellsValue _ (λ ts. Line (codes "let") (a_word n ∷ a_sign Dot ∷ a_word f ∷ a_sign Equal ∷ ts)) value_only λ v us s.
    pure_gives (Let n f v) _ λ ts e.
    (named, (field, (us, (s, ap (λ (t : Tokens). a_word (codes "let") ∷ a_word n ∷ a_sign Dot ∷ a_word f ∷ a_sign Equal ∷ t) (ends us ts e)))))))

store_only : Gives store_line (Line (codes "store"))
unfolding store_line
store_only =
    name_gives _ _ λ n named.
    optional_nat_gives _ (λ ts. Line (codes "store") (a_word n ∷ ts))
    (λ d. pure_gives (Store n (Some d)) _ λ ts e. (named, cc))
    (pure_gives (Store n None) _ λ ts e. (named, cc))

delete_only : Gives delete_line (Line (codes "delete"))
unfolding delete_line
delete_only = name_gives _ _ λ n named. pure_gives (Delete n) _ λ ts e. (named, cc)

activate_only : Gives activate_line (Line (codes "activate"))
unfolding activate_line
activate_only =
    name_gives _ _ λ n named.
    optional_nat_gives _ (λ ts. Line (codes "activate") (a_word n ∷ ts))
    (λ d. pure_gives (Activate n (Some d)) _ λ ts e. (named, cc))
    (pure_gives (Activate n None) _ λ ts e. (named, cc))

deactivate_only : Gives deactivate_line (Line (codes "deactivate"))
unfolding deactivate_line
deactivate_only = name_gives _ _ λ n named. nat_gives _ _ λ d. pure_gives (Deactivate n d) _ λ ts e. (named, cc)

refresh_only : Gives refresh_line (Line (codes "refresh"))
unfolding refresh_line
refresh_only = name_gives _ _ λ n named. nat_gives _ _ λ d. pure_gives (Refresh n d) _ λ ts e. (named, cc)

purge_only : Gives purge_line (Line (codes "purge"))
unfolding purge_line
purge_only = name_gives _ _ λ n named. pure_gives (Purge n) _ λ ts e. (named, cc)

-- ---- lines on names

bind_only : Gives bind_line (Line (codes "bind"))
unfolding bind_line
bind_only =
    name_gives _ _ λ n named.
    name_or_number_gives _ _ (λ ts. Line (codes "bind") (a_word n ∷ ts))
    (λ s source.
    expect_gives Dot _ (λ ts. Line (codes "bind") (a_word n ∷ a_word s ∷ ts)) (
    name_gives _ (λ ts. Line (codes "bind") (a_word n ∷ a_word s ∷ a_sign Dot ∷ ts)) λ f field.
    pure_gives (BindField n s f) _ λ ts e. (named, (source, (field, cc)))))
    (λ k. pure_gives (BindNumber n k) _ λ ts e. (named, cc))

forget_only : Gives forget_line (Line (codes "forget"))
unfolding forget_line
forget_only = name_gives _ _ λ n named. pure_gives (Forget n) _ λ ts e. (named, cc)

show_only : Gives show_line (Line (codes "show"))
unfolding show_line
show_only = name_gives _ _ λ n named. pure_gives (Show n) _ λ ts e. (named, cc)

side_is : (t : Text) (s : SideText) → side_named t ≡ Some s → t ≡ side_word s
side_is t =
    named_gives t (codes "committed") side.Committed _ _ (λ e. e)
    (named_gives t (codes "session") side.Session _ _ (λ e. e) (λ s h. none_some s h))

peek_only : Gives peek_line (Line (codes "peek"))
unfolding peek_line
peek_only =
    name_or_number_gives _ _ (Line (codes "peek"))
    (λ n named.
    nat_gives _ (λ ts. Line (codes "peek") (a_word n ∷ ts)) λ d.
    word_gives side_named side_word _ (λ ts. Line (codes "peek") (a_word n ∷ Nat d ∷ ts)) side_is λ s.
    pure_gives (PeekName n d s) _ λ ts e. (named, cc))
    (λ k.
    nat_gives _ (λ ts. Line (codes "peek") (Num k ∷ ts)) λ d.
    word_gives side_named side_word _ (λ ts. Line (codes "peek") (Num k ∷ Nat d ∷ ts)) side_is λ s.
    pure_gives (PeekNumber k d s) _ λ ts e. cc)

-- ---- queries

as_criteria : (cs : List CritText) (us : Tokens) → Listed (a_sign Comma) SpellsCriterion cs us → SpellsCriteria cs (a_word (codes "order") ∷ us)
as_criteria [] us l = absurd (omega (arith, l.0))
as_criteria (c ∷ cs) us l = (us, (l.1, refl))

criteria_only : ReadsOnly criteria SpellsCriteria
unfolding criteria
criteria_only =
    choice_gives (next_says (codes "order")) (a_word (codes "order")) _ _ _ (word_tells (codes "order"))
    (λ ts cs rest h.
    let a = list_only (next_is Comma) (a_sign Comma) (sign_tells Comma) criterion SpellsCriterion criterion_only ts cs rest h in
    (a_word (codes "order") ∷ a.0, (as_criteria cs a.0 a.1.0, ap (λ (t : Tokens). a_word (codes "order") ∷ t) a.1.1)))
    (pure_gives [] _ λ ts. ([], (refl, refl)))

query_only : Gives query_line (Line (codes "query"))
unfolding query_line
query_only =
    name_gives _ _ λ c named.
    then_gives (optional (next_says (codes "where")) an_expr) (Optionally (a_word (codes "where")) SpellsExpr) _ (λ ts. Line (codes "query") (a_word c ∷ ts))
    (optional_only (next_says (codes "where")) (a_word (codes "where")) an_expr SpellsExpr (word_tells (codes "where")) expr_only) λ filter us s.
    then_gives criteria SpellsCriteria _ (λ ts. Line (codes "query") (a_word c ∷ (us ++ ts))) criteria_only λ cs vs b.
    pure_gives (Query c filter cs) _ λ ts e.
    (named, (us, vs, (s, (b, ap (λ (t : Tokens). a_word (codes "query") ∷ a_word c ∷ (us ++ t)) (ends vs ts e)))))

example_only : Gives example_line (Line (codes "example"))
unfolding example_line
example_only = name_gives _ _ λ n named. pure_gives (Example n) _ λ ts e. (named, cc)

-- ---- the word that a line begins with

line_only : (w : Text) → Gives (by_word w) (Line w)
line_only w =
    said_gives w (codes "class") _ _ Line class_only
    (said_gives w (codes "rename") _ _ Line rename_only
    (said_gives w (codes "convert") _ _ Line convert_only
    (said_gives w (codes "index") _ _ Line index_only
    (said_gives w (codes "unindex") _ _ Line unindex_only
    (said_gives w (codes "config") _ _ Line config_only
    (said_gives w (codes "new") _ _ Line new_only
    (said_gives w (codes "make") _ _ Line make_only
    (said_gives w (codes "let") _ _ Line let_only
    (said_gives w (codes "store") _ _ Line store_only
    (said_gives w (codes "delete") _ _ Line delete_only
    (said_gives w (codes "activate") _ _ Line activate_only
    (said_gives w (codes "deactivate") _ _ Line deactivate_only
    (said_gives w (codes "refresh") _ _ Line refresh_only
    (said_gives w (codes "purge") _ _ Line purge_only
    (said_gives w (codes "bind") _ _ Line bind_only
    (said_gives w (codes "forget") _ _ Line forget_only
    (said_gives w (codes "names") _ _ Line (pure_gives Names (Line (codes "names")) λ ts e. cc)
    (said_gives w (codes "show") _ _ Line show_only
    (said_gives w (codes "peek") _ _ Line peek_only
    (said_gives w (codes "query") _ _ Line query_only
    (said_gives w (codes "example") _ _ Line example_only
    (said_gives w (codes "commit") _ _ Line (pure_gives Commit (Line (codes "commit")) λ ts e. cc)
    (said_gives w (codes "rollback") _ _ Line (pure_gives Rollback (Line (codes "rollback")) λ ts e. cc)
    (λ ts x rest h. none_some (x, rest) h))))))))))))))))))))))))

whole_only : {A : Type 0} (o : Option (A × Tokens)) (a : A) → whole o ≡ Some a → o ≡ Some (a, [])
whole_only None a h = none_some a h
whole_only (Some (b, [])) a h = ap (λ x. Some (x, [])) (some_same b a h)
whole_only (Some (b, t ∷ ts)) a h = none_some a h

-- what is read is spelled
pub read_is_spelled : (c : Command) (ts : Tokens) → command_of ts ≡ Some c → Spells c ts
unfolding command_of
read_is_spelled c (a_word w ∷ ts) h = line_only w ts c [] (whole_only (by_word w ts) c h) refl
read_is_spelled c _ h = none_some c h
