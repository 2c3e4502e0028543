-- Lines: what is spelled is read.
use Rattle.std.proofs.Common.{◌≡◌, true, false, List, [], ◌∷◌, refl, sym, ap, ◌∙◌, arith}
use Rattle.std.specs.Prelude.{codes, Option, Some, None}
use Rattle.std.proofs.lemmas.List.{append-nil}
use Rattle.oc_model.specs.declared.command.RunDepth.TheVariants as run_depth
use Rattle.oc_model.specs.declared.command.NumberSetting.TheVariants as setting
use Rattle.oc_model.specs.declared.command.FlagSetting.TheVariants as flag
use Rattle.oc_model.specs.declared.command.SideText.TheVariants as side
use Rattle.oc_model.specs.declared.command.CritText.{CritText}
use Rattle.oc_model.specs.declared.command.ExprText.{ExprText}
use Rattle.oc_model.specs.declared.command.Decl.{Decl}
use Rattle.oc_model.specs.declared.command.Given.{Given}
use Rattle.oc_model.specs.declared.command.Command.{Command}
use Rattle.oc_model.specs.declared.command.Command.TheVariants.{Class, RenameClass, RenameField, Convert, Index, Unindex, ConfigRun, ConfigNumber, ConfigFlag, New, Make, Let, BindNumber, BindField, Forget, Names, Show, PeekName, PeekNumber, Store, Delete, Activate, Deactivate, Refresh, Purge, Query, Example, Commit, Rollback}
use Rattle.oc_model.specs.Maps.{Text}
use Rattle.oc_machine.specs.declared.token.Sign.TheVariants.{OpenBrace, CloseBrace, Colon, Comma}
use Rattle.oc_machine.specs.declared.token.Token.TheVariants.{Sign as a_sign}
use Rattle.oc_model.specs.declared.value.Kind.{Kind}
use Rattle.oc_model.specs.declared.command.ValueText.{ValueText}
use Rattle.oc_machine.specs.Parsers.{Parser, name, next_is, next_says, enclosed, separated}
use Rattle.oc_machine.specs.ReadingValues.{a_kind, decl, a_value, given}
use Rattle.oc_machine.specs.ReadingExpressions.{an_expr, criterion}
use Rattle.oc_machine.specs.Reading.{class_line, rename_line, convert_line, index_line, unindex_line, config_line, new_line, make_line, let_line, store_line, delete_line, activate_line, deactivate_line, refresh_line, purge_line, bind_line, forget_line, show_line, peek_line, criteria, query_line, example_line, command_of}
use Rattle.oc_machine.specs.GrammarValues.{Tokens, Spelling, InBraces, SpellsKind, SpellsDecl, SpellsValue, SpellsGiven}
use Rattle.oc_machine.specs.GrammarExpressions.{SpellsCriterion, SpellsCriteria}
use Rattle.oc_machine.specs.Grammar.{Spells}
use Rattle.oc_machine.proofs.Combinators.{ReadsBefore, Any, sign_tells, optional_missing}
use Rattle.oc_machine.proofs.Lists.{list_read, enclosed_read}
use Rattle.oc_machine.proofs.Values.{kind_read, decl_read, value_read, given_read, opens_decl, opens_given}
use Rattle.oc_machine.proofs.Atoms.{criterion_read}
use Rattle.oc_machine.proofs.Expressions.{ExprEnds, expr_read}

-- ---- parts at the end of a line

-- before the end of the tokens
at_end : {A : Type 0} (Stop : Tokens → Type 0) (p : Parser A) (S : Spelling A) → ReadsBefore Stop p S → Stop [] → (x : A) (us : Tokens) → S x us → p us ≡ Some (x, [])
at_end Stop p S each stop x us s = ap p (sym (append-nil us)) ∙ each x us [] stop s

kind_at_end : (k : Kind) (us : Tokens) → SpellsKind k us → a_kind us ≡ Some (k, [])
kind_at_end = at_end Any a_kind SpellsKind kind_read tt

value_at_end : (v : ValueText) (us : Tokens) → SpellsValue v us → a_value us ≡ Some (v, [])
value_at_end = at_end Any a_value SpellsValue value_read tt

decls_at_end : (ds : List Decl) (us : Tokens) → InBraces SpellsDecl ds us → enclosed OpenBrace CloseBrace decl us ≡ Some (ds, [])
decls_at_end =
    at_end Any (enclosed OpenBrace CloseBrace decl) (InBraces SpellsDecl) (enclosed_read OpenBrace CloseBrace decl SpellsDecl refl decl_read (opens_decl CloseBrace)) tt

givens_at_end : (gs : List Given) (us : Tokens) → InBraces SpellsGiven gs us → enclosed OpenBrace CloseBrace given us ≡ Some (gs, [])
givens_at_end =
    at_end Any (enclosed OpenBrace CloseBrace given) (InBraces SpellsGiven) (enclosed_read OpenBrace CloseBrace given SpellsGiven refl given_read (opens_given CloseBrace)) tt

criteria_at_end : (cs : List CritText) (us : Tokens) → SpellsCriteria cs us → criteria us ≡ Some (cs, [])
unfolding criteria
criteria_at_end [] us e = ap criteria e
criteria_at_end (c ∷ cs) us (vs, s) =
    ap criteria s.1
    ∙ at_end (λ ts. (next_is Comma ts ≡ false) × Any ts) (separated criterion) _
    (list_read (next_is Comma) (a_sign Comma) (sign_tells Comma) criterion SpellsCriterion Any criterion_read (λ ts. tt)) (refl, tt) (c ∷ cs) vs (omega arith, s.0)

-- ---- lines with parts that may be missing

no_colon : (ds : List Decl) (us : Tokens) → InBraces SpellsDecl ds us → next_is Colon us ≡ false
no_colon ds us (vs, b) = ap (next_is Colon) b.1

class_read : (n : Text) (parent : Option Text) (ds : List Decl) (ts : Tokens) → Spells (Class n parent ds) ts → command_of ts ≡ Some (Class n parent ds)
unfolding command_of class_line
class_read n None ds ts (named, (us, vs, (none, (b, e)))) =
    rw (e, none, named, optional_missing (next_is Colon) name vs (no_colon ds vs b), decls_at_end ds vs b) refl
class_read n (Some p) ds ts (named, (us, vs, ((ws, ((parent, w), o)), (b, e)))) =
    rw (e, o, w, named, parent, decls_at_end ds vs b) refl

no_where : (cs : List CritText) (us : Tokens) → SpellsCriteria cs us → next_says (codes "where") us ≡ false
no_where [] us e = ap (next_says (codes "where")) e
no_where (c ∷ cs) us (vs, s) = ap (next_says (codes "where")) s.1

criteria_end : (cs : List CritText) (us : Tokens) → SpellsCriteria cs us → ExprEnds us
criteria_end [] us e = (ap (next_says (codes "or")) e, (ap (next_says (codes "and")) e, tt))
criteria_end (c ∷ cs) us (vs, s) = (ap (next_says (codes "or")) s.1, (ap (next_says (codes "and")) s.1, tt))

query_read : (c : Text) (filter : Option ExprText) (cs : List CritText) (ts : Tokens) → Spells (Query c filter cs) ts → command_of ts ≡ Some (Query c filter cs)
unfolding command_of query_line
query_read c None cs ts (named, (us, vs, (none, (b, e)))) =
    rw (e, none, named, optional_missing (next_says (codes "where")) an_expr vs (no_where cs vs b), criteria_at_end cs vs b) refl
query_read c (Some f) cs ts (named, (us, vs, ((ws, (s, o)), (b, e)))) =
    rw (e, o, named, expr_read f ws vs (criteria_end cs vs b) s, criteria_at_end cs vs b) refl

-- ---- lines

-- what is spelled is read
pub spelled_is_read : (c : Command) (ts : Tokens) → Spells c ts → command_of ts ≡ Some c
unfolding command_of rename_line convert_line index_line unindex_line config_line new_line make_line let_line store_line delete_line activate_line deactivate_line refresh_line purge_line bind_line forget_line show_line peek_line example_line
spelled_is_read (Class n parent ds) ts s = class_read n parent ds ts s
spelled_is_read (RenameClass c n) ts (named, (to, e)) = rw (e, named, to) refl
spelled_is_read (RenameField c f n) ts (named, (field, (to, e))) = rw (e, named, field, to) refl
spelled_is_read (Convert c f k) ts (named, (field, (us, (s, e)))) = rw (e, named, field, kind_at_end k us s) refl
spelled_is_read (Index c f) ts (named, (field, e)) = rw (e, named, field) refl
spelled_is_read (Unindex c f) ts (named, (field, e)) = rw (e, named, field) refl
spelled_is_read (ConfigRun run_depth.Activation k) ts e = ap command_of e
spelled_is_read (ConfigRun run_depth.Update k) ts e = ap command_of e
spelled_is_read (ConfigNumber c setting.Minimum k) ts (named, e) = rw (e, named) refl
spelled_is_read (ConfigNumber c setting.Maximum k) ts (named, e) = rw (e, named) refl
spelled_is_read (ConfigNumber c setting.Update k) ts (named, e) = rw (e, named) refl
spelled_is_read (ConfigFlag c flag.CascadeActivate true) ts (named, e) = rw (e, named) refl
spelled_is_read (ConfigFlag c flag.CascadeActivate false) ts (named, e) = rw (e, named) refl
spelled_is_read (ConfigFlag c flag.CascadeUpdate true) ts (named, e) = rw (e, named) refl
spelled_is_read (ConfigFlag c flag.CascadeUpdate false) ts (named, e) = rw (e, named) refl
spelled_is_read (ConfigFlag c flag.CascadeDelete true) ts (named, e) = rw (e, named) refl
spelled_is_read (ConfigFlag c flag.CascadeDelete false) ts (named, e) = rw (e, named) refl
spelled_is_read (New n c gs) ts (named, (class, (us, (b, e)))) = rw (e, named, class, givens_at_end gs us b) refl
spelled_is_read (Make c gs) ts (named, (us, (b, e))) = rw (e, named, givens_at_end gs us b) refl
spelled_is_read (Let n f v) ts (named, (field, (us, (s, e)))) = rw (e, named, field, value_at_end v us s) refl
spelled_is_read (BindNumber n k) ts (named, e) = rw (e, named) refl
spelled_is_read (BindField n s f) ts (named, (source, (field, e))) = rw (e, named, source, field) refl
spelled_is_read (Forget n) ts (named, e) = rw (e, named) refl
spelled_is_read Names ts e = ap command_of e
spelled_is_read (Show n) ts (named, e) = rw (e, named) refl
spelled_is_read (PeekName n d side.Committed) ts (named, e) = rw (e, named) refl
spelled_is_read (PeekName n d side.Session) ts (named, e) = rw (e, named) refl
spelled_is_read (PeekNumber k d side.Committed) ts e = ap command_of e
spelled_is_read (PeekNumber k d side.Session) ts e = ap command_of e
spelled_is_read (Store n None) ts (named, e) = rw (e, named) refl
spelled_is_read (Store n (Some d)) ts (named, e) = rw (e, named) refl
spelled_is_read (Delete n) ts (named, e) = rw (e, named) refl
spelled_is_read (Activate n None) ts (named, e) = rw (e, named) refl
spelled_is_read (Activate n (Some d)) ts (named, e) = rw (e, named) refl
spelled_is_read (Deactivate n d) ts (named, e) = rw (e, named) refl
spelled_is_read (Refresh n d) ts (named, e) = rw (e, named) refl
spelled_is_read (Purge n) ts (named, e) = rw (e, named) refl
spelled_is_read (Query c filter cs) ts s = query_read c filter cs ts s
spelled_is_read (Example n) ts (named, e) = rw (e, named) refl
spelled_is_read Commit ts e = ap command_of e
spelled_is_read Rollback ts e = ap command_of e
