-- Which command a line reads as.
use Rattle.std.specs.Prelude.{ℕ, ◌+◌, ◌-◌, Bool, true, false, ◌&&◌, ◌||◌, ◌==◌, nat_lt, List, [], ◌∷◌, length, codes, Option, Some, None, if◌then◌else◌}
use Rattle.oc_model.specs.declared.command.RunDepth.TheVariants as run_depth
use Rattle.oc_model.specs.declared.command.NumberSetting.{NumberSetting}
use Rattle.oc_model.specs.declared.command.NumberSetting.TheVariants as setting
use Rattle.oc_model.specs.declared.command.FlagSetting.{FlagSetting}
use Rattle.oc_model.specs.declared.command.FlagSetting.TheVariants as flag
use Rattle.oc_model.specs.declared.command.SideText.{SideText}
use Rattle.oc_model.specs.declared.command.SideText.TheVariants as side
use Rattle.oc_model.specs.declared.command.CritText.{CritText}
use Rattle.oc_model.specs.declared.command.Command.{Command}
use Rattle.oc_model.specs.declared.command.Command.TheVariants.{Class, RenameClass, RenameField, Convert, Index, Unindex, ConfigRun, ConfigNumber, ConfigFlag, New, Make, Let, BindNumber, BindField, Forget, Names, Show, PeekName, PeekNumber, Store, Delete, Activate, Deactivate, Refresh, Purge, Query, Example, Commit, Rollback}
use Rattle.oc_model.specs.declared.answer.Word.{Word}
use Rattle.oc_model.specs.declared.answer.Word.TheVariants.{Syntax, Long, Deep}
use Rattle.oc_model.specs.Maps.{Text, same}
use Rattle.oc_machine.specs.declared.token.Sign.TheVariants.{OpenBrace, CloseBrace, OpenParenthesis, CloseParenthesis, Colon, Dot, Equal}
use Rattle.oc_machine.specs.declared.token.Token.{Token}
use Rattle.oc_machine.specs.declared.token.Token.TheVariants.{Word as a_word, Sign as a_sign}
use Rattle.oc_machine.specs.Lexing.{tokens, is_blank}
use Rattle.oc_machine.specs.Parsers.{Parser, ◌>=>◌, pure, fails, next_is, next_says, expect, expect_word, word_as, name, nat, if_next, optional, optional_nat, name_or_number, separated, enclosed, whole}
use Rattle.oc_machine.specs.ReadingValues.{a_kind, decl, a_value, given}
use Rattle.oc_machine.specs.ReadingExpressions.{an_expr, criterion}

-- ---- lines on the schema

-- behind `class`: a name, perhaps a parent, and fields in braces
unfoldable pub class_line : Parser Command
unfolding decl
class_line = name >=> λ n. optional (next_is Colon) name >=> λ parent. enclosed OpenBrace CloseBrace decl >=> λ ds. pure (Class n parent ds)

-- `to` and a name
abbrev pub to_name : Parser Text
to_name = expect_word (codes "to") >=> λ _. name

-- behind `rename`: a class or a field of one, and its other name
unfoldable pub rename_line : Parser Command
rename_line = name >=> λ c. if_next (next_is Dot) (name >=> λ f. to_name >=> λ n. pure (RenameField c f n)) (to_name >=> λ n. pure (RenameClass c n))

-- behind `convert`: a field and the kind that its values had
unfoldable pub convert_line : Parser Command
unfolding a_kind
convert_line = name >=> λ c. expect Dot >=> λ _. name >=> λ f. expect_word (codes "from") >=> λ _. a_kind >=> λ k. pure (Convert c f k)

-- behind `index`: a field
unfoldable pub index_line : Parser Command
index_line = name >=> λ c. expect Dot >=> λ _. name >=> λ f. pure (Index c f)

-- behind `unindex`: a field
unfoldable pub unindex_line : Parser Command
unindex_line = name >=> λ c. expect Dot >=> λ _. name >=> λ f. pure (Unindex c f)

-- ---- settings

-- what stands behind the name of a depth of the run
abbrev pub run_setting : Text → Parser Command
run_setting w =
    if same w (codes "activation") then (nat >=> λ k. pure (ConfigRun run_depth.Activation k))
    else if same w (codes "update") then (nat >=> λ k. pure (ConfigRun run_depth.Update k))
    else fails

-- on or off
abbrev pub switch_named : Text → Option Bool
switch_named t =
    if same t (codes "on") then Some true
    else if same t (codes "off") then Some false
    else None

-- the number of a class's setting
abbrev pub number_setting : Text → NumberSetting → Parser Command
number_setting c s = nat >=> λ k. pure (ConfigNumber c s k)

-- on or off for a class's setting
abbrev pub flag_setting : Text → FlagSetting → Parser Command
flag_setting c s = word_as switch_named >=> λ b. pure (ConfigFlag c s b)

-- what stands behind a class and the name of a setting
abbrev pub class_setting : Text → Text → Parser Command
class_setting c w =
    if same w (codes "minimum") then number_setting c setting.Minimum
    else if same w (codes "maximum") then number_setting c setting.Maximum
    else if same w (codes "update") then number_setting c setting.Update
    else if same w (codes "cascade_activate") then flag_setting c flag.CascadeActivate
    else if same w (codes "cascade_update") then flag_setting c flag.CascadeUpdate
    else if same w (codes "cascade_delete") then flag_setting c flag.CascadeDelete
    else fails

-- A class stands before a dot, a depth of the run before a number.
unfoldable pub config_line : Parser Command
config_line = name >=> λ c. if_next (next_is Dot) (name >=> class_setting c) (run_setting c)

-- ---- lines on objects

-- behind `new`: a name, a class, and values in braces
unfoldable pub new_line : Parser Command
unfolding given
new_line = name >=> λ n. name >=> λ c. enclosed OpenBrace CloseBrace given >=> λ gs. pure (New n c gs)

-- behind `make`: a class, and values in braces
unfoldable pub make_line : Parser Command
unfolding given
make_line = name >=> λ c. enclosed OpenBrace CloseBrace given >=> λ gs. pure (Make c gs)

-- behind `let`: a field of a bound name, and its value
unfoldable pub let_line : Parser Command
unfolding a_value
let_line = name >=> λ n. expect Dot >=> λ _. name >=> λ f. expect Equal >=> λ _. a_value >=> λ v. pure (Let n f v)

-- behind `store`: a bound name, and perhaps a depth
unfoldable pub store_line : Parser Command
store_line = name >=> λ n. optional_nat >=> λ d. pure (Store n d)

-- behind `delete`: a bound name
unfoldable pub delete_line : Parser Command
delete_line = name >=> λ n. pure (Delete n)

-- behind `activate`: a bound name, and perhaps a depth
unfoldable pub activate_line : Parser Command
activate_line = name >=> λ n. optional_nat >=> λ d. pure (Activate n d)

-- behind `deactivate`: a bound name and a depth
unfoldable pub deactivate_line : Parser Command
deactivate_line = name >=> λ n. nat >=> λ d. pure (Deactivate n d)

-- behind `refresh`: a bound name and a depth
unfoldable pub refresh_line : Parser Command
refresh_line = name >=> λ n. nat >=> λ d. pure (Refresh n d)

-- behind `purge`: a bound name
unfoldable pub purge_line : Parser Command
purge_line = name >=> λ n. pure (Purge n)

-- ---- lines on names

-- behind `bind`: a name, and a field of a bound name or a number
unfoldable pub bind_line : Parser Command
bind_line = name >=> λ n. name_or_number (λ source. expect Dot >=> λ _. name >=> λ f. pure (BindField n source f)) (λ k. pure (BindNumber n k))

-- behind `forget`: a bound name
unfoldable pub forget_line : Parser Command
forget_line = name >=> λ n. pure (Forget n)

-- behind `show`: a bound name
unfoldable pub show_line : Parser Command
show_line = name >=> λ n. pure (Show n)

-- the committed objects or the session's
abbrev pub side_named : Text → Option SideText
side_named t =
    if same t (codes "committed") then Some side.Committed
    else if same t (codes "session") then Some side.Session
    else None

-- the word for one of the two
abbrev pub a_side : Parser SideText
a_side = word_as side_named

-- behind `peek`: a bound name or a number, a depth, and which side
unfoldable pub peek_line : Parser Command
peek_line = name_or_number (λ n. nat >=> λ d. a_side >=> λ s. pure (PeekName n d s)) (λ k. nat >=> λ d. a_side >=> λ s. pure (PeekNumber k d s))

-- ---- queries

-- the criteria behind `order`, or none
unfoldable pub criteria : Parser (List CritText)
unfolding criterion
criteria = if_next (next_says (codes "order")) (separated criterion) (pure [])

-- behind `query`: a class, and perhaps a condition and an order
unfoldable pub query_line : Parser Command
unfolding an_expr criteria
query_line = name >=> λ c. optional (next_says (codes "where")) an_expr >=> λ e. criteria >=> λ cs. pure (Query c e cs)

-- behind `example`: a bound name
unfoldable pub example_line : Parser Command
example_line = name >=> λ n. pure (Example n)

-- ---- the word that a line begins with

-- what follows the words about queries and transactions, and nothing else
abbrev pub by_last_words : Text → Parser Command
by_last_words w =
    if same w (codes "query") then query_line
    else if same w (codes "example") then example_line
    else if same w (codes "commit") then pure Commit
    else if same w (codes "rollback") then pure Rollback
    else fails

-- what follows the words about names, and those on later pages
abbrev pub by_name_words : Text → Parser Command
by_name_words w =
    if same w (codes "bind") then bind_line
    else if same w (codes "forget") then forget_line
    else if same w (codes "names") then pure Names
    else if same w (codes "show") then show_line
    else if same w (codes "peek") then peek_line
    else by_last_words w

-- what follows the words about objects, and then those about names
abbrev pub by_object_words : Text → Parser Command
by_object_words w =
    if same w (codes "new") then new_line
    else if same w (codes "make") then make_line
    else if same w (codes "let") then let_line
    else if same w (codes "store") then store_line
    else if same w (codes "delete") then delete_line
    else if same w (codes "activate") then activate_line
    else if same w (codes "deactivate") then deactivate_line
    else if same w (codes "refresh") then refresh_line
    else if same w (codes "purge") then purge_line
    else by_name_words w

-- what follows the first word of a line
abbrev pub by_word : Text → Parser Command
by_word w =
    if same w (codes "class") then class_line
    else if same w (codes "rename") then rename_line
    else if same w (codes "convert") then convert_line
    else if same w (codes "index") then index_line
    else if same w (codes "unindex") then unindex_line
    else if same w (codes "config") then config_line
    else by_object_words w

-- the command that the tokens of a line spell
unfoldable pub command_of : List Token → Option Command
unfolding class_line rename_line convert_line index_line unindex_line config_line new_line make_line let_line store_line delete_line activate_line deactivate_line refresh_line purge_line bind_line forget_line show_line peek_line query_line example_line
command_of (a_word w ∷ ts) = whole (by_word w ts)
command_of _ = None

-- ---- parentheses

-- How many `(` are open behind a token, where so many are before it. A `)` with none open closes nothing.
abbrev pub open_behind : ℕ → Token → ℕ
open_behind n (a_sign OpenParenthesis) = n + 1
open_behind n (a_sign CloseParenthesis) = n - 1
open_behind n _ = n

-- more than 64 are open at some place, where so many are before the first token
abbrev pub is_deep_from : ℕ → List Token → Bool
is_deep_from n [] = false
is_deep_from n (t ∷ ts) = let k = open_behind n t in nat_lt 64 k || is_deep_from k ts

-- more than 64 parentheses are open at some place
unfoldable pub is_deep : List Token → Bool
is_deep ts = is_deep_from 0 ts

-- ---- a line

-- what a line reads as
pub data Reading : Type 0 where
  -- a blank line or a comment
  nothing : Reading
  refused : Word → Reading
  reads : Command → Reading

-- the command, or the refusal where there is none
abbrev pub command_or_syntax : Option Command → Reading
command_or_syntax None = refused Syntax
command_or_syntax (Some c) = reads c

-- Bytes that fall into no tokens are refused first, and then too many parentheses.
abbrev pub tokens_read : Option (List Token) → Reading
tokens_read None = refused Syntax
tokens_read (Some ts) = elim (is_deep ts) [ true ↦ refused Deep | false ↦ command_or_syntax (command_of ts) ]

-- blanks alone, or a `#` behind them
abbrev pub says_nothing : Text → Bool
says_nothing [] = true
says_nothing (c ∷ t) = c == 35 || (is_blank c && says_nothing t)

-- A line of more than 65,535 bytes is refused, whatever it holds.
unfoldable pub reading : Text → Reading
unfolding tokens is_deep command_of
reading line =
    elim (nat_lt 65535 (length line)) [
      | true ↦ refused Long
      | false ↦ elim (says_nothing line) [ true ↦ nothing | false ↦ tokens_read (tokens line) ]
    ]
