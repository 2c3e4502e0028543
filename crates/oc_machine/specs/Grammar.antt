-- The grammar of a line, from a command to its tokens: what `command_of` reads, said the other way.
use Rattle.std.specs.Prelude.{◌≡◌, ◌≤◌, ℕ, true, false, Bool, [], ◌∷◌, ◌++◌, length, fold, codes, Option, Some, None}
use Rattle.oc_model.specs.declared.command.RunDepth.{RunDepth}
use Rattle.oc_model.specs.declared.command.RunDepth.TheVariants as run_depth
use Rattle.oc_model.specs.declared.command.NumberSetting.{NumberSetting}
use Rattle.oc_model.specs.declared.command.NumberSetting.TheVariants as setting
use Rattle.oc_model.specs.declared.command.FlagSetting.{FlagSetting}
use Rattle.oc_model.specs.declared.command.FlagSetting.TheVariants as flag
use Rattle.oc_model.specs.declared.command.SideText.{SideText}
use Rattle.oc_model.specs.declared.command.SideText.TheVariants as side
use Rattle.oc_model.specs.declared.command.Command.{Command}
use Rattle.oc_model.specs.declared.command.Command.TheVariants.{Class, RenameClass, RenameField, Convert, Index, Unindex, ConfigRun, ConfigNumber, ConfigFlag, New, Make, Let, BindNumber, BindField, Forget, Names, Show, PeekName, PeekNumber, Store, Delete, Activate, Deactivate, Refresh, Purge, Query, Example, Commit, Rollback}
use Rattle.oc_model.specs.Maps.{Text}
use Rattle.oc_machine.specs.declared.token.Sign.TheVariants.{Colon, Dot, Equal}
use Rattle.oc_machine.specs.declared.token.Token.TheVariants.{Word as a_word, Nat, Num, Sign as a_sign}
use Rattle.oc_machine.specs.Lexing.{tokens}
use Rattle.oc_machine.specs.Reading.{says_nothing, open_behind}
use Rattle.oc_machine.specs.GrammarValues.{Tokens, IsName, SpellsName, Optionally, InBraces, SpellsKind, SpellsDecl, SpellsValue, SpellsGiven}
use Rattle.oc_machine.specs.GrammarExpressions.{SpellsExpr, SpellsCriteria}

-- ---- the words of settings and sides

-- the word of a depth of the run
abbrev pub run_depth_word : RunDepth → Text
run_depth_word run_depth.Activation = codes "activation"
run_depth_word run_depth.Update = codes "update"

-- the word of a setting that takes a number
abbrev pub number_word : NumberSetting → Text
number_word setting.Minimum = codes "minimum"
number_word setting.Maximum = codes "maximum"
number_word setting.Update = codes "update"

-- the word of a setting that is on or off
abbrev pub flag_word : FlagSetting → Text
flag_word flag.CascadeActivate = codes "cascade_activate"
flag_word flag.CascadeUpdate = codes "cascade_update"
flag_word flag.CascadeDelete = codes "cascade_delete"

-- the word for on or off
abbrev pub switch_word : Bool → Text
switch_word true = codes "on"
switch_word false = codes "off"

-- the word for the committed objects or the session's
abbrev pub side_word : SideText → Text
side_word side.Committed = codes "committed"
side_word side.Session = codes "session"

-- ---- lines

-- `NAME . NAME`, and the tokens behind it
abbrev pub field_tokens : Text → Text → Tokens → Tokens
field_tokens n f ts = a_word n ∷ a_sign Dot ∷ a_word f ∷ ts

-- a number, or nothing
abbrev pub depth_tokens : Option ℕ → Tokens
depth_tokens None = []
depth_tokens (Some d) = Nat d ∷ []

-- the tokens spell the command
abbrev pub Spells : Command → Tokens → Type 0
Spells (Class n parent ds) ts =
    IsName n × ((us vs : Tokens) × (Optionally (a_sign Colon) SpellsName parent us × (InBraces SpellsDecl ds vs × (ts ≡ a_word (codes "class") ∷ a_word n ∷ (us ++ vs)))))
Spells (RenameClass c n) ts = IsName c × (IsName n × (ts ≡ a_word (codes "rename") ∷ a_word c ∷ a_word (codes "to") ∷ a_word n ∷ []))
Spells (RenameField c f n) ts = IsName c × (IsName f × (IsName n × (ts ≡ a_word (codes "rename") ∷ field_tokens c f (a_word (codes "to") ∷ a_word n ∷ []))))
Spells (Convert c f k) ts = IsName c × (IsName f × ((us : Tokens) × (SpellsKind k us × (ts ≡ a_word (codes "convert") ∷ field_tokens c f (a_word (codes "from") ∷ us)))))
Spells (Index c f) ts = IsName c × (IsName f × (ts ≡ a_word (codes "index") ∷ field_tokens c f []))
Spells (Unindex c f) ts = IsName c × (IsName f × (ts ≡ a_word (codes "unindex") ∷ field_tokens c f []))
Spells (ConfigRun which k) ts = ts ≡ a_word (codes "config") ∷ a_word (run_depth_word which) ∷ Nat k ∷ []
Spells (ConfigNumber c s k) ts = IsName c × (ts ≡ a_word (codes "config") ∷ field_tokens c (number_word s) (Nat k ∷ []))
Spells (ConfigFlag c s b) ts = IsName c × (ts ≡ a_word (codes "config") ∷ field_tokens c (flag_word s) (a_word (switch_word b) ∷ []))
Spells (New n c gs) ts = IsName n × (IsName c × ((us : Tokens) × (InBraces SpellsGiven gs us × (ts ≡ a_word (codes "new") ∷ a_word n ∷ a_word c ∷ us))))
Spells (Make c gs) ts = IsName c × ((us : Tokens) × (InBraces SpellsGiven gs us × (ts ≡ a_word (codes "make") ∷ a_word c ∷ us)))
Spells (Let n f v) ts = IsName n × (IsName f × ((us : Tokens) × (SpellsValue v us × (ts ≡ a_word (codes "let") ∷ field_tokens n f (a_sign Equal ∷ us)))))
Spells (BindNumber n k) ts = IsName n × (ts ≡ a_word (codes "bind") ∷ a_word n ∷ Num k ∷ [])
Spells (BindField n s f) ts = IsName n × (IsName s × (IsName f × (ts ≡ a_word (codes "bind") ∷ a_word n ∷ field_tokens s f [])))
Spells (Forget n) ts = IsName n × (ts ≡ a_word (codes "forget") ∷ a_word n ∷ [])
Spells Names ts = ts ≡ a_word (codes "names") ∷ []
Spells (Show n) ts = IsName n × (ts ≡ a_word (codes "show") ∷ a_word n ∷ [])
Spells (PeekName n d s) ts = IsName n × (ts ≡ a_word (codes "peek") ∷ a_word n ∷ Nat d ∷ a_word (side_word s) ∷ [])
Spells (PeekNumber k d s) ts = ts ≡ a_word (codes "peek") ∷ Num k ∷ Nat d ∷ a_word (side_word s) ∷ []
Spells (Store n d) ts = IsName n × (ts ≡ a_word (codes "store") ∷ a_word n ∷ depth_tokens d)
Spells (Delete n) ts = IsName n × (ts ≡ a_word (codes "delete") ∷ a_word n ∷ [])
Spells (Activate n d) ts = IsName n × (ts ≡ a_word (codes "activate") ∷ a_word n ∷ depth_tokens d)
Spells (Deactivate n d) ts = IsName n × (ts ≡ a_word (codes "deactivate") ∷ a_word n ∷ Nat d ∷ [])
Spells (Refresh n d) ts = IsName n × (ts ≡ a_word (codes "refresh") ∷ a_word n ∷ Nat d ∷ [])
Spells (Purge n) ts = IsName n × (ts ≡ a_word (codes "purge") ∷ a_word n ∷ [])
Spells (Query c filter criteria) ts =
    IsName c × ((us vs : Tokens) × (Optionally (a_word (codes "where")) SpellsExpr filter us × (SpellsCriteria criteria vs × (ts ≡ a_word (codes "query") ∷ a_word c ∷ (us ++ vs)))))
Spells (Example n) ts = IsName n × (ts ≡ a_word (codes "example") ∷ a_word n ∷ [])
Spells Commit ts = ts ≡ a_word (codes "commit") ∷ []
Spells Rollback ts = ts ≡ a_word (codes "rollback") ∷ []

-- no more than 64 parentheses are open behind any first part of the tokens
abbrev pub IsShallow : Tokens → Type 0
IsShallow ts = (us vs : Tokens) → ts ≡ us ++ vs → fold open_behind 0 us ≤ 64

-- The line isn't too long, isn't quiet, and falls into tokens that spell the command, without too many parentheses.
pub record SpellsLine (c : Command) (line : Text) : Type 0 where
  pub short : length line ≤ 65535
  pub speaks : says_nothing line ≡ false
  pub among : Tokens
  pub falls : tokens line ≡ Some among
  pub shallow : IsShallow among
  pub spells : Spells c among
