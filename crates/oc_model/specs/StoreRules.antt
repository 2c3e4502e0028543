-- The rules that every store keeps.
use Rattle.std.specs.Prelude.{◌≡◌, ◌≤◌, ◌<◌, ℕ, Bool, true, ◌&&◌, ◌==◌, nat_lt, List, [], ◌∷◌, map, filter, flat_map, Some, is_some, IsTrue}
use Rattle.std.specs.List.{list_any, list_all}
use Rattle.std.specs.FinMap.{is_sorted}
use Rattle.std.specs.Ordering.{nat_cmp}
use Rattle.oc_model.specs.declared.value.Entry.{Entry}
use Rattle.oc_model.specs.declared.value.Rec.{Rec}
use Rattle.oc_model.specs.declared.schema.FieldDef.{FieldDef}
use Rattle.oc_model.specs.Maps.{at}
use Rattle.oc_model.specs.Kinds.{same_kind}
use Rattle.oc_model.specs.Schemas.{Schema, class_at, is_sub}
use Rattle.oc_model.specs.SchemaRules.{numbered, keeps_rules}
use Rattle.oc_model.specs.Stores.{Store}
use Rattle.oc_model.specs.Spelling.{entry_fits}

-- ---- which records suit a schema

-- the own fields of the class and of its ancestors, past ones too
unfoldable pub known_fields : Schema → ℕ → List FieldDef
unfolding is_sub
known_fields s c = flat_map (λ e. (e.1).fields) (filter (λ e. is_sub s c e.0) (numbered s))

-- the entry stands under the field's id and has the field's kind
abbrev pub is_under : FieldDef → Entry → Bool
is_under f e = f.id == e.id && same_kind f.kind e.kind

-- an object of the class may have the entry
abbrev pub is_known : Schema → ℕ → Entry → Bool
is_known s c e = list_any (λ f. is_under f e) (known_fields s c)

-- each number is less than the next one
abbrev pub are_ascending : List ℕ → Bool
are_ascending [] = true
are_ascending (n ∷ []) = true
are_ascending (n ∷ m ∷ ns) = nat_lt n m && are_ascending (m ∷ ns)

-- The record suits the schema: its class is there, each entry is that of a field of the class or of an ancestor and has a value of its kind, and the entries stand by id.
pub record Suits (s : Schema) (r : Rec) : Type 0 where
  pub class : IsTrue (is_some (class_at s r.class))
  pub known : IsTrue (list_all (is_known s r.class) r.entries)
  pub fits : IsTrue (list_all entry_fits r.entries)
  pub by_id : IsTrue (are_ascending (map (λ e. e.id) r.entries))

-- ---- the rules of a store

-- it holds of every object: of its number and its record
abbrev pub OfEach : Store → (ℕ → Rec → Type 0) → Type 0
OfEach s P = (n : ℕ) (r : Rec) → at s.records n ≡ Some r → P n r

-- The schema keeps its rules. The records stand by number, each number is from 1 on and below the next number, and every record suits the schema.
pub record KeepsStore (s : Store) : Type 0 where
  pub schema : IsTrue (keeps_rules s.schema)
  pub some_next : 1 ≤ s.next
  pub small_next : s.next ≤ 2147483647
  pub by_number : IsTrue (is_sorted nat_cmp s.records)
  pub from_one : OfEach s (λ n r. 1 ≤ n)
  pub below_next : OfEach s (λ n r. n < s.next)
  pub suit : OfEach s (λ n r. Suits s.schema r)
