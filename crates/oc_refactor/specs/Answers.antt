-- What the calls answer, as the definitions say it.
use Rattle.std.specs.Prelude.{Result, Ok, Err, Option, Some, None}
use Rattle.oc_model.specs.declared.value.Kind.{Kind}
use Rattle.oc_model.specs.declared.answer.Word.TheVariants as word
use Rattle.oc_model.specs.Refusals.{Checked}
use Rattle.oc_model.specs.Schemas.{Schema}
use Rattle.oc_model.specs.SchemaSteps.{Conversion}
use Rattle.oc_refactor.specs.declared.convert.ConvertPlan.{ConvertPlan}
use Rattle.oc_refactor.specs.declared.convert.ConvertFault.{ConvertFault}
use Rattle.oc_refactor.specs.declared.convert.ConvertFault.TheVariants as convert_fault
use Rattle.oc_refactor.specs.declared.rename.RenameClassFault.{RenameClassFault}
use Rattle.oc_refactor.specs.declared.rename.RenameClassFault.TheVariants as rename_class_fault
use Rattle.oc_refactor.specs.declared.rename.RenameFieldFault.{RenameFieldFault}
use Rattle.oc_refactor.specs.declared.rename.RenameFieldFault.TheVariants as rename_field_fault
use Rattle.oc_refactor.specs.declared.declaration.DeclareFault.{DeclareFault}
use Rattle.oc_refactor.specs.declared.declaration.DeclareFault.TheVariants as declare_fault
use Rattle.oc_refactor.specs.declared.index.IndexFault.{IndexFault}
use Rattle.oc_refactor.specs.declared.index.IndexFault.TheVariants as index_fault

-- a plan for values of this kind, or the refusal
abbrev pub conversion_told : Kind → Result ConvertPlan ConvertFault → Checked Conversion
conversion_told from (Ok p) = Ok (record { class = p.class; past = p.past; current = p.current; from = from; to = p.to })
conversion_told from (Err convert_fault.Class) = Err word.Class
conversion_told from (Err convert_fault.Field) = Err word.Field
conversion_told from (Err convert_fault.Past) = Err word.Past

-- a schema or the refusal, unless memory was wanted
abbrev pub class_rename_told : Result Schema RenameClassFault → Option (Checked Schema)
class_rename_told (Ok s) = Some (Ok s)
class_rename_told (Err rename_class_fault.Class) = Some (Err word.Class)
class_rename_told (Err rename_class_fault.Exists) = Some (Err word.Exists)
class_rename_told (Err rename_class_fault.Memory) = None

abbrev pub index_told : Result Schema IndexFault → Option (Checked Schema)
index_told (Ok s) = Some (Ok s)
index_told (Err index_fault.Class) = Some (Err word.Class)
index_told (Err index_fault.Field) = Some (Err word.Field)
index_told (Err index_fault.Kind) = Some (Err word.Kind)
index_told (Err index_fault.Memory) = None

abbrev pub field_rename_told : Result Schema RenameFieldFault → Option (Checked Schema)
field_rename_told (Ok s) = Some (Ok s)
field_rename_told (Err rename_field_fault.Class) = Some (Err word.Class)
field_rename_told (Err rename_field_fault.Field) = Some (Err word.Field)
field_rename_told (Err rename_field_fault.Exists) = Some (Err word.Exists)
field_rename_told (Err rename_field_fault.Memory) = None

abbrev pub declare_told : Result Schema DeclareFault → Option (Checked Schema)
declare_told (Ok s) = Some (Ok s)
declare_told (Err declare_fault.Class) = Some (Err word.Class)
declare_told (Err declare_fault.Parent) = Some (Err word.Parent)
declare_told (Err declare_fault.Exists) = Some (Err word.Exists)
declare_told (Err declare_fault.Size) = Some (Err word.Size)
declare_told (Err declare_fault.Memory) = None
