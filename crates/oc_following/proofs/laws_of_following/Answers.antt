use Rattle.oc_following.proofs.Declares.{declared_follows}
use Rattle.oc_following.proofs.Indexes.{index_follows}
use Rattle.oc_following.proofs.Renames.{class_follows, field_follows}
use Rattle.oc_following.proofs.laws_of_following.Goals as goal

pub returns : goal.returns
returns c = record {
  declared = λ s t name parent ds rules proper all_proper h. declared_follows s t name ds rules proper all_proper parent h;
  class_renamed = λ s t name to rules proper h. class_follows s t name to rules proper h;
  field_renamed = λ s t class name to rules proper h. field_follows s t class name to rules proper h;
  index_set = λ s t class name on rules h. index_follows s t class name on rules h;
}
