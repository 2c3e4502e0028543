-- The order of single values.
use Rattle.std.specs.Prelude.{◌≡◌, refl, codes, true, false, pos, negsuc, [], Some, None}
use Rattle.std.specs.declared.cmp.Ordering.TheVariants.{Less, Equal, Greater}
use Rattle.oc_model.specs.declared.value.Atom.TheVariants.{Bool, Int, Text, Ref}
use Rattle.oc_model.specs.Orders.{compare}

-- the sorts, one after the other, each by the last of one and the first of the next
null_before_truth : compare (Ref 0) (Bool false) ≡ Less
null_before_truth = refl

truth_before_number : compare (Bool true) (Int (negsuc 0)) ≡ Less
truth_before_number = refl

number_before_text : compare (Int (pos 1000)) (Text (Some [])) ≡ Less
number_before_text = refl

text_before_reference : compare (Text (Some (codes "zz"))) (Ref 1) ≡ Less
text_before_reference = refl

reference_after_null_text : compare (Ref 7) (Text None) ≡ Greater
reference_after_null_text = refl

-- the two nulls are one in the order
nulls : compare (Text None) (Ref 0) ≡ Equal
nulls = refl

-- within a sort
false_before_true : compare (Bool false) (Bool true) ≡ Less
false_before_true = refl

-- -2 and -1, -1 and 0
negative_numbers : compare (Int (negsuc 1)) (Int (negsuc 0)) ≡ Less
negative_numbers = refl

zero_after_negative : compare (Int (pos 0)) (Int (negsuc 0)) ≡ Greater
zero_after_negative = refl

same_number : compare (Int (pos 128)) (Int (pos 128)) ≡ Equal
same_number = refl

capital_first : compare (Text (Some (codes "Z"))) (Text (Some (codes "a"))) ≡ Less
capital_first = refl

prefix_first : compare (Text (Some (codes "ab"))) (Text (Some (codes "a"))) ≡ Greater
prefix_first = refl

-- `é` in UTF-8 begins with a byte past every ASCII letter
bytes_decide : compare (Text (Some (codes "é"))) (Text (Some (codes "z"))) ≡ Greater
bytes_decide = refl

null_text_before_empty : compare (Text None) (Text (Some [])) ≡ Less
null_text_before_empty = refl

references_by_number : compare (Ref 9) (Ref 10) ≡ Less
references_by_number = refl
