-- Headers that agree.
use Rattle.std.proofs.Common.{◌≡◌, ◌∙◌, ℕ, ◌+◌, ◌-◌, ◌<◌, ◌≤◌, true, List, length, drop, get_or, sym, arith}
use Rattle.std.specs.Int.{w32, from_be_bytes}
use Rattle.std.proofs.Math.Nat.{le-div_iff_mul-le}
use Rattle.std.proofs.lemmas.Bool.Decides.{nat_tests}
use Rattle.oc_layout.specs.declared.cells.Header.{Header}
use Rattle.oc_layout.specs.Layout.{unit_of, blocks, first_cell}
use Rattle.oc_layout.specs.Headers.{fields, is_in_range}
use Rattle.oc_log.proofs.Bytes.{slice_same}
use Rattle.oc_pages.proofs.Images.{numbers_same, behind, first_same}
use Rattle.oc_slots.specs.Forms.{Begins}

-- a block has a byte
pub unit_some : (h : Header) → is_in_range h ≡ true → 0 < unit_of h
unit_some h range = grind (arith, nat_tests, range)

-- more bytes take no fewer blocks
pub blocks_rise : (unit m n : ℕ) → 0 < unit → m ≤ n → blocks unit m ≤ blocks unit n
blocks_rise unit m n pos le =
    let low = (le-div_iff_mul-le {k = unit} {x = blocks unit m} {y = m + unit - 1} pos).0 (omega arith) in
    (le-div_iff_mul-le {k = unit} {x = blocks unit m} {y = n + unit - 1} pos).1 (omega (arith, low, le))

module _ (b c : List ℕ) where
  pub number_same : (n : ℕ) → ((k : ℕ) → n ≤ k → k < n + 4 → get_or c k 0 ≡ get_or b k 0) → from_be_bytes w32 (drop n c) ≡ from_be_bytes w32 (drop n b)
  number_same n same = numbers_same (drop n b) (drop n c) (λ k lt. behind n b c k (same (n + k) (omega arith) (omega (arith, lt))))

  pub cell_same : (n : ℕ) → ((k : ℕ) → n ≤ k → k < n + 8 → get_or c k 0 ≡ get_or b k 0) → first_cell (drop n c) ≡ first_cell (drop n b)
  cell_same n same = first_same (drop n b) (drop n c) (λ k lt. behind n b c k (same (n + k) (omega arith) (omega (arith, lt))))

  module _ (same : (k : ℕ) → k < 128 → get_or c k 0 ≡ get_or b k 0) where
    pub fields_same : fields c ≡ fields b
    fields_same i = record {
      limit = number_same 8 (λ k ge lt. same k (omega (arith, lt))) i;
      first = number_same 12 (λ k ge lt. same k (omega (arith, lt))) i;
      root = cell_same 16 (λ k ge lt. same k (omega (arith, lt))) i;
      log = cell_same 32 (λ k ge lt. same k (omega (arith, lt))) i;
      gate = same 64 (omega arith) i;
      block = number_same 40 (λ k ge lt. same k (omega (arith, lt))) i;
      block_limit = number_same 44 (λ k ge lt. same k (omega (arith, lt))) i;
      block_root = cell_same 48 (λ k ge lt. same k (omega (arith, lt))) i;
      spare = cell_same 56 (λ k ge lt. same k (omega (arith, lt))) i;
      form = same 65 (omega arith) i;
    }

    pub begins_alike : (h : Header) → 128 ≤ length c → Begins h b → Begins h c
    begins_alike h long is = record {
      long = long;
      fields = is.fields ∙ sym fields_same;
      in_range = is.in_range;
      opening = slice_same 0 8 b c (omega (arith, is.long)) (omega (arith, long)) (λ k ge lt. same k (omega (arith, lt))) ∙ is.opening;
      zeros = λ k ge lt. same k (omega (arith, lt)) ∙ is.zeros k ge lt;
      end_zeros = λ k ge lt. same k lt ∙ is.end_zeros k ge lt;
    }
