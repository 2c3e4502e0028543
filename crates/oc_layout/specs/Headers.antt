-- The header's 128 bytes, and how they are read again. One spelling serves both forms: what one form leaves open is a field.
use Rattle.std.specs.Prelude.{◌≡◌, ◌<◌, ◌^◌, ℕ, ◌==◌, ◌&&◌, ◌||◌, not, nat_le, Bool, IsTrue, List, [], ◌∷◌, ◌++◌, drop, replicate, slice_index}
use Rattle.std.specs.Int.{w32, to_be_bytes, from_be_bytes}
use Rattle.oc_layout.specs.declared.cells.Header.{Header}
use Rattle.oc_layout.specs.Layout.{cell_bytes, first_cell, FitsCell}

-- `OCDB`, the format 1, the block size 1 of format 1, two zeros
abbrev pub opening_bytes : List ℕ
opening_bytes = 0x4f ∷ 0x43 ∷ 0x44 ∷ 0x42 ∷ 1 ∷ 1 ∷ 0 ∷ 0 ∷ []

abbrev pub header_bytes : Header → List ℕ
header_bytes h =
    opening_bytes
    ++ (to_be_bytes w32 h.limit
    ++ (to_be_bytes w32 h.first
    ++ (cell_bytes h.root
    ++ (replicate 8 0
    ++ (cell_bytes h.log
    ++ (to_be_bytes w32 h.block
    ++ (to_be_bytes w32 h.block_limit
    ++ (cell_bytes h.block_root
    ++ (cell_bytes h.spare
    ++ (h.gate ∷ h.form ∷ replicate 62 0))))))))))

-- a limit, in either form
abbrev pub is_limit : ℕ → Bool
is_limit n = nat_le 128 n && nat_le n 2147483647

-- the number of a first object
abbrev pub is_first : ℕ → Bool
is_first n = nat_le 1 n && nat_le n 2147483646

-- what block form asks besides
abbrev pub has_blocks : Header → Bool
has_blocks h = nat_le 1 h.block && nat_le h.block 127 && is_limit h.block_limit && (h.spare.at == 0) && (h.spare.len == 0)

abbrev pub is_in_range : Header → Bool
is_in_range h = is_limit h.limit && is_first h.first && (not (h.form == 2) || has_blocks h)

-- its numbers have as many bits as they have room
pub record FitsHeader (h : Header) : Type 0 where
  pub limit : h.limit < 2 ^ 32
  pub first : h.first < 2 ^ 32
  pub root : FitsCell h.root
  pub log : FitsCell h.log
  pub gate : h.gate < 2 ^ 8
  pub block : h.block < 2 ^ 32
  pub block_limit : h.block_limit < 2 ^ 32
  pub block_root : FitsCell h.block_root
  pub spare : FitsCell h.spare
  pub form : h.form < 2 ^ 8

pub record SpellsHeader (h : Header) (b : List ℕ) : Type 0 where
  pub fits : FitsHeader h
  pub in_range : IsTrue (is_in_range h)
  pub bytes : b ≡ header_bytes h

-- the fields as they stand in 128 bytes
abbrev pub fields : List ℕ → Header
fields b = record {
  limit = from_be_bytes w32 (drop 8 b);
  first = from_be_bytes w32 (drop 12 b);
  root = first_cell (drop 16 b);
  log = first_cell (drop 32 b);
  gate = slice_index b 64;
  block = from_be_bytes w32 (drop 40 b);
  block_limit = from_be_bytes w32 (drop 44 b);
  block_root = first_cell (drop 48 b);
  spare = first_cell (drop 56 b);
  form = slice_index b 65;
}
