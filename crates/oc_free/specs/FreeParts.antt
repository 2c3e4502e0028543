-- Free parts: the blocks that they have, and the order that keeps them apart. All numbers count blocks.
use Rattle.std.specs.Prelude.{◌<◌, ◌≤◌, ℕ, ◌+◌, ◌&&◌, nat_lt, nat_le, Bool, List, All, AllPairs, count_by, sum_by}
use Rattle.oc_model.specs.Space.{Part}

-- the first block behind the part
abbrev pub end_of : Part → ℕ
end_of p = p.address + p.blocks

-- the block k is one of the part's
abbrev pub has_block : ℕ → Part → Bool
has_block k p = nat_le p.address k && nat_lt k (end_of p)

-- how many of the parts have the block k
abbrev pub free_at : List Part → ℕ → ℕ
free_at parts k = count_by (has_block k) parts

-- how many blocks the parts have
abbrev pub all_blocks : List Part → ℕ
all_blocks parts = sum_by (λ p. p.blocks) parts

-- the part has a block, and none that an address can't name
pub record IsInRange (p : Part) : Type 0 where
  pub some : 1 ≤ p.blocks
  pub ends : end_of p ≤ 2147483647

-- the first part ends before the second, with a block between them
abbrev pub LiesBefore : Part → Part → Type 0
LiesBefore p q = end_of p < q.address

-- the parts stand in the order of their addresses, and no two of them share a block or touch
pub record AreFree (parts : List Part) : Type 0 where
  pub in_range : All IsInRange parts
  pub apart : AllPairs LiesBefore parts

-- what contracts see of free parts: the parts, and how many more can be released without memory
pub record Free : Type 0 where
  pub parts : List Part
  pub spare : ℕ
