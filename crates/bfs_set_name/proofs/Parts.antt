-- The item that some bytes begin with, as its parts are read.
use Rattle.std.proofs.Common.{◌≡◌, ◌≤◌, ◌<◌, ◌+◌, ◌-◌, ◌∙◌, ℕ, List, take, drop, sym, ap, ap₂, subst, arith, length, length-take, length-drop, max}
use Rattle.bfs_bytes.specs.Fields.{unsigned_at}
use Rattle.bfs_smalldata.specs.Items.{item_in}
use Rattle.bfs_super.specs.Conditions.{ceil}
use Rattle.bfs_tree.specs.Trees.{Attribute}
use Rattle.bfs_attr.specs.SmallData.{attribute_in}

module _ (item : List ℕ) (kind size len : ℕ) (kind_is : kind ≡ unsigned_at 4 item 0) (size_is : size ≡ unsigned_at 2 item 4) (len_is : len ≡ unsigned_at 2 item 6) where
  abbrev pub name_part : List ℕ
  name_part = take (8 + size - 8) (drop 8 item)

  abbrev pub bytes_part : List ℕ
  bytes_part = take (8 + size + 3 + len - (8 + size + 3)) (drop (8 + size + 3) item)

  pub name_read : name_part ≡ (item_in item).name
  name_read = let long : 8 + size - 8 ≡ size = omega arith in ap (λ (n : ℕ). take n (drop 8 item)) (long ∙ size_is)

  pub bytes_read : bytes_part ≡ (item_in item).bytes
  bytes_read =
      let long : 8 + size + 3 + len - (8 + size + 3) ≡ len = omega arith in
      ap₂ (λ (n k : ℕ). take n (drop k item)) (long ∙ len_is) (ap (λ (n : ℕ). 8 + n + 3) size_is)

  pub part_short : length bytes_part ≤ length item
  part_short = omega (arith, length-take (8 + size + 3 + len - (8 + size + 3)) (drop (8 + size + 3) item), length-drop (8 + size + 3) item)

  -- what holds of the item holds of its parts, and the other way round
  pub to_parts : (P : List ℕ → Attribute → Type 0) → P (item_in item).name (attribute_in (item_in item)) → P name_part (record { code = kind; bytes = bytes_part })
  to_parts P is = subst (λ (x : ℕ × List ℕ × List ℕ). P x.1 (record { code = x.0; bytes = x.2 })) (λ i. (sym kind_is i, sym name_read i, sym bytes_read i)) is

  pub from_parts : (P : List ℕ → Attribute → Type 0) → P name_part (record { code = kind; bytes = bytes_part }) → P (item_in item).name (attribute_in (item_in item))
  from_parts P is = subst (λ (x : ℕ × List ℕ × List ℕ). P x.1 (record { code = x.0; bytes = x.2 })) (λ i. (kind_is i, name_read i, bytes_read i)) is

-- what is no longer than a block fills one at most
ceil_one : (n b : ℕ) → 0 < b → n ≤ b → ceil n b ≤ 1
ceil_one n b some h = grind (arith, some, h)

pub few_blocks : (n long size : ℕ) → 1024 ≤ size → n ≤ long → long ≤ size → max 1 (max (ceil 2048 size) (ceil n size)) ≤ max 1 (ceil 2048 size)
few_blocks n long size some inside fits = let one = ceil_one n size (omega (arith, some)) (omega (arith, inside, fits)) in omega (arith, one)
