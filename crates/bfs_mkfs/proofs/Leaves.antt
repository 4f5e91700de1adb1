-- The rows of a new volume's trees, and where its trees are.
use Rattle.std.proofs.Common.{◌≡◌, ◌≤◌, ◌<◌, ◌+◌, ◌*◌, ◌^◌, ℕ, ℤ, zero, suc, pos, List, [], ◌∷◌, ◌++◌, length, cond, refl, sym, ap, ◌∙◌, subst, arith, take, drop, append_assoc, append-nil, length-append}
use Rattle.std.specs.Prelude.{codes}
use Rattle.std.specs.List.{AllByRecursion}
use Rattle.std.proofs.Math.Nat.{div-eq_of_lt}
use Rattle.std.proofs.Math.Pow.{pow_mono}
use Rattle.bfs_base.specs.declared.kind.KeyKind.{KeyKind}
use Rattle.bfs_base.specs.declared.kind.KeyKind.TheVariants.{Text, I64}
use Rattle.bfs_super.specs.Geometry.{IsBlockSize}
use Rattle.bfs_super.specs.declared.geometry.Geometry.{Geometry}
use Rattle.bfs_node.specs.Page.{Row, HasKeys, IsKeyLength}
use Rattle.bfs_values.specs.Reached.{times_named, chain_in, chains_in, is_fragment, AllMean}
use Rattle.bfs_values.specs.declared.link.Link.TheVariants.{Number}
use Rattle.bfs_values.specs.Links.{link_by, link_in}
use Rattle.bfs_values.specs.Values.{HasNumbers}
use Rattle.bfs_sound.specs.Volumes.{Volume}
use Rattle.bfs_mkfs.specs.Laid.{pages_length, blocks_in, tree_blocks, name_at, size_at, modified_at, root_rows, index_rows, root_tree, indices_tree, name_tree, size_tree, modified_tree, IsPlanned, HasTrees}
use Rattle.bfs_mkfs.proofs.Planned.{used_bound}
use Rattle.bfs_mkfs.proofs.Bytes.{part_of, middle, blocks_by}
use Rattle.bfs_mkfs.proofs.Stood.{IsPlainLeaf, Stood, stood}

-- a small number is no link
plain_link : (n : ℕ) → n < 2 ^ 62 → link_in (pos n) ≡ Number n
unfolding link_in
plain_link n small = ap (λ kind. link_by kind n) (div-eq_of_lt small)

abbrev IsSmall : Row → Type 0
IsSmall r = (n : ℕ) × (r.1 ≡ pos n) × (n < 2 ^ 62)

row_link : (r : Row) → (small : IsSmall r) → link_in r.1 ≡ Number small.0
row_link r small = ap link_in small.1 ∙ plain_link small.0 small.2

no_fragments : (rows : List Row) → AllByRecursion IsSmall rows → (at f : ℕ) → times_named at f rows ≡ 0
no_fragments [] all at f = refl
no_fragments (r ∷ rs) all at f =
    ap (λ l. cond (is_fragment at f l) 1 0 + times_named at f rs) (row_link r all.0) ∙ (let ih : times_named at f rs ≡ 0 = no_fragments rs all.1 at f in omega (arith, ih))

no_chains : (rows : List Row) → AllByRecursion IsSmall rows → chains_in rows ≡ []
no_chains [] all = refl
no_chains (r ∷ rs) all = ap (λ l. chain_in l ++ chains_in rs) (row_link r all.0) ∙ no_chains rs all.1

all_mean : (rows : List Row) → AllByRecursion IsSmall rows → (bytes : List ℕ) → AllMean bytes rows
all_mean [] all bytes = tt
all_mean (r ∷ rs) all bytes = (subst (HasNumbers bytes) (sym (row_link r all.0)) tt, all_mean rs all.1 bytes)

no_keys : (kind : KeyKind) → HasKeys kind []
no_keys kind j h = absurd (omega (arith, h))

more_keys : (kind : KeyKind) (r : Row) (rs : List Row) → IsKeyLength kind (length r.0) → HasKeys kind rs → HasKeys kind (r ∷ rs)
more_keys kind r rs first rest zero h = first
more_keys kind r rs first rest (suc j) h = rest j (omega (arith, h))

empty_text : IsPlainLeaf Text []
empty_text = record { keys = no_keys Text; ascend = tt; few = omega arith; no_fragment = no_fragments [] tt; no_chain = refl; mean = all_mean [] tt }

empty_long : IsPlainLeaf I64 []
empty_long = record { keys = no_keys I64; ascend = tt; few = omega arith; no_fragment = no_fragments [] tt; no_chain = refl; mean = all_mean [] tt }

small_of : (n : ℕ) → n ≤ 2600 → n < 2 ^ 62
small_of n h = omega (arith, h)

root_leaf : (g : Geometry) → g.root ≤ 2600 → IsPlainLeaf Text (root_rows g)
root_leaf g small = record {
  keys = more_keys Text (codes ".", pos g.root) ((codes "..", pos g.root) ∷ []) (omega arith, omega arith) (more_keys Text (codes "..", pos g.root) [] (omega arith, omega arith) (no_keys Text));
  ascend = ((refl, tt), (tt, tt));
  few = omega arith;
  no_fragment = no_fragments (root_rows g) rows;
  no_chain = no_chains (root_rows g) rows;
  mean = all_mean (root_rows g) rows;
}
  where
    rows : AllByRecursion IsSmall (root_rows g)
    rows = ((g.root, refl, small_of g.root small), ((g.root, refl, small_of g.root small), tt))

index_leaf : (g : Geometry) → modified_at g ≤ 2600 → IsPlainLeaf Text (index_rows g)
index_leaf g small = record {
  keys = more_keys Text (codes "last_modified", pos (modified_at g)) ((codes "name", pos (name_at g)) ∷ (codes "size", pos (size_at g)) ∷ []) (omega arith, omega arith) (more_keys Text (codes "name", pos (name_at g)) ((codes "size", pos (size_at g)) ∷ []) (omega arith, omega arith) (more_keys Text (codes "size", pos (size_at g)) [] (omega arith, omega arith) (no_keys Text)));
  ascend = ((refl, (refl, tt)), ((refl, tt), (tt, tt)));
  few = omega arith;
  no_fragment = no_fragments (index_rows g) rows;
  no_chain = no_chains (index_rows g) rows;
  mean = all_mean (index_rows g) rows;
}
  where
    rows : AllByRecursion IsSmall (index_rows g)
    rows = ((modified_at g, refl, small_of (modified_at g) small), ((name_at g, refl, small_of (name_at g) (omega (arith, small))), ((size_at g, refl, small_of (size_at g) (omega (arith, small))), tt)))

module _ (g : Geometry) (stamp : ℤ) (image : List ℕ) (planned : IsPlanned g) (trees : HasTrees g stamp (blocks_in g.block_size g.root (5 * tree_blocks g) image)) where
  abbrev n : ℕ
  n = g.block_size

  abbrev tb : ℕ
  tb = tree_blocks g

  abbrev v : Volume
  v = record { geometry = g; blocks = blocks_by n image }

  abbrev whole : List ℕ
  whole = blocks_in n g.root (5 * tb) image

  pub indices_at : g.indices ≡ g.root + tb
  indices_at = planned.plan.indices

  pub used_at : g.used ≡ g.root + 5 * tb
  used_at = let a = planned.plan.used in let b = planned.plan.root in omega (arith, a, b)

  pub used_small : g.used ≤ 2600
  used_small = used_bound g planned

  pub group_large : 8192 ≤ 2 ^ g.shift
  group_large =
      let s = planned.plan.shift in
      let up : 2 ^ s.0 ≤ 2 ^ g.shift = pow_mono s.2.from in
      let low : 8192 ≤ n * 8 = by_size planned.size in
      let e : 2 ^ s.0 ≡ n * 8 = s.1 in
      omega (arith, up, low, e)
    where
      by_size : IsBlockSize g.block_size → 8192 ≤ g.block_size * 8
      by_size is = grind (arith, is)

  -- a tree's bytes, by the blocks before it
  there : (pre part post : List ℕ) (off id : ℕ) → whole ≡ pre ++ (part ++ post) → length pre ≡ off * n → length part ≡ tb * n → off + tb ≤ 5 * tb → id ≡ g.root + off
      → take (tb * n) (drop (id * n) image) ≡ part
  there pre part post off id parts before long inside is =
      let most : off * n + tb * n ≤ 5 * tb * n = grind (arith, inside) in
      let at : id * n ≡ g.root * n + off * n = ap (λ k. k * n) is ∙ grind arith in
      ap (λ k. take (tb * n) (drop k image)) at
      ∙ sym (part_of (g.root * n) (5 * tb * n) (off * n) (tb * n) image most)
      ∙ ap (λ l. take (tb * n) (drop (off * n) l)) parts
      ∙ middle pre part post (off * n) (tb * n) before long

  long_of : (len : ℕ) → len ≡ n + pages_length n * n → len ≡ tb * n
  long_of len e = e ∙ grind arith

  in_group : (id : ℕ) → id + tb ≤ g.used → id + 1 + pages_length n ≤ 2 ^ g.shift
  in_group id h = let a = used_small in let b = group_large in omega (arith, a, b, h)

  in_volume : (id : ℕ) → id + tb ≤ g.used → id + 1 + pages_length n ≤ g.blocks
  in_volume id h = let a = planned.plan.room in omega (arith, a, h)

  pub root_stood : Stood v (root_tree g stamp) (root_rows g)
  root_stood = stood g image trees.root (root_tree g stamp) (root_rows g) planned.size trees.root_is (root_leaf g (let a = used_small in let b = used_at in omega (arith, a, b)))
      (there [] trees.root _ 0 g.root trees.parts (let e : 0 ≡ 0 * n = grind arith in e) (long_of (length trees.root) trees.root_is.long) (omega arith) (omega arith))
      (in_group g.root (let b = used_at in omega (arith, b))) (in_volume g.root (let b = used_at in omega (arith, b)))

  pub indices_stood : Stood v (indices_tree g stamp) (index_rows g)
  indices_stood = stood g image trees.indices (indices_tree g stamp) (index_rows g) planned.size trees.indices_is (index_leaf g (let a = used_small in let b = used_at in let c = indices_at in omega (arith, a, b, c)))
      (there trees.root trees.indices _ tb g.indices trees.parts (long_of (length trees.root) trees.root_is.long) (long_of (length trees.indices) trees.indices_is.long) (omega arith) indices_at)
      (in_group g.indices (let b = used_at in let c = indices_at in omega (arith, b, c))) (in_volume g.indices (let b = used_at in let c = indices_at in omega (arith, b, c)))

  pub name_stood : Stood v (name_tree g stamp) []
  name_stood = stood g image trees.name (name_tree g stamp) [] planned.size trees.name_is empty_text
      (there (trees.root ++ trees.indices) trees.name _ (2 * tb) (name_at g) (trees.parts ∙ sym (append_assoc trees.root trees.indices _))
      (length-append trees.root trees.indices ∙ (let a = long_of (length trees.root) trees.root_is.long in let b = long_of (length trees.indices) trees.indices_is.long in let e : tb * n + tb * n ≡ 2 * tb * n = grind arith in omega (arith, a, b, e)))
      (long_of (length trees.name) trees.name_is.long) (omega arith) (let c = indices_at in omega (arith, c)))
      (in_group (name_at g) (let b = used_at in let c = indices_at in omega (arith, b, c))) (in_volume (name_at g) (let b = used_at in let c = indices_at in omega (arith, b, c)))

  three : length ((trees.root ++ trees.indices) ++ trees.name) ≡ 3 * tb * n
  three =
      let a = long_of (length trees.root) trees.root_is.long in
      let b = long_of (length trees.indices) trees.indices_is.long in
      let c = long_of (length trees.name) trees.name_is.long in
      let l = length-append (trees.root ++ trees.indices) trees.name in
      let m = length-append trees.root trees.indices in
      let e : tb * n + tb * n + tb * n ≡ 3 * tb * n = grind arith in
      omega (arith, a, b, c, l, m, e)

  pub size_stood : Stood v (size_tree g stamp) []
  size_stood = stood g image trees.size (size_tree g stamp) [] planned.size trees.size_is empty_long
      (there ((trees.root ++ trees.indices) ++ trees.name) trees.size trees.last_modified (3 * tb) (size_at g)
      (trees.parts ∙ sym (append_assoc (trees.root ++ trees.indices) trees.name _ ∙ append_assoc trees.root trees.indices _))
      three (long_of (length trees.size) trees.size_is.long) (omega arith) (let c = indices_at in omega (arith, c)))
      (in_group (size_at g) (let b = used_at in let c = indices_at in omega (arith, b, c))) (in_volume (size_at g) (let b = used_at in let c = indices_at in omega (arith, b, c)))

  pub modified_stood : Stood v (modified_tree g stamp) []
  modified_stood = stood g image trees.last_modified (modified_tree g stamp) [] planned.size trees.modified_is empty_long
      (there (((trees.root ++ trees.indices) ++ trees.name) ++ trees.size) trees.last_modified [] (4 * tb) (modified_at g)
      (trees.parts ∙ sym (append_assoc ((trees.root ++ trees.indices) ++ trees.name) trees.size _ ∙ append_assoc (trees.root ++ trees.indices) trees.name _ ∙ append_assoc trees.root trees.indices _ ∙ ap (λ l. trees.root ++ (trees.indices ++ (trees.name ++ (trees.size ++ l)))) (append-nil trees.last_modified)))
      (length-append ((trees.root ++ trees.indices) ++ trees.name) trees.size ∙ (let a = three in let b = long_of (length trees.size) trees.size_is.long in let e : 3 * tb * n + tb * n ≡ 4 * tb * n = grind arith in omega (arith, a, b, e)))
      (long_of (length trees.last_modified) trees.modified_is.long) (omega arith) (let c = indices_at in omega (arith, c)))
      (in_group (modified_at g) (let b = used_at in let c = indices_at in omega (arith, b, c))) (in_volume (modified_at g) (let b = used_at in let c = indices_at in omega (arith, b, c)))
