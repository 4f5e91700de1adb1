-- The index directory's rows change, and with them what the indices have.
use Rattle.std.proofs.Common.{◌≡◌, ◌≢◌, ◌≤◌, ◌<◌, ◌+◌, inl, inr, ℕ, ℤ, List, [], ◌∷◌, ◌++◌, refl, sym, ap, ap₂, ◌∙◌, subst, arith, Bool, true, false, cond, Some, None, map}
use Rattle.std.specs.Prelude.{◌==◌}
use Rattle.std.specs.List.{flat_map}
use Rattle.std.proofs.lemmas.List.Folds.{flat_map-map}
use Rattle.bfs_base.specs.Lists.{times, Agree, AreSame}
use Rattle.bfs_base.specs.declared.kind.KeyKind.TheVariants.{Text}
use Rattle.bfs_super.specs.Conditions.{natural}
use Rattle.bfs_node.specs.Page.{Row}
use Rattle.bfs_pages.specs.Maps.{assoc}
use Rattle.bfs_stream.proofs.Doubles.{times-append}
use Rattle.bfs_tree.specs.Trees.{Tree}
use Rattle.bfs_sound.specs.Volumes.{Volume, bitmap_blocks}
use Rattle.bfs_sound.specs.Inodes.{inode_blocks, proper_rows, id_of, rows_of, inodes_of, index_directory}
use Rattle.bfs_sound.specs.Listings.{IsIndex, HasIndexDirectory}
use Rattle.bfs_sound.specs.Owners.{index_blocks, reach}
use Rattle.bfs_sound.specs.Laws.{with_blocks}
use Rattle.bfs_sound.proofs.Counts.{In, times_member}
use Rattle.bfs_sound.proofs.Streams.{frame_of_whole, blocks_stay}
use Rattle.bfs_shift.specs.Lists.{Lists}
use Rattle.bfs_shift.specs.Stocked.{IsListing, Stocked, Shifts}
use Rattle.bfs_shift.specs.StreamLaws.{blocks_named, IsDirectoryNow}
use Rattle.bfs_shift.proofs.Moving.{all_parts, part_stays}
use Rattle.bfs_shift.proofs.Widens.{widened}
use Rattle.bfs_shift.proofs.Kept.{listing_stays}
use Rattle.bfs_shift.proofs.Rewritten.{keeps_place, inode_is, bit_kept}
use Rattle.bfs_shift.proofs.Indices.{indices_changed}
use Rattle.bfs_shift.proofs.OneIndex.{found_row}

-- a volume with an index directory
pub is_there : (v : Volume) → v.geometry.indices ≢ 0 → index_directory v ≡ Some v.geometry.indices
is_there v some = by_test (v.geometry.indices == 0) refl
  where
    by_test : (t : Bool) → (v.geometry.indices == 0) ≡ t → cond t None (Some v.geometry.indices) ≡ Some v.geometry.indices
    by_test true e = absurd (some (grind (arith, e)))
    by_test false e = refl

pub names_before : (v : Volume) (tree : Tree) (lists : Lists) (loose : List ℕ) → Stocked v tree lists loose → v.geometry.indices ≢ 0 → proper_rows v v.geometry.indices ≡ lists.names
names_before v tree lists loose stocked some = ap (rows_of v) (sym (is_there v some)) ∙ stocked.names

pub all_rows : (f g : Row → List ℕ) (rows : List Row) → ((r : Row) → In r rows → g r ≡ f r) → flat_map g rows ≡ flat_map f rows
all_rows f g [] same = refl
all_rows f g (r ∷ rs) same = ap₂ (λ (a b : List ℕ). a ++ b) (same r (inl refl)) (all_rows f g rs (λ x i. same x (inr i)))

module _ (v : Volume) (tree : Tree) (lists now : Lists) (gone come loose : List ℕ) (new : ℕ → List ℕ) (stocked : Stocked v tree lists (gone ++ loose)) (some : v.geometry.indices ≢ 0)
    (shifts : Shifts v new (inode_blocks v v.geometry.indices) (inode_blocks (with_blocks v new) v.geometry.indices)) (written : IsDirectoryNow v new v.geometry.indices)
    (rows_are : (id : ℕ) → now.rows id ≡ lists.rows id) (names_are : proper_rows (with_blocks v new) v.geometry.indices ≡ now.names)
    (same : AreSame (blocks_named v now.names ++ come) (blocks_named v lists.names ++ gone))
    (listings : (name : List ℕ) (value : ℤ) → assoc Text now.names name ≡ Some value → IsListing v (natural value) (now.kinds name) (now.pairs name)) where
  abbrev w : Volume
  w = with_blocks v new

  abbrev d : ℕ
  d = v.geometry.indices

  abbrev xs : List ℕ
  xs = inode_blocks v d

  abbrev ys : List ℕ
  ys = inode_blocks w d

  abbrev f : Row → List ℕ
  f r = inode_blocks v (id_of r)

  abbrev g : Row → List ℕ
  g r = inode_blocks w (id_of r)

  before : (k : ℕ) → times k (index_blocks v) ≡ times k xs + times k (blocks_named v lists.names)
  unfolding index_blocks
  before k =
      ap (λ o. times k (flat_map (inode_blocks v) (inodes_of v o))) (is_there v some)
      ∙ times-append k xs (flat_map (inode_blocks v) (map id_of (proper_rows v d)))
      ∙ ap (λ (l : List ℕ). times k xs + times k l) (flat_map-map (inode_blocks v) id_of (proper_rows v d) ∙ ap (flat_map f) (names_before v tree lists (gone ++ loose) stocked some))

  counts : (k : ℕ) → times k (blocks_named v now.names) + times k come ≡ times k (blocks_named v lists.names) + times k gone
  counts k = let a = times-append k (blocks_named v now.names) come in let b = times-append k (blocks_named v lists.names) gone in let c = same k in omega (arith, a, b, c)

  parts : (k : ℕ) → times k xs + times k (blocks_named v now.names) + times k come + times k (bitmap_blocks v.geometry) ≤ times k (reach v tree ++ (gone ++ loose))
  parts k = let a = all_parts v tree lists (gone ++ loose) stocked k in let c = times-append k gone loose in let b = before k in let e = counts k in omega (arith, a, b, c, e)

  at_row : (r : Row) → In r now.names → Agree v.blocks new (f r)
  at_row r i = part_stays v tree lists (gone ++ loose) stocked new xs ys shifts (f r) (λ k.
      let p = parts k in
      let m : times k (f r) ≤ times k (blocks_named v now.names) = times_member k f now.names r i in
      omega (arith, p, m))

  named_same : blocks_named w now.names ≡ blocks_named v now.names
  named_same = all_rows f g now.names (λ r i. blocks_stay v new v.geometry.used (id_of r) (frame_of_whole v new v.geometry.used (id_of r) (at_row r i)))

  after : (k : ℕ) → times k (index_blocks w) ≡ times k ys + times k (blocks_named v now.names)
  unfolding index_blocks
  after k =
      ap (λ o. times k (flat_map (inode_blocks w) (inodes_of w o))) (is_there v some)
      ∙ times-append k ys (flat_map (inode_blocks w) (map id_of (proper_rows w d)))
      ∙ ap (λ (l : List ℕ). times k ys + times k l) (flat_map-map (inode_blocks w) id_of (proper_rows w d) ∙ ap (flat_map g) names_are ∙ named_same)

  all_shift : Shifts v new (index_blocks v ++ gone) (index_blocks w ++ come)
  all_shift = widened v new xs ys (index_blocks v ++ gone) (index_blocks w ++ come) shifts
      (λ k. let a = times-append k (index_blocks v) gone in let b = times-append k (index_blocks w) come in let c = before k in let e = after k in let h = counts k in omega (arith, a, b, c, e, h))
      (λ k. let a = times-append k (index_blocks v) gone in let c = before k in omega (arith, a, c))
      (λ k. let a = times-append k (index_blocks v) gone in let p = all_parts v tree lists (gone ++ loose) stocked k in let c = times-append k gone loose in let o : times k (reach v tree ++ (gone ++ loose)) ≤ 1 = stocked.once k in omega (arith, a, p, c, o))
      (λ k has. (stocked.marks k).1 (let h : 0 < times k (index_blocks v ++ gone) = has in let a = times-append k (index_blocks v) gone in let p = all_parts v tree lists (gone ++ loose) stocked k in let c = times-append k gone loose in let r : 0 < times k (reach v tree ++ (gone ++ loose)) = omega (arith, h, a, p, c) in r))

  directory_before : IsIndex v d Text
  directory_before = subst (HasIndexDirectory v) (is_there v some) stocked.directory

  directory_now : IsIndex w d Text
  directory_now = record {
    owner = record { inode = inode_is v new d (keeps_place (v.blocks d) (new d) written.kept) written.bytes directory_before.owner.inode; stream = written.stream };
    mode = bit_kept v new d written.kept written.bytes 29 directory_before.mode;
    kind_is = directory_before.kind_is;
    tree = written.tree;
  }

  listings_now : (name : List ℕ) (value : ℤ) → assoc Text now.names name ≡ Some value → IsListing w (natural value) (now.kinds name) (now.pairs name)
  listings_now name value at =
      let found : (row : Row) × In row now.names × (row.0 ≡ name) × (row.1 ≡ value) = found_row now.names name value at in
      listing_stays v new v.geometry.used (natural value) (now.kinds name) (now.pairs name) (subst (λ (z : ℤ). Agree v.blocks new (inode_blocks v (natural z))) found.3 (at_row found.0 found.1)) (listings name value at)

  pub names_changed : Stocked (with_blocks v new) tree now (come ++ loose)
  names_changed = indices_changed v tree lists now gone come loose new stocked all_shift rows_are
      (subst (HasIndexDirectory w) (sym (is_there v some)) directory_now) (ap (rows_of w) (is_there v some) ∙ names_are) listings_now
