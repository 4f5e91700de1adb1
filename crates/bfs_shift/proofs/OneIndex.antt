-- One index's stream changes.
use Rattle.std.proofs.Common.{◌≡◌, ◌≤◌, ◌<◌, ◌+◌, inl, inr, ℕ, ℤ, List, [], ◌∷◌, ◌++◌, refl, sym, ap, ap₂, ◌∙◌, arith, true, false, cond, Option, Some, None, map}
use Rattle.std.specs.List.{flat_map}
use Rattle.std.proofs.lemmas.List.Folds.{flat_map-map}
use Rattle.std.specs.declared.cmp.Ordering.{Ordering}
use Rattle.std.specs.declared.cmp.Ordering.TheVariants.{Less, Equal, Greater}
use Rattle.std.specs.Ordering.{is_eq}
use Rattle.std.specs.FinMap.{nat_cmp-IsAntisymmetric, slice_cmp-IsAntisymmetric}
use Rattle.bfs_base.specs.Keys.{text_cmp}
use Rattle.bfs_base.specs.Lists.{times, Agree}
use Rattle.bfs_base.specs.declared.kind.KeyKind.TheVariants.{Text}
use Rattle.bfs_node.specs.Page.{Row}
use Rattle.bfs_pages.specs.Maps.{assoc}
use Rattle.bfs_pages.specs.Order.{same_keys}
use Rattle.bfs_stream.specs.Places.{arrays_at, places_at}
use Rattle.bfs_stream.proofs.Doubles.{times-append}
use Rattle.bfs_tree.specs.Trees.{Tree}
use Rattle.bfs_sound.specs.Volumes.{Volume, sizes, bitmap_blocks}
use Rattle.bfs_sound.specs.Inodes.{inode_blocks, proper_rows, id_of, inodes_of}
use Rattle.bfs_sound.specs.Listings.{HasIndexDirectory}
use Rattle.bfs_sound.specs.Owners.{reach}
use Rattle.bfs_sound.specs.Laws.{with_blocks}
use Rattle.bfs_sound.proofs.Counts.{In, times_member, times_two}
use Rattle.bfs_sound.proofs.Streams.{frame_of_whole, blocks_stay, proper_stay}
use Rattle.bfs_shift.specs.Lists.{Lists}
use Rattle.bfs_shift.specs.Stocked.{Stocked, Shifts}
use Rattle.bfs_shift.proofs.Moving.{part_stays}
use Rattle.bfs_shift.proofs.Widens.{widened}
use Rattle.bfs_shift.proofs.Swaps.{swapped}
use Rattle.bfs_shift.proofs.Kept.{index_stays}

equal : (r : Ordering) → is_eq r ≡ true → r ≡ Equal
equal Less e = let bad : false ≡ true = e in cc
equal Equal e = refl
equal Greater e = let bad : false ≡ true = e in cc

pub same_name : (a b : List ℕ) → same_keys Text a b ≡ true → a ≡ b
same_name a b e = slice_cmp-IsAntisymmetric nat_cmp-IsAntisymmetric a b (equal (text_cmp a b) e)

-- the row that a name finds
pub found_row : (rows : List Row) (name : List ℕ) (value : ℤ) → assoc Text rows name ≡ Some value → (row : Row) × In row rows × (row.0 ≡ name) × (row.1 ≡ value)
found_row [] name value e = absurd (let bad : None ≡ Some value = e in cc)
found_row (r ∷ rs) name value e =
    elim (same_keys Text name r.0) as (λ b. same_keys Text name r.0 ≡ b → cond b (Some r.1) (assoc Text rs name) ≡ Some value → (row : Row) × In row (r ∷ rs) × (row.0 ≡ name) × (row.1 ≡ value)) [
      | true ↦ λ t is. (r, inl refl, sym (same_name name r.0 t), (let s : r.1 ≡ value = cc in s))
      | false ↦ λ t is. let more : (row : Row) × In row rs × (row.0 ≡ name) × (row.1 ≡ value) = found_row rs name value is in (more.0, inr more.1, more.2, more.3)
    ] refl e

-- the first of an inode's blocks is itself
pub own_first : (v : Volume) (id : ℕ) → 1 ≤ times id (inode_blocks v id)
own_first v id = one id (arrays_at (sizes v.geometry) v.blocks id ++ places_at (sizes v.geometry) v.blocks id)
  where
    one : (d : ℕ) (l : List ℕ) → 1 ≤ times d (d ∷ l)
    one d l = let e : times d (d ∷ l) ≡ 1 + times d l = grind arith in omega (arith, e)

module _ (v : Volume) (tree : Tree) (lists : Lists) (loose : List ℕ) (new : ℕ → List ℕ) (stocked : Stocked v tree lists loose) (row : Row)
    (shifts : Shifts v new (inode_blocks v (id_of row)) (inode_blocks (with_blocks v new) (id_of row))) where
  abbrev w : Volume
  w = with_blocks v new

  abbrev f : Row → List ℕ
  f r = inode_blocks v (id_of r)

  abbrev g : Row → List ℕ
  g r = inode_blocks w (id_of r)

  -- the blocks of a directory of indices
  abbrev all_in : Volume → Option ℕ → List ℕ
  all_in u o = flat_map (inode_blocks u) (inodes_of u o)

  module _ (d : ℕ) (few : (k : ℕ) → times k (all_in v (Some d)) + times k (bitmap_blocks v.geometry) ≤ times k (reach v tree ++ loose)) (among : In row (proper_rows v d)) where
    parts : (k : ℕ) → times k (all_in v (Some d)) ≡ times k (inode_blocks v d) + times k (flat_map f (proper_rows v d))
    parts k = times-append k (inode_blocks v d) (flat_map (inode_blocks v) (map id_of (proper_rows v d))) ∙ ap (λ (l : List ℕ). times k (inode_blocks v d) + times k l) (flat_map-map (inode_blocks v) id_of (proper_rows v d))

    here : (k : ℕ) → times k (f row) ≤ times k (flat_map f (proper_rows v d))
    here k = times_member k f (proper_rows v d) row among

    at_directory : Agree v.blocks new (inode_blocks v d)
    at_directory = part_stays v tree lists loose stocked new (f row) (g row) shifts (inode_blocks v d) (λ k. let a = few k in let b = parts k in let c = here k in omega (arith, a, b, c))

    pub directory_rows_stay : proper_rows w d ≡ proper_rows v d
    directory_rows_stay = proper_stay v new v.geometry.used d at_directory

    pub other_row : (r : Row) → In r (proper_rows v d) → (r ≡ row → ⊥) → Agree v.blocks new (f r)
    other_row r i apart = part_stays v tree lists loose stocked new (f row) (g row) shifts (f r) (λ k.
        let a = few k in
        let b = parts k in
        let c : times k (f r) + times k (f row) ≤ times k (flat_map f (proper_rows v d)) = times_two k f (proper_rows v d) r row i among apart in
        omega (arith, a, b, c))

    own_once : times (id_of row) (flat_map f (proper_rows v d)) ≤ 1
    own_once = let a = few (id_of row) in let b = parts (id_of row) in let o : times (id_of row) (reach v tree ++ loose) ≤ 1 = stocked.once (id_of row) in omega (arith, a, b, o)

    now_parts : (k : ℕ) → times k (all_in w (Some d)) ≡ times k (inode_blocks v d) + times k (flat_map g (proper_rows v d))
    now_parts k =
        times-append k (inode_blocks w d) (flat_map (inode_blocks w) (map id_of (proper_rows w d)))
        ∙ ap₂ (λ (a b : List ℕ). times k a + times k b) (blocks_stay v new v.geometry.used d (frame_of_whole v new v.geometry.used d at_directory))
        (ap (λ (rows : List Row). flat_map (inode_blocks w) (map id_of rows)) directory_rows_stay ∙ flat_map-map (inode_blocks w) id_of (proper_rows v d))

    swap : (k : ℕ) → times k (flat_map g (proper_rows v d)) + times k (f row) ≡ times k (flat_map f (proper_rows v d)) + times k (g row)
    swap k = swapped f g row (id_of row) (own_first v (id_of row)) k (proper_rows v d)
        (λ r i apart. blocks_stay v new v.geometry.used (id_of r) (frame_of_whole v new v.geometry.used (id_of r) (other_row r i apart))) own_once among

    pub all_shift : Shifts v new (all_in v (Some d)) (all_in w (Some d))
    all_shift = widened v new (f row) (g row) (all_in v (Some d)) (all_in w (Some d)) shifts
        (λ k. let a = parts k in let b = now_parts k in let c = swap k in omega (arith, a, b, c))
        (λ k. let a = parts k in let c = here k in omega (arith, a, c))
        (λ k. let a = few k in let o : times k (reach v tree ++ loose) ≤ 1 = stocked.once k in omega (arith, a, o))
        (λ k has. (stocked.marks k).1 (let h : 0 < times k (all_in v (Some d)) = has in let a = few k in let r : 0 < times k (reach v tree ++ loose) = omega (arith, h, a) in r))

    pub directory_stays : HasIndexDirectory v (Some d) → HasIndexDirectory w (Some d)
    directory_stays h = index_stays v new v.geometry.used d Text at_directory h
