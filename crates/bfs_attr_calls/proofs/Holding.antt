-- The attributes of a node of a volume at work stand and are held.
use Rattle.std.proofs.Common.{◌≡◌, ◌≤◌, ◌<◌, ◌+◌, ℕ, zero, suc, List, ◌∷◌, ◌++◌, refl, ap, ◌∙◌, arith, false, Option}
use Rattle.std.specs.Prelude.{◌*◌, ◌-◌, nat_lt, IsSome}
use Rattle.std.specs.List.{flat_map}
use Rattle.std.specs.FinMap.{entries}
use Rattle.bfs_base.specs.Lists.{times}
use Rattle.bfs_super.specs.Conditions.{IsValid}
use Rattle.bfs_super.specs.Geometry.{geometry_of}
use Rattle.bfs_super.specs.declared.geometry.Geometry.{Geometry}
use Rattle.bfs_super.specs.declared.sup.Super.{Super}
use Rattle.bfs_bitmap.specs.Runs.{Room, per_block, is_free, is_reserved, marked}
use Rattle.bfs_stream.specs.Told.{AreTold}
use Rattle.bfs_stream.proofs.Doubles.{times-append}
use Rattle.bfs_tree.specs.Trees.{Node, Tree, IsNode}
use Rattle.bfs_maps.specs.Mapped.{HasHeld, HasReadable}
use Rattle.bfs_sound.specs.Volumes.{Volume, bitmap_blocks, IsMarked, log_blocks}
use Rattle.bfs_sound.specs.Inodes.{is_short, frame_blocks, stream_blocks, inode_blocks}
use Rattle.bfs_sound.specs.Attributes.{attribute_directory, attribute_inodes}
use Rattle.bfs_sound.specs.Owners.{In, node_blocks, fixed_blocks, reach}
use Rattle.bfs_sound.proofs.Counts.{times_member}
use Rattle.bfs_sound.proofs.Parts.{in_entries}
use Rattle.bfs_shift.specs.Lists.{Lists}
use Rattle.bfs_shift.specs.Shifts.{volume_in}
use Rattle.bfs_shift.specs.Work.{IsAtWork}
use Rattle.bfs_shift.proofs.AtWork.{inode_told}
use Rattle.bfs_shift.proofs.Basics.{bitmap_has, some_bytes}
use Rattle.bfs_shift.proofs.Bridge.{outside_bitmap}
use Rattle.bfs_shift.proofs.Held.{owner_held}
use Rattle.bfs_shift.proofs.Moving.{all_parts}
use Rattle.bfs_shift.proofs.Owners.{owners_are}
use Rattle.bfs_shift.proofs.Owning.{owner_owns}
use Rattle.bfs_attr.specs.Bearers.{bearer_of, origin}
use Rattle.bfs_attr.specs.Changed.{attribute_blocks, Holds}
use Rattle.bfs_query.proofs.Bearing.{bears, can_read}
use Rattle.bfs_attr_calls.proofs.Changed.{marked_used, node_parts}
use Rattle.bfs_attr_calls.proofs.Inode.{own_rest}

first_counted : (id : ℕ) (l : List ℕ) → times id (id ∷ l) ≡ 1 + times id l
first_counted id l = grind arith

module _ (s : Super) (v : Room) (m : ℕ → Option (List ℕ)) (tree : Tree) (lists : Lists) (loose : List ℕ) (id : ℕ) (n : Node) (valid : IsValid s) (work : IsAtWork (geometry_of s) v m tree lists loose) (is : IsNode tree id n) where
  abbrev g : Geometry
  g = geometry_of s

  abbrev was : Volume
  was = volume_in g m

  abbrev xs : List ℕ
  xs = attribute_blocks g m id

  some : 0 < g.block_size
  some = some_bytes s valid

  few : (k : ℕ) → times k xs + (times k (fixed_blocks was) + times k (bitmap_blocks g)) ≤ times k (reach was tree)
  few k =
      let p = all_parts was tree lists loose work.stocked k in
      let a = times-append k (reach was tree) loose in
      let o : times k (node_blocks was (id, n)) ≤ times k (flat_map (node_blocks was) (entries tree.nodes)) = times_member k (node_blocks was) (entries tree.nodes) (id, n) (in_entries tree.nodes id n is) in
      let q : times k (node_blocks was (id, n)) ≡ times k (own_rest was id n.kind (is_short was id)) + times k xs = node_parts was id n k in
      omega (arith, p, a, o, q)

  once : (k : ℕ) → times k (reach was tree) ≤ 1
  once k = let a = times-append k (reach was tree) loose in let o : times k (reach was tree ++ loose) ≤ 1 = work.stocked.once k in omega (arith, a, o)

  reached_used : (k : ℕ) → 0 < times k (reach was tree) → is_free v m k ≡ false
  reached_used k has =
      let mark : IsMarked was k = (work.stocked.marks k).1 (let a = times-append k (reach was tree) loose in let r : 0 < times k (reach was tree ++ loose) = omega (arith, has, a) in r) in
      let one : marked (8 * g.block_size) m k ≡ 1 = mark.1 in
      marked_used (nat_lt k v.blocks) (marked (per_block v) m k) (is_reserved v.given k) (ap (λ (b : ℕ). marked (8 * b) m k) work.volume.block_size ∙ one)

  held : (j : ℕ) → In j (attribute_inodes was (attribute_directory was id)) → HasHeld (origin g j) v m
  held j i =
      let r : HasReadable (origin g j) m = (can_read s v m tree lists loose id n valid work is).streams j i in
      owner_held g v m j (owner_owns g v m tree lists loose j work.volume some work.fits work.stocked ((owners_are was tree).attribute id n j is i) r.1.stands.sound (told r)) (told r)
    where
      told : HasReadable (origin g j) m → AreTold m (inode_blocks was j)
      told r k has = by_count (times k (frame_blocks was j)) refl
        where
          by_count : (c : ℕ) → times k (frame_blocks was j) ≡ c → IsSome (m k)
          by_count (suc c) e = r.1.stands.told k (let h : 0 < times k (frame_blocks was j) = omega (arith, e) in h)
          by_count zero e = r.1.told k (let a = times-append k (frame_blocks was j) (stream_blocks was j) in let h : 0 < times k (inode_blocks was j) = has in let q : 0 < times k (stream_blocks was j) = omega (arith, a, h, e) in q)

  not_first : (k : ℕ) → 0 < times k xs → 1 ≤ k
  not_first zero has =
      let f = few 0 in
      let o = once 0 in
      let z : times 0 (fixed_blocks was) ≡ 1 + times 0 (log_blocks g) = first_counted 0 (log_blocks g) in
      absurd (omega (arith, has, f, o, z))
  not_first (suc k) has = omega arith

  here : 0 < times id xs
  here = let e = first_counted id (flat_map (inode_blocks was) (attribute_inodes was (attribute_directory was id))) in let r : times id xs ≡ 1 + times id (flat_map (inode_blocks was) (attribute_inodes was (attribute_directory was id))) = e in omega (arith, r)

  bits : (k : ℕ) → per_block v * (k - 1) < v.blocks → is_free v m k ≡ false
  bits zero low = reached_used 0 (let f = few 0 in let z : times 0 (fixed_blocks was) ≡ 1 + times 0 (log_blocks g) = first_counted 0 (log_blocks g) in omega (arith, f, z))
  bits (suc k) low = reached_used (suc k) (let f = few (suc k) in let b : 0 < times (suc k) (bitmap_blocks g) = bitmap_has g v (suc k) work.volume some (omega arith, low) in omega (arith, f, b))

  pub node_holds : Holds (bearer_of id s) v m
  node_holds = record {
    stands = bears s v m tree lists loose id n valid work is;
    inode = inode_told s v m tree lists loose id n work is;
    streams = held;
    once = λ k. let f = few k in let o = once k in omega (arith, f, o);
    taken = λ k has. reached_used k (let h : 0 < times k xs = has in let f = few k in omega (arith, h, f));
    outside = outside_bitmap g v id work.volume some (not_first id here) (let f = few id in let o = once id in let h = here in omega (arith, f, o, h));
    bits = bits;
    fits = work.fits;
  }
