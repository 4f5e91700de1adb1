-- Loose blocks became a node.
use Rattle.std.proofs.Common.{◌≡◌, ◌≢◌, ◌<◌, ◌+◌, inl, ℕ, zero, suc, List, [], ◌++◌, refl, sym, ap, ◌∙◌, arith, Bool, Option, Some, None, true, ◌⊎◌, inr}
use Rattle.std.specs.Prelude.{IsSome}
use Rattle.std.specs.Cmp.{nat_cmp_total}
use Rattle.std.specs.List.{flat_map}
use Rattle.std.specs.FinMap.{entries, get, insert, entries-insert, get-entries}
use Rattle.bfs_base.specs.Lists.{times, Has, AreSame}
use Rattle.bfs_base.specs.declared.kind.KeyKind.TheVariants.{Text}
use Rattle.bfs_super.specs.declared.geometry.Geometry.{Geometry}
use Rattle.bfs_bitmap.specs.Runs.{Room}
use Rattle.bfs_tree.specs.declared.call.Kind.TheVariants.{Dir}
use Rattle.bfs_tree.specs.Trees.{Node, Tree, IsNode}
use Rattle.bfs_values.specs.Rows.{rows_in}
use Rattle.bfs_sound.specs.Volumes.{Volume}
use Rattle.bfs_sound.specs.Inodes.{content}
use Rattle.bfs_sound.specs.Nodes.{HasNode}
use Rattle.bfs_sound.specs.Owners.{node_blocks, data_blocks, file_data, fixed_blocks, reach, IsMetadata}
use Rattle.bfs_sound.proofs.Parts.{reach_parts}
use Rattle.bfs_shift.specs.Lists.{Lists}
use Rattle.bfs_shift.specs.Shifts.{volume_in}
use Rattle.bfs_shift.proofs.Joins.{put_count, node_joined}
use Rattle.bfs_shift.proofs.Made.{put_other}
use Rattle.bfs_shift.specs.Work.{IsAtWork, GoesOn}

module _ (g : Geometry) (v : Room) (m : ℕ → Option (List ℕ)) (tree : Tree) (lists : Lists) (own rest : List ℕ) (id : ℕ) (n : Node) (work : IsAtWork g v m tree lists (own ++ rest)) (absent : get tree.nodes id ≡ None)
    (has : HasNode (volume_in g m) id n) (same : AreSame own (node_blocks (volume_in g m) (id, n))) (rows : n.kind ≡ Dir → rows_in Text (content (volume_in g m) id) ≡ lists.rows id)
    (no_data : data_blocks (volume_in g m) (id, n) ≡ []) (told_own : (k : ℕ) → Has own k → IsSome (m k)) (old : ℕ → Bool) (own_changed : (k : ℕ) → Has own k → old k ≡ true) where
  abbrev was : Volume
  was = volume_in g m

  abbrev after : Tree
  after = record tree { nodes = insert tree.nodes id n }

  count : (f : ℕ × Node → List ℕ) (k : ℕ) → times k (flat_map f (entries (insert tree.nodes id n))) ≡ times k (f (id, n)) + times k (flat_map f (entries tree.nodes))
  count f k =
      ap (λ (es : List (ℕ × Node)). times k (flat_map f es)) (entries-insert nat_cmp_total tree.nodes id n)
      ∙ put_count f k id n (entries tree.nodes) (sym (get-entries tree.nodes id) ∙ absent)

  same_data : AreSame (file_data was tree) (file_data was after)
  same_data k = let c = count (data_blocks was) k in let z : times k (data_blocks was (id, n)) ≡ times k [] = ap (times k) no_data in omega (arith, c, z)

  reached : (k : ℕ) → times k (reach was after) ≡ times k own + times k (reach was tree)
  reached k =
      let a = reach_parts was after k in
      let b = reach_parts was tree k in
      let c = count (node_blocks was) k in
      let d : times k own ≡ times k (node_blocks was (id, n)) = same k in
      omega (arith, a, b, c, d)

  told_now : (k : ℕ) → IsMetadata was after k → times k (fixed_blocks was) ≡ 0 → IsSome (m k)
  told_now k is apart = by_count (times k own) refl
    where
      by_count : (c : ℕ) → times k own ≡ c → IsSome (m k)
      by_count (suc c) e = told_own k (let h : 0 < times k own = omega (arith, e) in h)
      by_count zero e =
          let there : 0 < times k (reach was after) = is.0 in
          let r = reached k in
          let d : times k (file_data was tree) ≡ times k (file_data was after) = same_data k in
          let z = is.1 in
          work.told k ((let h : 0 < times k (reach was tree) = omega (arith, there, r, e) in h), omega (arith, d, z)) apart

  pub joined_work : IsAtWork g v m after lists rest
  joined_work = record {
    volume = work.volume;
    fits = work.fits;
    counted = work.counted;
    stocked = node_joined was tree lists own rest id n work.stocked absent has same rows;
    told = told_now;
  }

  other : (x : ℕ) (y : Node) → IsNode tree x y → x ≢ id
  other x y is e = let bad : Some y ≡ None = sym is ∙ ap (get tree.nodes) e ∙ absent in cc

  pub joined_goes : GoesOn g v v m m tree after old old
  joined_goes = record {
    rest = refl;
    marked = λ k h. h;
    files = λ x y is f. (record { node = y; there = put_other tree.nodes id n x (other x y is) ∙ is; kind = refl; size = refl }, refl);
    same_data = same_data;
    bytes = λ k h. refl;
    written = λ k h. inl h;
    kept = λ k h. h;
    entered = λ k h. by_own k h (times k own) refl;
    reserved = λ k r none. none;
  }
    where
      by_own : (k : ℕ) → IsMetadata was after k → (c : ℕ) → times k own ≡ c → IsMetadata was tree k ⊎ (old k ≡ true)
      by_own k h (suc c) e = inr (own_changed k (let some : 0 < times k own = omega (arith, e) in some))
      by_own k h zero e =
          let there : 0 < times k (reach was after) = h.0 in
          let r = reached k in
          let d : times k (file_data was tree) ≡ times k (file_data was after) = same_data k in
          let z = h.1 in
          inl ((let some : 0 < times k (reach was tree) = omega (arith, there, r, e) in some), omega (arith, d, z))
