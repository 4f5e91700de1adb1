-- What the calls on maps ask of a volume within a call.
use Rattle.std.proofs.Common.{◌≡◌, ◌≤◌, ◌<◌, ◌+◌, ◌^◌, ◌≤ℤ◌, inl, inr, ℕ, ℤ, pos, negsuc, List, [], ◌∷◌, ◌++◌, refl, sym, ap, ◌∙◌, subst, arith, Bool, true, false, cond, Option, Some}
use Rattle.std.specs.Prelude.{◌&&◌}
use Rattle.std.proofs.lemmas.Int.{ints}
use Rattle.std.specs.List.{flat_map, AllByRecursion}
use Rattle.std.specs.FinMap.{entries}
use Rattle.bfs_base.specs.Lists.{times}
use Rattle.bfs_base.specs.declared.kind.KeyKind.TheVariants.{Text}
use Rattle.bfs_super.specs.Conditions.{natural}
use Rattle.bfs_super.specs.declared.geometry.Geometry.{Geometry}
use Rattle.bfs_bitmap.specs.Runs.{Room, Fits}
use Rattle.bfs_node.specs.Page.{Row}
use Rattle.bfs_pages.specs.Maps.{assoc}
use Rattle.bfs_pages.specs.Order.{comes_before, same_keys}
use Rattle.bfs_pages.specs.Ways.{KeysAscend}
use Rattle.bfs_pages.proofs.KeyOrder.{same_itself, less_not_same}
use Rattle.bfs_stream.specs.Places.{fields, whole_at, frame_at, places_at}
use Rattle.bfs_stream.specs.Told.{contents, AreTold}
use Rattle.bfs_stream.specs.Grown.{IsOfVolume, Owns}
use Rattle.bfs_stream.proofs.Doubles.{times-append}
use Rattle.bfs_tree.specs.declared.call.Kind.{Kind}
use Rattle.bfs_tree.specs.declared.call.Kind.TheVariants.{Dir}
use Rattle.bfs_tree.specs.Trees.{Node, Tree, IsNode, HasPlainNodes, is_link}
use Rattle.bfs_sound.specs.Volumes.{Volume, sizes}
use Rattle.bfs_sound.specs.Inodes.{content, inode_blocks, is_short}
use Rattle.bfs_sound.specs.Nodes.{HasContent}
use Rattle.bfs_sound.specs.Listings.{IsRow}
use Rattle.bfs_sound.specs.Owners.{node_blocks, reach}
use Rattle.bfs_sound.proofs.Counts.{In, times_member}
use Rattle.bfs_sound.proofs.Nodes.{own_all, other_blocks}
use Rattle.bfs_sound.proofs.Parts.{in_entries}
use Rattle.bfs_maps.specs.Mapped.{HasHeld, IsMap}
use Rattle.bfs_maps.specs.NumberTrees.{IsNumber, AreNumbers}
use Rattle.bfs_shift.specs.Lists.{Lists, RowsAgree}
use Rattle.bfs_shift.specs.Stocked.{Stocked}
use Rattle.bfs_shift.specs.Shifts.{volume_in}
use Rattle.bfs_shift.proofs.Moving.{all_parts}
use Rattle.bfs_shift.proofs.OneIndex.{found_row, same_name, own_first}
use Rattle.bfs_shift.proofs.IndexMoves.{ascends}
use Rattle.bfs_shift.proofs.Owners.{directory_owns}

is_natural : (z : ℤ) → pos 0 ≤ℤ z → z ≡ pos (natural z)
is_natural (pos n) low = refl
is_natural (negsuc n) low = absurd (omega (arith, ints, low))

pub owner_held : (g : Geometry) (v : Room) (m : ℕ → Option (List ℕ)) (id : ℕ)
    → Owns (record { id = id; sizes = sizes g }) v [] m → AreTold m (whole_at (sizes g) (contents m) id)
    → HasHeld (record { id = id; sizes = sizes g }) v m
owner_held g v m id owns told = (
  natural (fields (sizes g) (contents m) id).size,
  record {
    owns = owns;
    told = λ k h. told k (let some : 0 < times k (places_at (sizes g) (contents m) id) = h in let p = times-append k (frame_at (sizes g) (contents m) id) (places_at (sizes g) (contents m) id) in let r : 0 < times k (whole_at (sizes g) (contents m) id) = omega (arith, some, p) in r);
    size = is_natural (fields (sizes g) (contents m) id).size owns.stands.sound.size_low;
  },
)

-- each row of ascending rows is what its key finds
all_numbers : (rows : List Row) → KeysAscend Text rows → ((name : List ℕ) (value : ℤ) → assoc Text rows name ≡ Some value → IsNumber value) → AreNumbers rows
all_numbers [] ascend are = tt
all_numbers (r ∷ rs) ascend are = (
  are r.0 r.1 (ap (λ b. cond b (Some r.1) (assoc Text rs r.0)) (same_itself Text r.0)),
  all_numbers rs ascend.1 (λ name value found. are name value (ap (λ b. cond b (Some r.1) (assoc Text rs name)) (later name value found (same_keys Text name r.0) refl) ∙ found)),
)
  where
    above : (s : Row) (ss : List Row) → In s ss → AllByRecursion (λ (t : Row). comes_before Text r.0 t.0 ≡ true) ss → comes_before Text r.0 s.0 ≡ true
    above s [] i all = absurd i
    above s (t ∷ ss) (inl e) all = subst (λ (x : Row). comes_before Text r.0 x.0 ≡ true) (sym e) all.0
    above s (t ∷ ss) (inr i) all = above s ss i all.1

    later : (name : List ℕ) (value : ℤ) → assoc Text rs name ≡ Some value → (t : Bool) → same_keys Text name r.0 ≡ t → same_keys Text name r.0 ≡ false
    later name value found false e = e
    later name value found true e =
        let here : name ≡ r.0 = same_name name r.0 e in
        let s : (x : Row) × In x rs × (x.0 ≡ name) × (x.1 ≡ value) = found_row rs name value found in
        let less = above s.0 rs s.1 ascend.0 in
        let apart : same_keys Text r.0 s.0.0 ≡ false = less_not_same Text r.0 s.0.0 less in
        let same : same_keys Text r.0 s.0.0 ≡ true = ap (same_keys Text r.0) (s.2 ∙ here) ∙ same_itself Text r.0 in
        absurd (let bad : true ≡ false = sym same ∙ apart in cc)

one_more : (d : ℕ) (l : List ℕ) → times d (d ∷ l) ≡ 1 + times d l
one_more d l = grind arith

-- a node's first block is its inode
has_own : (v : Volume) (d : ℕ) (n : Node) → 1 ≤ times d (node_blocks v (d, n))
unfolding node_blocks
has_own v d n =
    let first : 1 ≤ times d (own_all v d n.kind (is_short v d)) = by_test (is_link n.kind && is_short v d) in
    let p : times d (own_all v d n.kind (is_short v d) ++ other_blocks v d) ≡ times d (own_all v d n.kind (is_short v d)) + times d (other_blocks v d) = times-append d (own_all v d n.kind (is_short v d)) (other_blocks v d) in
    omega (arith, first, p)
  where
    by_test : (t : Bool) → 1 ≤ times d (cond t (d ∷ []) (inode_blocks v d))
    by_test true = let e = one_more d [] in omega (arith, e)
    by_test false = own_first v d

module _ (v : Volume) (tree : Tree) (lists : Lists) (loose : List ℕ) (d : ℕ) (n : Node) (stocked : Stocked v tree lists loose) (agrees : RowsAgree tree lists) (plain : HasPlainNodes tree) (few : v.geometry.blocks ≤ 2 ^ 62)
    (is : IsNode tree d n) (dir : n.kind ≡ Dir) where
  node_low : (id : ℕ) (x : Node) → IsNode tree id x → id < v.geometry.blocks
  node_low id x there = ((stocked.marks id).1 (
      let own = has_own v id x in
      let member : times id (node_blocks v (id, x)) ≤ times id (flat_map (node_blocks v) (entries tree.nodes)) = times_member id (node_blocks v) (entries tree.nodes) (id, x) (in_entries tree.nodes id x there) in
      let p = all_parts v tree lists loose stocked id in
      let r : 0 < times id (reach v tree ++ loose) = omega (arith, own, member, p) in r)).0

  number : (id : ℕ) (x : Node) → IsNode tree id x → (value : ℤ) → value ≡ pos id → IsNumber value
  number id x there value e = (id, e, (let low = node_low id x there in omega (arith, low, few)))

  value_is : (name : List ℕ) (value : ℤ) → IsRow tree d n name value → IsNumber value
  value_is name value (inl dot) = number d n is value dot.1
  value_is name value (inr (inl dots)) = let p : (x : Node) × IsNode tree n.parent x × (x.kind ≡ Dir) = plain.parents d n is in number n.parent p.0 p.1 value dots.1
  value_is name value (inr (inr c)) = number c.0 c.2.node c.2.there value c.1

  rows_here : KeysAscend Text (lists.rows d)
  rows_here =
      let c : HasContent v d n Dir = subst (λ (k : Kind). HasContent v d n k) dir (stocked.nodes d n is).content_is in
      subst (KeysAscend Text) (stocked.rows d n is dir) (ascends (content v d) c.1)

  pub rows_are_numbers : AreNumbers (lists.rows d)
  rows_are_numbers = all_numbers (lists.rows d) rows_here (λ name value found. value_is name value ((agrees d n is dir name value).0 found))

pub directory_is_map : (g : Geometry) (v : Room) (m : ℕ → Option (List ℕ)) (tree : Tree) (lists : Lists) (loose : List ℕ) (d : ℕ) (n : Node)
    → IsOfVolume (sizes g) v → 0 < g.block_size → Fits v m → Stocked (volume_in g m) tree lists loose → IsNode tree d n → n.kind ≡ Dir
    → AreTold m (whole_at (sizes g) (contents m) d) → AreNumbers (lists.rows d)
    → IsMap Text (record { id = d; sizes = sizes g }) v m
directory_is_map g v m tree lists loose d n of some fits stocked is dir told numbers =
    let c : HasContent (volume_in g m) d n Dir = subst (λ (k : Kind). HasContent (volume_in g m) d n k) dir (stocked.nodes d n is).content_is in
    record {
      held = owner_held g v m d (directory_owns g v m tree lists loose stocked of some fits d n is dir told) told;
      tree = record { tree = c.1; numbers = subst AreNumbers (sym (stocked.rows d n is dir)) numbers };
    }
