-- The tree of a new volume stands on it.
use Rattle.std.proofs.Common.{◌≡◌, ◌-◌, ◌*◌, ◌/◌, ◌%◌, ◌<◌, ◌↔◌, ◌⊎◌, inl, inr, ℕ, ℤ, zero, suc, pos, List, [], ◌∷◌, ◌++◌, length, Option, Some, None, Bool, true, false, cond, refl, sym, ap, ap₂, ◌∙◌, subst, arith, drop, replicate, get_or}
use Rattle.std.proofs.lemmas.List.{drop-replicate}
use Rattle.std.specs.Prelude.{codes, ◌==◌, ◌||◌, nat_lt}
use Rattle.std.specs.List.{filter}
use Rattle.std.specs.declared.cmp.Ordering.{Ordering}
use Rattle.std.specs.declared.cmp.Ordering.TheVariants.{Less, Equal, Greater}
use Rattle.std.specs.Int.{w32, cast_signed}
use Rattle.std.specs.Ordering.{nat_cmp, eq_by_cmp, is_eq}
use Rattle.std.specs.Cmp.{nat_cmp_total}
use Rattle.std.specs.Cmp.Lexicographic.{nat_list_cmp_total}
use Rattle.std.specs.FinMap.{get, empty, insert, from_entries, get-insert, get-empty, slice_cmp-IsAntisymmetric, nat_cmp-IsAntisymmetric}
use Rattle.bfs_base.specs.Keys.{text_cmp, IsTreeKind}
use Rattle.bfs_base.specs.declared.kind.KeyKind.{KeyKind}
use Rattle.bfs_base.specs.declared.kind.KeyKind.TheVariants.{Text, I64}
use Rattle.bfs_bytes.specs.Fields.{unsigned_at, signed32_at}
use Rattle.bfs_super.specs.Conditions.{natural}
use Rattle.bfs_super.specs.declared.geometry.Geometry.{Geometry}
use Rattle.bfs_node.specs.Page.{Row}
use Rattle.bfs_pages.specs.Maps.{assoc}
use Rattle.bfs_pages.specs.Order.{same_keys}
use Rattle.bfs_smalldata.specs.Items.{Item, items_of, items_in, size_in, item_in}
use Rattle.std.specs.Option.{option_map}
use Rattle.byteorder.specs.Endian.{little_number, little_from}
use Rattle.bfs_tree.specs.declared.call.Kind.TheVariants.{Dir}
use Rattle.bfs_tree.specs.Trees.{Node, Tree, IsNode, HasBuiltIn, new_node, empty_tree, built_in}
use Rattle.bfs_sound.specs.Volumes.{Volume, sizes}
use Rattle.bfs_stream.specs.Sizes.{first_block}
use Rattle.bfs_sound.specs.Inodes.{HasBit, mode_bits, is_proper, proper_rows, rows_of, index_directory}
use Rattle.bfs_sound.specs.Attributes.{is_zero, attribute_directory, HasDirectory, attributes_in, attributes_of}
use Rattle.bfs_sound.specs.Nodes.{HasNode, AreApart}
use Rattle.bfs_sound.specs.Listings.{IsChild, IsRow, Lists, IsIndex, HasIndexDirectory, IsIndexRow, IsIndexOf, Stands}
use Rattle.bfs_mkfs.specs.Laid.{tree_blocks, blocks_in, name_at, size_at, modified_at, root_rows, index_rows, root_tree, indices_tree, name_tree, size_tree, modified_tree, IsPlanned, HasTrees}
use Rattle.bfs_mkfs.specs.declared.tree.NewTree.{NewTree}
use Rattle.bfs_mkfs.proofs.Bytes.{blocks_by}
use Rattle.bfs_mkfs.proofs.Fields.{uid_is, gid_is, created_is, modified_is, changed_is, attributes_are, small_data_is}
use Rattle.bfs_mkfs.proofs.Stood.{Stood}
use Rattle.bfs_mkfs.proofs.Leaves.{indices_at, root_stood, indices_stood, name_stood, size_stood, modified_stood}

-- keys that tie are the same
tied : (o : Ordering) → is_eq o ≡ true → o ≡ Equal
tied Less e = let bad : false ≡ true = e in cc
tied Equal e = refl
tied Greater e = let bad : false ≡ true = e in cc

same_text : (a b : List ℕ) → is_eq (text_cmp a b) ≡ true → a ≡ b
same_text a b e = slice_cmp-IsAntisymmetric nat_cmp-IsAntisymmetric a b (tied (text_cmp a b) e)

-- what a look-up in one more row finds
found_here : (r : Row) (rs : List Row) (name : List ℕ) (value : ℤ) → assoc Text (r ∷ rs) name ≡ Some value → ((name ≡ r.0) × (value ≡ r.1)) ⊎ (assoc Text rs name ≡ Some value)
found_here r rs name value e =
    elim (same_keys Text name r.0) as (λ b. same_keys Text name r.0 ≡ b → cond b (Some r.1) (assoc Text rs name) ≡ Some value → ((name ≡ r.0) × (value ≡ r.1)) ⊎ (assoc Text rs name ≡ Some value)) [
      | true ↦ λ t is. inl (same_text name r.0 t, (let s : r.1 ≡ value = cc in sym s))
      | false ↦ λ t is. inr is
    ] refl e

not_found : {A : Type 0} (name : List ℕ) (value : ℤ) → assoc Text [] name ≡ Some value → A
not_found name value e = absurd (let bad : None ≡ Some value = e in cc)

-- zeros are an area without items
abbrev zeros : ℕ → List ℕ
zeros n = replicate n 0

zero_at : (m i : ℕ) → get_or (zeros m) i 0 ≡ 0
zero_at zero i = refl
zero_at (suc m) zero = refl
zero_at (suc m) (suc i) = zero_at m i

zero_from : (m i n : ℕ) → little_from i m (zeros n) ≡ 0
zero_from zero i n = refl
zero_from (suc m) i n = omega (arith, zero_at n i, zero_from m (suc i) n)

zero_number : (n at : ℕ) → unsigned_at 2 (replicate n 0) at ≡ 0
unfolding unsigned_at
zero_number n at = ap (little_number 2) (drop-replicate at n 0) ∙ zero_from 2 0 (n - at)

-- what would stand there behind an item
rest : ℕ → ℕ → Option (List Item)
rest fuel n = cond (nat_lt (length (replicate {A = ℕ} n 0)) (size_in (replicate n 0))) None (option_map (λ items. item_in (replicate n 0) ∷ items) (items_in fuel (drop (size_in (replicate n 0)) (replicate n 0))))

no_items_in : (fuel n : ℕ) → items_in fuel (replicate n 0) ≡ Some []
unfolding rest
no_items_in zero n = refl
no_items_in (suc fuel) n =
    ap (λ k. cond (nat_lt (length (replicate {A = ℕ} n 0)) 8 || (k == 0)) (Some []) (rest fuel n)) (zero_number n 4) ∙ or_true (nat_lt (length (replicate {A = ℕ} n 0)) 8) (rest fuel n)
  where
    or_true : (b : Bool) (o : Option (List Item)) → cond (b || true) (Some []) o ≡ Some []
    or_true true o = refl
    or_true false o = refl

no_items : (n : ℕ) → items_of (replicate n 0) ≡ Some []
unfolding items_of
no_items n = no_items_in (length (replicate {A = ℕ} n 0)) n

zero_signed : (bytes : List ℕ) (at : ℕ) → unsigned_at 4 bytes at ≡ 0 → pos 0 ≡ signed32_at bytes at
unfolding signed32_at
zero_signed bytes at is = sym (ap (cast_signed w32) is)

-- the only node of the tree of a new volume
module _ (root : ℕ) (stamp : ℤ) where
  abbrev pub the_root : Node
  the_root = new_node Dir [] root 493 0 [] stamp

  pub only : (id : ℕ) (node : Node) → IsNode (empty_tree root stamp) id node → (id ≡ root) × (node ≡ the_root)
  only id node is =
      let seen : cond (eq_by_cmp nat_cmp id root) (Some the_root) None ≡ Some node =
      ap (λ o. cond (eq_by_cmp nat_cmp id root) (Some the_root) o) (sym (get-empty nat_cmp id)) ∙ sym (get-insert nat_cmp_total empty root the_root id) ∙ is in
      elim (eq_by_cmp nat_cmp id root) as (λ b. eq_by_cmp nat_cmp id root ≡ b → cond b (Some the_root) None ≡ Some node → (id ≡ root) × (node ≡ the_root)) [
        | true ↦ λ tie e. (grind (arith, tie), cc)
        | false ↦ λ _ e. cc
      ] refl seen

  -- its indices
  indexed : (name : List ℕ) (kind : KeyKind) → get built_in name ≡ Some kind → (name ≡ codes "last_modified") ⊎ (name ≡ codes "size") ⊎ (name ≡ codes "name")
  indexed name kind is = third (get-insert nat_list_cmp_total (insert (insert empty (codes "name") Text) (codes "size") I64) (codes "last_modified") I64 name)
    where
      first : get (insert (empty {X = KeyKind} {R = text_cmp}) (codes "name") Text) name ≡ Some kind → name ≡ codes "name"
      first e =
          let seen : cond (eq_by_cmp text_cmp name (codes "name")) (Some Text) None ≡ Some kind =
          ap (λ o. cond (eq_by_cmp text_cmp name (codes "name")) (Some Text) o) (sym (get-empty text_cmp name)) ∙ sym (get-insert nat_list_cmp_total empty (codes "name") Text name) ∙ e in
          elim (eq_by_cmp text_cmp name (codes "name")) as (λ b. eq_by_cmp text_cmp name (codes "name") ≡ b → cond b (Some Text) None ≡ Some kind → name ≡ codes "name") [
            | true ↦ λ t _. same_text name (codes "name") t
            | false ↦ λ _ bad. absurd (let b : None ≡ Some kind = bad in cc)
          ] refl seen

      second : get (insert (insert (empty {X = KeyKind} {R = text_cmp}) (codes "name") Text) (codes "size") I64) name ≡ Some kind → (name ≡ codes "size") ⊎ (name ≡ codes "name")
      second e =
          elim (eq_by_cmp text_cmp name (codes "size")) as (λ b. eq_by_cmp text_cmp name (codes "size") ≡ b → cond b (Some I64) (get (insert (empty {X = KeyKind} {R = text_cmp}) (codes "name") Text) name) ≡ Some kind → (name ≡ codes "size") ⊎ (name ≡ codes "name")) [
            | true ↦ λ t _. inl (same_text name (codes "size") t)
            | false ↦ λ _ more. inr (first more)
          ] refl (sym (get-insert nat_list_cmp_total (insert empty (codes "name") Text) (codes "size") I64 name) ∙ e)

      third : get built_in name ≡ cond (eq_by_cmp text_cmp name (codes "last_modified")) (Some I64) (get (insert (insert (empty {X = KeyKind} {R = text_cmp}) (codes "name") Text) (codes "size") I64) name)
          → (name ≡ codes "last_modified") ⊎ (name ≡ codes "size") ⊎ (name ≡ codes "name")
      third e =
          elim (eq_by_cmp text_cmp name (codes "last_modified")) as (λ b. eq_by_cmp text_cmp name (codes "last_modified") ≡ b → cond b (Some I64) (get (insert (insert (empty {X = KeyKind} {R = text_cmp}) (codes "name") Text) (codes "size") I64) name) ≡ Some kind → (name ≡ codes "last_modified") ⊎ (name ≡ codes "size") ⊎ (name ≡ codes "name")) [
            | true ↦ λ t _. inl (same_text name (codes "last_modified") t)
            | false ↦ λ _ more. inr (second more)
          ] refl (sym e ∙ is)

not_zero : (n : ℕ) → 0 < n → (n == 0) ≡ false
not_zero n some = grind (arith, some)

pub has_built_in : HasBuiltIn built_in
has_built_in = record {
  by_name = get-insert nat_list_cmp_total _ _ _ (codes "name") ∙ get-insert nat_list_cmp_total _ _ _ (codes "name") ∙ get-insert nat_list_cmp_total _ _ _ (codes "name");
  by_size = get-insert nat_list_cmp_total _ _ _ (codes "size") ∙ get-insert nat_list_cmp_total _ _ _ (codes "size");
  by_time = get-insert nat_list_cmp_total _ _ _ (codes "last_modified");
}

some_index : built_in ≡ empty → ⊥
some_index e = let none : None ≡ Some Text = sym (get-empty text_cmp (codes "name")) ∙ sym (ap (λ m. get m (codes "name")) e) ∙ has_built_in.by_name in cc

module _ (g : Geometry) (stamp : ℤ) (image : List ℕ) (planned : IsPlanned g) (trees : HasTrees g stamp (blocks_in g.block_size g.root (5 * tree_blocks g) image)) where
  abbrev v : Volume
  v = record { geometry = g; blocks = blocks_by g.block_size image }

  abbrev tree : Tree
  tree = empty_tree g.root stamp

  root : Stood v (root_tree g stamp) (root_rows g)
  root = root_stood g stamp image planned trees

  indices : Stood v (indices_tree g stamp) (index_rows g)
  indices = indices_stood g stamp image planned trees

  pub no_directory : attribute_directory v g.root ≡ None
  no_directory = ap (λ run. cond (is_zero run) None (Some (first_block (sizes g) run))) (attributes_are g.block_size (root_tree g stamp) (v.blocks g.root) root.inode)

  mode_root : mode_bits v g.root ≡ 0x41ed
  mode_root = root.mode 0x41ed refl

  pub root_node : HasNode v g.root (the_root g.root stamp)
  root_node = record {
    inode = root.owner.inode;
    kind = ap (λ m. m / 4096 % 16) mode_root;
    mode = sym (ap (λ m. m % 4096) mode_root);
    uid = zero_signed (v.blocks g.root) 12 (uid_is g.block_size (root_tree g stamp) (v.blocks g.root) root.inode);
    gid = zero_signed (v.blocks g.root) 16 (gid_is g.block_size (root_tree g stamp) (v.blocks g.root) root.inode);
    created = sym (created_is g.block_size (root_tree g stamp) (v.blocks g.root) root.inode);
    modified = sym (modified_is g.block_size (root_tree g stamp) (v.blocks g.root) root.inode);
    changed = sym (changed_is g.block_size (root_tree g stamp) (v.blocks g.root) root.inode);
    content_is = (root.owner.stream, root.tree, refl, refl);
    items = [];
    area = ap items_of (small_data_is g.block_size (root_tree g stamp) (v.blocks g.root) root.inode) ∙ no_items (g.block_size - 232);
    distinct = λ name. omega arith;
    short = tt;
    called = record {
      root_name = λ _. refl;
      root_parent = λ _. refl;
      name = λ other. absurd (other refl);
      parent = λ other. absurd (other refl);
    };
    directory = subst (HasDirectory v g.root) (sym no_directory) tt;
    apart = subst (λ o. AreApart (attributes_in [] ++ attributes_of v o)) (sym no_directory) (λ name. omega arith);
    attributes = ap (λ o. from_entries (attributes_in [] ++ attributes_of v o)) (sym no_directory);
  }

  no_child : {A : Type 0} (d : ℕ) (name : List ℕ) (id : ℕ) → IsChild tree d name id → A
  no_child d name id c = absurd (c.not_root (only g.root stamp id c.node c.there).0)

  pub root_listing : Lists v tree g.root (the_root g.root stamp)
  root_listing name value = subst (λ rows. (assoc Text rows name ≡ Some value) ↔ IsRow tree g.root (the_root g.root stamp) name value) (sym root.rows_of) (from, back)
    where
      from : assoc Text (root_rows g) name ≡ Some value → IsRow tree g.root (the_root g.root stamp) name value
      from e =
          elim (found_here (codes ".", pos g.root) ((codes "..", pos g.root) ∷ []) name value e) as (λ _. IsRow tree g.root (the_root g.root stamp) name value) [
            | inl p ↦ inl p
            | inr more ↦ elim (found_here (codes "..", pos g.root) [] name value more) as (λ _. IsRow tree g.root (the_root g.root stamp) name value) [
              | inl p ↦ inr (inl p)
              | inr none ↦ not_found name value none
            ]
          ]

      back : IsRow tree g.root (the_root g.root stamp) name value → assoc Text (root_rows g) name ≡ Some value
      back (inl p) = ap (assoc Text (root_rows g)) p.0 ∙ ap Some (sym p.1)
      back (inr (inl p)) = ap (assoc Text (root_rows g)) p.0 ∙ ap Some (sym p.1)
      back (inr (inr c)) = no_child g.root name c.0 c.2

  pub rows_proper : proper_rows v g.indices ≡ index_rows g
  rows_proper = ap (λ rows. filter (λ row. is_proper row.0) rows) indices.rows_of

  some_blocks : 0 < g.indices
  some_blocks = let a = indices_at g stamp image planned trees in omega (arith, a)

  pub directory_there : index_directory v ≡ Some g.indices
  directory_there = ap (λ b. cond b None (Some g.indices)) (not_zero g.indices some_blocks)

  pub rows_all : rows_of v (index_directory v) ≡ index_rows g
  rows_all = ap (rows_of v) directory_there ∙ rows_proper

  pub index_row : (name : List ℕ) (value : ℤ) → IsIndexRow v name value
      → ((name ≡ codes "last_modified") × (value ≡ pos (modified_at g))) ⊎ ((name ≡ codes "name") × (value ≡ pos (name_at g))) ⊎ ((name ≡ codes "size") × (value ≡ pos (size_at g)))
  index_row name value row = first (found_here (codes "last_modified", pos (modified_at g)) ((codes "name", pos (name_at g)) ∷ (codes "size", pos (size_at g)) ∷ []) name value (subst (λ rows. assoc Text rows name ≡ Some value) rows_all row))
    where
      third : ((name ≡ codes "size") × (value ≡ pos (size_at g))) ⊎ (assoc Text [] name ≡ Some value) → ((name ≡ codes "last_modified") × (value ≡ pos (modified_at g))) ⊎ ((name ≡ codes "name") × (value ≡ pos (name_at g))) ⊎ ((name ≡ codes "size") × (value ≡ pos (size_at g)))
      third (inl p) = inr (inr p)
      third (inr none) = not_found name value none

      second : ((name ≡ codes "name") × (value ≡ pos (name_at g))) ⊎ (assoc Text ((codes "size", pos (size_at g)) ∷ []) name ≡ Some value) → ((name ≡ codes "last_modified") × (value ≡ pos (modified_at g))) ⊎ ((name ≡ codes "name") × (value ≡ pos (name_at g))) ⊎ ((name ≡ codes "size") × (value ≡ pos (size_at g)))
      second (inl p) = inr (inl p)
      second (inr more) = third (found_here (codes "size", pos (size_at g)) [] name value more)

      first : ((name ≡ codes "last_modified") × (value ≡ pos (modified_at g))) ⊎ (assoc Text ((codes "name", pos (name_at g)) ∷ (codes "size", pos (size_at g)) ∷ []) name ≡ Some value) → ((name ≡ codes "last_modified") × (value ≡ pos (modified_at g))) ⊎ ((name ≡ codes "name") × (value ≡ pos (name_at g))) ⊎ ((name ≡ codes "size") × (value ≡ pos (size_at g)))
      first (inl p) = inl p
      first (inr more) = second (found_here (codes "name", pos (name_at g)) ((codes "size", pos (size_at g)) ∷ []) name value more)

  -- each index
  index_at : (t : NewTree) (rows : List Row) (m : ℕ) → Stood v t rows → t.mode ≡ pos m → HasBit m 29 → IsTreeKind t.kind → IsIndex v t.id t.kind
  index_at t rows m s is bit kind = record { owner = s.owner; mode = subst (λ n. HasBit n 29) (sym (s.mode m is)) bit; kind_is = kind; tree = s.tree }

  directory_is : IsIndex v g.indices Text
  directory_is = index_at (indices_tree g stamp) (index_rows g) 0x210041c0 indices refl refl tt

  index_of : (name : List ℕ) (value : ℤ) → IsIndexRow v name value → IsIndexOf v tree name value
  index_of name value row = by_row (index_row name value row)
    where
      by_row : ((name ≡ codes "last_modified") × (value ≡ pos (modified_at g))) ⊎ ((name ≡ codes "name") × (value ≡ pos (name_at g))) ⊎ ((name ≡ codes "size") × (value ≡ pos (size_at g))) → IsIndexOf v tree name value
      by_row (inl p) = record {
        kind = I64;
        there = ap (get tree.indices) p.0 ∙ has_built_in.by_time;
        number = p.1 ∙ ap (λ z. pos (natural z)) (sym p.1);
        index = subst (λ z. IsIndex v (natural z) I64) (sym p.1) (index_at (modified_tree g stamp) [] 0x202041c0 (modified_stood g stamp image planned trees) refl refl tt);
      }
      by_row (inr (inl p)) = record {
        kind = Text;
        there = ap (get tree.indices) p.0 ∙ has_built_in.by_name;
        number = p.1 ∙ ap (λ z. pos (natural z)) (sym p.1);
        index = subst (λ z. IsIndex v (natural z) Text) (sym p.1) (index_at (name_tree g stamp) [] 0x210041c0 (name_stood g stamp image planned trees) refl refl tt);
      }
      by_row (inr (inr p)) = record {
        kind = I64;
        there = ap (get tree.indices) p.0 ∙ has_built_in.by_size;
        number = p.1 ∙ ap (λ z. pos (natural z)) (sym p.1);
        index = subst (λ z. IsIndex v (natural z) I64) (sym p.1) (index_at (size_tree g stamp) [] 0x202041c0 (size_stood g stamp image planned trees) refl refl tt);
      }

  row_for : (name : List ℕ) → (name ≡ codes "last_modified") ⊎ (name ≡ codes "size") ⊎ (name ≡ codes "name") → (value : ℤ) × IsIndexRow v name value
  row_for name (inl e) = (pos (modified_at g), ap₂ (λ rows k. assoc Text rows k) rows_all e)
  row_for name (inr (inl e)) = (pos (size_at g), ap₂ (λ rows k. assoc Text rows k) rows_all e)
  row_for name (inr (inr e)) = (pos (name_at g), ap₂ (λ rows k. assoc Text rows k) rows_all e)

  pub new_stands : Stands v tree
  new_stands = record {
    root = refl;
    nodes = λ id node is. let o = only g.root stamp id node is in subst (λ i. HasNode v i node) (sym o.0) (subst (HasNode v g.root) (sym o.1) root_node);
    listings = λ id node is dir. let o = only g.root stamp id node is in subst (λ i. Lists v tree i node) (sym o.0) (subst (Lists v tree g.root) (sym o.1) root_listing);
    directory = subst (HasIndexDirectory v) (sym directory_there) directory_is;
    none = ((λ e. absurd (let s = some_blocks in omega (arith, s, e))), (λ e. absurd (some_index e)));
    indices = index_of;
    no_more = λ name kind there. row_for name (indexed g.root stamp name kind there);
  }
