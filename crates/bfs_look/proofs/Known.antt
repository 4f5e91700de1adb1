-- What is known of the nodes and directories of a volume between two calls.
use Rattle.std.proofs.Common.{◌≡◌, ◌≢◌, ◌≤◌, ◌<◌, ◌^◌, ◌≤ℤ◌, inl, inr, ℕ, ℤ, pos, negsuc, List, [], refl, sym, ap, subst, arith, true, false, Option, Some, None}
use Rattle.std.specs.Prelude.{IsSome}
use Rattle.std.specs.FinMap.{get, len}
use Rattle.std.proofs.lemmas.Int.{ints}
use Rattle.bfs_base.specs.declared.kind.KeyKind.TheVariants.{Text}
use Rattle.bfs_super.specs.Conditions.{IsValid, natural}
use Rattle.bfs_super.specs.Geometry.{geometry_of}
use Rattle.bfs_super.specs.declared.geometry.Geometry.{Geometry}
use Rattle.bfs_super.specs.declared.sup.Super.{Super}
use Rattle.bfs_bitmap.specs.Runs.{Room}
use Rattle.bfs_pages.specs.Maps.{assoc}
use Rattle.bfs_txn.specs.Told.{AreSized}
use Rattle.bfs_stream.specs.Sizes.{sizes_of}
use Rattle.bfs_stream.specs.Told.{contents}
use Rattle.bfs_stream_pages.specs.GoesLaws.{readable}
use Rattle.bfs_stream_pages.specs.Held.{stream_of}
use Rattle.bfs_tree.specs.declared.call.Kind.{Kind}
use Rattle.bfs_tree.specs.declared.call.Kind.TheVariants.{File, Dir, Link}
use Rattle.bfs_tree.specs.Trees.{Node, Tree, IsNode, is_dir, is_link}
use Rattle.bfs_make.specs.Mapped.{HasHeld, HasReadable}
use Rattle.bfs_make.specs.NumberTrees.{AreNumbers, IsNumberTree}
use Rattle.bfs_sound.specs.Volumes.{Volume}
use Rattle.bfs_sound.specs.Listings.{IsRow}
use Rattle.bfs_sound.specs.Nodes.{HasNode}
use Rattle.bfs_shift.specs.Lists.{Lists}
use Rattle.bfs_shift.specs.Shifts.{volume_in}
use Rattle.bfs_shift.proofs.Held.{rows_are_numbers}
use Rattle.bfs_shift.specs.Work.{HasDirectoryAt}
use Rattle.bfs_shift.proofs.Files.{node_unfiled}
use Rattle.bfs_shift.proofs.AtWork.{directory_held, directory_map}
use Rattle.bfs_shift.proofs.AtWork.{inode_told}
use Rattle.bfs_look.specs.Claims.{kind_in}
use Rattle.bfs_look.specs.Ready.{IsReady, HasNodeAt}
use Rattle.bfs_look.proofs.Claiming.{says_kind}
use Rattle.bfs_look.proofs.Climbing.{HasRootAbove, leads_up}
use Rattle.bfs_look.proofs.Few.{few_below}

pub dir_is : (k : Kind) → is_dir k ≡ true → k ≡ Dir
dir_is Dir e = refl
dir_is File e = absurd (let bad : false ≡ true = e in cc)
dir_is Link e = absurd (let bad : false ≡ true = e in cc)

pub link_is : (k : Kind) → is_link k ≡ true → k ≡ Link
link_is Link e = refl
link_is File e = absurd (let bad : false ≡ true = e in cc)
link_is Dir e = absurd (let bad : false ≡ true = e in cc)

low_of : (z : ℤ) → z ≤ℤ pos 4194304 → natural z ≤ 2 ^ 62
low_of (pos n) low = omega (arith, ints, low)
low_of (negsuc n) low = omega arith

-- the law of a bound, at what is told
pub sized_at : (size n : ℕ) (t : Option (ℕ → Option (List ℕ))) (m : ℕ → Option (List ℕ)) → n ≡ size → t ≡ Some m → AreSized n t → AreSized size (Some m)
sized_at size n t m e is sized = subst (λ (k : ℕ). AreSized k (Some m)) e (subst (λ (o : Option (ℕ → Option (List ℕ))). AreSized n o) is sized)

-- where no node has an id, the tree has none there
pub not_there : (tree : Tree) (id : ℕ) → (HasNodeAt tree id → ⊥) → get tree.nodes id ≡ None
not_there tree id none = by_node (get tree.nodes id) refl
  where
    by_node : (o : Option Node) → get tree.nodes id ≡ o → get tree.nodes id ≡ None
    by_node None e = e
    by_node (Some n) e = absurd (none (n, e))

-- a volume has few blocks
pub few_blocks : (s : Super) → IsValid s → natural s.num_blocks ≤ 2 ^ 62
few_blocks s valid = low_of s.num_blocks valid.length.1

module _ (s : Super) (v : Room) (m : ℕ → Option (List ℕ)) (tree : Tree) (lists : Lists) (ready : IsReady (geometry_of s) v m tree lists) where
  abbrev g : Geometry
  g = geometry_of s

  abbrev was : Volume
  was = volume_in g m

  pub node_has : (id : ℕ) (n : Node) → IsNode tree id n → HasNode was id n
  node_has id n is = ready.work.stocked.nodes id n is

  pub node_told : (id : ℕ) (n : Node) → IsNode tree id n → IsSome (m id)
  node_told id n is = inode_told s v m tree lists [] id n ready.work is

  pub node_low : (id : ℕ) (n : Node) → IsNode tree id n → id < g.blocks
  node_low id n is = (node_unfiled was tree lists [] ready.work.stocked id n is).0.0

  pub node_kind : (id : ℕ) (n : Node) → IsNode tree id n → kind_in (contents m id) ≡ Some n.kind
  node_kind id n is = says_kind was id n (node_has id n is)

  few_nodes : len tree.nodes ≤ g.blocks
  few_nodes = few_below g.blocks tree.nodes node_low

  -- parents lead from a node to the root within as many steps as there are blocks
  pub root_within : (id : ℕ) (n : Node) → IsNode tree id n → HasRootAbove tree g.blocks id
  root_within id n is = leads_up tree g.blocks id few_nodes (ready.plain.nodes.lead id n is)

  pub node_above : (id : ℕ) (n : Node) → IsNode tree id n → HasNodeAt tree n.parent
  node_above id n is = let p : (x : Node) × IsNode tree n.parent x × (x.kind ≡ Dir) = ready.plain.nodes.parents id n is in (p.0, p.1)

  pub root_there : HasNodeAt tree tree.root
  root_there = (ready.plain.nodes.root.0, ready.plain.nodes.root.1)

  module _ (d : ℕ) (n : Node) (is : IsNode tree d n) (dir : n.kind ≡ Dir) where
    -- what a row of a directory names is a node
    pub row_node : (name : List ℕ) (id : ℕ) → assoc Text (lists.rows d) name ≡ Some (pos id) → HasNodeAt tree id
    row_node name id found = by_row ((ready.agrees.rows d n is dir name (pos id)).0 found)
      where
        one : (a b : ℕ) → pos a ≡ pos b → a ≡ b
        one a b e = ap natural e

        by_row : IsRow tree d n name (pos id) → HasNodeAt tree id
        by_row (inl dot) = (n, subst (λ (k : ℕ). IsNode tree k n) (sym (one id d dot.1)) is)
        by_row (inr (inl dots)) = subst (HasNodeAt tree) (sym (one id n.parent dots.1)) (node_above d n is)
        by_row (inr (inr c)) = (c.2.node, subst (λ (k : ℕ). IsNode tree k c.2.node) (sym (one id c.0 c.1)) c.2.there)

    -- a child has a row
    pub row_child : (id : ℕ) (x : Node) → IsNode tree id x → id ≢ tree.root → x.parent ≡ d → assoc Text (lists.rows d) x.name ≡ Some (pos id)
    row_child id x there apart parent =
        (ready.agrees.rows d n is dir x.name (pos id)).1 (inr (inr (id, refl, record { node = x; there = there; not_root = apart; parent = parent; named = refl })))

    pub has_directory : HasDirectoryAt g v m d
    has_directory = record { tree = tree; lists = lists; loose = []; node = n; work = ready.work; there = is; kind = dir }

    module _ (valid : IsValid s) where
      pub rows_numbers : AreNumbers (lists.rows d)
      rows_numbers = rows_are_numbers was tree lists [] d n ready.work.stocked ready.agrees.rows ready.plain.nodes (few_blocks s valid) is dir

      pub directory_tree : IsNumberTree Text (stream_of (record { id = d; sizes = sizes_of s }) m)
      directory_tree = (directory_map s v m tree lists [] d n valid ready.work is dir rows_numbers).tree

pub can_read : (s : Super) (v : Room) (m : ℕ → Option (List ℕ)) (d : ℕ) → IsValid s → HasDirectoryAt (geometry_of s) v m d → HasReadable (record { id = d; sizes = sizes_of s }) m
can_read s v m d valid h =
    let held : HasHeld (record { id = d; sizes = sizes_of s }) v m = directory_held s v m h.tree h.lists h.loose d h.node valid h.work h.there h.kind in
    (held.0, readable (record { id = d; sizes = sizes_of s }) v held.0 m held.1)
