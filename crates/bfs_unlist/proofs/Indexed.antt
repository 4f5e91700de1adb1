-- What is known of an index, where a node was taken out of some of them.
use Rattle.std.proofs.Common.{◌≡◌, ◌≢◌, ◌<◌, ℕ, pos, List, [], ◌∷◌, sym, ap, ◌∙◌, subst, arith, Bool, true, cond, Option, Some, None, map}
use Rattle.std.specs.Prelude.{◌==◌}
use Rattle.std.specs.List.{AllByRecursion}
use Rattle.std.specs.Option.{option_and_then}
use Rattle.bfs_base.specs.Lists.{times}
use Rattle.bfs_base.specs.declared.kind.KeyKind.{KeyKind}
use Rattle.bfs_base.specs.declared.kind.KeyKind.TheVariants.{Text}
use Rattle.bfs_super.specs.Conditions.{IsValid}
use Rattle.bfs_super.specs.Geometry.{geometry_of}
use Rattle.bfs_super.specs.declared.geometry.Geometry.{Geometry}
use Rattle.bfs_super.specs.declared.sup.Super.{Super}
use Rattle.bfs_bitmap.specs.Runs.{Room}
use Rattle.bfs_node.specs.Page.{Row}
use Rattle.bfs_node.specs.Search.{IsSought}
use Rattle.bfs_pages.specs.Maps.{assoc}
use Rattle.bfs_stream.specs.Sizes.{Origin, sizes_of}
use Rattle.bfs_stream_pages.specs.GoesLaws.{readable}
use Rattle.bfs_stream_pages.specs.Held.{stream_of}
use Rattle.bfs_tree.specs.Answers.{info_of}
use Rattle.bfs_tree.specs.Listings.{key_in, key_at}
use Rattle.bfs_tree.specs.Trees.{Node, Tree, IsNode}
use Rattle.bfs_tree.specs.declared.reply.Info.{Info}
use Rattle.bfs_values.specs.Reached.{IsWholeTree}
use Rattle.bfs_maps.specs.Mapped.{HasHeld, HasReadable}
use Rattle.bfs_sound.specs.Volumes.{Volume}
use Rattle.bfs_sound.specs.Inodes.{inode_blocks, id_of, index_directory, rows_of}
use Rattle.bfs_attr.specs.Bearers.{HasAttributes, CanRead, bearer_of, attributes_at}
use Rattle.bfs_attr.specs.declared.directory.InodeRow.{InodeRow}
use Rattle.bfs_shift.specs.Lists.{Lists}
use Rattle.bfs_shift.specs.Shifts.{volume_in}
use Rattle.bfs_shift.proofs.OneIndex.{own_first}
use Rattle.bfs_shift.proofs.Owners.{index_marked}
use Rattle.bfs_moves.specs.Written.{HasIndexAt}
use Rattle.bfs_moves.proofs.Listed.{index_held}
use Rattle.bfs_look.specs.Ready.{IsReady}
use Rattle.bfs_query.specs.Indices.{IsIndexRowOf}
use Rattle.bfs_query.proofs.Bearing.{bears, attributes_are, can_read}
use Rattle.bfs_unlist.specs.Reading.{IsUnlisting}
use Rattle.bfs_unlist.proofs.Partly.{partly_begins}
use Rattle.bfs_node_key.proofs.Sought.{key_sought}

module _ (s : Super) (v : Room) (m : ℕ → Option (List ℕ)) (tree : Tree) (lists now : Lists) (id : ℕ) (info : Info) (row : InodeRow) (rest : List InodeRow) (valid : IsValid s)
    (u : IsUnlisting (geometry_of s) v m tree lists now id info (row ∷ rest)) where
  abbrev g : Geometry
  g = geometry_of s

  abbrev was : Volume
  was = volume_in g m

  abbrev o : Origin
  o = record { id = row.id; sizes = sizes_of s }

  pub begun : assoc Text lists.names row.name ≡ Some (pos row.id)
  begun = u.read.lead.0

  pub here : assoc Text now.names row.name ≡ Some (pos row.id)
  here = ap (λ (names : List Row). assoc Text names row.name) u.partly.names ∙ begun

  held : HasHeld o v m
  held = index_held s v m tree now [] row.id row.name valid u.work here

  pub index_readable : HasReadable o m
  index_readable = (held.0, readable o v held.0 m held.1)

  pub index_tree : IsWholeTree (lists.kinds row.name) (stream_of o m)
  index_tree = subst (λ (k : KeyKind). IsWholeTree k (stream_of o m)) (u.partly.kinds row.name) (u.work.stocked.indices row.name (pos row.id) here).index.tree

  pub index_inside : row.id < g.blocks
  index_inside = (index_marked g v m tree now [] u.work.stocked row.name (pos row.id) here row.id (let one = own_first was row.id in let r : 0 < times row.id (inode_blocks was row.id) = omega (arith, one) in r)).0

  pub index_at : (kind : KeyKind) (inode : ℕ) → inode ≡ row.id → kind ≡ lists.kinds row.name → HasIndexAt g v m inode kind
  index_at kind inode same e = subst (λ (i : ℕ). HasIndexAt g v m i kind) (sym same)
      (record { tree = tree; lists = now; loose = []; name = row.name; work = u.work; row = here; kind_is = u.partly.kinds row.name ∙ sym e })

  pub bears_attributes : HasAttributes was id
  bears_attributes = bears s v m tree now [] id u.read.node valid u.work u.read.there

  pub attributes_read : u.read.node.attributes ≡ attributes_at was id
  attributes_read = attributes_are s v m tree now [] id u.read.node valid u.work u.read.there

  pub node_readable : CanRead (bearer_of id s) m
  node_readable = can_read s v m tree now [] id u.read.node valid u.work u.read.there

  key_read : key_at tree row.name (lists.kinds row.name) id ≡ key_in tree.root row.name (lists.kinds row.name) id u.read.node
  key_read = ap (option_and_then (key_in tree.root row.name (lists.kinds row.name) id)) u.read.there

  -- the key that was read is the node's in the tree
  pub key_is : (kind : KeyKind) (name : List ℕ) (o : Option (List ℕ)) → kind ≡ lists.kinds row.name → name ≡ row.name → o ≡ key_in tree.root name kind id u.read.node → key_at tree row.name (lists.kinds row.name) id ≡ o
  key_is kind name o of same is =
      key_read ∙ ap (λ (k : KeyKind). key_in tree.root row.name k id u.read.node) (sym of) ∙ ap (λ (i : List ℕ). key_in tree.root i kind id u.read.node) (sym same) ∙ sym is

  -- and can be looked for
  pub sought_there : (key : List ℕ) → key_at tree row.name (lists.kinds row.name) id ≡ Some key → IsSought (lists.kinds row.name) key
  sought_there key is = key_sought tree.indices tree.root row.name (lists.kinds row.name) id u.read.node key u.read.plain (u.read.kinds row.name (pos row.id) begun) (sym key_read ∙ is)

-- without an index directory there are no names of indices
pub no_names : (s : Super) (v : Room) (m : ℕ → Option (List ℕ)) (tree : Tree) (lists : Lists) → IsReady (geometry_of s) v m tree lists → (geometry_of s).indices ≡ 0 → lists.names ≡ []
no_names s v m tree lists ready none =
    let test : ((geometry_of s).indices == 0) ≡ true = grind (arith, none) in
    let gone : index_directory (volume_in (geometry_of s) m) ≡ None = ap (λ (t : Bool). cond t None (Some (geometry_of s).indices)) test in
    sym ready.work.stocked.names ∙ ap (rows_of (volume_in (geometry_of s) m)) gone

-- between two calls, nothing was taken out yet
pub unlisting_begins : (s : Super) (v : Room) (m : ℕ → Option (List ℕ)) (tree : Tree) (lists : Lists) (id : ℕ) (n : Node) (info : Info) (rows : List InodeRow) → IsReady (geometry_of s) v m tree lists → IsNode tree id n → id ≢ tree.root
    → info ≡ info_of n → rows ≡ map (λ (r : Row). record { name = r.0; id = id_of r }) lists.names → AllByRecursion (IsIndexRowOf lists) rows → IsUnlisting (geometry_of s) v m tree lists lists id info rows
unlisting_begins s v m tree lists id n info rows ready there apart same are lead = record {
  work = ready.work;
  read = record {
    node = n;
    there = there;
    apart = apart;
    info_is = same;
    plain = ready.plain.indices;
    kinds = λ index value row. (ready.agrees.indices index value row).kind;
    lead = lead;
  };
  partly = partly_begins tree lists id rows ready.agrees are;
}
