-- The attributes of a node that is known can be read, where all blocks are told.
use Rattle.std.proofs.Common.{◌≡◌, ◌<◌, ℕ, List, [], ◌∷◌, map, Option, Some, None, inl, inr, sym, ap, subst, ◌∙◌}
use Rattle.std.specs.List.{AllByRecursion}
use Rattle.std.specs.Prelude.{unwrap_or}
use Rattle.std.specs.FinMap.{from_entries}
use Rattle.bfs_inode.specs.Inode.{stream_at}
use Rattle.bfs_super.specs.Conditions.{natural}
use Rattle.bfs_super.specs.declared.sup.Super.{Super}
use Rattle.bfs_node.specs.Page.{Row}
use Rattle.bfs_stream.specs.Sizes.{sizes_of}
use Rattle.bfs_stream.specs.Places.{HasStream}
use Rattle.bfs_stream.specs.Told.{contents}
use Rattle.bfs_stream_check.specs.Known.{IsAllTold}
use Rattle.bfs_tree.specs.Trees.{Node}
use Rattle.bfs_sound.specs.Volumes.{Volume, sizes}
use Rattle.bfs_sound.specs.Inodes.{proper_rows, id_of}
use Rattle.bfs_sound.specs.Owners.{In}
use Rattle.bfs_sound.specs.Attributes.{IsAttributeRow, attribute_directory, attribute_inodes, HasDirectory}
use Rattle.bfs_sound.specs.Whole.{volume_of}
use Rattle.bfs_smalldata.specs.Items.{Item}
use Rattle.bfs_attr.specs.Bearers.{CanRead, HasAttributes, attributes_at, entries_with, bearer_of}
use Rattle.bfs_nodes_walk.proofs.Readable.{readable, size_natural}
use Rattle.bfs_key_walk.specs.Gathered.{IsKnown}

rows_stream : (v : Volume) (rows : List Row) (k : ℕ) → AllByRecursion (IsAttributeRow v) rows → In k (map id_of rows) → HasStream (sizes v.geometry) v.blocks k
rows_stream v [] k all h = absurd h
rows_stream v (r ∷ rs) k all (inl e) = subst (HasStream (sizes v.geometry) v.blocks) (sym e) all.0.owner.stream
rows_stream v (r ∷ rs) k all (inr h) = rows_stream v rs k all.1 h

has_stream : (v : Volume) (id : ℕ) (d : Option ℕ) (k : ℕ) → HasDirectory v id d → In k (attribute_inodes v d) → HasStream (sizes v.geometry) v.blocks k
has_stream v id None k is h = absurd h
has_stream v id (Some d) k is (inl e) = subst (HasStream (sizes v.geometry) v.blocks) (sym e) is.owner.stream
has_stream v id (Some d) k is (inr h) = rows_stream v (proper_rows v d) k is.rows h

module _ (s : Super) (m : ℕ → Option (List ℕ)) (all : IsAllTold (sizes_of s) m) (id : ℕ) (n : Node) (inside : id < natural s.num_blocks) (known : IsKnown (volume_of s (contents m)) id n) where
  pub can_read : CanRead (bearer_of id s) m
  can_read = record {
    inode = all id inside;
    streams = λ k there.
        let has : HasStream (sizes_of s) (contents m) k = has_stream (volume_of s (contents m)) id (attribute_directory (volume_of s (contents m)) id) k known.node.directory there in
        let low : k < natural s.num_blocks = known.inside k there in
        (natural (stream_at (contents m k)).size, readable (sizes_of s) k m all low has (natural (stream_at (contents m k)).size) (size_natural (sizes_of s) k m all low has));
  }

-- and stand, as those of its record
pub attributes_stand : (v : Volume) (id : ℕ) (n : Node) → IsKnown v id n → HasAttributes v id × (n.attributes ≡ attributes_at v id)
attributes_stand v id n known = (
  record { items = known.node.items; area = known.node.area; distinct = known.node.distinct; directory = known.node.directory; apart = known.node.apart; inside = known.inside },
  known.node.attributes ∙ ap (λ (o : Option (List Item)). from_entries (entries_with v id (unwrap_or o []))) (sym known.node.area),
)
