-- What stays where blocks agree: the indices, and a directory's rows.
use Rattle.std.proofs.Common.{◌≡◌, ℕ, ℤ, List, sym, ap, ◌∙◌, subst, Option, Some, None, map}
use Rattle.std.specs.List.{flat_map}
use Rattle.bfs_base.specs.Lists.{Agree}
use Rattle.bfs_base.specs.declared.kind.KeyKind.{KeyKind}
use Rattle.bfs_base.specs.declared.kind.KeyKind.TheVariants.{Text}
use Rattle.bfs_super.specs.Conditions.{natural}
use Rattle.bfs_node.specs.Page.{Row}
use Rattle.bfs_pages.specs.Maps.{assoc}
use Rattle.bfs_stream.proofs.Frames.{agree_left, agree_right}
use Rattle.bfs_tree.specs.declared.call.Kind.{Kind}
use Rattle.bfs_tree.specs.declared.call.Kind.TheVariants.{Dir}
use Rattle.bfs_tree.specs.Trees.{Node}
use Rattle.bfs_values.specs.Rows.{rows_in}
use Rattle.bfs_values.specs.Reached.{IsWholeTree, AreWritten}
use Rattle.bfs_sound.specs.Volumes.{Volume}
use Rattle.bfs_sound.specs.Inodes.{inode_blocks, proper_rows, id_of, is_short, rows_of, inodes_of, index_directory}
use Rattle.bfs_sound.specs.Listings.{IsIndex, HasIndexDirectory, index_rows}
use Rattle.bfs_sound.specs.Owners.{index_blocks}
use Rattle.bfs_sound.specs.Laws.{changed}
use Rattle.bfs_sound.proofs.Counts.{In, agree_member, in_map}
use Rattle.bfs_sound.proofs.Nodes.{node_metadata, own_metadata, other_blocks}
use Rattle.bfs_sound.proofs.Parts.{in_rows}
use Rattle.bfs_sound.proofs.Rows.{mode_stays, inodes_stay, rows_of_stay, attribute_inodes_stay}
use Rattle.bfs_sound.proofs.Streams.{frame_of_whole, block_stays, owner_stays, content_stays}
use Rattle.bfs_shift.specs.Stocked.{IsListing}

-- the stream of a directory is its metadata
pub directory_metadata : (v : Volume) (new : ℕ → List ℕ) (id : ℕ) (n : Node) → n.kind ≡ Dir → Agree v.blocks new (node_metadata v (id, n)) → Agree v.blocks new (inode_blocks v id)
unfolding node_metadata
directory_metadata v new id n dir agree =
    subst (λ (k : Kind). Agree v.blocks new (own_metadata v id k (is_short v id))) dir (agree_left v.blocks new (own_metadata v id n.kind (is_short v id)) (other_blocks v id) agree)

module _ (v : Volume) (new : ℕ → List ℕ) (used : ℕ) where
  abbrev w : Volume
  w = changed v new used

  pub index_stays : (id : ℕ) (kind : KeyKind) → Agree v.blocks new (inode_blocks v id) → IsIndex v id kind → IsIndex w id kind
  index_stays id kind agree i =
      let frame = frame_of_whole v new used id agree in
      record {
        owner = owner_stays v new used id frame i.owner;
        mode = mode_stays v new used id 29 (block_stays v new used id frame) i.mode;
        kind_is = i.kind_is;
        tree = subst (IsWholeTree kind) (sym (content_stays v new used id agree)) i.tree;
      }

  pub listing_stays : (id : ℕ) (kind : KeyKind) (pairs : List (List ℕ × ℕ)) → Agree v.blocks new (inode_blocks v id) → IsListing v id kind pairs → IsListing w id kind pairs
  listing_stays id kind pairs agree l = record {
    index = index_stays id kind agree l.index;
    written = subst (λ (bytes : List ℕ). AreWritten bytes (rows_in kind bytes) pairs) (sym (content_stays v new used id agree)) l.written;
  }

  pub directory_stays : (o : Option ℕ) → Agree v.blocks new (flat_map (inode_blocks v) (inodes_of v o)) → HasIndexDirectory v o → HasIndexDirectory w o
  directory_stays None agree h = tt
  directory_stays (Some d) agree h = index_stays d Text (agree_left v.blocks new (inode_blocks v d) (flat_map (inode_blocks v) (map id_of (proper_rows v d))) agree) h

  at_row : (o : Option ℕ) → Agree v.blocks new (flat_map (inode_blocks v) (inodes_of v o)) → (row : Row) → In row (rows_of v o) → Agree v.blocks new (inode_blocks v (id_of row))
  at_row None agree row i = absurd i
  at_row (Some d) agree row i =
      agree_member v.blocks new (inode_blocks v) (map id_of (proper_rows v d)) (id_of row) (in_map id_of (proper_rows v d) row i)
      (agree_right v.blocks new (inode_blocks v d) (flat_map (inode_blocks v) (map id_of (proper_rows v d))) agree)

  module _ (agree : Agree v.blocks new (index_blocks v)) where
    at_inodes : Agree v.blocks new (flat_map (inode_blocks v) (inodes_of v (index_directory v)))
    unfolding index_blocks
    at_inodes = agree

    pub index_rows_stay : index_rows w ≡ index_rows v
    index_rows_stay = rows_of_stay v new used (index_directory v) at_inodes

    pub index_directory_stays : HasIndexDirectory v (index_directory v) → HasIndexDirectory w (index_directory v)
    index_directory_stays = directory_stays (index_directory v) at_inodes

    pub at_index : (name : List ℕ) (value : ℤ) → assoc Text (index_rows v) name ≡ Some value → Agree v.blocks new (inode_blocks v (natural value))
    at_index name value row =
        let found : (row : Row) × In row (index_rows v) × (row.1 ≡ value) = in_rows Text (index_rows v) name value row in
        subst (λ z. Agree v.blocks new (inode_blocks v (natural z))) found.2 (at_row (index_directory v) at_inodes found.0 found.1)

    pub listings_stay : (names : List Row) → index_rows v ≡ names → (name : List ℕ) (value : ℤ) (kind : KeyKind) (pairs : List (List ℕ × ℕ))
        → assoc Text names name ≡ Some value → IsListing v (natural value) kind pairs → IsListing w (natural value) kind pairs
    listings_stay names are name value kind pairs there l =
        listing_stays (natural value) kind pairs (at_index name value (subst (λ (rows : List Row). assoc Text rows name ≡ Some value) (sym are) there)) l

    pub index_blocks_stay : index_blocks w ≡ index_blocks v
    unfolding index_blocks
    index_blocks_stay =
        ap (flat_map (inode_blocks w)) (attribute_inodes_stay v new used (index_directory v) at_inodes) ∙ inodes_stay v new used (inodes_of v (index_directory v)) at_inodes
