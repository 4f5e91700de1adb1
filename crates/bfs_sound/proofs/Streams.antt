-- What stays of an inode, its stream and its rows where blocks agree.
use Rattle.std.proofs.Common.{◌≡◌, ℕ, List, ◌∷◌, ◌++◌, sym, ap, subst}
use Rattle.std.specs.List.{filter}
use Rattle.bfs_base.specs.Lists.{Agree}
use Rattle.bfs_base.specs.declared.kind.KeyKind.{KeyKind}
use Rattle.bfs_base.specs.declared.kind.KeyKind.TheVariants.{Text}
use Rattle.bfs_inode.specs.Refusals.{IsInode}
use Rattle.bfs_stream.specs.Sizes.{Sizes}
use Rattle.bfs_stream.specs.Places.{arrays_of, places_of, HasLevels, HasStream, levels_at, arrays_at}
use Rattle.bfs_stream.proofs.Frames.{agree_left, agree_first, levels_same, bytes_same}
use Rattle.bfs_values.specs.Rows.{rows_in}
use Rattle.bfs_sound.specs.Volumes.{Volume, sizes}
use Rattle.bfs_sound.specs.Inodes.{frame_blocks, stream_blocks, inode_blocks, content, is_proper, proper_rows, IsOwner}
use Rattle.bfs_sound.specs.Laws.{changed}

module _ (v : Volume) (new : ℕ → List ℕ) (used : ℕ) (id : ℕ) where
  abbrev s : Sizes
  s = sizes v.geometry

  pub frame_of_whole : Agree v.blocks new (inode_blocks v id) → Agree v.blocks new (frame_blocks v id)
  frame_of_whole agree = agree_left v.blocks new (frame_blocks v id) (stream_blocks v id) agree

  module _ (agree : Agree v.blocks new (frame_blocks v id)) where
    pub block_stays : new id ≡ v.blocks id
    block_stays = agree_first v.blocks new id (arrays_at s v.blocks id) agree

    levels_stay : levels_at s new id ≡ levels_at s v.blocks id
    levels_stay = levels_same v.blocks new s id agree

    pub stream_stays : HasStream s v.blocks id → HasStream s new id
    stream_stays h = subst (HasLevels s) (sym levels_stay) h

    pub frame_stays : frame_blocks (changed v new used) id ≡ frame_blocks v id
    frame_stays = ap (λ l. id ∷ arrays_of s l) levels_stay

    pub stream_blocks_stay : stream_blocks (changed v new used) id ≡ stream_blocks v id
    stream_blocks_stay = ap (places_of s) levels_stay

    pub blocks_stay : inode_blocks (changed v new used) id ≡ inode_blocks v id
    blocks_stay = ap (λ l. (id ∷ arrays_of s l) ++ places_of s l) levels_stay

    pub inode_stays : IsInode (v.blocks id) id v.geometry.shift → IsInode (new id) id v.geometry.shift
    inode_stays h = subst (λ bytes. IsInode bytes id v.geometry.shift) (sym block_stays) h

    pub owner_stays : IsOwner v id → IsOwner (changed v new used) id
    owner_stays o = record { inode = inode_stays o.inode; stream = stream_stays o.stream }

  module _ (agree : Agree v.blocks new (inode_blocks v id)) where
    pub content_stays : content (changed v new used) id ≡ content v id
    content_stays = bytes_same v.blocks new s id agree

    pub rows_stay : (kind : KeyKind) → rows_in kind (content (changed v new used) id) ≡ rows_in kind (content v id)
    rows_stay kind = ap (rows_in kind) content_stays

    pub proper_stay : proper_rows (changed v new used) id ≡ proper_rows v id
    proper_stay = ap (λ rows. filter (λ row. is_proper row.0) rows) (rows_stay Text)
