-- An inode of which the stream alone was written, and rows whose inodes are the same.
use Rattle.std.proofs.Common.{◌≡◌, ◌⊎◌, inl, inr, ◌≤◌, ◌+◌, ◌%◌, ◌∙◌, ℕ, pos, List, [], ◌∷◌, ◌++◌, refl, sym, ap, ap₂, subst, arith, map}
use Rattle.std.specs.List.{flat_map, AllByRecursion}
use Rattle.bfs_base.specs.Lists.{Agree}
use Rattle.bfs_bytes.specs.declared.Run.{Run}
use Rattle.bfs_bytes.specs.Fields.{unsigned_at}
use Rattle.bfs_inode.specs.Inode.{Inode}
use Rattle.bfs_inode.specs.Refusals.{IsInode, Names}
use Rattle.bfs_node.specs.Page.{Row}
use Rattle.bfs_smalldata.proofs.Reading.{unsigned_taken}
use Rattle.bfs_stream.proofs.Frames.{agree_left, agree_right}
use Rattle.bfs_stream_pages.specs.Moves.{KeepsInode}
use Rattle.bfs_sound.specs.Volumes.{Volume}
use Rattle.bfs_sound.specs.Owners.{In}
use Rattle.bfs_sound.specs.Inodes.{inode_blocks, id_of, content}
use Rattle.bfs_sound.specs.Attributes.{Named, IsAttributeRow, attribute_at}
use Rattle.bfs_sound.specs.Laws.{changed}
use Rattle.bfs_sound.proofs.Rows.{mode_stays}
use Rattle.bfs_sound.proofs.Streams.{frame_of_whole, block_stays, owner_stays, content_stays}

pub word_kept : (old new : List ℕ) (at : ℕ) → at + 4 ≤ 72 → KeepsInode old new → unsigned_at 4 new at ≡ unsigned_at 4 old at
word_kept old new at h kept = sym (unsigned_taken 4 72 new at h) ∙ ap (λ (l : List ℕ). unsigned_at 4 l at) kept.1.1 ∙ unsigned_taken 4 72 old at h

pub inode_kept : (old new : List ℕ) (number shift : ℕ) → KeepsInode old new → IsInode old number shift → IsInode new number shift
inode_kept old new number shift kept is = record {
  magic = ap (λ (i : Inode). i.magic1) kept.0 ∙ is.magic;
  number_is = subst (λ (run : Run). Names run number shift) (sym (ap (λ (i : Inode). i.inode_num) kept.0)) is.number_is;
  in_use = ap (λ (k : ℕ). k % 2) (word_kept old new 24 (omega arith) kept) ∙ is.in_use;
  size = ap (λ (i : Inode). i.inode_size) kept.0 ∙ is.size ∙ ap pos (sym kept.1.0);
}

pub in_joined : (f : Row → ℕ) (xs ys : List Row) (x : Row) (k : ℕ) → In k (map f (xs ++ (x ∷ ys))) → (k ≡ f x) ⊎ In k (map f (xs ++ ys))
in_joined f [] ys x k (inl e) = inl e
in_joined f [] ys x k (inr is) = inr is
in_joined f (y ∷ xs) ys x k (inl e) = inr (inl e)
in_joined f (y ∷ xs) ys x k (inr is) = by_side (in_joined f xs ys x k is)
  where
    by_side : (k ≡ f x) ⊎ In k (map f (xs ++ ys)) → (k ≡ f x) ⊎ In k (map f ((y ∷ xs) ++ ys))
    by_side (inl e) = inl e
    by_side (inr is) = inr (inr is)

module _ (v : Volume) (new : ℕ → List ℕ) (used : ℕ) where
  abbrev w : Volume
  w = changed v new used

  pub row_still : (row : Row) → Agree v.blocks new (inode_blocks v (id_of row)) → IsAttributeRow v row → IsAttributeRow w row
  row_still row agree r =
      let frame = frame_of_whole v new used (id_of row) agree in
      record { number = r.number; owner = owner_stays v new used (id_of row) frame r.owner; mode = mode_stays v new used (id_of row) 28 (block_stays v new used (id_of row) frame) r.mode }

  pub rows_still : (rows : List Row) → Agree v.blocks new (flat_map (inode_blocks v) (map id_of rows)) → AllByRecursion (IsAttributeRow v) rows → AllByRecursion (IsAttributeRow w) rows
  rows_still [] agree all = tt
  rows_still (row ∷ rows) agree all = (
    row_still row (agree_left v.blocks new (inode_blocks v (id_of row)) (flat_map (inode_blocks v) (map id_of rows)) agree) all.0,
    rows_still rows (agree_right v.blocks new (inode_blocks v (id_of row)) (flat_map (inode_blocks v) (map id_of rows)) agree) all.1,
  )

  pub attribute_still : (id : ℕ) → Agree v.blocks new (inode_blocks v id) → attribute_at w id ≡ attribute_at v id
  attribute_still id agree =
      let a : unsigned_at 4 (new id) 60 ≡ unsigned_at 4 (v.blocks id) 60 = ap (λ (bytes : List ℕ). unsigned_at 4 bytes 60) (block_stays v new used id (frame_of_whole v new used id agree)) in
      let b : content w id ≡ content v id = content_stays v new used id agree in
      λ i. record { code = a i; bytes = b i }

  pub named_still : (rows : List Row) → Agree v.blocks new (flat_map (inode_blocks v) (map id_of rows))
      → map {B = Named} (λ row. (row.0, attribute_at w (id_of row))) rows ≡ map {B = Named} (λ row. (row.0, attribute_at v (id_of row))) rows
  named_still [] agree = refl
  named_still (row ∷ rows) agree =
      ap₂ (λ a l. (row.0, a) ∷ l) (attribute_still (id_of row) (agree_left v.blocks new (inode_blocks v (id_of row)) (flat_map (inode_blocks v) (map id_of rows)) agree))
      (named_still rows (agree_right v.blocks new (inode_blocks v (id_of row)) (flat_map (inode_blocks v) (map id_of rows)) agree))
