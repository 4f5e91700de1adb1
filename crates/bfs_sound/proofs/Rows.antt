-- What stays of an attribute directory and its attributes where blocks agree.
use Rattle.std.proofs.Common.{◌≡◌, ℕ, List, [], ◌∷◌, Option, Some, None, refl, sym, ap, ap₂, ◌∙◌, subst, map}
use Rattle.std.specs.Prelude.{if◌then◌else◌}
use Rattle.std.specs.List.{flat_map, AllByRecursion}
use Rattle.bfs_base.specs.Lists.{Agree}
use Rattle.bfs_base.specs.declared.kind.KeyKind.TheVariants.{Text}
use Rattle.bfs_bytes.specs.declared.Run.{Run}
use Rattle.bfs_bytes.specs.Fields.{unsigned_at, run_in}
use Rattle.bfs_inode.specs.Refusals.{Names}
use Rattle.bfs_node.specs.Page.{Row}
use Rattle.bfs_stream.specs.Sizes.{first_block}
use Rattle.bfs_stream.proofs.Frames.{agree_left, agree_right}
use Rattle.bfs_values.specs.Reached.{IsWholeTree}
use Rattle.bfs_sound.specs.Volumes.{Volume, sizes}
use Rattle.bfs_sound.specs.Inodes.{HasBit, mode_bits, inode_blocks, content, proper_rows, id_of, rows_of, inodes_of}
use Rattle.bfs_sound.specs.Attributes.{Named, is_zero, attribute_directory, IsAttributeRow, IsAttributeDirectory, HasDirectory, attribute_at, attributes_of, attribute_inodes}
use Rattle.bfs_sound.specs.Laws.{changed}
use Rattle.bfs_sound.proofs.Counts.{flat_same}
use Rattle.bfs_sound.proofs.Streams.{frame_of_whole, block_stays, blocks_stay, owner_stays, content_stays, proper_stay}

module _ (v : Volume) (new : ℕ → List ℕ) (used : ℕ) where
  abbrev w : Volume
  w = changed v new used

  pub mode_stays : (id i : ℕ) → new id ≡ v.blocks id → HasBit (mode_bits v id) i → HasBit (mode_bits w id) i
  mode_stays id i same h = subst (λ bytes. HasBit (unsigned_at 4 bytes 20) i) (sym same) h

  -- the blocks of inodes
  pub inodes_stay : (ids : List ℕ) → Agree v.blocks new (flat_map (inode_blocks v) ids) → flat_map (inode_blocks w) ids ≡ flat_map (inode_blocks v) ids
  inodes_stay ids agree = flat_same v.blocks new (inode_blocks v) (inode_blocks w) ids (λ id i a. blocks_stay v new used id (frame_of_whole v new used id a)) agree

  row_stays : (row : Row) → Agree v.blocks new (inode_blocks v (id_of row)) → IsAttributeRow v row → IsAttributeRow w row
  row_stays row agree r =
      let frame = frame_of_whole v new used (id_of row) agree in
      record { number = r.number; owner = owner_stays v new used (id_of row) frame r.owner; mode = mode_stays (id_of row) 28 (block_stays v new used (id_of row) frame) r.mode }

  rows_stay : (rows : List Row) → Agree v.blocks new (flat_map (inode_blocks v) (map id_of rows)) → AllByRecursion (IsAttributeRow v) rows → AllByRecursion (IsAttributeRow w) rows
  rows_stay [] agree all = tt
  rows_stay (row ∷ rows) agree all = (
    row_stays row (agree_left v.blocks new (inode_blocks v (id_of row)) (flat_map (inode_blocks v) (map id_of rows)) agree) all.0,
    rows_stay rows (agree_right v.blocks new (inode_blocks v (id_of row)) (flat_map (inode_blocks v) (map id_of rows)) agree) all.1,
  )

  attribute_stays : (id : ℕ) → Agree v.blocks new (inode_blocks v id) → attribute_at w id ≡ attribute_at v id
  attribute_stays id agree =
      let a : unsigned_at 4 (new id) 60 ≡ unsigned_at 4 (v.blocks id) 60 = ap (λ bytes. unsigned_at 4 bytes 60) (block_stays v new used id (frame_of_whole v new used id agree)) in
      let b : content w id ≡ content v id = content_stays v new used id agree in
      λ i. record { code = a i; bytes = b i }

  named_stay : (rows : List Row) → Agree v.blocks new (flat_map (inode_blocks v) (map id_of rows))
      → map {B = Named} (λ row. (row.0, attribute_at w (id_of row))) rows ≡ map {B = Named} (λ row. (row.0, attribute_at v (id_of row))) rows
  named_stay [] agree = refl
  named_stay (row ∷ rows) agree =
      ap₂ (λ a l. (row.0, a) ∷ l) (attribute_stays (id_of row) (agree_left v.blocks new (inode_blocks v (id_of row)) (flat_map (inode_blocks v) (map id_of rows)) agree))
      (named_stay rows (agree_right v.blocks new (inode_blocks v (id_of row)) (flat_map (inode_blocks v) (map id_of rows)) agree))

  module _ (d : ℕ) (agree : Agree v.blocks new (flat_map (inode_blocks v) (attribute_inodes v (Some d)))) where
    here : Agree v.blocks new (inode_blocks v d)
    here = agree_left v.blocks new (inode_blocks v d) (flat_map (inode_blocks v) (map id_of (proper_rows v d))) agree

    there : Agree v.blocks new (flat_map (inode_blocks v) (map id_of (proper_rows v d)))
    there = agree_right v.blocks new (inode_blocks v d) (flat_map (inode_blocks v) (map id_of (proper_rows v d))) agree

    rows_same : proper_rows w d ≡ proper_rows v d
    rows_same = proper_stay v new used d here

    directory_stays : (id : ℕ) → run_in (new id) 52 ≡ run_in (v.blocks id) 52 → IsAttributeDirectory v id d → IsAttributeDirectory w id d
    directory_stays id same a = record {
      address = subst (λ (run : Run). Names run d v.geometry.shift) (sym same) a.address;
      owner = owner_stays v new used d (frame_of_whole v new used d here) a.owner;
      mode = mode_stays d 27 (block_stays v new used d (frame_of_whole v new used d here)) a.mode;
      tree = subst (IsWholeTree Text) (sym (content_stays v new used d here)) a.tree;
      rows = subst (AllByRecursion (IsAttributeRow w)) (sym rows_same) (rows_stay (proper_rows v d) there a.rows);
    }

    named_same : attributes_of w (Some d) ≡ attributes_of v (Some d)
    named_same = ap (λ rows. map {B = Named} (λ row. (row.0, attribute_at w (id_of row))) rows) rows_same ∙ named_stay (proper_rows v d) there

    list_same : attribute_inodes w (Some d) ≡ attribute_inodes v (Some d)
    list_same = ap (λ rows. d ∷ map id_of rows) rows_same

  pub directory_same : (id : ℕ) → new id ≡ v.blocks id → attribute_directory w id ≡ attribute_directory v id
  directory_same id same = ap (λ bytes. if is_zero (run_in bytes 52) then None else Some (first_block (sizes v.geometry) (run_in bytes 52))) same

  pub has_directory_stays : (o : Option ℕ) (id : ℕ) → run_in (new id) 52 ≡ run_in (v.blocks id) 52 → Agree v.blocks new (flat_map (inode_blocks v) (attribute_inodes v o)) → HasDirectory v id o → HasDirectory w id o
  has_directory_stays None id same agree h = tt
  has_directory_stays (Some d) id same agree h = directory_stays d agree id same h

  pub attributes_stay : (o : Option ℕ) → Agree v.blocks new (flat_map (inode_blocks v) (attribute_inodes v o)) → attributes_of w o ≡ attributes_of v o
  attributes_stay None agree = refl
  attributes_stay (Some d) agree = named_same d agree

  -- the rows of a directory of inodes
  pub rows_of_stay : (o : Option ℕ) → Agree v.blocks new (flat_map (inode_blocks v) (inodes_of v o)) → rows_of w o ≡ rows_of v o
  rows_of_stay None agree = refl
  rows_of_stay (Some d) agree = rows_same d agree

  pub attribute_inodes_stay : (o : Option ℕ) → Agree v.blocks new (flat_map (inode_blocks v) (attribute_inodes v o)) → attribute_inodes w o ≡ attribute_inodes v o
  attribute_inodes_stay None agree = refl
  attribute_inodes_stay (Some d) agree = list_same d agree
