-- A new tree stands in its volume.
use Rattle.std.proofs.Common.{◌≡◌, ◌≤◌, ◌+◌, ◌*◌, ◌^◌, ℕ, pos, List, [], ◌∷◌, length, sym, ap, ◌∙◌, subst, arith, take, drop, length-take-le, length-drop}
use Rattle.std.proofs.Math.Seq.{take-length}
use Rattle.bfs_base.specs.Lists.{counted_from}
use Rattle.bfs_base.specs.declared.kind.KeyKind.{KeyKind}
use Rattle.bfs_bytes.specs.Fields.{unsigned_at}
use Rattle.bfs_super.specs.Geometry.{IsBlockSize}
use Rattle.bfs_super.specs.declared.geometry.Geometry.{Geometry}
use Rattle.bfs_inode.specs.Inode.{stream_at}
use Rattle.bfs_inode.specs.Refusals.{IsInode}
use Rattle.bfs_node.specs.Header.{header_at, code_of}
use Rattle.bfs_node.specs.Page.{Row, HasKeys}
use Rattle.bfs_txn.specs.Pages.{page_at}
use Rattle.bfs_pages.specs.Shapes.{entries_in, AscendAll}
use Rattle.bfs_values.specs.Rows.{rows_in}
use Rattle.bfs_values.specs.Reached.{times_named, chains_in, AllMean, IsWholeTree}
use Rattle.bfs_sound.specs.Volumes.{Volume}
use Rattle.bfs_sound.specs.Inodes.{mode_bits, content, inode_blocks, IsOwner}
use Rattle.bfs_mkfs.specs.Laid.{pages_length, IsNewInode, IsNewTree, IsLeaf, new_header}
use Rattle.bfs_mkfs.specs.declared.tree.NewTree.{NewTree}
use Rattle.bfs_mkfs.proofs.Trees.{pages_of}
use Rattle.bfs_mkfs.proofs.Bytes.{part_of, take_of, blocks_by, joined_blocks}
use Rattle.bfs_mkfs.proofs.Fields.{is_inode, mode_is}
use Rattle.bfs_mkfs.proofs.NewTrees.{rows_are, whole_tree}
use Rattle.bfs_mkfs.proofs.Streams.{has_stream, content_is, inode_blocks_are}

-- rows that can be a leaf of a tree, each value a plain number
pub record IsPlainLeaf (kind : KeyKind) (rows : List Row) : Type 0 where
  pub keys : HasKeys kind rows
  pub ascend : AscendAll kind (entries_in rows)
  pub few : code_of kind ≤ 4
  pub no_fragment : (at f : ℕ) → times_named at f rows ≡ 0
  pub no_chain : chains_in rows ≡ []
  pub mean : (bytes : List ℕ) → AllMean bytes rows

-- the tree's inode is one of the volume, and its stream has the tree
pub record Stood (v : Volume) (t : NewTree) (rows : List Row) : Type 0 where
  pub inode : IsNewInode v.geometry.block_size t (v.blocks t.id)
  pub long : length (v.blocks t.id) ≡ v.geometry.block_size
  pub owner : IsOwner v t.id
  pub mode : (m : ℕ) → t.mode ≡ pos m → mode_bits v t.id ≡ m
  pub rows_of : rows_in t.kind (content v t.id) ≡ rows
  pub tree : IsWholeTree t.kind (content v t.id)
  pub blocks : inode_blocks v t.id ≡ t.id ∷ counted_from (t.id + 1) (pages_length v.geometry.block_size)

whole_list : (xs : List ℕ) (k : ℕ) → length xs ≡ k → take k xs ≡ xs
whole_list xs k e = subst (λ j. take j xs ≡ xs) e (take-length xs)

module _ (g : Geometry) (image part : List ℕ) (t : NewTree) (rows : List Row) (size : IsBlockSize g.block_size) (new : IsNewTree g.block_size t rows part) (leaf : IsPlainLeaf t.kind rows)
    (there : take ((1 + pages_length g.block_size) * g.block_size) (drop (t.id * g.block_size) image) ≡ part)
    (one_group : t.id + 1 + pages_length g.block_size ≤ 2 ^ g.shift) (inside : t.id + 1 + pages_length g.block_size ≤ g.blocks) where
  abbrev p : ℕ
  p = pages_length g.block_size

  abbrev n : ℕ
  n = g.block_size

  abbrev v : Volume
  v = record { geometry = g; blocks = blocks_by n image }

  whole_length : (1 + p) * n ≡ n + p * n
  whole_length = grind arith

  -- the inode's block, and those of the pages
  here : blocks_by n image t.id ≡ take n part
  here = sym (take_of n ((1 + p) * n) (drop (t.id * n) image) (let e = whole_length in omega (arith, e))) ∙ ap (take n) there

  behind : take (p * n) (drop ((t.id + 1) * n) image) ≡ drop n part
  behind =
      let e : (t.id + 1) * n ≡ t.id * n + n = grind arith in
      let whole : take (p * n) (drop n part) ≡ drop n part = whole_list (drop n part) (p * n) (let l = length-drop n part in let m = new.long in omega (arith, l, m)) in
      ap (λ k. take (p * n) (drop k image)) e
      ∙ sym (part_of (t.id * n) ((1 + p) * n) n (p * n) image (let w = whole_length in omega (arith, w)))
      ∙ ap (λ l. take (p * n) (drop n l)) there ∙ whole

  long_part : length (drop n part) ≡ p * n
  long_part = length-drop n part ∙ (let m = new.long in omega (arith, m))

  enough : 2048 ≤ p * n
  enough = pages_of n size

  stream_of : stream_at (blocks_by n image t.id) ≡ stream_at (take n part)
  stream_of = ap stream_at here

  content_part : content v t.id ≡ take 2048 (drop n part)
  content_part = content_is g (blocks_by n image) t.id size (stream_of ∙ new.inode.stream) ∙ ap (take 2048) (joined_blocks n (t.id + 1) p image ∙ behind)

  long_content : length (content v t.id) ≡ 2048
  long_content = ap length content_part ∙ length-take-le 2048 (drop n part) (let l = long_part in let e = enough in omega (arith, l, e))

  header_is : header_at (page_at (content v t.id) 0) ≡ new_header t.kind
  header_is =
      ap (λ c. header_at (page_at c 0)) content_part
      ∙ ap header_at (part_of n 2048 0 1024 part (omega arith) ∙ ap (λ k. take 1024 (drop k part)) (let e : n + 0 ≡ n = omega arith in e))
      ∙ new.header

  leaf_is : IsLeaf rows (page_at (content v t.id) 1024)
  leaf_is = subst (IsLeaf rows) (sym (ap (λ c. page_at c 1024) content_part ∙ part_of n 2048 1024 1024 part (omega arith))) new.leaf

  long_block : length (take n part) ≡ n
  long_block = length-take-le n part (let l = new.long in omega (arith, l))

  pub stood : Stood v t rows
  stood = record {
    inode = subst (IsNewInode n t) (sym here) new.inode;
    long = ap length here ∙ long_block;
    owner = record {
      inode = subst (λ b. IsInode b t.id g.shift) (sym here) (is_inode n t (take n part) new.inode g.shift long_block (omega (arith, one_group)));
      stream = has_stream g (blocks_by n image) t.id size (stream_of ∙ new.inode.stream) one_group inside;
    };
    mode = λ m is. ap (λ b. unsigned_at 4 b 20) here ∙ mode_is n t (take n part) new.inode m is;
    rows_of = rows_are t.kind (content v t.id) rows long_content header_is leaf_is leaf.keys leaf.ascend leaf.few;
    tree = whole_tree t.kind (content v t.id) rows long_content header_is leaf_is leaf.keys leaf.ascend leaf.few leaf.no_fragment leaf.no_chain (leaf.mean (content v t.id));
    blocks = inode_blocks_are g (blocks_by n image) t.id size (stream_of ∙ new.inode.stream);
  }
