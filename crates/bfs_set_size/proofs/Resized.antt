-- A file's size and its stream were changed, one after the other.
use Rattle.std.proofs.Common.{◌≡◌, ◌≤◌, ◌<◌, ◌+◌, ◌*◌, ◌∙◌, ℕ, max, ℤ, List, length, sym, subst, arith, Bool, true, Option}
use Rattle.std.proofs.Math.Nat.{mul-le-mul_left}
use Rattle.bfs_super.specs.Conditions.{IsValid, ceil, natural}
use Rattle.bfs_super.specs.Geometry.{geometry_of}
use Rattle.bfs_super.specs.declared.geometry.Geometry.{Geometry}
use Rattle.bfs_super.specs.declared.sup.Super.{Super}
use Rattle.bfs_bitmap.specs.Runs.{Room}
use Rattle.bfs_stream.specs.Places.{fields}
use Rattle.bfs_stream.specs.Sizes.{Sizes, sizes_of, array_length}
use Rattle.bfs_stream.specs.Told.{contents}
use Rattle.bfs_tree.specs.Trees.{Node, Tree, IsNode, is_file}
use Rattle.bfs_sound.specs.Inodes.{stream_blocks}
use Rattle.bfs_sound.specs.Volumes.{sizes}
use Rattle.bfs_shift.specs.Lists.{Lists}
use Rattle.bfs_shift.specs.Shifts.{volume_in}
use Rattle.bfs_shift.specs.Work.{IsAtWork}
use Rattle.bfs_shift.proofs.Basics.{some_bytes}
use Rattle.bfs_shift.proofs.Made.{put_here}
use Rattle.bfs_set_size.specs.Resizing.{IsResizing}
use Rattle.bfs_set_size.specs.Sized.{with_size, HasBlocksFor, HasResized}
use Rattle.bfs_set_size.proofs.Owned.{file_owns, file_size}
use Rattle.bfs_set_size.proofs.Steps.{resizes_twice}
use Rattle.bfs_set_size.proofs.Written.{sized_tree}

-- the file is there still
pub sized_there : (tree : Tree) (id : ℕ) (n : Node) (size : ℕ) (stamp : ℤ) → IsNode tree id n → IsNode (with_size tree id size stamp) id (record n { size = size; modified = stamp; changed = stamp })
sized_there tree id n size stamp is = subst (λ (t : Tree). IsNode t id (record n { size = size; modified = stamp; changed = stamp })) (sized_tree tree id n size stamp is) (put_here tree.nodes id (record n { size = size; modified = stamp; changed = stamp }))

-- two steps, of which one writes the size
pub has_resized : (g : Geometry) (v now later : Room) (m : ℕ → Option (List ℕ)) (tree mid : Tree) (lists : Lists) (loose : List ℕ) (id was size : ℕ) (stamp : ℤ) (grows : Bool) (told1 told2 : Option (ℕ → Option (List ℕ))) (c0 c1 c2 : ℕ → Bool)
    (one : IsResizing g v now m tree mid lists loose id grows told1 c0 c1) (two : IsResizing g now later one.map mid (with_size tree id size stamp) lists loose id grows told2 c1 c2)
    → HasBlocksFor (sizes g) was size (length (stream_blocks (volume_in g m) id)) (length (stream_blocks (volume_in g two.map) id)) → HasResized g v later m tree lists loose id was size stamp told2 c0 c2
has_resized g v now later m tree mid lists loose id was size stamp grows told1 told2 c0 c1 c2 one two blocks = record {
  grows = grows;
  step = record {
    map = two.map;
    is = two.is;
    work = two.work;
    resizes = resizes_twice g v now later m one.map two.map tree mid (with_size tree id size stamp) id grows c0 c1 c2 one.resizes two.resizes;
  };
  blocks = blocks;
}

-- a smaller size has room in the blocks of a file
pub smaller_fits : (s : Super) (v : Room) (m : ℕ → Option (List ℕ)) (tree : Tree) (lists : Lists) (loose : List ℕ) (id : ℕ) (n : Node) (size : ℕ) → IsValid s → IsAtWork (geometry_of s) v m tree lists loose → IsNode tree id n → is_file n.kind ≡ true
    → size < n.size → size ≤ s.block_size * length (stream_blocks (volume_in (geometry_of s) m) id)
smaller_fits s v m tree lists loose id n size valid work is file less =
    let most : natural (fields (sizes_of s) (contents m) id).size ≤ s.block_size * length (stream_blocks (volume_in (geometry_of s) m) id) = (file_owns s v m tree lists loose id n valid work is file).stands.sound.size_high in
    let same = file_size s v m tree lists loose id n valid work is file in
    omega (arith, most, same, less)

-- and so has one for which there are blocks
pub enough_fits : (size bytes blocks have : ℕ) → size ≤ bytes * blocks → blocks ≤ have → size ≤ bytes * have
enough_fits size bytes blocks have few enough = let more = mul-le-mul_left bytes enough in omega (arith, few, more)

ceil_less : (bytes n : ℕ) → 0 < bytes → bytes * ceil n bytes < n + bytes
ceil_less bytes n some = grind (arith, some)

-- the blocks for a size, however large, are hardly more than it fills
pub largest_fills : (s : Super) (size blocks : ℕ) → IsValid s → size ≤ 1073741824 → blocks ≡ ceil size s.block_size → s.block_size * blocks < 1073741824 + s.block_size
largest_fills s size blocks valid few is =
    let less = ceil_less s.block_size size (some_bytes s valid) in
    subst (λ (k : ℕ). s.block_size * k < 1073741824 + s.block_size) (sym is) (omega (arith, less, few))

-- the blocks of a file that was cut, and of one that has grown
pub shrunk_blocks : (s : Sizes) (old size before since blocks : ℕ) → size < old → blocks ≡ ceil size s.block_size → since < blocks + array_length s → HasBlocksFor s old size before since
shrunk_blocks s old size before since blocks less is few = record {
  fewer = λ l. omega (arith, few, is);
  most = λ m. absurd (omega (arith, m, less));
  stays = λ m had. absurd (omega (arith, m, less));
}

pub enlarged_blocks : (s : Sizes) (old size before since mid blocks : ℕ) → old ≤ size → blocks ≡ ceil size s.block_size → since ≡ mid → mid < max before blocks + array_length s → (blocks ≤ before → mid ≡ before) → HasBlocksFor s old size before since
enlarged_blocks s old size before since mid blocks more is same few stays = record {
  fewer = λ l. absurd (omega (arith, l, more));
  most = λ m. subst (λ (b : ℕ). since < max before b + array_length s) is (omega (arith, few, same));
  stays = λ m had. same ∙ stays (omega (arith, had, is));
}
