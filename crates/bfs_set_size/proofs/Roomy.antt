-- A file's stream has room for what it is to hold.
use Rattle.std.proofs.Common.{◌≡◌, ◌≤◌, ◌<◌, ◌+◌, ◌-◌, ◌*◌, ◌/◌, inl, inr, ℕ, max, List, ◌++◌, length, length-append, Some, refl, sym, ap, subst, arith, Bool, true, Option}
use Rattle.bfs_super.specs.Geometry.{IsBlockSize}
use Rattle.bfs_super.specs.declared.geometry.Geometry.{Geometry}
use Rattle.bfs_bitmap.specs.Runs.{Room}
use Rattle.bfs_stream.specs.Grown.{room_at}
use Rattle.bfs_stream.specs.Places.{level_blocks, levels_at, places_at}
use Rattle.bfs_stream.specs.Sizes.{Sizes, array_length, table_length}
use Rattle.bfs_tree.specs.Trees.{Tree}
use Rattle.bfs_sound.specs.Inodes.{stream_blocks}
use Rattle.bfs_sound.specs.Volumes.{sizes}
use Rattle.bfs_shift.specs.Lists.{Lists}
use Rattle.bfs_shift.specs.Shifts.{volume_in}
use Rattle.bfs_shift.specs.Work.{IsAtWork}
use Rattle.bfs_moves.proofs.Ends.{goes_on_same}
use Rattle.bfs_leave.specs.Leaving.{IsClear}
use Rattle.bfs_set_size.specs.Resizing.{Resizes}
use Rattle.bfs_set_size.specs.Sized.{HasMore, HasRoomFor}
use Rattle.bfs_set_size.proofs.Owned.{array_some}
use Rattle.bfs_set_size.proofs.Steps.{goes_on_resizes}

-- so many blocks the double indirect level takes in all, by a block's size
abbrev most : ℕ → ℕ
most n = max 1 (4096 / n) * ((max 1 (4096 / n) * (n / 8)) * (max 1 (4096 / n) * (n / 8)))

-- it takes those of a file of the largest size
capacity : (n : ℕ) → IsBlockSize n → (b : ℕ) → n * b < 1073741824 + n → b ≤ most n
capacity n (inl e) b h =
    let low : 1024 * b < 1073741824 + 1024 = subst (λ (k : ℕ). k * b < 1073741824 + k) e h in
    let all : most n ≡ 1048576 = ap most e in
    omega (arith, low, all)
capacity n (inr (inl e)) b h =
    let low : 2048 * b < 1073741824 + 2048 = subst (λ (k : ℕ). k * b < 1073741824 + k) e h in
    let all : most n ≡ 524288 = ap most e in
    omega (arith, low, all)
capacity n (inr (inr (inl e))) b h =
    let low : 4096 * b < 1073741824 + 4096 = subst (λ (k : ℕ). k * b < 1073741824 + k) e h in
    let all : most n ≡ 262144 = ap most e in
    omega (arith, low, all)
capacity n (inr (inr (inr e))) b h =
    let low : 8192 * b < 1073741824 + 8192 = subst (λ (k : ℕ). k * b < 1073741824 + k) e h in
    let all : most n ≡ 1048576 = ap most e in
    omega (arith, low, all)

-- what a stream lacks that is to have so many blocks finds room
pub has_room : (s : Sizes) → IsBlockSize s.block_size → (blocks : ℕ → List ℕ) (id b count : ℕ) → s.block_size * b < 1073741824 + s.block_size → count ≡ b - length (places_at s blocks id) → count ≤ room_at s blocks id
has_room s size blocks id b count few is =
    let direct = level_blocks s (levels_at s blocks id).stream.direct in
    let table = level_blocks s (levels_at s blocks id).table in
    let runs = level_blocks s (levels_at s blocks id).runs in
    let one = length-append direct (table ++ runs) in
    let two = length-append table runs in
    let all : length (places_at s blocks id) ≡ length (direct ++ (table ++ runs)) = λ i. length (places_at s blocks id) in
    let cap : b ≤ array_length s * (table_length s * table_length s) = capacity s.block_size size b few in
    let r : count ≤ array_length s * (table_length s * table_length s) - length runs = omega (arith, one, two, all, cap, is) in
    r

module _ (g : Geometry) (v now : Room) (m : ℕ → Option (List ℕ)) (tree : Tree) (lists : Lists) (loose : List ℕ) (id blocks : ℕ) (told : Option (ℕ → Option (List ℕ))) (old new : ℕ → Bool) where
  -- it has them already
  pub room_now : IsAtWork g v m tree lists loose → IsClear g v m → told ≡ Some m → new ≡ old → blocks ≤ length (stream_blocks (volume_in g m) id) → HasRoomFor g v v m tree lists loose id blocks told old new
  room_now work clear is same few = record {
    step = record {
      map = m;
      is = is;
      work = work;
      resizes = subst (λ (f : ℕ → Bool). Resizes g v v m m tree tree id true old f) (sym same) (goes_on_resizes g v v m m tree tree id true old old clear (goes_on_same g v m tree old));
    };
    enough = few;
    most = (let one = array_some (sizes g) in omega (arith, one));
    stays = λ had. refl;
  }

  -- or those that it lacked were added
  pub room_since : (count : ℕ) (mid : ℕ → Bool) → mid ≡ old → count ≡ blocks - length (stream_blocks (volume_in g m) id) → 0 < count → HasMore g v now m tree lists loose id count told mid new → HasRoomFor g v now m tree lists loose id blocks told old new
  room_since count mid same is some more = record {
    step = record {
      map = more.step.map;
      is = more.step.is;
      work = more.step.work;
      resizes = subst (λ (f : ℕ → Bool). Resizes g v now m more.step.map tree tree id true f new) same more.step.resizes;
    };
    enough = (let e = more.enough in omega (arith, e, is));
    most = (let f = more.most in omega (arith, f, is, some));
    stays = λ had. absurd (omega (arith, had, is, some));
  }
