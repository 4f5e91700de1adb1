-- The blocks of files stay, whatever a call has done.
use Rattle.std.proofs.Common.{◌≡◌, ◌≤◌, ◌<◌, ◌⊎◌, inl, inr, ℕ, List, [], ◌∷◌, ◌++◌, Bool, true, false, cond, Option, refl, sym, ap, ◌∙◌, subst, arith}
use Rattle.std.specs.Prelude.{◌==◌}
use Rattle.std.proofs.lemmas.Bool.{eqb-true}
use Rattle.bfs_base.specs.Lists.{times, Has}
use Rattle.bfs_super.specs.declared.geometry.Geometry.{Geometry}
use Rattle.bfs_bitmap.specs.Runs.{Room, is_reserved}
use Rattle.bfs_stream.proofs.Doubles.{times-append}
use Rattle.bfs_tree.specs.declared.call.Call.{Call}
use Rattle.bfs_tree.specs.declared.call.Call.TheVariants.{SetSize}
use Rattle.bfs_tree.specs.Trees.{Node, Tree, IsNode}
use Rattle.bfs_sound.specs.Volumes.{Volume, bitmap_blocks, IsMarked}
use Rattle.bfs_sound.specs.Inodes.{inode_blocks, stream_blocks}
use Rattle.bfs_sound.specs.Owners.{fixed_blocks, has_no_stream, owned, owner_blocks, owners, reach}
use Rattle.bfs_sound.proofs.Counts.{has_member}
use Rattle.bfs_sound.proofs.Owning.{reach_by_owners}
use Rattle.bfs_shift.specs.Lists.{Lists}
use Rattle.bfs_shift.specs.Stocked.{Stocked}
use Rattle.bfs_shift.specs.Shifts.{volume_in}
use Rattle.bfs_shift.specs.Work.{IsAtWork, IsFileStill, GoesOn}
use Rattle.bfs_shift.proofs.OneIndex.{own_first}
use Rattle.bfs_shift.proofs.Owners.{owners_are}
use Rattle.bfs_moves.proofs.Ends.{reached}
use Rattle.bfs_leave.specs.Leaving.{GivesBack}
use Rattle.bfs_hold.specs.Resizing.{IsLonger, Resizes}
use Rattle.bfs_answers.specs.Files.{AreKeptBy, KeepsBlocks}

one_more : (k : ℕ) → 1 ≤ times k (k ∷ [])
one_more k = grind arith

-- a node's inode is one of its blocks, and so it is marked
inode_first : (v : Volume) (id : ℕ) (b : Bool) → 1 ≤ times id (cond {A = List ℕ} b (id ∷ []) (inode_blocks v id))
inode_first v id true = one_more id
inode_first v id false = own_first v id

inode_owned : (v : Volume) (tree : Tree) (id : ℕ) (n : Node) → IsNode tree id n → Has (owned v tree) id
unfolding owned
inode_owned v tree id n is = has_member (owner_blocks v) (owners v tree) (id, has_no_stream v (id, n)) id ((owners_are v tree).node id n is) (inode_first v id (has_no_stream v (id, n)))

owned_reached : (v : Volume) (tree : Tree) (k : ℕ) → Has (owned v tree) k → Has (reach v tree) k
owned_reached v tree k has =
    let some : 0 < times k (owned v tree) = has in
    let a = times-append k (fixed_blocks v) (bitmap_blocks v.geometry ++ owned v tree) in
    let b = times-append k (bitmap_blocks v.geometry) (owned v tree) in
    let e : times k (reach v tree) ≡ times k (fixed_blocks v ++ (bitmap_blocks v.geometry ++ owned v tree)) = ap (times k) (reach_by_owners v tree) in
    let r : 0 < times k (reach v tree) = omega (arith, some, a, b, e) in r

pub inode_marked : (v : Volume) (tree : Tree) (lists : Lists) → Stocked v tree lists [] → (id : ℕ) (n : Node) → IsNode tree id n → IsMarked v id
inode_marked v tree lists stocked id n is = (reached v tree lists stocked id).1 (owned_reached v tree id (inode_owned v tree id n is))

-- nothing has changed
pub still_keeps : (v : Volume) (tree : Tree) (call : Call) → KeepsBlocks v v tree tree call
still_keeps v tree call id n now is file later regular = inl refl

-- nothing was given back
pub goes_on_keeps : (g : Geometry) (v now : Room) (m map : ℕ → Option (List ℕ)) (tree after : Tree) (old new : ℕ → Bool) (call : Call) → GoesOn g v now m map tree after old new
    → KeepsBlocks (volume_in g m) (volume_in g map) tree after call
goes_on_keeps g v now m map tree after old new call goes id n node is file later regular = inl (goes.files id n is file).1

-- An inode that was given back is that of no node since.
pub given_back_keeps : (g : Geometry) (v now : Room) (m map : ℕ → Option (List ℕ)) (tree after : Tree) (lists : Lists) (old new : ℕ → Bool) (call : Call) → IsAtWork g now map after lists []
    → GivesBack g v now m map tree after old new → KeepsBlocks (volume_in g m) (volume_in g map) tree after call
given_back_keeps g v now m map tree after lists old new call work gives id n node is file later regular = by_file (gives.files id n is file)
  where
    by_file : (IsFileStill after id n × (stream_blocks (volume_in g map) id ≡ stream_blocks (volume_in g m) id)) ⊎ (is_reserved now.given id ≡ true) → AreKeptBy call id (stream_blocks (volume_in g m) id) (stream_blocks (volume_in g map) id)
    by_file (inl still) = inl still.1
    by_file (inr gone) = absurd (gives.clear id gone (inode_marked (volume_in g map) after lists work.stocked id node later))

-- a file was given a size
pub resized_keeps : (g : Geometry) (v now : Room) (m map : ℕ → Option (List ℕ)) (tree after : Tree) (id size : ℕ) (grows : Bool) (old new : ℕ → Bool) → Resizes g v now m map tree after id grows old new
    → KeepsBlocks (volume_in g m) (volume_in g map) tree after (SetSize id size)
resized_keeps g v now m map tree after id size grows old new resizes b n node is file later regular = by_test (b == id) refl
  where
    by_way : (grows : Bool) (xs ys : List ℕ) → IsLonger grows xs ys → AreKeptBy (SetSize id size) id xs ys
    by_way true xs ys longer = inr ((size, refl), inl longer)
    by_way false xs ys longer = inr ((size, refl), inr longer)

    by_own : b ≡ id → AreKeptBy (SetSize id size) b (stream_blocks (volume_in g m) b) (stream_blocks (volume_in g map) b)
    by_own same = subst (λ (x : ℕ). AreKeptBy (SetSize id size) x (stream_blocks (volume_in g m) x) (stream_blocks (volume_in g map) x)) (sym same)
        (by_way grows (stream_blocks (volume_in g m) id) (stream_blocks (volume_in g map) id) (resizes.own n (subst (λ (x : ℕ). IsNode tree x n) same is) file).1)

    by_test : (t : Bool) → (b == id) ≡ t → AreKeptBy (SetSize id size) b (stream_blocks (volume_in g m) b) (stream_blocks (volume_in g map) b)
    by_test true e = by_own (eqb-true b id e)
    by_test false e = inl (resizes.files b n is file (λ same. let t : (b == id) ≡ true = grind (arith, same) in let bad : true ≡ false = sym t ∙ e in absurd cc)).1
