-- A stream that isn't of whole pages has no tree.
use Rattle.std.proofs.Common.{◌≡◌, ◌<◌, ◌%◌, ◌∙◌, ◌⊎◌, inl, inr, ℕ, pos, List, length, Option, Some, sym, ap}
use Rattle.bfs_base.specs.declared.kind.KeyKind.{KeyKind}
use Rattle.bfs_inode.specs.Inode.{stream_at}
use Rattle.bfs_super.specs.Conditions.{natural}
use Rattle.bfs_super.specs.declared.sup.Super.{Super}
use Rattle.bfs_txn.specs.Told.{AreSized}
use Rattle.bfs_stream.specs.Sizes.{sizes_of}
use Rattle.bfs_stream.specs.Places.{HasStream}
use Rattle.bfs_stream.specs.Told.{contents}
use Rattle.bfs_stream_check.specs.Known.{IsAllTold}
use Rattle.bfs_sound.specs.Volumes.{Volume}
use Rattle.bfs_sound.specs.Inodes.{content}
use Rattle.bfs_sound.specs.Whole.{volume_of}
use Rattle.bfs_finding.specs.declared.finding.Finding.TheVariants as finds
use Rattle.bfs_finding.specs.declared.finding.PagePart.TheVariants as parts
use Rattle.bfs_finding.specs.Findings.{IsBroken}
use Rattle.bfs_finding.specs.TreeFaults.{HasTree}
use Rattle.bfs_finding.specs.Ways.{HasNames, IsListed}
use Rattle.bfs_node_walk.proofs.Amissed.{size_broken}
use Rattle.bfs_node_walk.proofs.Readable.{size_natural, length_is}

pub of_tree : (v : Volume) (b : ℕ) (kind : KeyKind) → HasTree v b kind → HasNames v b ⊎ IsListed v b
of_tree v b kind (inl h) = inl h.0
of_tree v b kind (inr h) = inr h.0

pub unsized : (s : Super) (id : ℕ) (m : ℕ → Option (List ℕ)) (bytes : List ℕ) → IsAllTold (sizes_of s) m → id < natural s.num_blocks → HasStream (sizes_of s) (contents m) id → AreSized s.block_size (Some m) → bytes ≡ contents m id
    → HasNames (volume_of s (contents m)) id ⊎ IsListed (volume_of s (contents m)) id → ((n : ℕ) → (stream_at bytes).size ≡ pos n → n % 1024 ≡ 0 → ⊥) → IsBroken (volume_of s (contents m)) (finds.TreePage id 0 parts.Size)
unsized s id m bytes all inside has sized same either none =
    let v : Volume = volume_of s (contents m) in
    let n : ℕ = natural (stream_at (contents m id)).size in
    let size : (stream_at (contents m id)).size ≡ pos n = size_natural (sizes_of s) id m all inside has in
    let long : length (content v id) ≡ n = length_is (sizes_of s) id m all inside has n size sized in
    size_broken v id either has (λ h. none n (ap (λ (b : List ℕ). (stream_at b).size) same ∙ size) (ap (λ (k : ℕ). k % 1024) (sym long) ∙ h))
