-- The blocks of a stream, by the ranges in its inode.
use Rattle.std.proofs.Common.{◌≡◌, ◌∙◌, ℕ, List, length, Option, sym, ap}
use Rattle.bfs_super.specs.Conditions.{IsValid}
use Rattle.bfs_super.specs.Geometry.{geometry_of}
use Rattle.bfs_super.specs.declared.sup.Super.{Super}
use Rattle.bfs_inode.specs.Inode.{stream_at}
use Rattle.bfs_stream.specs.Places.{fields, HasStream}
use Rattle.bfs_stream.specs.Scans.{ends_of, last_end}
use Rattle.bfs_stream.specs.Sizes.{Sizes, sizes_of}
use Rattle.bfs_stream.specs.Told.{contents}
use Rattle.bfs_stream.proofs.Named.{direct_blocks, indirect_blocks, double_blocks}
use Rattle.bfs_stream.proofs.Placed.{ends_are, length-places, last_is}
use Rattle.bfs_stream.proofs.Sized.{valid_sizes}
use Rattle.bfs_sound.specs.Inodes.{stream_blocks}
use Rattle.bfs_shift.specs.Shifts.{volume_in}

-- where a stream stands, its last level in use reaches up to its last block
pub end_is_length : (s : Super) (m : ℕ → Option (List ℕ)) (inode : ℕ) (bytes : List ℕ) → IsValid s → HasStream (sizes_of s) (contents m) inode → bytes ≡ contents m inode
    → last_end (ends_of (sizes_of s) (stream_at bytes)) ≡ length (stream_blocks (volume_in (geometry_of s) m) inode)
end_is_length s m inode bytes valid stands read =
    let z : Sizes = sizes_of s in
    let f = ends_of z (fields z (contents m) inode) in
    let are = ends_are z (contents m) inode (valid_sizes s valid) stands in
    ap (λ (b : List ℕ). last_end (ends_of z (stream_at b))) read
    ∙ last_is f.direct f.indirect f.double (length (direct_blocks z (contents m) inode)) (length (indirect_blocks z (contents m) inode)) (length (double_blocks z (contents m) inode)) are.direct are.indirect are.double are.order
    ∙ sym (length-places z (contents m) inode)
