-- What is wrong with the header of an index is a finding on its inode.
use Rattle.std.proofs.Common.{inl, ℕ, refl}
use Rattle.bfs_sound.specs.Volumes.{Volume}
use Rattle.bfs_finding.specs.declared.finding.PagePart.{PagePart}
use Rattle.bfs_finding.specs.declared.finding.Finding.TheVariants as finds
use Rattle.bfs_finding.specs.Findings.{IsBroken, IsStreamOf}
use Rattle.bfs_finding.specs.TreeFaults.{IsHeaderFault}

pub header_broken : (v : Volume) (b : ℕ) (part : PagePart) → IsStreamOf v b → IsHeaderFault v b part → IsBroken v (finds.TreePage b 0 part)
header_broken v b part stream h = (stream, inl (refl, h))
