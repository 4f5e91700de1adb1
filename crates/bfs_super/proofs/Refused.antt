-- A superblock that is refused breaks one of the conditions.
use Rattle.std.proofs.Common.{⊎_elim}
use Rattle.bfs_super.specs.declared.sup.Super.{Super}
use Rattle.bfs_super.specs.declared.fault.SuperFault.{SuperFault}
use Rattle.bfs_super.specs.declared.fault.SuperFault.TheVariants as faults
use Rattle.bfs_super.specs.Conditions.{IsValid, IsRefusal}

pub refused_not_valid : (s : Super) (fault : SuperFault) → IsRefusal s fault → IsValid s → ⊥
refused_not_valid s (faults.Magic which found) refused valid =
    ⊎_elim (λ one. one.1 valid.magic1) (λ rest. ⊎_elim (λ two. two.2 valid.magic2) (λ three. three.3 valid.magic3) rest) refused
refused_not_valid s (faults.ByteOrder found) refused valid = refused.1 valid.order
refused_not_valid s (faults.BlockSize size shift) refused valid = refused.1 valid.block_size
refused_not_valid s (faults.InodeSize found) refused valid = refused.1 valid.inode_size
refused_not_valid s (faults.Length blocks) refused valid = refused.1 valid.length
refused_not_valid s (faults.Groups per_group shift groups) refused valid = refused.1 valid.groups
refused_not_valid s (faults.LogRun run) refused valid = refused.1 valid.log
refused_not_valid s (faults.LogPlace start end) refused valid = refused.1 (valid.log_start, valid.log_end)
refused_not_valid s (faults.RootRun run) refused valid = refused.1 valid.root
refused_not_valid s (faults.IndexRun run) refused valid = refused.1 valid.indices
