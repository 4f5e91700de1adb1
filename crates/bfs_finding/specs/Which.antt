-- The numbers that stand for what is wrong where a finding is printed.
use Rattle.std.specs.Prelude.{ℕ}
use Rattle.bfs_super.specs.declared.fault.SuperFault.{SuperFault}
use Rattle.bfs_super.specs.declared.fault.SuperFault.TheVariants as faults
use Rattle.bfs_finding.specs.declared.finding.InodePart.{InodePart}
use Rattle.bfs_finding.specs.declared.finding.InodePart.TheVariants as inodes
use Rattle.bfs_finding.specs.declared.finding.PagePart.{PagePart}
use Rattle.bfs_finding.specs.declared.finding.PagePart.TheVariants as pages

-- the number of a condition of the superblock, in the order in which they are tested
abbrev pub fault_number : SuperFault → ℕ
fault_number (faults.Magic which found) = 1
fault_number (faults.ByteOrder found) = 2
fault_number (faults.BlockSize size shift) = 3
fault_number (faults.InodeSize found) = 4
fault_number (faults.Length blocks) = 5
fault_number (faults.Groups per_group shift groups) = 6
fault_number (faults.LogRun run) = 7
fault_number (faults.LogPlace start end) = 8
fault_number (faults.RootRun run) = 9
fault_number (faults.IndexRun run) = 10

-- the number of a part of an inode, and of a page of a tree
abbrev pub inode_number : InodePart → ℕ
inode_number inodes.Magic = 1
inode_number inodes.Number = 2
inode_number inodes.Flags = 3
inode_number inodes.Size = 4
inode_number inodes.Mode = 5
inode_number inodes.SmallData = 6
inode_number inodes.Target = 7

abbrev pub page_number : PagePart → ℕ
page_number pages.Magic = 1
page_number pages.Size = 2
page_number pages.Kind = 3
page_number pages.Bounds = 4
page_number pages.Ends = 5
page_number pages.Content = 6
