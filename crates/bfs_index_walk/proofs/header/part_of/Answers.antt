use Rattle.std.proofs.Common.{inl, inr, refl, subst}
use Rattle.bfs_node.specs.Faults.{IsHeaderRefusal}
use Rattle.bfs_pages.specs.Trees.{header_in}
use Rattle.bfs_sound.specs.Inodes.{content}
use Rattle.bfs_finding.specs.TreeFaults.{no_magic, no_size, no_kind}
use Rattle.bfs_index_walk.proofs.header.part_of.Goals as goal

pub returns-in-Magic : goal.returns-in-Magic
returns-in-Magic c = λ v b listed r. let s = subst (λ f. IsHeaderRefusal (header_in (content v b)) f) c.in-Magic.is r in no_magic (inr listed) s.0 refl

pub returns-in-Size : goal.returns-in-Size
returns-in-Size c = λ v b listed r. let s = subst (λ f. IsHeaderRefusal (header_in (content v b)) f) c.in-Size.is r in no_size (inr listed) (inl s.1) refl

pub returns-in-Kind : goal.returns-in-Kind
returns-in-Kind c = λ v b listed r. let s = subst (λ f. IsHeaderRefusal (header_in (content v b)) f) c.in-Kind.is r in no_kind listed s.2 refl

pub returns-in-Bounds : goal.returns-in-Bounds
returns-in-Bounds c = λ v b listed r. absurd (subst (λ f. IsHeaderRefusal (header_in (content v b)) f) c.in-Bounds.is r)

pub returns-in-Ends : goal.returns-in-Ends
returns-in-Ends c = λ v b listed r. absurd (subst (λ f. IsHeaderRefusal (header_in (content v b)) f) c.in-Ends.is r)
