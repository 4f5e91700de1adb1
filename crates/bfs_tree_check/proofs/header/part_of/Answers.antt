use Rattle.std.proofs.Common.{refl, subst, arith}
use Rattle.bfs_node.specs.Faults.{IsHeaderRefusal}
use Rattle.bfs_pages.specs.Trees.{header_in}
use Rattle.bfs_tree_check.specs.Amiss.{no_magic, no_size, other_kind}
use Rattle.bfs_tree_check.proofs.Tops.{low_code}
use Rattle.bfs_tree_check.proofs.header.part_of.Goals as goal

pub returns-in-Magic : goal.returns-in-Magic
returns-in-Magic c = λ b r. let s = subst (λ f. IsHeaderRefusal (header_in b) f) c.in-Magic.is r in no_magic s.0 refl

pub returns-in-Size : goal.returns-in-Size
returns-in-Size c = λ b r. let s = subst (λ f. IsHeaderRefusal (header_in b) f) c.in-Size.is r in no_size s.1 refl

pub returns-in-Kind : goal.returns-in-Kind
returns-in-Kind c = λ b r.
    let s = subst (λ f. IsHeaderRefusal (header_in b) f) c.in-Kind.is r in
    other_kind (λ e. s.2 (let low = low_code c.args.kind c.requires.kind in omega (arith, e, low))) refl

pub returns-in-Bounds : goal.returns-in-Bounds
returns-in-Bounds c = λ b r. absurd (subst (λ f. IsHeaderRefusal (header_in b) f) c.in-Bounds.is r)

pub returns-in-Ends : goal.returns-in-Ends
returns-in-Ends c = λ b r. absurd (subst (λ f. IsHeaderRefusal (header_in b) f) c.in-Ends.is r)
