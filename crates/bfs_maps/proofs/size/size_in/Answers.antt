use Rattle.std.proofs.Common.{rules, ◌≡◌, ◌∙◌, ◌%◌, ℕ, ℤ, List, pos, ap, subst, w64, to_z, of_z}
use Rattle.std.specs.Prelude.{IfSome}
use Rattle.bfs_inode.specs.Inode.{stream_at}
use Rattle.bfs_maps.proofs.size.size_in.Goals as goal

pub returns-clause-is : goal.returns-clause-is
returns-clause-is c =
    let signed : to_z w64 (of_z w64 c.size.result) ≡ c.size.result = search rules in
    let e : to_z w64 (of_z w64 c.size.result) ≡ (stream_at c.args.block.now).size = signed ∙ c.size.ensures ∙ ap (λ (b : List ℕ). (stream_at b).size) c.over.ensures in
    subst (λ (z : ℤ). IfSome c.whole_pages.result (λ n. (z ≡ pos n) × (n % 1024 ≡ 0))) e c.whole_pages.ensures.is

pub returns-clause-none : goal.returns-clause-none
returns-clause-none c = λ none n size whole.
    let signed : to_z w64 (of_z w64 c.size.result) ≡ c.size.result = search rules in
    let e : to_z w64 (of_z w64 c.size.result) ≡ (stream_at c.args.block.now).size = signed ∙ c.size.ensures ∙ ap (λ (b : List ℕ). (stream_at b).size) c.over.ensures in
    c.whole_pages.ensures.none none n (e ∙ size) whole
