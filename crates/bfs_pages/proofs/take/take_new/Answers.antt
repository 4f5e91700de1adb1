use Rattle.std.proofs.Common.{◌≡◌, ◌%◌, ℕ, List, Option, length, ap, sym, ◌∙◌, subst, rules, w64, to_z, of_z}
use Rattle.bfs_node.specs.declared.header.Header.{Header}
use Rattle.bfs_txn.specs.Pages.{HasLength}
use Rattle.bfs_pages.specs.Trees.{place_of}
use Rattle.bfs_pages.proofs.Taking.{taken-new-at}
use Rattle.bfs_pages.proofs.take.take_new.Goals as goal

pub returns-in-Ok-write_header-clause-taken : goal.returns-in-Ok-write_header-clause-taken
returns-in-Ok-write_header-clause-taken g c b e h =
    let n : length b ≡ g.P.Pages.size c.args.pages.now = subst (λ (t : Option (List ℕ)). HasLength t (g.P.Pages.size c.args.pages.now)) e (g.met.P.Pages.sized c.args.pages.now) in
    let root : to_z w64 (of_z w64 c.args.header.root_pointer) ≡ c.args.header.root_pointer = search rules in
    let free : to_z w64 (of_z w64 c.args.header.free_pointer) ≡ c.args.header.free_pointer = search rules in
    let m = c.in-Ok.ensures.made b e in
    let s = c.in-Ok-write_header.ensures.made m.0 m.1 in (
      s.0,
      s.1,
      taken-new-at c.args.kind b m.0 s.0 m.2.0 c.in-Ok.page _ (c.in-Ok.ensures.at ∙ sym n) m.2.1 s.2 (sym (ap (λ (z : Header). place_of z.free_pointer) h) ∙ c.requires.none)
          (subst (λ (z : ℕ). z % 1024 ≡ 0) (sym n) (g.met.P.Pages.whole c.args.pages.now)) (root ∙ ap (λ (z : Header). z.root_pointer) h) (ap (λ (z : Header). z.levels) h) (free ∙ ap (λ (z : Header). z.free_pointer) h),
    )
