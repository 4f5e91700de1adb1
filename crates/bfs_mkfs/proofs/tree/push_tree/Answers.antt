use Rattle.std.proofs.Common.{◌≡◌, ◌++◌, length, ap, ◌∙◌, sym, subst, rules}
use Rattle.bfs_mkfs.specs.Laid.{IsNewInode}
use Rattle.bfs_mkfs.proofs.Trees.{new_tree, appended_four, pages_of}
use Rattle.bfs_mkfs.proofs.tree.push_tree.Goals as goal

pub returns : goal.returns
returns c = λ rows leaf.
    let size = c.args.size in
    let inode = c.deref.result.now in
    let rest = c.deref-2.result.now in
    let is_inode : IsNewInode size c.args.tree inode = subst (IsNewInode size c.args.tree) (sym c.deref.ensures.value) c.in_ok-block.ensures.inode in
    let long : length inode ≡ size = ap length c.deref.ensures.value ∙ c.in_ok-block.ensures.long in
    let long_header : length c.header.result ≡ 1024 = search rules in
    let long_leaf : length c.args.leaf.now ≡ 1024 = search rules in (
      inode ++ (c.header.result ++ (c.args.leaf.now ++ rest)),
      appended_four c.args.out.now.items inode c.header.result c.args.leaf.now rest _ _ _ _ c.in_ok-extend_from_slice.ensures.items c.in_ok-extend_from_slice-2.ensures.items c.in_ok-extend_from_slice-3.ensures.items c.in_ok-extend_from_slice-4.ensures.items,
      new_tree size c.args.tree rows inode c.header.result c.args.leaf.now rest long long_header long_leaf (pages_of size c.requires.size) is_inode c.header.ensures.fields c.header.ensures.rest leaf (c.deref-2.ensures.value ∙ c.in_ok-rest.ensures),
    )
