use Rattle.std.proofs.Common.{◌≡◌, ◌<◌, pos, [], Some, subst, arith}
use Rattle.bfs_base.specs.declared.kind.KeyKind.TheVariants.{Text}
use Rattle.bfs_super.specs.Conditions.{natural}
use Rattle.bfs_pages.specs.Maps.{assoc}
use Rattle.bfs_maps.specs.NumberTrees.{IsNumberAt}
use Rattle.bfs_moves.proofs.Found.{names_readable}
use Rattle.bfs_calls.proofs.Indexed.{index_low, index_number}
use Rattle.bfs_calls.proofs.indices.index_inside.Goals as goal

pub find_index-requires-clause-directory : goal.find_index-requires-clause-directory
find_index-requires-clause-directory g c m told there =
    let h = c.requires.ready m told in
    names_readable c.args.sup.now c.args.bitmap.now m h.tree h.lists [] c.requires.valid h.ready.work there

pub returns-in-Err-clause-found : goal.returns-in-Err-clause-found
returns-in-Err-clause-found g c m tree lists told ready =
    c.in-Err.ensures.found m tree lists [] told ready.work (λ value row. index_number c.args.sup.now c.args.bitmap.now m tree lists c.requires.valid ready c.args.name.now value row)

pub returns-in-None-clause-found : goal.returns-in-None-clause-found
returns-in-None-clause-found g c m tree lists told ready =
    subst (IsNumberAt Text lists.names c.args.name.now) c.in-None.is
    (c.in-Ok.ensures.found m tree lists [] told ready.work (λ value row. index_number c.args.sup.now c.args.bitmap.now m tree lists c.requires.valid ready c.args.name.now value row))

pub returns-then-inode-blocks_in-clause-found : goal.returns-then-inode-blocks_in-clause-found
returns-then-inode-blocks_in-clause-found g c m tree lists told ready =
    let row : assoc Text lists.names c.args.name.now ≡ Some (pos c.in-Some.inode) =
    subst (IsNumberAt Text lists.names c.args.name.now) c.in-Some.is
    (c.in-Ok.ensures.found m tree lists [] told ready.work (λ value row. index_number c.args.sup.now c.args.bitmap.now m tree lists c.requires.valid ready c.args.name.now value row)) in
    let low : c.in-Some.inode < natural c.args.sup.now.num_blocks = index_low c.args.sup.now c.args.bitmap.now m tree lists c.requires.valid ready c.args.name.now (pos c.in-Some.inode) row in
    let all = c.blocks_in.ensures in
    let high = c.if-inode-blocks_in.true in
    absurd (omega (arith, low, all, high))

pub returns-clause-found : goal.returns-clause-found
returns-clause-found g c m tree lists told ready =
    subst (IsNumberAt Text lists.names c.args.name.now) c.in-Some.is
    (c.in-Ok.ensures.found m tree lists [] told ready.work (λ value row. index_number c.args.sup.now c.args.bitmap.now m tree lists c.requires.valid ready c.args.name.now value row))
