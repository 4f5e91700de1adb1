use Rattle.std.proofs.Common.{◌≡◌, ◌∙◌, true, false, sym, arith}
use Rattle.bfs_tree.specs.Trees.{is_dir}
use Rattle.bfs_look.proofs.Known.{dir_is, node_low, has_directory}
use Rattle.bfs_look.proofs.way.step_down.Goals as goal

pub returns-then-at-blocks_in-clause-row : goal.returns-then-at-blocks_in-clause-row
returns-then-at-blocks_in-clause-row g c m tree lists n told ready is dir =
    let low = node_low c.args.site.sup c.args.bitmap.now m tree lists ready c.args.at n is in
    let high = c.if-at-blocks_in.true in
    let e = c.blocks_in.ensures in
    absurd (omega (arith, low, high, e))

pub returns-then-not-dir-clause-row : goal.returns-then-not-dir-clause-row
returns-then-not-dir-clause-row g c m tree lists n told ready is dir =
    let said : c.in-Ok.dir ≡ is_dir n.kind = c.in-Ok.ensures.kind c.args.bitmap.now m tree lists n told ready is in
    let bad : false ≡ true = sym c.if-not-dir.true ∙ said ∙ dir in
    absurd (cc)

pub row_of-requires-clause-directory : goal.row_of-requires-clause-directory
row_of-requires-clause-directory g c m told =
    let before = sym c.is_dir_at.ensures.told ∙ told in
    let h = c.requires.ready m before in
    let n = c.requires.node m h.tree h.lists before h.ready in
    let said : c.in-Ok.dir ≡ is_dir n.0.kind = c.in-Ok.ensures.kind c.args.bitmap.now m h.tree h.lists n.0 before h.ready n.1 in
    has_directory c.args.site.sup c.args.bitmap.now m h.tree h.lists h.ready c.args.at n.0 n.1 (dir_is n.0.kind (sym said ∙ c.if-not-dir.false))

pub returns-in-Ok-row_of-clause-row : goal.returns-in-Ok-row_of-clause-row
returns-in-Ok-row_of-clause-row g c m tree lists n told ready is dir = c.in-Ok-row_of.ensures.found m tree lists n (c.is_dir_at.ensures.told ∙ told) ready is (dir_is n.kind dir)

pub returns-in-Ok-row_of-clause-leaf : goal.returns-in-Ok-row_of-clause-leaf
returns-in-Ok-row_of-clause-leaf g c m tree lists n told ready is leaf =
    let said : c.in-Ok.dir ≡ is_dir n.kind = c.in-Ok.ensures.kind c.args.bitmap.now m tree lists n told ready is in
    let bad : true ≡ false = sym c.if-not-dir.false ∙ said ∙ leaf in
    absurd (cc)

pub returns-in-Err-clause-undone : goal.returns-in-Err-clause-undone
returns-in-Err-clause-undone g c m tree lists told ready =
    let n = c.requires.node m tree lists told ready in
    c.in-Err.ensures.kind c.args.bitmap.now m tree lists n.0 told ready n.1

pub returns-in-Err-row_of-clause-undone : goal.returns-in-Err-row_of-clause-undone
returns-in-Err-row_of-clause-undone g c m tree lists told ready =
    let n = c.requires.node m tree lists told ready in
    let said : c.in-Ok.dir ≡ is_dir n.0.kind = c.in-Ok.ensures.kind c.args.bitmap.now m tree lists n.0 told ready n.1 in
    c.in-Err-row_of.ensures.found m tree lists n.0 (c.is_dir_at.ensures.told ∙ told) ready n.1 (dir_is n.0.kind (sym said ∙ c.if-not-dir.false))
