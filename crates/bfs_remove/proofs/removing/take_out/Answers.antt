use Rattle.std.proofs.Common.{Option, sym, ◌∙◌, subst, ◌≡◌, ◌≢◌, ◌⊎◌, inl, inr, None, length}
use Rattle.bfs_node.specs.Page.{rows_of, row_in, value_of}
use Rattle.bfs_pages.specs.Shapes.{leaves_of}
use Rattle.bfs_pages.specs.Trees.{state_of}
use Rattle.bfs_remove.specs.Cuts.{Marked}
use Rattle.bfs_remove.specs.declared.way.Branch.{Branch}
use Rattle.bfs_remove.proofs.Cutting.{row-cut, only-row}
use Rattle.bfs_remove.proofs.Filled.{line-leaf}
use Rattle.bfs_remove.proofs.removing.take_out.Goals as goal

pub returns-in-Ok-clause-taken : goal.returns-in-Ok-clause-taken
returns-in-Ok-clause-taken g c b reached t fs e tree w key =
    c.in-Ok.ensures.dropped b reached t fs c.args.way.leaf (value_of (row_in (rows_of c.args.page.now) c.args.i)) e tree
    (record { header = w.header; page_is = w.page_is; leaf = w.leaf; branch = subst (λ (o : Option Branch). Marked c.args.kind (state_of c.args.kind b).levels t c.args.key.now o) c.in-Some.ensures.0 w.branch })
    (only-row (rows_of c.args.page.now) c.args.i c.args.key.now c.in-Some.ensures.1 c.requires.row key)

pub returns-in-Err-clause-taken : goal.returns-in-Err-clause-taken
returns-in-Err-clause-taken g c b reached t fs e tree w key =
    c.in-Err.ensures.dropped b reached t fs c.args.way.leaf (value_of (row_in (rows_of c.args.page.now) c.args.i)) e tree
    (record { header = w.header; page_is = w.page_is; leaf = w.leaf; branch = subst (λ (o : Option Branch). Marked c.args.kind (state_of c.args.kind b).levels t c.args.key.now o) c.in-Some.ensures.0 w.branch })
    (only-row (rows_of c.args.page.now) c.args.i c.args.key.now c.in-Some.ensures.1 c.requires.row key)

pub returns-in-Ok-cut_row-clause-taken : goal.returns-in-Ok-cut_row-clause-taken
returns-in-Ok-cut_row-clause-taken g c b reached t fs e tree w key =
    let m = c.in-Ok-cut_row.ensures.made b e in
    let r = row-cut c.args.kind b m.0 c.args.page.now c.cut_row.new.page reached t fs c.args.way.leaf c.args.i c.args.key.now tree m.2 w.page_is c.requires.page c.requires.leaf_page.overflow w.leaf
    c.cut_row.ensures.page c.cut_row.ensures.rows c.cut_row.ensures.links c.requires.row key in
    (m.0, m.1, w.header ∙ sym m.2.header, (r.0, r.1, r.2, r.3), r.4)

pub returns-in-Ok-clause-filled : goal.returns-in-Ok-clause-filled
returns-in-Ok-clause-filled g c b reached t fs e tree w key f =
    c.in-Ok.ensures.filled b reached t fs c.args.way.leaf (value_of (row_in (rows_of c.args.page.now) c.args.i)) e tree
    (record { header = w.header; page_is = w.page_is; leaf = w.leaf; branch = subst (λ (o : Option Branch). Marked c.args.kind (state_of c.args.kind b).levels t c.args.key.now o) c.in-Some.ensures.0 w.branch })
    (only-row (rows_of c.args.page.now) c.args.i c.args.key.now c.in-Some.ensures.1 c.requires.row key) f

pub returns-in-Ok-cut_row-clause-filled : goal.returns-in-Ok-cut_row-clause-filled
returns-in-Ok-cut_row-clause-filled g c b reached t fs e tree w key f =
    let m = c.in-Ok-cut_row.ensures.made b e in
    let r = row-cut c.args.kind b m.0 c.args.page.now c.cut_row.new.page reached t fs c.args.way.leaf c.args.i c.args.key.now tree m.2 w.page_is c.requires.page c.requires.leaf_page.overflow w.leaf
    c.cut_row.ensures.page c.cut_row.ensures.rows c.cut_row.ensures.links c.requires.row key in
    (m.0, r.0, r.1, m.1, w.header ∙ sym m.2.header, r.2, r.5 (by c.in-None.ensures) f)
  where
    by : (c.args.way.branch ≡ None) ⊎ (length (rows_of c.args.page.now) ≢ 1) → (length (leaves_of t) ≡ 1) ⊎ (length (rows_of c.args.page.now) ≢ 1)
    by (inl none) = inl (line-leaf (state_of c.args.kind b).levels t (subst (λ (o : Option Branch). Marked c.args.kind (state_of c.args.kind b).levels t c.args.key.now o) none w.branch) tree.holds.built.deep)
    by (inr two) = inr two
