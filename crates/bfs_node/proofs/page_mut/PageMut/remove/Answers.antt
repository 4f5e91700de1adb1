use Rattle.std.proofs.Common.{List, subst, sym, length}
use Rattle.bfs_node.specs.Page.{Row, key_of, rows_of, HasKeys, IsKeyLength}
use Rattle.bfs_node.proofs.AllRows.{all-remove}
use Rattle.bfs_node.proofs.page_mut.PageMut.remove.Goals as goal

pub invariant_of-self : goal.invariant_of-self
invariant_of-self c = record {
  good = record {
    layout = c.remove_row.ensures.page;
    keys = subst (λ (l : List Row). HasKeys c.args.self.now.kind l) (sym c.remove_row.ensures.rows)
        (all-remove (λ (r : Row). IsKeyLength c.args.self.now.kind (length (key_of r))) (rows_of c.args.self.now.page.now) c.args.i c.args.self.now.good.keys);
  };
}
