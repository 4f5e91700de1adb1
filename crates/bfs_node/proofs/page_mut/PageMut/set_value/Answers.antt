use Rattle.std.proofs.Common.{List, subst, sym, to_z, of_z}
use Rattle.std.specs.Int.{w64}
use Rattle.bfs_node.specs.Page.{Row, rows_of, HasKeys}
use Rattle.bfs_node.proofs.AllRows.{keys-set}
use Rattle.bfs_node.proofs.page_mut.PageMut.set_value.Goals as goal

pub invariant_of-self : goal.invariant_of-self
invariant_of-self c = record {
  good = record {
    layout = c.set_row_value.ensures.page;
    keys = subst (λ (l : List Row). HasKeys c.args.self.now.kind l) (sym c.set_row_value.ensures.rows)
        (keys-set c.args.self.now.kind (rows_of c.args.self.now.page.now) c.args.i (to_z w64 (of_z w64 c.args.value)) c.args.self.now.good.keys);
  };
}
