use Rattle.std.proofs.Common.{◌≡◌, ◌≤◌, ◌<◌, ◌+◌, ◌-◌, ◌*◌, ap, ◌∙◌, length, take, drop, [], ◌∷◌, ◌++◌, arith, refl, List, subst, to_z, of_z, rules}
use Rattle.std.specs.Int.{w64}
use Rattle.bfs_node.specs.Page.{Row, rows_of, row_in, key_of, keys_of}
use Rattle.bfs_node.specs.Written.{Written}
use Rattle.bfs_node.proofs.RowsRead.{keys-le_more, keys-next, copied-more, copied-length, copied-keys}
use Rattle.bfs_node.proofs.write.copy_rows.Goals as goal

pub write_row-e-requires-clause-key : goal.write_row-e-requires-clause-key
write_row-e-requires-clause-key c =
    let lt : c.loop-m.m < length (rows_of c.args.old.now) = omega (arith, c.requires.within) in
    let key : length c.row_key.result.now ≡ length (key_of (row_in (rows_of c.args.old.now) c.loop-m.m)) = ap length c.row_key.ensures in
    omega (arith, key, keys-next (rows_of c.args.old.now) c.loop-m.m lt, keys-le_more (rows_of c.args.old.now) (c.loop-m.m + 1) c.args.to (omega arith), c.requires.room, c.loop-m.invariant.end)

pub loop-m-preserved : goal.loop-m-preserved
loop-m-preserved c =
    let le : c.args.from ≤ c.loop-m.m = omega arith in
    let lt : c.loop-m.m < length (rows_of c.args.old.now) = omega (arith, c.requires.within) in
    let key : length c.row_key.result.now ≡ length (key_of (row_in (rows_of c.args.old.now) c.loop-m.m)) = ap length c.row_key.ensures in
    let whole : to_z w64 (of_z w64 c.row_value.result) ≡ c.row_value.result = search rules in
    record {
      size = c.write_row-e.ensures.size;
      end = omega (arith, c.write_row-e.ensures.end, c.loop-m.invariant.end, key, keys-next (rows_of c.args.old.now) c.loop-m.m lt);
      head = c.write_row-e.ensures.head ∙ c.loop-m.invariant.head;
      written = λ rows len ks w.
          subst (λ (l : List Row). Written c.write_row-e.new.page c.args.table.base (c.args.table.base + 2 * c.args.table.count) l)
          (ap (λ k. (rows ++ take (c.loop-m.m - c.args.from) (drop c.args.from (rows_of c.args.old.now))) ++ (k, to_z w64 (of_z w64 c.row_value.result)) ∷ []) c.row_key.ensures
          ∙ ap (λ v. (rows ++ take (c.loop-m.m - c.args.from) (drop c.args.from (rows_of c.args.old.now))) ++ (key_of (row_in (rows_of c.args.old.now) c.loop-m.m), v) ∷ []) (whole ∙ c.row_value.ensures)
          ∙ copied-more (rows_of c.args.old.now) rows c.args.from c.loop-m.m le lt)
          (c.write_row-e.ensures.written (rows ++ take (c.loop-m.m - c.args.from) (drop c.args.from (rows_of c.args.old.now)))
          (copied-length (rows_of c.args.old.now) rows c.args.from c.loop-m.m c.args.first le lt len)
          (copied-keys (rows_of c.args.old.now) rows c.args.from c.loop-m.m (length (keys_of (take c.args.from (rows_of c.args.old.now)))) (length (keys_of (take c.loop-m.m (rows_of c.args.old.now)))) c.loop-m.e c.args.end le refl refl c.loop-m.invariant.end ks)
          (c.loop-m.invariant.written rows len ks w));
    }
