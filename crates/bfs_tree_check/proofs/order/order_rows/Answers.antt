use Rattle.std.proofs.Common.{pos, ◌≡◌, ◌<◌, ◌≤◌, ◌+◌, ◌++◌, ◌∷◌, [], ◌∙◌, ℕ, List, length, take, drop, true, sym, ap, subst, arith, append_assoc}
use Rattle.std.proofs.lemmas.List.{take_all}
use Rattle.bfs_node.specs.Page.{Row, rows_of, row_in, IsKeyLength}
use Rattle.bfs_pages.specs.Shapes.{a_row}
use Rattle.bfs_finding.specs.Walks.{Met, rows_met}
use Rattle.bfs_tree_check.specs.Ordered.{IsUpTo}
use Rattle.bfs_tree_check.proofs.Rising.{key_some, up_next, broken_at, rows_apart, rows_more}
use Rattle.bfs_tree_check.proofs.order.order_rows.Goals as goal

pub go_on-requires-clause-key : goal.go_on-requires-clause-key
go_on-requires-clause-key c =
    let rows : List Row = rows_of c.args.page.now in
    let inside : c.loop-i.i < length rows = let e = c.row_count-i-end.ensures in let t = c.loop-i-test.true in omega (arith, e, t) in
    subst (λ (k : List ℕ). IsKeyLength c.args.kind (length k)) (sym c.row_key.ensures) (c.requires.page.keys c.loop-i.i inside)

pub loop-i-preserved : goal.loop-i-preserved
loop-i-preserved c =
    let rows : List Row = rows_of c.args.page.now in
    let i = c.loop-i.i in
    let row : Row = row_in rows i in
    let inside : i < length rows = let e = c.row_count-i-end.ensures in let t = c.loop-i-test.true in omega (arith, e, t) in
    let long : IsKeyLength c.args.kind (length c.row_key.result.now) = subst (λ (k : List ℕ). IsKeyLength c.args.kind (length k)) (sym c.row_key.ensures) (c.requires.page.keys i inside) in
    let last : c.go_on.new.last.items ≡ c.row_key.result.now = c.in-Ok.ensures.last c.if-not-on.false in
    record {
      last = λ some. subst (λ (k : List ℕ). IsKeyLength c.args.kind (length k)) (sym last) long;
      up = λ at front up.
          let before : List Met = rows_met at 0 (take i rows) in
          let m : Met = (at, i, a_row row.0 row.1) in
          let next = up_next c.args.kind (front ++ before) c.loop-i.last.items c.row_key.result.now true m (sym c.row_key.ensures) (key_some c.args.kind (length c.row_key.result.now) c.requires.kind long) (c.loop-i.invariant.up at front up) (sym c.in-Ok.ensures.on ∙ c.if-not-on.false) in
          subst (λ (k : List ℕ). IsUpTo c.args.kind (front ++ rows_met at 0 (take (i + 1) rows)) k) (sym last)
          (subst (λ l. IsUpTo c.args.kind l c.row_key.result.now) (append_assoc front before (m ∷ []) ∙ ap (λ l. front ++ l) (sym (rows_more at i rows ([], pos 0) inside))) next);
    }

pub returns-then-not-on-clause-ordered : goal.returns-then-not-on-clause-ordered
returns-then-not-on-clause-ordered c = λ at front up.
    let rows : List Row = rows_of c.args.page.now in
    let i = c.loop-i.i in
    let row : Row = row_in rows i in
    let inside : i < length rows = let e = c.row_count-i-end.ensures in let t = c.loop-i-test.true in omega (arith, e, t) in
    let before : List Met = rows_met at 0 (take i rows) in
    let m : Met = (at, i, a_row row.0 row.1) in
    let b = broken_at c.args.kind (front ++ before) c.loop-i.last.items c.row_key.result.now true m (sym c.row_key.ensures) (c.loop-i.invariant.up at front up) (sym c.in-Ok.ensures.on ∙ c.if-not-on.true) in
    record { middle = before; back = rows_met at (i + 1) (drop (i + 1) rows); entry = a_row row.0 row.1; other = b.0; are = rows_apart at i rows ([], pos 0) inside; before = b.1; wrong = b.2 }

pub returns-clause-ordered : goal.returns-clause-ordered
returns-clause-ordered c = λ at front up.
    let rows : List Row = rows_of c.args.page.now in
    let behind : length rows ≤ c.loop-i.i = let e = c.row_count-i-end.ensures in let t = c.loop-i-test.false in omega (arith, e, t) in
    subst (λ l. IsUpTo c.args.kind (front ++ rows_met at 0 l) c.loop-i.last.items) (take_all c.loop-i.i rows behind) (c.loop-i.invariant.up at front up)
