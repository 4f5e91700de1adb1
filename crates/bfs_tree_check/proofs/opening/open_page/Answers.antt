use Rattle.std.proofs.Common.{rules, ◌≡◌, ◌<◌, ◌≤◌, ◌∙◌, ◌+◌, ◌++◌, ◌∷◌, [], List, ap, drop, w64, to_z, of_z, length, arith}
use Rattle.bfs_node.specs.Page.{Row, rows_of, row_in, value_of, overflow_of}
use Rattle.bfs_pages.specs.Trees.{place_of}
use Rattle.bfs_tree_check.specs.Levels.{opened}
use Rattle.bfs_tree_check.specs.declared.item.Item.{Item}
use Rattle.bfs_tree_check.specs.declared.item.Item.TheVariants as item
use Rattle.bfs_tree_check.proofs.Opens.{pushed, pushed_last}
use Rattle.bfs_tree_check.proofs.opening.open_page.Goals as goal

pub loop-i-preserved : goal.loop-i-preserved
loop-i-preserved c =
    let rows : List Row = rows_of c.args.page.now in
    let items : List Item = c.loop-i.items.items in
    let start : List Item = c.args.items.now.items ++ opened c.args.at 0 rows (overflow_of c.args.page.now) in
    let same : to_z w64 (of_z w64 c.row_value.result) ≡ c.row_value.result = search rules in
    let child : c.place-child.result ≡ place_of (value_of (row_in rows c.loop-i.i)) = c.place-child.ensures ∙ ap place_of (same ∙ c.row_value.ensures) in
    let now : c.push-in-loop-i.new.self.items ≡ (items ++ item.Page (place_of (value_of (row_in rows c.loop-i.i))) ∷ []) ++ item.Key c.args.at c.loop-i.i ∷ [] =
    c.in_ok-push-2.ensures.items ∙ ap (λ (l : List Item). l ++ item.Key c.args.at c.loop-i.i ∷ []) (c.in_ok-push.ensures.items ∙ ap (λ x. items ++ item.Page x ∷ []) child) in
    let inside : c.loop-i.i < length rows = let e = c.row_count-i-end.ensures in let t = c.loop-i-test.true in omega (arith, e, t) in
    ap (λ (l : List Item). l ++ opened c.args.at (c.loop-i.i + 1) (drop (c.loop-i.i + 1) rows) (overflow_of c.args.page.now)) now
    ∙ pushed items start c.args.at c.loop-i.i rows (overflow_of c.args.page.now) inside c.loop-i.invariant

pub returns : goal.returns
returns c =
    let rows : List Row = rows_of c.args.page.now in
    let items : List Item = c.loop-i.items.items in
    let start : List Item = c.args.items.now.items ++ opened c.args.at 0 rows (overflow_of c.args.page.now) in
    let same : to_z w64 (of_z w64 c.overflow_link.result) ≡ c.overflow_link.result = search rules in
    let last : c.place-last.result ≡ place_of (overflow_of c.args.page.now) = c.place-last.ensures ∙ ap place_of (same ∙ c.overflow_link.ensures) in
    let behind : length rows ≤ c.loop-i.i = let e = c.row_count-i-end.ensures in let t = c.loop-i-test.false in omega (arith, e, t) in
    c.in_ok-push-3.ensures.items ∙ ap (λ x. items ++ item.Page x ∷ []) last
    ∙ pushed_last items start c.args.at c.loop-i.i rows (overflow_of c.args.page.now) behind c.loop-i.invariant
