use Rattle.std.proofs.Common.{◌≡◌, ◌+◌, ◌∙◌, ◌++◌, arith, length, take, ap, sym, subst, [], drop, replicate}
use Rattle.std.proofs.lemmas.List.{drop-replicate}
use Rattle.bfs_bytes.specs.Fields.{Puts}
use Rattle.bfs_node.proofs.Begun.{length-head_bytes}
use Rattle.bfs_node.specs.Page.{blank_page, head_bytes, null_links, rows_of, links_of, HasLayout}
use Rattle.bfs_node.proofs.PageLayout.{layout-of}
use Rattle.bfs_node.proofs.RowsRead.{rows_of-is}
use Rattle.bfs_node.proofs.edit.blank.Goals as goal

pub returns-clause-bytes : goal.returns-clause-bytes
unfolding blank_page
returns-clause-bytes c =
    let head : Puts 0 (head_bytes null_links 0 0) (replicate 1024 0) c.make_blank.new.page = c.make_blank.ensures.head in
    let size : 0 + length (head_bytes null_links 0 0) ≡ 28 = omega (arith, length-head_bytes null_links 0 0) in
    let whole : c.make_blank.new.page ≡ take 0 (replicate 1024 0) ++ head_bytes null_links 0 0 ++ drop 28 (replicate 1024 0) =
    head ∙ ap (λ n. take 0 (replicate 1024 0) ++ head_bytes null_links 0 0 ++ drop n (replicate 1024 0)) size in
    c.copy_from_slice.ensures.after ∙ whole ∙ ap (λ l. head_bytes null_links 0 0 ++ l) (drop-replicate 28 1024 0)

pub returns-clause-page : goal.returns-clause-page
returns-clause-page c = subst HasLayout (sym c.copy_from_slice.ensures.after) (layout-of c.make_blank.new.page [] c.make_blank.ensures.rows)

pub returns-clause-rows : goal.returns-clause-rows
returns-clause-rows c = ap rows_of c.copy_from_slice.ensures.after ∙ rows_of-is c.make_blank.new.page [] c.make_blank.ensures.rows

pub returns-clause-links : goal.returns-clause-links
returns-clause-links c = ap links_of c.copy_from_slice.ensures.after ∙ c.make_blank.ensures.links
