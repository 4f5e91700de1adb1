use Rattle.std.proofs.Common.{◌≡◌, ◌<◌, ◌∙◌, ap, sym, arith, rules, to_z, of_z}
use Rattle.std.specs.Int.{w64}
use Rattle.bfs_bytes.specs.Fields.{signed64_at}
use Rattle.bfs_node.specs.Page.{count_at, value_of}
use Rattle.bfs_node.proofs.PageLayout.{length-rows_of, row_in-rows_of}
use Rattle.bfs_node.proofs.read.row_value.Goals as goal

pub returns : goal.returns
returns c =
    let lt : c.args.i < count_at c.args.page.now = omega (arith, length-rows_of c.args.page.now, c.requires.place) in
    let whole : to_z w64 (of_z w64 c.i64_at.result) ≡ c.i64_at.result = search rules in
    whole ∙ c.i64_at.ensures ∙ ap (signed64_at c.args.page.now) c.value_place.ensures.place ∙ sym (ap value_of (row_in-rows_of c.args.page.now c.args.i lt))
