use Rattle.std.proofs.Common.{rules, ◌≡◌, w64, to_z, of_z}
use Rattle.bfs_names_walk.specs.Rows.{as_rows}
use Rattle.bfs_node_walk.proofs.Scanned.{listing, dot_broken, dots_broken, row_broken}
use Rattle.bfs_node_walk.proofs.listing.check_listing.Goals as goal

pub returns-in-Err-clause-wrong : goal.returns-in-Err-clause-wrong
returns-in-Err-clause-wrong c v same few comes dir = dot_broken v (as_rows c.args.rows.now) c.args.id c.args.parent same comes dir c.in-Err.finding c.in-Err.ensures.wrong

pub returns-in-Err-check_above-clause-wrong : goal.returns-in-Err-check_above-clause-wrong
returns-in-Err-check_above-clause-wrong c v same few comes dir = dots_broken v (as_rows c.args.rows.now) c.args.id c.args.parent same comes dir c.in-Err-check_above.finding c.in-Err-check_above.ensures.wrong

pub returns-in-Ok-check_rows-clause-listed : goal.returns-in-Ok-check_rows-clause-listed
returns-in-Ok-check_rows-clause-listed c v same few =
    listing v (as_rows c.args.rows.now) c.args.id c.args.parent same c.args.blocks few c.in-Ok.ensures.there c.in-Ok-check_above.ensures.there c.in-Ok-check_rows.ensures.inside

pub returns-in-Err-check_rows-clause-wrong : goal.returns-in-Err-check_rows-clause-wrong
returns-in-Err-check_rows-clause-wrong c v same few comes dir =
    let signed : to_z w64 (of_z w64 c.in-Err-check_rows.value) ≡ c.in-Err-check_rows.value = search rules in
    row_broken v (as_rows c.args.rows.now) c.args.id c.args.parent same comes dir c.args.blocks c.in-Err-check_rows.value (to_z w64 (of_z w64 c.in-Err-check_rows.value)) signed few c.in-Err-check_rows.ensures.outside
