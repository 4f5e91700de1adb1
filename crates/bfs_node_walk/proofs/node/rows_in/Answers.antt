use Rattle.std.proofs.Common.{◌≡◌, ◌∙◌, sym, ap}
use Rattle.std.proofs.lemmas.Bool.{true≢false}
use Rattle.bfs_base.specs.declared.kind.KeyKind.TheVariants.{Text}
use Rattle.bfs_stream.specs.Told.{contents}
use Rattle.bfs_values.specs.Rows.{rows_in as tree_rows}
use Rattle.bfs_sound.specs.Volumes.{Volume}
use Rattle.bfs_sound.specs.Inodes.{content}
use Rattle.bfs_sound.specs.Whole.{volume_of}
use Rattle.bfs_names_walk.specs.Rows.{as_rows}
use Rattle.bfs_node_walk.proofs.Scanned.{dir_names}
use Rattle.bfs_node_walk.proofs.node.rows_in.Goals as goal

pub returns-in-Err-clause-wrong : goal.returns-in-Err-clause-wrong
returns-in-Err-clause-wrong g c m told comes =
    c.in-Err.ensures.wrong m told (dir_names (volume_of c.args.sup.now (contents m)) c.args.id c.args.parent comes (c.requires.dir m told))

pub returns-in-Ok-check_listing-clause-rows : goal.returns-in-Ok-check_listing-clause-rows
returns-in-Ok-check_listing-clause-rows g c m told =
    let v : Volume = volume_of c.args.sup.now (contents m) in
    let found = c.in-Ok.ensures.names m told in
    let same : as_rows c.deref.result.now ≡ tree_rows Text (content v c.args.id) = ap as_rows c.deref.ensures.value ∙ found.are in
    record {
      names = λ d. found;
      listing = λ d. c.in-Ok-check_listing.ensures.listed v same (sym c.blocks_in.ensures);
      none = λ e. absurd (true≢false (sym (c.requires.dir m told) ∙ e));
    }

pub returns-in-Err-check_listing-clause-wrong : goal.returns-in-Err-check_listing-clause-wrong
returns-in-Err-check_listing-clause-wrong g c m told comes =
    let v : Volume = volume_of c.args.sup.now (contents m) in
    let same : as_rows c.deref.result.now ≡ tree_rows Text (content v c.args.id) = ap as_rows c.deref.ensures.value ∙ (c.in-Ok.ensures.names m told).are in
    c.in-Err-check_listing.ensures.wrong v same (sym c.blocks_in.ensures) comes (c.requires.dir m told)
