use Rattle.std.proofs.Common.{◌≡◌, ◌∙◌, false, sym}
use Rattle.std.proofs.lemmas.Bool.{true≢false}
use Rattle.bfs_stream.specs.Told.{contents}
use Rattle.bfs_tree.specs.declared.call.Kind.TheVariants.{Dir}
use Rattle.bfs_sound.specs.Volumes.{Volume}
use Rattle.bfs_sound.specs.Whole.{volume_of}
use Rattle.bfs_finding.specs.Ways.{says}
use Rattle.bfs_node_walk.proofs.node.rows_of.Goals as goal

pub returns-then-not-dir-clause-rows : goal.returns-then-not-dir-clause-rows
returns-then-not-dir-clause-rows g c m told =
    let v : Volume = volume_of c.args.sup.now (contents m) in
    let no' : says v c.args.id Dir ≡ false = sym (c.is_directory-dir.ensures v c.args.id (sym (c.requires.bytes m told))) ∙ c.if-not-dir.true in
    record {
      names = λ d. absurd (true≢false (sym d ∙ no'));
      listing = λ d. absurd (true≢false (sym d ∙ no'));
      none = λ e. c.new.ensures.items;
    }

pub rows_in-requires-clause-dir : goal.rows_in-requires-clause-dir
rows_in-requires-clause-dir g c m told =
    let v : Volume = volume_of c.args.sup.now (contents m) in
    sym (c.is_directory-dir.ensures v c.args.id (sym (c.requires.bytes m told))) ∙ c.if-not-dir.false

pub rows_in-requires-clause-stream : goal.rows_in-requires-clause-stream
rows_in-requires-clause-stream g c m told =
    let v : Volume = volume_of c.args.sup.now (contents m) in
    c.requires.stream m told (sym (c.is_directory-dir.ensures v c.args.id (sym (c.requires.bytes m told))) ∙ c.if-not-dir.false)
