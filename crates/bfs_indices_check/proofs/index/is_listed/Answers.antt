use Rattle.std.proofs.Common.{◌≡◌, ◌∙◌, ℕ, List, refl, sym, ap, subst}
use Rattle.bfs_range.specs.declared.ranged.RangedRow.{RangedRow}
use Rattle.bfs_range.specs.Answers.{answer_of}
use Rattle.bfs_stream.specs.Told.{contents}
use Rattle.bfs_values.specs.Reached.{AreWritten}
use Rattle.bfs_values.specs.Rows.{rows_in}
use Rattle.bfs_sound.specs.Inodes.{content}
use Rattle.bfs_sound.specs.Whole.{volume_of}
use Rattle.bfs_value_walk.proofs.Pairing.{written}
use Rattle.bfs_value_walk.specs.Written.{pairs_by}
use Rattle.bfs_index_check.specs.Compared.{pairs_of}
use Rattle.bfs_indices_check.proofs.Samely.{all_met}
use Rattle.bfs_indices_check.proofs.index.is_listed.Goals as goal

pub returns-in-Ok-read_rows-clause-written : goal.returns-in-Ok-read_rows-clause-written
returns-in-Ok-read_rows-clause-written g c m told all =
    let kind = c.args.index.now.kind in
    let b : List ℕ = content (volume_of c.args.sup.now (contents m)) c.args.index.now.id in
    let w = c.in-Ok-read_rows.ensures.whole m (c.in-Ok.ensures.told ∙ told) in
    let rows : List RangedRow = answer_of b (rows_in kind b) in
    let t = c.read_rows.new.taken in
    let same : pairs_of t.wanted.now ≡ pairs_by rows = all_met t.wanted.now t.at rows (c.are_all.ensures.all all) (w.1.1 c.new-pairs.ensures.at (c.are_all.ensures.same all)) in
    subst (AreWritten b (rows_in kind b)) (sym same ∙ ap pairs_of (w.1.0 ∙ c.new-pairs.ensures.wanted)) (written kind b rows (w.0, refl))

pub returns-clause-wrong : goal.returns-clause-wrong
returns-clause-wrong g c m told has = c.in-Err-read_rows.ensures.wrong m (c.in-Ok.ensures.told ∙ told) has
