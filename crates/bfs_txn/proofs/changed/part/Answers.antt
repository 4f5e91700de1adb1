use Rattle.std.proofs.Common.{◌∙◌, ap, []}
use Rattle.std.proofs.lemmas.List.{get_or_default}
use Rattle.bfs_txn.proofs.Merges.{parted}
use Rattle.bfs_txn.proofs.changed.part.Goals as goal

pub returns : goal.returns
returns c =
    parted c.args.mid c.args.half c.count_below-at.result c.middle.inside.number c.args.blocks.now c.rotate_left.new.self c.requires.inside c.requires.front c.requires.back c.requires.apart c.count_below-at.ensures
    (ap (λ p. p.0) c.middle.view_is ∙ ap (λ p. p.0) (get_or_default _ _ _ (0, []) c.requires.inside)) c.rotate_left.ensures.after c.rotate_left.ensures.permutation
