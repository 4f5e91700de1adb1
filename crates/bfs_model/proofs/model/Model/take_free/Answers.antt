use Rattle.std.proofs.Common.{rules, ◌≡◌, true, sym, ◌∙◌}
use Rattle.bfs_model.specs.Kept.{state_of}
use Rattle.bfs_model.proofs.Follows.{room-step, answered-step}
use Rattle.bfs_model.proofs.model.Model.take_free.Goals as goal

pub returns-then-is_for_room-clause-step : goal.returns-then-is_for_room-clause-step
returns-then-is_for_room-clause-step c =
    room-step (state_of c.args.self.now) c.args.entry.now c.changes_tree.result c.requires.free c.requires.undisturbed (sym c.is_for_room.ensures ∙ c.if-is_for_room.true) c.changes_tree.ensures

pub returns-clause-step : goal.returns-clause-step
returns-clause-step c =
    let said : c.in_ok-is_answer.field-0 ≡ true = search (rules, c.if-not-branch.false) in
    answered-step (state_of c.args.self.now) c.args.entry.now c.requires.free (c.in_ok-is_answer.ensures.0 said)
