use Rattle.std.proofs.Common.{subst}
use Rattle.bfs_tree.specs.declared.reply.Reply.{Reply}
use Rattle.bfs_command.specs.Left.{Rest, left, due_of, makes}
use Rattle.bfs_command.proofs.Goes.{goes_found}
use Rattle.bfs_command.proofs.calls.Calls.answered.Goals as goal

pub returns-in-Found-clause-entries : goal.returns-in-Found-clause-entries
returns-in-Found-clause-entries c = λ es more made rest.
    let old = c.args.self.now in
    goes_found old.command old.dir old.names old.to_dir old.to_names old.ended c.in-Found.id c.in-Found.kind es more (subst (λ (r : Reply). makes (due_of old) r es) c.in-Found.is made) (subst (λ (r : Rest). left r more) c.found.ensures rest)
