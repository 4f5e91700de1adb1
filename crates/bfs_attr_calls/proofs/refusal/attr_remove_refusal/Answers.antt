use Rattle.std.proofs.Common.{◌∙◌}
use Rattle.bfs_attr_calls.proofs.Refusing.{read_refused}
use Rattle.bfs_attr_calls.proofs.refusal.attr_remove_refusal.Goals as goal

pub returns-in-Err-clause-refused : goal.returns-in-Err-clause-refused
returns-in-Err-clause-refused g c m tree lists s told ready same = c.in-Err.ensures.reads m tree lists s told ready same

pub returns-clause-refused : goal.returns-clause-refused
returns-clause-refused g c m tree lists s told ready same =
    c.refusal_by.ensures.refusal ∙ read_refused s c.args.id c.args.name.now c.in-Ok.read (c.in-Ok.ensures.reads m tree lists s told ready same)
