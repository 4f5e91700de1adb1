use Rattle.std.proofs.Common.{◌∙◌, sym}
use Rattle.bfs_attr_put.proofs.Dues.{none_due, no_key_due, some_due}
use Rattle.bfs_attr_put.proofs.due.due_for.Goals as goal

pub returns-in-None-clause-due : goal.returns-in-None-clause-due
returns-in-None-clause-due g c m tree lists told ready =
    none_due lists c.args.name.now (record { code = c.args.kind; bytes = c.args.bytes.now }) c.in-Ok.found c.in-None.is (c.in-Ok.ensures.found m tree lists told ready)

pub returns-in-None-listed-clause-due : goal.returns-in-None-listed-clause-due
returns-in-None-listed-clause-due g c m tree lists told ready =
    no_key_due lists c.args.name.now (record { code = c.args.kind; bytes = c.args.bytes.now }) c.in-Ok.found c.in-Some.at c.in-Some.is (c.in-Ok.ensures.found m tree lists told ready) (sym c.in-Ok-key_for.ensures.key ∙ c.in-None-listed.is)

pub returns-clause-due : goal.returns-clause-due
returns-clause-due g c m tree lists told ready =
    some_due lists c.args.name.now (record { code = c.args.kind; bytes = c.args.bytes.now }) c.in-Ok.found c.in-Some.at c.in-Some.is (c.in-Ok.ensures.found m tree lists told ready) c.in-Some-listed.key (sym c.in-Ok-key_for.ensures.key ∙ c.in-Some-listed.is)
    (sym c.is_built_in-built_in.ensures ∙ c.if-built_in.false)
