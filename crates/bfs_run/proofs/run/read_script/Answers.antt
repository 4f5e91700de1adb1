use Rattle.std.proofs.Common.{inl, inr, subst}
use Rattle.bfs_script.specs.Scripts.{IsFaultAt, bad_line}
use Rattle.bfs_script.specs.declared.fault.ScriptFault.{ScriptFault}
use Rattle.bfs_run.proofs.run.read_script.Goals as goal

pub returns-in-Err-Failed-clause-refused : goal.returns-in-Err-Failed-clause-refused
returns-in-Err-Failed-clause-refused g c left told = inl tt

pub returns-in-Err-NoMemory-clause-refused : goal.returns-in-Err-NoMemory-clause-refused
returns-in-Err-NoMemory-clause-refused g c left told = inl tt

pub returns-in-Err-Line-clause-refused : goal.returns-in-Err-Line-clause-refused
returns-in-Err-Line-clause-refused g c left told =
    inr (c.in-Ok.bytes.items, c.in-Ok.ensures.read left told, subst (λ (f : ScriptFault). IsFaultAt (bad_line c.in-Ok.bytes.items) f) c.in-Err-Line.field-0-is c.in-Err-Line.ensures.fault)
