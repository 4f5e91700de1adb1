use Rattle.std.proofs.Common.{rules, ◌≡◌, ℕ, List, None, subst}
use Rattle.std.specs.Prelude.{IfOk, IfErr}
use Rattle.bfs_script.specs.Scripts.{bad_line, IsFaultAt}
use Rattle.bfs_script.proofs.reading.parse.Goals as goal

pub returns-in-Ok-clause-good : goal.returns-in-Ok-clause-good
returns-in-Ok-clause-good c =
    let items : c.in-Ok.bytes.items ≡ c.args.bytes.now = search rules in
    subst (λ (l : List ℕ). IfOk c.parse_vec.result (λ s. bad_line l ≡ None)) items c.parse_vec.ensures.good

pub returns-in-Ok-clause-fault : goal.returns-in-Ok-clause-fault
returns-in-Ok-clause-fault c =
    let items : c.in-Ok.bytes.items ≡ c.args.bytes.now = search rules in
    subst (λ (l : List ℕ). IfErr c.parse_vec.result (IsFaultAt (bad_line l))) items c.parse_vec.ensures.fault
