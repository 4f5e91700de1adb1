use Rattle.std.proofs.Common.{rules, ◌≡◌, ℕ, List, ap, sym, ◌∙◌, subst}
use Rattle.bfs_script.specs.Scripts.{bad_line, IsFaultAt}
use Rattle.bfs_script.proofs.reading.parse_vec.Goals as goal

pub returns-in-Ok-clause-good : goal.returns-in-Ok-clause-good
returns-in-Ok-clause-good c = let value : c.deref.result.now ≡ c.args.bytes.items = search rules in ap bad_line (sym value) ∙ c.in-Ok.ensures.good

pub returns-in-Err-clause-fault : goal.returns-in-Err-clause-fault
returns-in-Err-clause-fault c =
    let value : c.deref.result.now ≡ c.args.bytes.items = search rules in
    subst (λ (l : List ℕ). IsFaultAt (bad_line l) c.in-Err.fault) value c.in-Err.ensures.fault
