use Rattle.std.proofs.Common.{◌∙◌, sym, ap, [], Option}
use Rattle.std.specs.Option.{option_map_or}
use Rattle.bfs_tree.specs.Listings.{key_from}
use Rattle.bfs_tree.specs.Trees.{Node}
use Rattle.bfs_tree.specs.declared.reply.Info.{Info}
use Rattle.bfs_query.proofs.finding.row_of.Goals as goal

pub returns-in-Ok-from_bytes-clause-row : goal.returns-in-Ok-from_bytes-clause-row
returns-in-Ok-from_bytes-clause-row g c v m w tree lists told sized ready h same =
    let info = c.in-Ok.ensures.rests v m w tree lists h.0 told sized same ready h.1 in
    let key = c.in-Ok-from_bytes.ensures ∙ ap (key_from c.args.kind) c.as_slice.ensures in
    let name = ap (λ (x : Info). x.name) info ∙ sym (ap (λ (o : Option Node). option_map_or (λ (n : Node). n.name) o []) h.1) in
    λ i. record { key = key i; id = c.args.pair.now.id; name = name i }

pub returns-in-Err-clause-row : goal.returns-in-Err-clause-row
returns-in-Err-clause-row g c v m w tree lists told sized ready h same = c.in-Err.ensures.rests v m w tree lists h.0 told sized same ready h.1
