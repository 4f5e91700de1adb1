use Rattle.std.proofs.Common.{◌∙◌, ◌++◌, ℕ, [], List, Option, sym, ap}
use Rattle.std.specs.List.{cons_option}
use Rattle.std.specs.Option.{option_map}
use Rattle.bfs_index_check.specs.Compared.{pairs_of}
use Rattle.bfs_remove_index.proofs.Bearing.{bears, attributes_are, can_read}
use Rattle.bfs_index_make.proofs.Gathers.{key_of_node}
use Rattle.bfs_index_make.proofs.gather.gather_node.Goals as goal

pub attribute_key-requires-clause-readable : goal.attribute_key-requires-clause-readable
attribute_key-requires-clause-readable g c m told =
    let h = c.requires.node m told in
    can_read c.args.site.sup h.room m h.tree h.lists [] c.args.id h.nodes.0.0 c.requires.valid h.ready.work h.nodes.0.1

pub returns-in-Err-clause-gathered : goal.returns-in-Err-clause-gathered
returns-in-Err-clause-gathered g c v m tree lists told ready there other =
    let s = c.args.site.sup in
    let n = there.0 in
    c.in-Err.ensures.key m n.attributes told (bears s v m tree lists [] c.args.id n c.requires.valid ready.work there.1) (attributes_are s v m tree lists [] c.args.id n c.requires.valid ready.work there.1)

pub returns-in-Ok-put_pair-clause-gathered : goal.returns-in-Ok-put_pair-clause-gathered
returns-in-Ok-put_pair-clause-gathered g c v m tree lists told ready there other =
    let s = c.args.site.sup in
    let n = there.0 in
    let key = c.in-Ok.ensures.key m n.attributes told (bears s v m tree lists [] c.args.id n c.requires.valid ready.work there.1) (attributes_are s v m tree lists [] c.args.id n c.requires.valid ready.work there.1) in
    c.in-Ok-put_pair.ensures
    ∙ ap (λ (k : Option (List ℕ)). pairs_of c.args.pairs.now.items ++ cons_option (option_map (λ (x : List ℕ). (x, c.args.id)) k) []) (key ∙ sym (key_of_node tree c.args.name.now c.args.kind c.args.id n there.1 other))
