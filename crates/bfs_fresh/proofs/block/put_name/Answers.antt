use Rattle.std.proofs.Common.{refl, List, length, Option, ap, sym, subst, ◌∙◌}
use Rattle.std.specs.Prelude.{IsSome}
use Rattle.std.specs.Option.{option_map}
use Rattle.bfs_smalldata.specs.Items.{Item}
use Rattle.bfs_smalldata.specs.Edits.{with_item}
use Rattle.bfs_fresh.specs.Fresh.{name_item}
use Rattle.bfs_fresh.proofs.Areas.{no_items_in, name_fits}
use Rattle.bfs_fresh.proofs.block.put_name.Goals as goal

pub put-requires-clause-area : goal.put-requires-clause-area
put-requires-clause-area c = subst (λ (o : Option (List Item)). IsSome o) (sym (no_items_in c.items_stand.ensures.written c.args.area.now (length c.args.area.now) c.requires.zeros)) refl

pub put-requires-clause-fits : goal.put-requires-clause-fits
put-requires-clause-fits c = name_fits c.items_stand.ensures.written c.args.area.now c.args.name.now (length c.args.area.now) c.requires.zeros c.requires.room c.requires.short

pub returns : goal.returns
returns c = record { items = c.put.ensures.items ∙ ap (option_map (with_item (name_item c.args.name.now))) (no_items_in c.items_stand.ensures.written c.args.area.now (length c.args.area.now) c.requires.zeros) }
