use Rattle.std.proofs.Common.{◌∙◌, List, ℕ, drop, refl, sym, ap, subst}
use Rattle.std.specs.Prelude.{IsSome}
use Rattle.bfs_bytes.specs.Fields.{run_in}
use Rattle.bfs_inode.specs.Refusals.{Names}
use Rattle.bfs_smalldata.specs.Items.{items_of}
use Rattle.bfs_sound.specs.Whole.{volume_of}
use Rattle.bfs_node_walk.proofs.node.check_named.Goals as goal

pub check_name-requires-clause-area : goal.check_name-requires-clause-area
check_name-requires-clause-area c =
    let n = c.requires.node (volume_of c.args.sup (λ k. c.args.bytes.now)) refl in
    subst IsSome (sym n.area) refl

pub returns-in-Err-clause-wrong : goal.returns-in-Err-clause-wrong
returns-in-Err-clause-wrong c v same shift arrives = c.name_fault.ensures.wrong v (c.in-Err.ensures.wrong v c.args.parent same arrives)

pub returns-in-Ok-check_parent-clause-named : goal.returns-in-Ok-check_parent-clause-named
returns-in-Ok-check_parent-clause-named c v same shift =
    let n = c.requires.node v same in
    record {
      items = n.items;
      area = n.area;
      own = c.in-Ok.ensures.named n.items (ap (λ (b : List ℕ). items_of (drop 232 b)) (sym same) ∙ n.area);
      good = c.in-Ok.ensures.good;
      parent_is = subst (λ (k : ℕ). Names (run_in (v.blocks c.args.id) 44) c.args.parent k) (c.shift_of.ensures.value ∙ sym shift) (subst (λ (b : List ℕ). Names (run_in b 44) c.args.parent c.shift_of.result) (sym same) c.in-Ok-check_parent.ensures.names);
    }

pub returns-in-Err-check_parent-clause-wrong : goal.returns-in-Err-check_parent-clause-wrong
returns-in-Err-check_parent-clause-wrong c v same shift arrives = c.in-Err-check_parent.ensures.wrong v c.args.row.now same (shift ∙ sym c.shift_of.ensures.value) arrives
