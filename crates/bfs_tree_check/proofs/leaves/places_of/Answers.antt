use Rattle.std.proofs.Common.{◌≤◌, ◌+◌, ◌++◌, ◌∙◌, List, ℕ, length, drop, get_or, sym, ap, append_assoc, append-nil, arith}
use Rattle.std.proofs.lemmas.List.{drop_more, drop_all}
use Rattle.bfs_tree_check.specs.Levels.{places_in, places}
use Rattle.bfs_tree_check.specs.declared.item.Item.{Item}
use Rattle.bfs_tree_check.specs.declared.item.Item.TheVariants as item
use Rattle.bfs_tree_check.proofs.leaves.places_of.Goals as goal

pub loop-item-init : goal.loop-item-init
loop-item-init c = ap (λ (l : List ℕ). l ++ places c.args.level.now) c.new-found.ensures.items

pub loop-item-preserved : goal.loop-item-preserved
loop-item-preserved c =
    let items : List Item = c.args.level.now in
    let i = c.loop-item.item-index in
    let x : Item = get_or items i (item.Page 0) in
    ap (λ (l : List ℕ). l ++ places (drop (i + 1) items)) c.in-Ok.ensures
    ∙ append_assoc c.loop-item.found.items (places_in x) (places (drop (i + 1) items))
    ∙ sym (ap (λ l. c.loop-item.found.items ++ places l) (drop_more items i (item.Page 0) c.loop-item-test.true))
    ∙ c.loop-item.invariant

pub returns : goal.returns
returns c =
    let behind : length c.args.level.now ≤ c.loop-item.item-index = let t = c.loop-item-test.false in omega (arith, t) in
    sym (append-nil c.loop-item.found.items)
    ∙ sym (ap (λ l. c.loop-item.found.items ++ places l) (drop_all c.loop-item.item-index c.args.level.now behind))
    ∙ c.loop-item.invariant
