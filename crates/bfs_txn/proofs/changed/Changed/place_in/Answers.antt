use Rattle.std.proofs.Common.{◌-◌, ◌∙◌, ℕ, List, take, drop, subst}
use Rattle.bfs_txn.specs.Merging.{IsCut}
use Rattle.bfs_txn.proofs.Layers.{cut_past, cut_gap}
use Rattle.bfs_txn.proofs.changed.Changed.place_in.Goals as goal

pub returns-then-at-to : goal.returns-then-at-to
returns-then-at-to c =
    let cut : IsCut (take (c.args.to - c.args.from) (drop c.args.from c.args.self.now)) c.args.block c.count_below.result =
    subst (λ (l : List (ℕ × List ℕ)). IsCut (take (c.args.to - c.args.from) (drop c.args.from l)) c.args.block c.count_below.result) (c.deref.ensures.value ∙ c.self.view_is) c.count_below.ensures in
    cut_past c.args.self.now c.args.from c.args.to c.args.block c.count_below.result c.requires.order c.requires.inside c.requires.ascends cut c.if-at-to.true

pub returns-else-number-block : goal.returns-else-number-block
returns-else-number-block c =
    let cut : IsCut (take (c.args.to - c.args.from) (drop c.args.from c.args.self.now)) c.args.block c.count_below.result =
    subst (λ (l : List (ℕ × List ℕ)). IsCut (take (c.args.to - c.args.from) (drop c.args.from l)) c.args.block c.count_below.result) (c.deref.ensures.value ∙ c.self.view_is) c.count_below.ensures in
    cut_gap c.args.self.now c.args.from c.args.to c.args.block c.count_below.result c.requires.order c.requires.inside c.requires.ascends cut c.if-at-to.false
    (λ e. c.if-number-block.false (c.block-number.ensures ∙ e))
