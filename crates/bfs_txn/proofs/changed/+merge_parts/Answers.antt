use Rattle.std.proofs.Common.{sym, subst, arith, ◌<◌, ◌+◌, ◌-◌, ◌/◌, ◌++◌, length, take, drop, List, ℕ}
use Rattle.std.proofs.lemmas.List.{take_all}
use Rattle.bfs_txn.specs.Changed.{Ascends}
use Rattle.bfs_txn.specs.Merging.{AreApart}
use Rattle.bfs_txn.proofs.Merges.{IsMerged, rest, shorter, room, half_inside, finish}
use Rattle.bfs_txn.proofs.changed.+merge_parts.Goals as goal

pub merge_parts-requires-then-mid-blocks : goal.merge_parts-requires-then-mid-blocks
merge_parts-requires-then-mid-blocks t c =
    let inside : c.args.mid + (length c.args.blocks.now - c.args.mid) / 2 < length c.args.blocks.now = half_inside (length c.args.blocks.now) c.args.mid c.if-mid-blocks.true in
    let done : IsMerged (take (c.part-at.result + (length c.args.blocks.now - c.args.mid) / 2) c.part-at.new.blocks) c.merge_parts.new.blocks =
    record { ascends = c.merge_parts.ensures.ascends; permutation = c.merge_parts.ensures.permutation; reads = c.merge_parts.ensures.reads } in
    let less = shorter c.args.mid c.part-at.result ((length c.args.blocks.now - c.args.mid) / 2) c.args.blocks.now c.part-at.new.blocks c.merge_parts.new.blocks inside c.part-at.ensures done in
    let behind = rest c.args.mid c.part-at.result ((length c.args.blocks.now - c.args.mid) / 2) c.args.blocks.now c.part-at.new.blocks c.merge_parts.new.blocks inside c.part-at.ensures done in (
      subst (λ (n : ℕ). length (take (length (c.merge_parts.new.blocks ++ drop (c.part-at.result + (length c.args.blocks.now - c.args.mid) / 2) c.part-at.new.blocks) - (c.part-at.result + (length c.args.blocks.now - c.args.mid) / 2 + 1)) (drop (c.part-at.result + (length c.args.blocks.now - c.args.mid) / 2 + 1) (c.merge_parts.new.blocks ++ drop (c.part-at.result + (length c.args.blocks.now - c.args.mid) / 2) c.part-at.new.blocks))) - (c.args.mid - c.part-at.result) < n) c.decreases less,
      (
        room c.args.mid c.part-at.result ((length c.args.blocks.now - c.args.mid) / 2) c.args.blocks.now c.part-at.new.blocks c.merge_parts.new.blocks inside c.part-at.ensures done,
        (
          subst (λ (l : List (ℕ × List ℕ)). Ascends (take (c.args.mid - c.part-at.result) l)) (sym behind) c.part-at.ensures.back,
          (subst (λ (l : List (ℕ × List ℕ)). Ascends (drop (c.args.mid - c.part-at.result) l)) (sym behind) c.part-at.ensures.back_back, subst (λ (l : List (ℕ × List ℕ)). AreApart (take (c.args.mid - c.part-at.result) l) (drop (c.args.mid - c.part-at.result) l)) (sym behind) c.part-at.ensures.back_apart),
        ),
      ),
    )

pub returns-then-mid-blocks-clause-ascends : goal.returns-then-mid-blocks-clause-ascends
returns-then-mid-blocks-clause-ascends t c =
    (finish c.args.mid c.part-at.result ((length c.args.blocks.now - c.args.mid) / 2) c.args.blocks.now c.part-at.new.blocks c.merge_parts.new.blocks c.merge_parts-then-mid-blocks.new.blocks
    (half_inside (length c.args.blocks.now) c.args.mid c.if-mid-blocks.true) c.part-at.ensures
    (record { ascends = c.merge_parts.ensures.ascends; permutation = c.merge_parts.ensures.permutation; reads = c.merge_parts.ensures.reads })
    c.merge_parts-then-mid-blocks.ensures.ascends c.merge_parts-then-mid-blocks.ensures.permutation c.merge_parts-then-mid-blocks.ensures.reads).ascends

pub returns-then-mid-blocks-clause-permutation : goal.returns-then-mid-blocks-clause-permutation
returns-then-mid-blocks-clause-permutation t c =
    (finish c.args.mid c.part-at.result ((length c.args.blocks.now - c.args.mid) / 2) c.args.blocks.now c.part-at.new.blocks c.merge_parts.new.blocks c.merge_parts-then-mid-blocks.new.blocks
    (half_inside (length c.args.blocks.now) c.args.mid c.if-mid-blocks.true) c.part-at.ensures
    (record { ascends = c.merge_parts.ensures.ascends; permutation = c.merge_parts.ensures.permutation; reads = c.merge_parts.ensures.reads })
    c.merge_parts-then-mid-blocks.ensures.ascends c.merge_parts-then-mid-blocks.ensures.permutation c.merge_parts-then-mid-blocks.ensures.reads).permutation

pub returns-then-mid-blocks-clause-reads : goal.returns-then-mid-blocks-clause-reads
returns-then-mid-blocks-clause-reads t c =
    (finish c.args.mid c.part-at.result ((length c.args.blocks.now - c.args.mid) / 2) c.args.blocks.now c.part-at.new.blocks c.merge_parts.new.blocks c.merge_parts-then-mid-blocks.new.blocks
    (half_inside (length c.args.blocks.now) c.args.mid c.if-mid-blocks.true) c.part-at.ensures
    (record { ascends = c.merge_parts.ensures.ascends; permutation = c.merge_parts.ensures.permutation; reads = c.merge_parts.ensures.reads })
    c.merge_parts-then-mid-blocks.ensures.ascends c.merge_parts-then-mid-blocks.ensures.permutation c.merge_parts-then-mid-blocks.ensures.reads).reads

pub returns-else-mid-blocks-clause-ascends : goal.returns-else-mid-blocks-clause-ascends
returns-else-mid-blocks-clause-ascends t c = subst Ascends (take_all c.args.mid c.args.blocks.now (omega arith)) c.requires.front
