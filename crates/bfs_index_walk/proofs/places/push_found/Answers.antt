use Rattle.std.proofs.Common.{rules, ◌≡◌, ◌≤◌, length, get_or, sym, arith, append-nil}
use Rattle.bfs_index_walk.specs.declared.found.FoundIndex.{FoundIndex}
use Rattle.bfs_index_walk.proofs.Placing.{pushed_next, pushed_all}
use Rattle.bfs_index_walk.proofs.places.push_found.Goals as goal

pub loop-i-init : goal.loop-i-init
loop-i-init c = sym (append-nil c.args.places.now.items)

pub loop-i-preserved : goal.loop-i-preserved
loop-i-preserved c =
    let x : FoundIndex = c.index-found-i.result in
    let item : x ≡ get_or c.args.found.now c.loop-i.i x = search rules in
    pushed_next c.args.found.now c.args.places.now.items c.loop-i.i x c.loop-i.places.items c.push_place.new.places.items c.loop-i-test.true item c.loop-i.invariant c.in-Ok.ensures.pushed

pub returns-clause-pushed : goal.returns-clause-pushed
returns-clause-pushed c =
    let past : length c.args.found.now ≤ c.loop-i.i = omega arith in
    pushed_all c.args.found.now c.args.places.now.items c.loop-i.i c.loop-i.places.items past c.loop-i.invariant
