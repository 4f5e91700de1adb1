use Rattle.std.proofs.Common.{rules, ◌≡◌, ◌∙◌, get_or, sym, ap, Some}
use Rattle.bfs_index_walk.specs.declared.found.FoundIndex.{FoundIndex}
use Rattle.bfs_indices_check.proofs.Finds.{found_here, found_later}
use Rattle.bfs_indices_check.proofs.built_in.has_index.Goals as goal

pub returns-then-eq-clause-is : goal.returns-then-eq-clause-is
returns-then-eq-clause-is c h =
    let x : FoundIndex = c.index-found-i.result in
    let item : x ≡ get_or c.args.found.now c.loop-i.i x = search rules in
    let named : x.name ≡ c.args.name.now = search rules in
    let kind : x.kind ≡ c.args.kind = search rules in
    found_here c.args.found.now c.loop-i.i x c.loop-i-test.true item c.args.name.now c.loop-i.invariant named ∙ ap Some kind

pub returns-then-eq-clause-other : goal.returns-then-eq-clause-other
returns-then-eq-clause-other c h is =
    let x : FoundIndex = c.index-found-i.result in
    let item : x ≡ get_or c.args.found.now c.loop-i.i x = search rules in
    let named : x.name ≡ c.args.name.now = search rules in
    let both : Some x.kind ≡ Some c.args.kind = sym (found_here c.args.found.now c.loop-i.i x c.loop-i-test.true item c.args.name.now c.loop-i.invariant named) ∙ is in
    let same : x.kind ≡ c.args.kind = cc in
    search rules

pub loop-i-preserved : goal.loop-i-preserved
loop-i-preserved c =
    let x : FoundIndex = c.index-found-i.result in
    let item : x ≡ get_or c.args.found.now c.loop-i.i x = search rules in
    found_later c.args.found.now c.loop-i.i x c.loop-i-test.true item c.args.name.now c.loop-i.invariant (λ same. search rules)
