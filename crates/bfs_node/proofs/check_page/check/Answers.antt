use Rattle.std.proofs.Common.{◌≡◌, ◌<◌, ◌∙◌, ap, sym, arith, ℕ}
use Rattle.bfs_node.specs.Page.{HasLayout, HasBounds, HasEnd, base_of, count_at, key_bytes_at, start_at}
use Rattle.bfs_node.proofs.PageLayout.{keys-of_ends}
use Rattle.bfs_node.proofs.check_page.check.Goals as goal

pub returns-clause-ok : goal.returns-clause-ok
returns-clause-ok c =
    let all : c.loop-j.j ≡ count_at c.args.page.now = omega arith in
    let ends : (j : ℕ) → j < count_at c.args.page.now → HasEnd c.args.kind c.args.page.now j = λ j h. c.loop-j.invariant.ends j (omega (arith, h, all)) in
    let bounds : HasBounds c.args.page.now = omega (arith, c.if-base-keys-gt1024.false, c.u16_at-count.ensures, c.u16_at-bytes.ensures, ap base_of c.u16_at-bytes.ensures) in
    let last : start_at c.args.page.now (count_at c.args.page.now) ≡ key_bytes_at c.args.page.now =
    ap (start_at c.args.page.now) (sym all) ∙ sym c.loop-j.invariant.start ∙ c.if-start-bytes.false ∙ c.u16_at-bytes.ensures in
    let layout : HasLayout c.args.page.now = record { size = c.requires.size; bounds = bounds; ascend = λ j h. (ends j h).0; last = last } in
    record { layout = layout; keys = keys-of_ends c.args.kind c.args.page.now layout ends }
