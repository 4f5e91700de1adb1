use Rattle.std.proofs.Common.{◌≤◌, ◌+◌, ◌-◌, ◌++◌, ℕ, List, length, replicate, ap, ◌∙◌, arith}
use Rattle.bfs_smalldata.proofs.Writing.{kept_items, tail_of, tail_cut, closed, take_items, take_clear}
use Rattle.bfs_smalldata.proofs.edit.take.Goals as goal

pub returns-then-span-clause-items : goal.returns-then-span-clause-items
returns-then-span-clause-items c = kept_items c.args.area.now c.args.name.now _ _ _ c.span_of-span.ensures c.if-span.true

pub returns-clause-items : goal.returns-clause-items
returns-clause-items c =
    let area = c.args.area.now in
    let name = c.args.name.now in
    let span = c.span_of-span.result in
    let spans = c.span_of-span.ensures in
    let n = length c.move_part.new.area - (span.at + (span.end - span.next)) in
    let inside : span.at + (span.end - span.next) ≤ length area = omega (arith, spans.inside, spans.next_place, spans.end_place) in
    let whole = closed span.at (span.end - span.next) (tail_of area name span.at span.next span.end spans) area c.move_part.new.area (tail_cut area name _ _ _ spans) inside c.move_part.ensures in
    take_items area name span.at span.next span.end spans c.clear.new.area n (c.clear.ensures ∙ ap (λ (l : List ℕ). l ++ replicate n 0) whole)

pub returns-clause-free : goal.returns-clause-free
returns-clause-free c =
    let area = c.args.area.now in
    let name = c.args.name.now in
    let span = c.span_of-span.result in
    let spans = c.span_of-span.ensures in
    let n = length c.move_part.new.area - (span.at + (span.end - span.next)) in
    let inside : span.at + (span.end - span.next) ≤ length area = omega (arith, spans.inside, spans.next_place, spans.end_place) in
    let whole = closed span.at (span.end - span.next) (tail_of area name span.at span.next span.end spans) area c.move_part.new.area (tail_cut area name _ _ _ spans) inside c.move_part.ensures in
    λ done. take_clear area name span.at span.next span.end spans c.clear.new.area n (c.clear.ensures ∙ ap (λ (l : List ℕ). l ++ replicate n 0) whole)
