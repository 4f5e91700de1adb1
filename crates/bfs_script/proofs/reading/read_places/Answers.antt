use Rattle.std.proofs.Common.{rules, arith, ◌<◌, ◌≤◌, ◌+◌, ◌++◌, ℕ, List, Bool, Some, length, drop, append-nil, if◌then◌else◌, ap, sym, ◌∙◌}
use Rattle.std.proofs.lemmas.List.{drop_all}
use Rattle.bfs_text.specs.Cutting.{lines_of}
use Rattle.bfs_script.specs.Scripts.{said_from, line_too_far, bad_from}
use Rattle.bfs_script.specs.Places.{between, lines_at}
use Rattle.bfs_script.proofs.BadLines.{fault_here, few_lines}
use Rattle.bfs_script.proofs.Far.{next_number}
use Rattle.bfs_script.proofs.reading.read_places.Goals as goal

pub returns-in-Err-clause-fault : goal.returns-in-Err-clause-fault
returns-in-Err-clause-fault c =
    let bytes = c.args.bytes.now in
    let inv = c.loop-at.invariant in
    fault_here _ (line_too_far bytes) c.loop-at.number (between c.loop-at.at c.end_of_line-end.result bytes) (lines_of (drop c.loop-at.at bytes)) (lines_of (drop (c.end_of_line-end.result + 1) bytes)) c.in-Err.fault
    c.end_of_line-end.ensures.lines inv.bad c.in-Err.ensures.fault

pub loop-at-preserved : goal.loop-at-preserved
loop-at-preserved c =
    let bytes = c.args.bytes.now in
    let at = c.loop-at.at in
    let number = c.loop-at.number in
    let end = c.end_of_line-end.result in
    let inv = c.loop-at.invariant in
    let cut = c.end_of_line-end.ensures.lines in
    let ends = c.end_of_line-end.ensures.end in
    let taken = c.in-Ok-take_line.ensures in
    let inside : at < length bytes = search rules in
    let rest = lines_of (drop (end + 1) bytes) in
    let few = few_lines (line_too_far bytes) number (between at end bytes) taken.good in
    record {
      script = inv.script ∙ ap (λ (ls : List (List ℕ)). lines_at bytes c.loop-at.places.items ++ said_from number ls) cut ∙ taken.said (said_from (number + 1) rest);
      bad = inv.bad ∙ ap (bad_from (line_too_far bytes) number) cut ∙ ap (λ (t : Bool). if t then Some number else bad_from (line_too_far bytes) (number + 1) rest) taken.good;
      few = omega (arith, few);
      number = λ lt. ap (λ (n : ℕ). n + 1) (inv.number inside ∙ sym (next_number bytes at end ends (omega (arith, lt))));
      near = λ lt. let below : end < 268435456 = taken.near (omega (arith, lt)) in omega (arith, below);
      places = taken.places inv.places;
    }

pub returns-clause-lines : goal.returns-clause-lines
returns-clause-lines c =
    let bytes = c.args.bytes.now in
    let past : length bytes ≤ c.loop-at.at = search rules in
    let inv = c.loop-at.invariant in
    sym (inv.script ∙ ap (λ (l : List ℕ). lines_at bytes c.loop-at.places.items ++ said_from c.loop-at.number (lines_of l)) (drop_all c.loop-at.at bytes past) ∙ append-nil (lines_at bytes c.loop-at.places.items))

pub returns-clause-good : goal.returns-clause-good
returns-clause-good c =
    let bytes = c.args.bytes.now in
    let past : length bytes ≤ c.loop-at.at = search rules in
    let inv = c.loop-at.invariant in
    inv.bad ∙ ap (λ (l : List ℕ). bad_from (line_too_far bytes) c.loop-at.number (lines_of l)) (drop_all c.loop-at.at bytes past)
