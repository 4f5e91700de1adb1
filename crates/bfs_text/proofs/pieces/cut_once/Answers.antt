use Rattle.std.proofs.Common.{arith, ℕ, ◌+◌, ◌==◌, slice_index, ap, sym, ◌∙◌, List, ◌∷◌, take}
use Rattle.std.proofs.lemmas.List.{take_rest}
use Rattle.bfs_text.specs.Cutting.{cut_at, lines_of}
use Rattle.bfs_text.proofs.Cuts.{cut_here, cut_nowhere, line_here, line_nowhere, failed}
use Rattle.bfs_text.proofs.pieces.cut_once.Goals as goal

pub returns-in-None-clause-last : goal.returns-in-None-clause-last
returns-in-None-clause-last c =
    cut_nowhere c.args.separator c.args.bytes.now (λ k lt. failed (slice_index c.args.bytes.now k == c.args.separator) (c.in-None.ensures k (omega arith) lt))

pub returns-in-None-clause-last_line : goal.returns-in-None-clause-last_line
returns-in-None-clause-last_line c = λ feed some.
    line_nowhere c.args.bytes.now some (λ k lt. rw (← feed) (failed (slice_index c.args.bytes.now k == c.args.separator) (c.in-None.ensures k (omega arith) lt)))

pub returns-in-Some-clause-more : goal.returns-in-Some-clause-more
returns-in-Some-clause-more c =
    let found = c.in-Some.ensures in
    cut_here c.args.separator c.in-Some.at c.args.bytes.now found.0.high
    (λ k lt. failed (slice_index c.args.bytes.now k == c.args.separator) (found.0.before k (omega arith) lt)) found.1
    ∙ ap (λ (r : List ℕ). take c.in-Some.at c.args.bytes.now ∷ cut_at c.args.separator r) (sym (take_rest c.args.bytes.now (c.in-Some.at + 1)))

pub returns-in-Some-clause-lines : goal.returns-in-Some-clause-lines
returns-in-Some-clause-lines c = λ feed.
    let found = c.in-Some.ensures in
    line_here c.in-Some.at c.args.bytes.now found.0.high
    (λ k lt. rw (← feed) (failed (slice_index c.args.bytes.now k == c.args.separator) (found.0.before k (omega arith) lt))) (rw (← feed) found.1)
    ∙ ap (λ (r : List ℕ). take c.in-Some.at c.args.bytes.now ∷ lines_of r) (sym (take_rest c.args.bytes.now (c.in-Some.at + 1)))
