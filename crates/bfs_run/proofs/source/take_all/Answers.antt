use Rattle.std.proofs.Common.{rules, ◌≡◌, ◌++◌, ℕ, inl, inr, List, false, sym, ◌∙◌, ap, append-nil, arith}
use Rattle.bfs_run.proofs.source.take_all.Goals as goal

pub pieces-preserved : goal.pieces-preserved
pieces-preserved g c =
    let long = c.pieces.invariant.long in
    let same = c.take_more.ensures.length in
    let low = c.pieces.invariant.later in
    let more = c.in-Ok-true.ensures.later in
    record {
      long = omega (arith, long, same);
      read = λ left told.
          let was = c.pieces.invariant.read left told in
          let now = c.in-Ok-true.ensures.more left was.0 was.1 in
          (now.0, now.1);
      later = omega (arith, low, more);
    }

pub returns-in-Ok-false-clause-read : goal.returns-in-Ok-false-clause-read
returns-in-Ok-false-clause-read g c left told =
    let was = c.pieces.invariant.read left told in
    let now = c.in-Ok-false.ensures.more left was.0 was.1 in
    let none : c.in-Ok-false.field-0 ≡ false = search rules in
    inl (sym (now.1.1 ∙ ap (λ (l : List ℕ). c.take_more.new.bytes.items ++ l) (now.2 none) ∙ append-nil c.take_more.new.bytes.items))

pub returns-clause-read : goal.returns-clause-read
returns-clause-read g c left told =
    let was = c.pieces.invariant.read left told in
    inr (search rules, was.0, was.1.1)
