use Rattle.std.proofs.Common.{rules, ◌<◌, ◌+◌, length, drop, Bool, ◌&&◌, ap, sym, ◌∙◌, arith, Option, ℕ}
use Rattle.std.specs.Option.{is_some}
use Rattle.bfs_text.specs.Words.{hex_bytes}
use Rattle.bfs_text.proofs.Unescaping.{hex_short}
use Rattle.bfs_text.proofs.Skipping.{pairs_step}
use Rattle.bfs_text.proofs.checks.are_pairs.Goals as goal

pub returns-then-word-at-lt2 : goal.returns-then-word-at-lt2
returns-then-word-at-lt2 c =
    let lt : c.loop-at.at < length c.args.word.now = search rules in
    sym (c.loop-at.invariant.1 ∙ ap is_some (hex_short c.args.word.now c.loop-at.at lt c.if-word-at-lt2.true))

pub returns-in_default : goal.returns-in_default
returns-in_default c =
    let lt : c.loop-at.at < length c.args.word.now = search rules in
    sym (c.loop-at.invariant.1 ∙ pairs_step c.args.word.now c.loop-at.at lt c.if-word-at-lt2.false ∙ ap (λ (o : Option ℕ). is_some o && is_some (hex_bytes (drop (c.loop-at.at + 2) c.args.word.now))) (sym c.in_default.ensures))

pub loop-at-preserved : goal.loop-at-preserved
loop-at-preserved c =
    let lt : c.loop-at.at < length c.args.word.now = search rules in (
      omega (arith, lt, c.if-word-at-lt2.false),
      c.loop-at.invariant.1 ∙ pairs_step c.args.word.now c.loop-at.at lt c.if-word-at-lt2.false ∙ ap (λ (o : Option ℕ). is_some o && is_some (hex_bytes (drop (c.loop-at.at + 2) c.args.word.now))) (sym c.in-Some.ensures),
    )
