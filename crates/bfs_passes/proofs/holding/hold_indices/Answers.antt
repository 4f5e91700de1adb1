use Rattle.std.proofs.Common.{rules, ◌≡◌, ap, length, refl, subst}
use Rattle.bfs_super.specs.Conditions.{block_of_run}
use Rattle.bfs_stream.specs.Told.{contents}
use Rattle.bfs_sound.specs.Whole.{volume_of}
use Rattle.bfs_passes.specs.Passed.{IsGoneRound, tree_of}
use Rattle.bfs_passes.proofs.Rounds.{none_in, walked_whole}
use Rattle.bfs_passes.proofs.holding.hold_indices.Goals as goal

pub returns-then-has_indices-clause-wrong : goal.returns-then-has_indices-clause-wrong
returns-then-has_indices-clause-wrong g c m told log =
    let v = volume_of c.args.sup.now (contents m) in
    let none : length c.args.found.now ≡ 0 = search rules in
    c.rowless.ensures.told c.args.sup.now v c.args.leads.now log c.requires.blocks (c.if-has_indices.ensures.some refl)
    (subst (IsGoneRound v c.args.claims.now c.args.leads.now) (none_in c.args.found.now none) (c.requires.gone m told))

pub returns-then-has_indices-clause-cause : goal.returns-then-has_indices-clause-cause
returns-then-has_indices-clause-cause g c = c.rowless.ensures.cause (g.B.Blocks.counts c.args.under.now) (g.B.Blocks.counts c.args.under.now)

pub check_indices-requires-clause-known : goal.check_indices-requires-clause-known
check_indices-requires-clause-known g c m told =
    let v = volume_of c.args.sup.now (contents m) in
    let some : length c.args.found.now ≡ 0 → block_of_run c.args.sup.now c.args.sup.now.indices ≡ 0 = search rules in
    let gone = c.requires.gone m told in (
      gone.whole.top,
      gone.whole.visits,
      walked_whole v c.args.claims.now c.args.leads.now c.args.found.now gone c.blocks-2.ensures.inside c.requires.blocks (c.walk_stands.ensures v c.requires.blocks) c.args.root c.requires.root (λ e. some (ap length e)),
    )

pub returns-in-Ok-clause-listed : goal.returns-in-Ok-clause-listed
returns-in-Ok-clause-listed g c m told =
    let v = volume_of c.args.sup.now (contents m) in
    let some : length c.args.found.now ≡ 0 → block_of_run c.args.sup.now c.args.sup.now.indices ≡ 0 = search rules in
    let gone = c.requires.gone m told in
    let walked = walked_whole v c.args.claims.now c.args.leads.now c.args.found.now gone c.blocks-2.ensures.inside c.requires.blocks (c.walk_stands.ensures v c.requires.blocks) c.args.root c.requires.root (λ e. some (ap length e)) in
    record {
      gone = gone;
      some = λ e. some (ap length e);
      standing = walked.standing;
      indices = c.in-Ok.ensures.sound m gone.whole.top gone.whole.visits told walked;
    }

pub returns-in-Err-clause-wrong : goal.returns-in-Err-clause-wrong
returns-in-Err-clause-wrong g c m told log =
    let v = volume_of c.args.sup.now (contents m) in
    let some : length c.args.found.now ≡ 0 → block_of_run c.args.sup.now c.args.sup.now.indices ≡ 0 = search rules in
    let gone = c.requires.gone m told in
    let walked = walked_whole v c.args.claims.now c.args.leads.now c.args.found.now gone c.blocks-2.ensures.inside c.requires.blocks (c.walk_stands.ensures v c.requires.blocks) c.args.root c.requires.root (λ e. some (ap length e)) in
    c.listed.ensures.told c.args.sup.now v (tree_of v c.args.claims.now c.args.leads.now c.args.found.now gone) log walked.standing (c.in-Err.ensures.wrong m gone.whole.top gone.whole.visits told walked)

pub returns-in-Err-clause-cause : goal.returns-in-Err-clause-cause
returns-in-Err-clause-cause g c = c.listed.ensures.cause (g.B.Blocks.counts c.args.under.now) (g.B.Blocks.counts c.check_indices.new.under) c.in-Err.ensures.cause
