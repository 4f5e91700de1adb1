use Rattle.std.proofs.Common.{subst}
use Rattle.bfs_sound.specs.Whole.{IsWhole}
use Rattle.bfs_check.proofs.laws.recovery_is_exact.Goals as goal

pub returns : goal.returns
returns c = λ image result tree finding replayed found recovers.
    c.verdict_is_exact.ensures result tree finding (subst (λ bytes. IsWhole bytes tree) (c.replay_gives_one.ensures.one image recovers.result result recovers.replayed replayed) recovers.whole) found
