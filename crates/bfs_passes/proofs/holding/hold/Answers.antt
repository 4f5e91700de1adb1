use Rattle.std.proofs.Common.{◌∙◌, refl, sym}
use Rattle.bfs_stream.specs.Told.{contents}
use Rattle.bfs_sound.specs.Whole.{volume_of}
use Rattle.bfs_passes.proofs.Rounds.{passed}
use Rattle.bfs_passes.proofs.holding.hold.Goals as goal

pub hold_bits-requires-clause-listed : goal.hold_bits-requires-clause-listed
hold_bits-requires-clause-listed g c m told = c.in-Ok.ensures.listed m (sym c.in-Ok.ensures.told ∙ told)

pub returns-clause-passed : goal.returns-clause-passed
returns-clause-passed g c m told log =
    passed c.args.sup.now (volume_of c.args.sup.now (contents m)) c.args.claims.now _ _ log (c.in-Ok-hold_bits.ensures.sound m (c.in-Ok.ensures.told ∙ told) log) _ refl c.count-used.ensures.value
