use Rattle.std.proofs.Common.{inl, refl}
use Rattle.bfs_base.specs.declared.kind.KeyKind.TheVariants.{Text}
use Rattle.bfs_passes.proofs.Rounds.{rowless_told}
use Rattle.bfs_passes.proofs.holding.rowless.Goals as goal

pub returns-in-Ok-clause-told : goal.returns-in-Ok-clause-told
returns-in-Ok-clause-told c s v leads log same some gone =
    rowless_told c.round_ends.ensures c.round_is_unbroken.ensures s v c.args.claims.now leads c.blocks-2.ensures.inside log same some gone c.in-Ok.name Text (inl (c.in-Ok.ensures, refl))
