use Rattle.std.proofs.Common.{inl, inr, refl}
use Rattle.bfs_base.specs.declared.kind.KeyKind.TheVariants.{Text, I64}
use Rattle.bfs_index_walk.specs.Indices.{kinds_of}
use Rattle.bfs_indices_check.proofs.Finds.{built_from}
use Rattle.bfs_indices_check.proofs.built_in.check_built_in.Goals as goal

pub returns-then-not-has_index-clause-wrong : goal.returns-then-not-has_index-clause-wrong
returns-then-not-has_index-clause-wrong c = c.missing.ensures c.args.found.now Text (inl (refl, refl)) (c.has_index.ensures.other c.if-not-has_index.true)

pub returns-then-not-has_index-2-clause-wrong : goal.returns-then-not-has_index-2-clause-wrong
returns-then-not-has_index-2-clause-wrong c = c.missing-then-not-has_index-2.ensures c.args.found.now I64 (inr (inl (refl, refl))) (c.has_index-2.ensures.other c.if-not-has_index-2.true)

pub returns-then-not-has_index-3-clause-wrong : goal.returns-then-not-has_index-3-clause-wrong
returns-then-not-has_index-3-clause-wrong c = c.missing-then-not-has_index-3.ensures c.args.found.now I64 (inr (inr (refl, refl))) (c.has_index-3.ensures.other c.if-not-has_index-3.true)

pub returns-clause-built : goal.returns-clause-built
returns-clause-built c = built_from (kinds_of c.args.found.now) (c.has_index.ensures.is c.if-not-has_index.false) (c.has_index-2.ensures.is c.if-not-has_index-2.false) (c.has_index-3.ensures.is c.if-not-has_index-3.false)
