use Rattle.std.proofs.Common.{◌∙◌, ap}
use Rattle.bfs_cache.specs.Kept.{View, kept_of}
use Rattle.bfs_cache.proofs.Views.{put_view, put_invariant}
use Rattle.bfs_cache.proofs.cache.Cache.put.Goals as goal

pub invariant_of-self : goal.invariant_of-self
invariant_of-self c =
    let i = c.self.inside in
    put_invariant i.bound c.args.block c.in-Ok.bytes i.blocks c.put.new.self c.in-Ok-put.ensures.entries c.self.invariant.0 c.if-self-eq0.false (ap (λ (v : View). kept_of v.kept c.args.block) c.self.view_is ∙ c.requires.new)

pub returns-in-Ok-put-clause-ok : goal.returns-in-Ok-put-clause-ok
returns-in-Ok-put-clause-ok c =
    let i = c.self.inside in
    put_view i.bound i.unkept c.args.block c.args.from.now c.in-Ok.bytes i.blocks c.put.new.self c.args.self.now c.self.view_is c.in-Ok.ensures c.in-Ok-put.ensures.entries c.self.invariant.0 c.if-self-eq0.false c.requires.new
