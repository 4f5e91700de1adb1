use Rattle.std.proofs.Common.{rules}
use Rattle.std.proofs.lemmas.Map.Made.{filter_same_pairs}
use Rattle.bfs_known.specs.Known.{stays}
use Rattle.bfs_known.proofs.Knowns.{known-kept}
use Rattle.bfs_known.proofs.known.forget.Goals as goal

pub returns : goal.returns
returns c =
    known-kept (stays c.args.id c.args.places) c.args.known.now.entries c.retain.new.self.entries
    (filter_same_pairs _ (λ e. stays c.args.id c.args.places e.0) _ (λ k v b w f' t. search rules) _ _ c.retain.ensures.filtered)
