use Rattle.std.proofs.Common.{◌≡◌, ◌∙◌, ap, false, length}
use Rattle.bfs_tree.specs.declared.call.Call.TheVariants as calls
use Rattle.bfs_run.proofs.Made.{piece_made}
use Rattle.bfs_run.proofs.ask.read_into.Goals as goal

pub returns-in-Ok-clause-made : goal.returns-in-Ok-clause-made
returns-in-Ok-clause-made g c =
    let count = length c.args.into.now in
    piece_made c.args.volume.now.space.view.history c.read.new.self.space.view.history c.args.session c.args.tag (calls.Hold c.args.id c.args.at count false) c.args.id (λ given. given ≡ c.read.new.into) (λ given. length given ≡ count) (λ given is. ap length is ∙ c.in-Ok.ensures.length) c.in-Ok.ensures.entries
