use Rattle.std.proofs.Common.{◌≡◌, true, List, ℕ, length}
use Rattle.bfs_tree.specs.declared.call.Call.TheVariants as calls
use Rattle.bfs_run.proofs.Made.{piece_made}
use Rattle.bfs_run.proofs.ask.write.Goals as goal

pub returns-in-Ok-clause-made : goal.returns-in-Ok-clause-made
returns-in-Ok-clause-made g c =
    let bytes : List ℕ = c.args.bytes.now in
    piece_made c.args.volume.now.space.view.history c.write.new.self.space.view.history c.args.session c.args.tag (calls.Hold c.args.id c.args.at (length bytes) true) c.args.id (λ given. given ≡ bytes) (λ given. given ≡ bytes) (λ given is. is) c.in-Ok.ensures.entries
