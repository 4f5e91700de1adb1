use Rattle.std.proofs.Common.{rules, ◌≡◌, length, ap, sym, ◌∙◌}
use Rattle.bfs_script.specs.Places.{lines_at}
use Rattle.bfs_script.proofs.Placed.{line_count}
use Rattle.bfs_script.proofs.script.Script.len.Goals as goal

pub returns : goal.returns
returns c =
    let bytes = c.self.inside.bytes.items in
    let places = c.self.inside.places.items in
    let view : lines_at bytes places ≡ c.args.self.now = search rules in
    let size : c.len.result ≡ length places = search rules in
    size ∙ sym (line_count bytes places c.self.invariant) ∙ ap length view
