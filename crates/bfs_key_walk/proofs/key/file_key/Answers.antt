use Rattle.std.proofs.Common.{◌≡◌, ◌∙◌, ℕ, List, cond, Option, Some, None, sym}
use Rattle.std.proofs.lemmas.Result.{IfOk-weaker}
use Rattle.bfs_bytes.specs.Fields.{unsigned_bytes, signed64_bytes}
use Rattle.bfs_tree.specs.Trees.{is_file}
use Rattle.bfs_nodes_walk.specs.declared.facts.FileKeys.{FileKeys}
use Rattle.bfs_key_walk.proofs.Keyed.{key_of_none, key_of_some}
use Rattle.bfs_key_walk.proofs.key.file_key.Goals as goal

pub returns-in-Some : goal.returns-in-Some
returns-in-Some c n is =
    let these : FileKeys = record { size = unsigned_bytes 8 n.size; stamp = signed64_bytes n.modified } in
    let keys : FileKeys = c.in-Some.keys in
    IfOk-weaker c.some_key.result (λ (k : Option (List ℕ)). k ≡ Some (cond c.args.by_size keys.size keys.stamp)) (λ (k : Option (List ℕ)). k ≡ cond (is_file n.kind) (Some (cond c.args.by_size these.size these.stamp)) None)
    (λ k e. e ∙ key_of_some (is_file n.kind) c.args.by_size keys these (sym c.in-Some.is ∙ is)) c.some_key.ensures

pub returns-in-None : goal.returns-in-None
returns-in-None c n is =
    let these : FileKeys = record { size = unsigned_bytes 8 n.size; stamp = signed64_bytes n.modified } in
    key_of_none (is_file n.kind) these (cond c.args.by_size these.size these.stamp) (sym c.in-None.is ∙ is)
