use Rattle.std.proofs.Common.{◌≡◌, ◌∙◌, true, Some, sym, ap}
use Rattle.bfs_bytes.specs.Fields.{unsigned_bytes, signed64_bytes}
use Rattle.bfs_tree.specs.Trees.{is_file}
use Rattle.bfs_nodes_walk.specs.declared.facts.FileKeys.{FileKeys}
use Rattle.bfs_nodes_walk.proofs.Kept.{no_keys, has_keys}
use Rattle.bfs_nodes_walk.proofs.facts.keys_in.Goals as goal

pub returns-then-not-is_file_in : goal.returns-then-not-is_file_in
returns-then-not-is_file_in c v id n read has =
    no_keys (is_file n.kind) (record { size = unsigned_bytes 8 n.size; stamp = signed64_bytes n.modified }) (sym (c.is_file_in.ensures v id n read has) ∙ c.if-not-is_file_in.true)

pub returns : goal.returns
returns c v id n read has =
    let file : is_file n.kind ≡ true = sym (c.is_file_in.ensures v id n read has) ∙ c.if-not-is_file_in.false in
    let size = c.size_key.ensures v id n read has file in
    let stamp = c.stamp_key.ensures v id n read has in
    let keys : FileKeys = record { size = unsigned_bytes 8 n.size; stamp = signed64_bytes n.modified } in
    let same : record { size = c.size_key.result; stamp = c.stamp_key.result } ≡ keys = λ t. record { size = size t; stamp = stamp t } in
    ap (λ (k : FileKeys). Some k) same ∙ has_keys (is_file n.kind) keys file
