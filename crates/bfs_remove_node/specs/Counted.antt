-- What a call that removes a node counts: the indices that list the node by its attributes.
use Rattle.std.specs.Prelude.{◌==◌, ℕ, List, [], sum_by, is_some, Bool, false, if◌then◌else◌}
use Rattle.bfs_base.specs.declared.kind.KeyKind.{KeyKind}
use Rattle.bfs_tree.specs.declared.reply.Reply.{Reply}
use Rattle.bfs_tree.specs.declared.reply.Reply.TheVariants as replies
use Rattle.bfs_tree.specs.declared.rows.IndexRow.{IndexRow}
use Rattle.bfs_tree.specs.Listings.{code_of, key_at, key_of_bytes}
use Rattle.bfs_tree.specs.Refusals.{is_built_in}
use Rattle.bfs_tree.specs.Trees.{Tree}

-- the attribute that was read has a key in an index of this kind
abbrev pub has_key : KeyKind → Reply → Bool
has_key kind (replies.Attr code bytes) = if code == code_of kind then is_some (key_of_bytes kind bytes) else false
has_key kind _ = false

-- the indices that a listing of them has
abbrev pub indices_in : Reply → List IndexRow
indices_in (replies.Indices rows) = rows
indices_in _ = []

-- an index that isn't built in lists the node of an id
abbrev pub is_listed : Tree → ℕ → IndexRow → Bool
is_listed tree id row = if is_built_in row.name then false else is_some (key_at tree row.name row.kind id)

-- how many of these indices do
abbrev pub listed_among : Tree → ℕ → List IndexRow → ℕ
listed_among tree id rows = sum_by (λ row. if is_listed tree id row then 1 else 0) rows
