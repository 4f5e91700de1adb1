-- The replies of calls that are done, and what they say of the state.
use Rattle.std.specs.Prelude.{◌≡◌, ◌≤◌, ◌≤ℤ◌, ℕ, pos, List, length, None, IsSomeAnd, IsTrue, IsFalse, map as each}
use Rattle.std.specs.FinMap.{get, entries}
use Rattle.bfs_base.specs.Keys.{text_cmp}
use Rattle.bfs_base.specs.declared.kind.KeyKind.{KeyKind}
use Rattle.bfs_tree.specs.declared.call.Call.{Call}
use Rattle.bfs_tree.specs.declared.call.Call.TheVariants as calls
use Rattle.bfs_tree.specs.declared.reply.Info.{Info}
use Rattle.bfs_tree.specs.declared.reply.Reply.{Reply}
use Rattle.bfs_tree.specs.declared.reply.Reply.TheVariants as replies
use Rattle.bfs_tree.specs.declared.reply.Reply.TheVariants.{Made, Done, Found, Target, Attr, Attrs, Indices, Rows, Synced}
use Rattle.bfs_tree.specs.declared.rows.AttributeRow.{AttributeRow}
use Rattle.bfs_tree.specs.declared.rows.IndexRow.{IndexRow}
use Rattle.bfs_tree.specs.declared.state.Hold.{Hold}
use Rattle.bfs_tree.specs.Orders.{in_order}
use Rattle.bfs_tree.specs.Trees.{Tree, Node, Attribute, children_in, child}
use Rattle.bfs_tree.specs.Listings.{rows_between}
use Rattle.bfs_tree.specs.States.{State, last_hold, AgreesWith}

-- of these nodes, the names of a directory's children, in byte order
abbrev pub names_among : ℕ → ℕ → List (ℕ × Node) → List (List ℕ)
names_among root d nodes = in_order text_cmp (each (λ e. e.1.name) (children_in root d nodes))

-- the names of a directory's children, in byte order
abbrev pub names_in : Tree → ℕ → List (List ℕ)
names_in tree d = names_among tree.root d (entries tree.nodes)

abbrev pub info_of : Node → Info
info_of n = record { kind = n.kind; name = n.name; parent = n.parent; mode = n.mode; uid = n.uid; gid = n.gid; created = n.created; modified = n.modified; changed = n.changed; size = n.size }

-- the attributes by name, each with its type code
abbrev pub rows_of_attributes : List (List ℕ × Attribute) → List AttributeRow
rows_of_attributes attributes = each (λ e. record { kind = e.1.code; name = e.0 }) attributes

-- the indices by name, each with its kind
abbrev pub rows_of_indices : List (List ℕ × KeyKind) → List IndexRow
rows_of_indices indices = each (λ e. record { kind = e.1; name = e.0 }) indices

-- What a Release may say of the hold that it ends: where it is whole the bytes are as many as were held, and bytes that
-- were read are those that are known, wherever one is known.
pub record Ends (s : State) (hold : Hold) (bytes : List ℕ) : Type 0 where
  pub many : length bytes ≡ hold.length
  pub read : IsFalse hold.write → AgreesWith s.known hold.id hold.at bytes

-- The reply of a call that is done. Each other reply is none.
abbrev pub IsAnswer : ℕ → Call → State → Reply → Type 0
IsAnswer session (calls.Make dir name kind mode) s reply = (id : ℕ) × (reply ≡ Made id) × (get s.tree.nodes id ≡ None)
IsAnswer session (calls.Remove dir name) s reply = reply ≡ Done
IsAnswer session (calls.Rename dir name to_dir to_name) s reply = reply ≡ Done
IsAnswer session (calls.Lookup dir name) s reply = IsSomeAnd (child s.tree dir name) (λ e. reply ≡ Found e.0 e.1.kind)
IsAnswer session (calls.List dir) s reply = reply ≡ replies.Names (names_in s.tree dir)
IsAnswer session (calls.Stat id) s reply = IsSomeAnd (get s.tree.nodes id) (λ n. reply ≡ replies.Info (info_of n))
IsAnswer session (calls.SetMode id mode uid gid) s reply = reply ≡ Done
IsAnswer session (calls.SetSize id size) s reply = reply ≡ Done
IsAnswer session (calls.ReadLink id) s reply = IsSomeAnd (get s.tree.nodes id) (λ n. reply ≡ Target n.target)
IsAnswer session (calls.AttrWrite id name kind bytes) s reply = reply ≡ Done
IsAnswer session (calls.AttrRead id name) s reply = IsSomeAnd (get s.tree.nodes id) (λ n. IsSomeAnd (get n.attributes name) (λ a. reply ≡ Attr a.code a.bytes))
IsAnswer session (calls.AttrRemove id name) s reply = reply ≡ Done
IsAnswer session (calls.AttrList id) s reply = IsSomeAnd (get s.tree.nodes id) (λ n. reply ≡ Attrs (rows_of_attributes (entries n.attributes)))
IsAnswer session (calls.IndexMake name kind) s reply = reply ≡ Done
IsAnswer session (calls.IndexRemove name) s reply = reply ≡ Done
IsAnswer session calls.IndexList s reply = reply ≡ Indices (rows_of_indices (entries s.tree.indices))
IsAnswer session (calls.IndexFind name low high) s reply = IsSomeAnd (get s.tree.indices name) (λ kind. reply ≡ Rows (rows_between s.tree name kind low high))
IsAnswer session (calls.Hold id at count writes) s reply = reply ≡ Done
IsAnswer session (calls.Release id bytes whole before after) s reply = (reply ≡ Done) × IsSomeAnd (last_hold s.holds session id) (λ hold. IsTrue whole → Ends s hold bytes)
IsAnswer session calls.Sync s reply = (upto : ℕ) × (reply ≡ Synced upto)

-- What is asked of a call whoever makes it: a mode has no bit but the twelve of permissions, and no user or group is below 0.
abbrev pub KeepsRanges : Call → Type 0
KeepsRanges (calls.Make dir name kind mode) = mode ≤ 4095
KeepsRanges (calls.SetMode id mode uid gid) = (mode ≤ 4095) × (pos 0 ≤ℤ uid) × (pos 0 ≤ℤ gid)
KeepsRanges _ = Unit {0}

-- What a call needs of its session: for a Release a hold on that id, and bytes that may be its. Other calls need nothing.
abbrev pub IsReady : ℕ → Call → State → Type 0
IsReady session (calls.Release id bytes whole before after) s = IsSomeAnd (last_hold s.holds session id) (λ hold. IsTrue whole → Ends s hold bytes)
IsReady session _ s = Unit {0}
