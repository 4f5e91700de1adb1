-- How a call that is done changes the state. Nothing else changes.
use Rattle.std.specs.Prelude.{ℕ, ℤ, List, [], ◌∷◌, ◌++◌, length, Option, Some, None, Bool, ◌&&◌, ◌==◌, if◌then◌else◌}
use Rattle.std.specs.FinMap.{get, insert, remove}
use Rattle.bfs_tree.specs.declared.call.Kind.{Kind}
use Rattle.bfs_tree.specs.declared.call.Kind.TheVariants as node
use Rattle.bfs_tree.specs.declared.call.MakeKind.{MakeKind}
use Rattle.bfs_tree.specs.declared.call.MakeKind.TheVariants as make
use Rattle.bfs_tree.specs.declared.call.Call.{Call}
use Rattle.bfs_tree.specs.declared.call.Call.TheVariants as calls
use Rattle.bfs_tree.specs.declared.reply.Reply.{Reply}
use Rattle.bfs_tree.specs.declared.reply.Reply.TheVariants.{Made}
use Rattle.bfs_tree.specs.declared.state.Hold.{Hold}
use Rattle.bfs_tree.specs.Names.{target_of}
use Rattle.bfs_tree.specs.Trees.{Node, Nodes, child, new_node}
use Rattle.bfs_tree.specs.States.{State, last_hold, without_last, forget_node, forget_from, forget_piece, learn}

-- the id that a reply gives
abbrev pub id_made : Reply → ℕ
id_made (Made id) = id
id_made _ = 0

abbrev pub kind_made : MakeKind → Kind
kind_made make.File = node.File
kind_made make.Dir = node.Dir
kind_made (make.Link target) = node.Link

-- the nodes, where the node of this id is changed, if it is there
abbrev pub changed_at : (Node → Node) → Option Node → ℕ → Nodes → Nodes
changed_at f None id nodes = nodes
changed_at f (Some node) id nodes = insert nodes id (f node)

abbrev pub with_node : Nodes → ℕ → (Node → Node) → Nodes
with_node nodes id f = changed_at f (get nodes id) id nodes

-- the directory's content has changed now
abbrev pub touched : ℤ → Node → Node
touched stamp node = record node { modified = stamp }

abbrev pub with_nodes : State → Nodes → State
with_nodes s nodes = record s { tree = record s.tree { nodes = nodes } }

abbrev pub made : State → ℕ → List ℕ → MakeKind → ℕ → ℤ → ℕ → State
made s dir name kind mode stamp id =
    with_nodes s (with_node (insert s.tree.nodes id (new_node (kind_made kind) name dir mode (length (target_of kind)) (target_of kind) stamp)) dir (touched stamp))

-- the node leaves the tree, and what is known of its bytes is forgotten
abbrev pub without_node : State → ℕ → State
without_node s id = record { tree = record s.tree { nodes = remove s.tree.nodes id }; holds = s.holds; known = forget_node s.known id }

-- and its directory has changed
abbrev pub dropped : State → ℕ → ℤ → ℕ → State
dropped s dir stamp id = record { tree = record s.tree { nodes = with_node (remove s.tree.nodes id) dir (touched stamp) }; holds = s.holds; known = forget_node s.known id }

abbrev pub removed : State → ℕ → ℤ → Option (ℕ × Node) → State
removed s dir stamp None = s
removed s dir stamp (Some e) = dropped s dir stamp e.0

-- the file gets a size, and what is known at it and past it is forgotten
abbrev pub resized : State → ℕ → ℕ → ℤ → State
resized s id size stamp =
    record { tree = record s.tree { nodes = with_node s.tree.nodes id (λ n. record n { size = size; modified = stamp; changed = stamp }) }; holds = s.holds; known = forget_from s.known id size }

-- the node gets the new name and parent, and both directories have changed
abbrev pub moved : State → ℕ → ℕ → List ℕ → ℤ → ℕ → State
moved s dir to_dir to_name stamp id =
    with_nodes s (with_node (with_node (with_node s.tree.nodes dir (touched stamp)) to_dir (touched stamp)) id (λ n. record n { name = to_name; parent = to_dir; changed = stamp }))

-- The node is moved to a name. Where it has that name itself, nothing changes, and another node of that name leaves the
-- tree first.
abbrev pub moved_over : State → ℕ → ℕ → List ℕ → ℤ → ℕ → Option (ℕ × Node) → State
moved_over s dir to_dir to_name stamp id None = moved s dir to_dir to_name stamp id
moved_over s dir to_dir to_name stamp id (Some there) = if there.0 == id then s else moved (without_node s there.0) dir to_dir to_name stamp id

abbrev pub renamed : State → ℕ → ℕ → List ℕ → ℤ → Option (ℕ × Node) → State
renamed s dir to_dir to_name stamp None = s
renamed s dir to_dir to_name stamp (Some e) = moved_over s dir to_dir to_name stamp e.0 (child s.tree to_dir to_name)

-- a hold is appended; one for writing forgets its places, and its file counts as changed
abbrev pub holding_to_write : State → Hold → ℤ → State
holding_to_write s hold stamp =
    record { tree = record s.tree { nodes = with_node s.tree.nodes hold.id (λ n. record n { modified = stamp; changed = stamp }) }; holds = s.holds ++ hold ∷ []; known = forget_piece s.known hold.id hold.at hold.length }

abbrev pub holding : State → Hold → ℤ → State
holding s hold stamp = if hold.write then holding_to_write s hold stamp else record s { holds = s.holds ++ hold ∷ [] }

-- a hold ends; the bytes of a whole write are known from then on
abbrev pub released : State → ℕ → ℕ → List ℕ → Bool → Option Hold → State
released s session id bytes whole None = s
released s session id bytes whole (Some hold) =
    record s { holds = without_last s.holds session id; known = if whole && hold.write then learn s.known id hold.at bytes else s.known }

-- the state after a call that is done, by the session, the entry's stamp, the call and its reply
abbrev pub changed : ℕ → ℤ → Call → Reply → State → State
changed session stamp (calls.Make dir name kind mode) reply s = made s dir name kind mode stamp (id_made reply)
changed session stamp (calls.Remove dir name) reply s = removed s dir stamp (child s.tree dir name)
changed session stamp (calls.Rename dir name to_dir to_name) reply s = renamed s dir to_dir to_name stamp (child s.tree dir name)
changed session stamp (calls.Lookup dir name) reply s = s
changed session stamp (calls.List dir) reply s = s
changed session stamp (calls.Stat id) reply s = s
changed session stamp (calls.SetMode id mode uid gid) reply s =
    with_nodes s (with_node s.tree.nodes id (λ n. record n { mode = mode; uid = uid; gid = gid; changed = stamp }))
changed session stamp (calls.SetSize id size) reply s = resized s id size stamp
changed session stamp (calls.ReadLink id) reply s = s
changed session stamp (calls.AttrWrite id name kind bytes) reply s =
    with_nodes s (with_node s.tree.nodes id (λ n. record n { attributes = insert n.attributes name (record { code = kind; bytes = bytes }); changed = stamp }))
changed session stamp (calls.AttrRead id name) reply s = s
changed session stamp (calls.AttrRemove id name) reply s =
    with_nodes s (with_node s.tree.nodes id (λ n. record n { attributes = remove n.attributes name; changed = stamp }))
changed session stamp (calls.AttrList id) reply s = s
changed session stamp (calls.IndexMake name kind) reply s = record s { tree = record s.tree { indices = insert s.tree.indices name kind } }
changed session stamp (calls.IndexRemove name) reply s = record s { tree = record s.tree { indices = remove s.tree.indices name } }
changed session stamp calls.IndexList reply s = s
changed session stamp (calls.IndexFind name low high) reply s = s
changed session stamp (calls.Hold id at count writes) reply s = holding s (record { session = session; id = id; at = at; length = count; write = writes }) stamp
changed session stamp (calls.Release id bytes whole before after) reply s = released s session id bytes whole (last_hold s.holds session id)
changed session stamp calls.Sync reply s = s
