-- The refusals that a call has of its own, each with its condition, in the order in which they come.
use Rattle.std.specs.Prelude.{ℕ, zero, suc, ◌-◌, List, [], ◌∷◌, length, Option, Some, None, Bool, true, false, not, ◌&&◌, ◌||◌, ◌==◌, nat_lt, nat_le, if◌then◌else◌, is_some, is_none, codes}
use Rattle.std.specs.List.{list_any}
use Rattle.std.specs.Option.{option_map_or}
use Rattle.std.specs.Str.{bytes_eq}
use Rattle.std.specs.FinMap.{get, len, entries}
use Rattle.bfs_base.specs.declared.kind.KeyKind.{KeyKind}
use Rattle.bfs_base.specs.declared.kind.KeyKind.TheVariants as kinds
use Rattle.bfs_tree.specs.declared.call.Kind.{Kind}
use Rattle.bfs_tree.specs.declared.call.Call.{Call}
use Rattle.bfs_tree.specs.declared.call.Call.TheVariants as calls
use Rattle.bfs_tree.specs.declared.reply.Reply.{Reply}
use Rattle.bfs_tree.specs.declared.reply.Reply.TheVariants.{NotFound, NotDir, NotFile, NotLink, NameBad, TooBig, Exists, NotEmpty, Inside, NoAttr, FloatIndex, IndexCount, NoIndex, BuiltIn, PastEnd, Held}
use Rattle.bfs_tree.specs.declared.reply.Reply.TheVariants as replies
use Rattle.bfs_tree.specs.declared.state.Hold.{Hold}
use Rattle.bfs_tree.specs.Names.{is_bad_name, is_bad_attribute_name, is_bad_target, target_of}
use Rattle.bfs_tree.specs.Trees.{Tree, Node, Nodes, is_file, is_dir, is_link, children_in, child}
use Rattle.bfs_tree.specs.Listings.{kind_of_key}
use Rattle.bfs_tree.specs.States.{State, conflict}

-- the first whose condition holds
abbrev pub first : List (Bool × Reply) → Option Reply
first [] = None
first (r ∷ rs) = if r.0 then Some r.1 else first rs

-- NotFound where there is no such node, and else what comes for the node that is there
abbrev pub at_node : Option Node → (Node → List (Bool × Reply)) → List (Bool × Reply)
at_node None rest = (true, NotFound) ∷ []
at_node (Some node) rest = rest node

abbrev pub at_child : Option (ℕ × Node) → (ℕ → Node → List (Bool × Reply)) → List (Bool × Reply)
at_child None rest = (true, NotFound) ∷ []
at_child (Some e) rest = rest e.0 e.1

-- Held by the session of the hold that is in conflict, where there is one
abbrev pub held : Option Hold → List (Bool × Reply)
held None = []
held (Some h) = (true, Held h.session) ∷ []

-- a directory and the directories above it, as many as there are nodes: its parent, the parent of that, and so on
abbrev pub line_up : Nodes → ℕ → ℕ → List ℕ
line_up nodes zero d = d ∷ []
line_up nodes (suc n) d = d ∷ line_up nodes n (option_map_or (λ node. node.parent) (get nodes d) d)

-- of the node that has a name, the one that a rename to that name replaces: the moved node itself is none
abbrev pub replaced : ℕ → Option (ℕ × Node) → Option (ℕ × Node)
replaced id None = None
replaced id (Some e) = if e.0 == id then None else Some e

-- nothing where no node is replaced, and else what comes for that node
abbrev pub at_replaced : Option (ℕ × Node) → (ℕ → Node → List (Bool × Reply)) → List (Bool × Reply)
at_replaced None rest = []
at_replaced (Some e) rest = rest e.0 e.1

-- just one of the two kinds is a directory
abbrev pub is_one_dir : Kind → Kind → Bool
is_one_dir a b = if is_dir a then not (is_dir b) else is_dir b

-- the node is a directory, and the other directory is it or below it
abbrev pub is_inside : Tree → ℕ → Node → ℕ → Bool
is_inside tree id node d = is_dir node.kind && list_any (λ x. x == id) (line_up tree.nodes (len tree.nodes) d)

abbrev pub is_float : KeyKind → Bool
is_float kinds.Text = false
is_float kinds.I32 = false
is_float kinds.U32 = false
is_float kinds.I64 = false
is_float kinds.U64 = false
is_float kinds.F32 = true
is_float kinds.F64 = true

abbrev pub kind_number : KeyKind → ℕ
kind_number kinds.Text = 0
kind_number kinds.I32 = 1
kind_number kinds.U32 = 2
kind_number kinds.I64 = 3
kind_number kinds.U64 = 4
kind_number kinds.F32 = 5
kind_number kinds.F64 = 6

-- the kinds are the same
abbrev pub is_kind : KeyKind → KeyKind → Bool
is_kind a b = kind_number a == kind_number b

abbrev pub is_built_in : List ℕ → Bool
is_built_in name = bytes_eq name (codes "name") || bytes_eq name (codes "size") || bytes_eq name (codes "last_modified")

-- some of these nodes is a child of the directory
abbrev pub has_children : ℕ → ℕ → List (ℕ × Node) → Bool
has_children root d nodes = nat_lt 0 (length (children_in root d nodes))

-- a directory with children
abbrev pub is_full : Tree → ℕ → Node → Bool
is_full tree id node = is_dir node.kind && has_children tree.root id (entries tree.nodes)

-- the piece goes past the end of the file
abbrev pub is_past : ℕ → ℕ → ℕ → Bool
is_past size at count = nat_lt size at || nat_lt (size - at) count

-- NoIndex where there is no such index, and else what comes for its kind
abbrev pub at_index : Option KeyKind → (KeyKind → List (Bool × Reply)) → List (Bool × Reply)
at_index None rest = (true, NoIndex) ∷ []
at_index (Some kind) rest = rest kind

-- The refusals of each call with their conditions, in order. A target is at most 1,024 bytes, a file 1,073,741,824, an
-- attribute and a held piece 65,536. There are at most 32 indices, and none is made where there is none.
abbrev pub refusals : Call → State → List (Bool × Reply)
refusals (calls.Make dir name kind mode) s = at_node (get s.tree.nodes dir) (λ d.
    (not (is_dir d.kind), NotDir) ∷ (is_bad_name name || is_bad_target kind, NameBad) ∷ (nat_lt 1024 (length (target_of kind)), TooBig) ∷ (is_some (child s.tree dir name), Exists) ∷ [])
refusals (calls.Remove dir name) s = at_node (get s.tree.nodes dir) (λ d.
    (not (is_dir d.kind), NotDir) ∷ at_child (child s.tree dir name) (λ id node.
    (is_full s.tree id node, NotEmpty) ∷ held (conflict s.holds id true)))
refusals (calls.Rename dir name to_dir to_name) s = at_node (get s.tree.nodes dir) (λ d.
    (not (is_dir d.kind), NotDir) ∷ at_child (child s.tree dir name) (λ id node.
    at_node (get s.tree.nodes to_dir) (λ t.
    (not (is_dir t.kind), NotDir) ∷ (is_bad_name to_name, NameBad) ∷ (is_inside s.tree id node to_dir, Inside) ∷ at_replaced (replaced id (child s.tree to_dir to_name)) (λ there other.
    (is_one_dir node.kind other.kind, Exists) ∷ (is_full s.tree there other, NotEmpty) ∷ held (conflict s.holds there true)))))
refusals (calls.Lookup dir name) s = at_node (get s.tree.nodes dir) (λ d.
    (not (is_dir d.kind), NotDir) ∷ at_child (child s.tree dir name) (λ id node. []))
refusals (calls.List dir) s = at_node (get s.tree.nodes dir) (λ d. (not (is_dir d.kind), NotDir) ∷ [])
refusals (calls.Stat id) s = at_node (get s.tree.nodes id) (λ node. [])
refusals (calls.SetMode id mode uid gid) s = at_node (get s.tree.nodes id) (λ node. [])
refusals (calls.SetSize id size) s = at_node (get s.tree.nodes id) (λ node.
    (not (is_file node.kind), NotFile) ∷ (nat_lt 1073741824 size, TooBig) ∷ held (conflict s.holds id true))
refusals (calls.ReadLink id) s = at_node (get s.tree.nodes id) (λ node. (not (is_link node.kind), NotLink) ∷ [])
refusals (calls.AttrWrite id name kind bytes) s = at_node (get s.tree.nodes id) (λ node.
    (is_bad_attribute_name name, NameBad) ∷ (nat_lt 65536 (length bytes), TooBig) ∷ [])
refusals (calls.AttrRead id name) s = at_node (get s.tree.nodes id) (λ node. (is_none (get node.attributes name), NoAttr) ∷ [])
refusals (calls.AttrRemove id name) s = at_node (get s.tree.nodes id) (λ node. (is_none (get node.attributes name), NoAttr) ∷ [])
refusals (calls.AttrList id) s = at_node (get s.tree.nodes id) (λ node. [])
refusals (calls.IndexMake name kind) s =
    (len s.tree.indices == 0, NoIndex) ∷ (is_some (get s.tree.indices name), Exists) ∷ (is_float kind, FloatIndex) ∷ (is_bad_name name, NameBad) ∷ (nat_le 32 (len s.tree.indices), IndexCount) ∷ []
refusals (calls.IndexRemove name) s = (is_none (get s.tree.indices name), NoIndex) ∷ (is_built_in name, BuiltIn) ∷ []
refusals calls.IndexList s = []
refusals (calls.IndexFind name low high) s = at_index (get s.tree.indices name) (λ kind.
    (not (is_kind (kind_of_key low) kind && is_kind (kind_of_key high) kind), replies.KeyKind) ∷ [])
refusals (calls.Hold id at count writes) s = at_node (get s.tree.nodes id) (λ node.
    (not (is_file node.kind), NotFile) ∷ (nat_lt 65536 count, TooBig) ∷ (is_past node.size at count, PastEnd node.size) ∷ held (conflict s.holds id writes))
refusals (calls.Release id bytes whole before after) s = []
refusals calls.Sync s = []

-- the first refusal whose condition holds
abbrev pub own_refusal : Call → State → Option Reply
own_refusal call s = first (refusals call s)
