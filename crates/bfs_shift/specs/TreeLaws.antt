-- What steps of the plain tree do to lists that agree with it.
use Rattle.std.specs.Prelude.{◌≡◌, ◌≢◌, ◌⊎◌, ℕ, ℤ, pos, List, [], ◌∷◌, length, Some, None, codes, false, Option, if◌then◌else◌}
use Rattle.std.specs.Str.{bytes_eq}
use Rattle.std.specs.FinMap.{get, insert, remove}
use Rattle.bfs_base.specs.declared.kind.KeyKind.{KeyKind}
use Rattle.bfs_base.specs.declared.kind.KeyKind.TheVariants.{Text}
use Rattle.bfs_bytes.specs.Fields.{unsigned_bytes, signed64_bytes}
use Rattle.bfs_node.specs.Page.{Row}
use Rattle.bfs_pages.specs.Maps.{assoc, put, without}
use Rattle.bfs_tree.specs.declared.call.Kind.{Kind}
use Rattle.bfs_tree.specs.declared.call.Kind.TheVariants.{Dir}
use Rattle.bfs_tree.specs.declared.call.MakeKind.{MakeKind}
use Rattle.bfs_tree.specs.Changes.{kind_made, touched, made, without_node, dropped, moved}
use Rattle.bfs_tree.specs.Listings.{key_in, key_at, listed, with_key, without_id, relisted}
use Rattle.bfs_tree.specs.Names.{target_of}
use Rattle.bfs_tree.specs.Refusals.{is_full}
use Rattle.bfs_tree.specs.States.{State}
use Rattle.bfs_tree.specs.Trees.{Node, Tree, IsNode, HasPlainNodes, new_node, is_file}
use Rattle.bfs_maps.specs.Laws.{DiffersAt}
use Rattle.bfs_shift.specs.Lists.{Lists, with_rows, with_pairs, with_index, Agrees}
use Rattle.bfs_shift.specs.Seats.{seat_at, ChangesSeat, RowsFollow, PairsFollow}

-- Of two plain trees in which one node alone came, went or moved, lists that follow it agree with the new one.
abbrev pub AgreesFollows : Type 0
AgreesFollows = (old new : Tree) (lists now : Lists) (e : ℕ) → HasPlainNodes old → HasPlainNodes new → ChangesSeat old new e
    → Agrees old lists → RowsFollow old new lists now e → PairsFollow new lists now e → Agrees new now

-- Where every node stands where it did, and one node alone perhaps has other keys, the directories list what they did.
abbrev pub AgreesStays : Type 0
AgreesStays = (old new : Tree) (lists now : Lists) (e : ℕ) → new.root ≡ old.root → new.indices ≡ old.indices
    → ((q : ℕ) → seat_at new q ≡ seat_at old q)
    → ((q : ℕ) → q ≢ e → (index : List ℕ) (kind : KeyKind) → key_at new index kind q ≡ key_at old index kind q) → Agrees old lists
    → ((d : ℕ) → now.rows d ≡ lists.rows d) → PairsFollow new lists now e → Agrees new now

-- the rows of a new directory
abbrev pub first_rows : ℕ → ℕ → List Row
first_rows id parent = (codes ".", pos id) ∷ (codes "..", pos parent) ∷ []

-- A node is made: its directory's rows gain its name, a new directory has `.` and `..`, and each index gains the pair of its key, if
-- it has one there.
pub record GainsNode (tree : Tree) (lists now : Lists) (dir id : ℕ) (node : Node) : Type 0 where
  pub parent : now.rows dir ≡ put Text (lists.rows dir) node.name (pos id)
  pub own : node.kind ≡ Dir → now.rows id ≡ first_rows id dir
  pub others : (d : ℕ) → d ≢ dir → d ≢ id → now.rows d ≡ lists.rows d
  pub names : now.names ≡ lists.names
  pub kinds : (index : List ℕ) → now.kinds index ≡ lists.kinds index
  pub pairs : (index : List ℕ) (value : ℤ) → assoc Text lists.names index ≡ Some value
      → now.pairs index ≡ with_key (lists.kinds index) id (key_in tree.root index (lists.kinds index) id node) (lists.pairs index)

abbrev pub MakeAgrees : Type 0
MakeAgrees = (s : State) (lists now : Lists) (dir : ℕ) (d : Node) (name : List ℕ) (kind : MakeKind) (mode : ℕ) (stamp : ℤ) (id : ℕ)
    → HasPlainNodes s.tree → HasPlainNodes (made s dir name kind mode stamp id).tree
    → IsNode s.tree dir d → d.kind ≡ Dir → get s.tree.nodes id ≡ None → Agrees s.tree lists
    → GainsNode s.tree lists now dir id (new_node (kind_made kind) name dir mode (length (target_of kind)) (target_of kind) stamp)
    → Agrees (made s dir name kind mode stamp id).tree now

-- A node is removed: its directory's rows lose its name, and each index loses its pair.
pub record LosesNode (lists now : Lists) (dir id : ℕ) (node : Node) : Type 0 where
  pub parent : now.rows dir ≡ without Text (lists.rows dir) node.name
  pub others : (d : ℕ) → d ≢ dir → now.rows d ≡ lists.rows d
  pub names : now.names ≡ lists.names
  pub kinds : (index : List ℕ) → now.kinds index ≡ lists.kinds index
  pub pairs : (index : List ℕ) (value : ℤ) → assoc Text lists.names index ≡ Some value → now.pairs index ≡ without_id id (lists.pairs index)

abbrev pub RemoveAgrees : Type 0
RemoveAgrees = (s : State) (lists now : Lists) (dir : ℕ) (d : Node) (stamp : ℤ) (id : ℕ) (node : Node) → HasPlainNodes s.tree
    → HasPlainNodes (dropped s dir stamp id).tree
    → IsNode s.tree dir d → IsNode s.tree id node → id ≢ s.tree.root → node.parent ≡ dir → Agrees s.tree lists
    → LosesNode lists now dir id node → Agrees (dropped s dir stamp id).tree now

-- A node has another record, and stands where it did: its directory and all others list what they did, and each index where its key
-- is another has the new pair in the place of the old one.
pub record Rekeys (tree : Tree) (lists now : Lists) (id : ℕ) (n m : Node) : Type 0 where
  pub rows : (d : ℕ) → now.rows d ≡ lists.rows d
  pub names : now.names ≡ lists.names
  pub kinds : (index : List ℕ) → now.kinds index ≡ lists.kinds index
  pub pairs : (index : List ℕ) (value : ℤ) → assoc Text lists.names index ≡ Some value
      → (now.pairs index ≡ relisted (lists.kinds index) id (key_in tree.root index (lists.kinds index) id m) (lists.pairs index))
      ⊎ ((key_in tree.root index (lists.kinds index) id m ≡ key_in tree.root index (lists.kinds index) id n) × (now.pairs index ≡ lists.pairs index))

abbrev pub StatusAgrees : Type 0
StatusAgrees = (tree : Tree) (lists now : Lists) (id : ℕ) (n m : Node) → IsNode tree id n → m.kind ≡ n.kind → m.name ≡ n.name
    → m.parent ≡ n.parent → Agrees tree lists → Rekeys tree lists now id n m
    → Agrees (record tree { nodes = insert tree.nodes id m }) now

-- An index is made: the index directory's rows gain its name, and its pairs are those that the tree's rule lists.
pub record GainsIndex (tree : Tree) (lists now : Lists) (name : List ℕ) (id : ℕ) (kind : KeyKind) : Type 0 where
  pub rows : (d : ℕ) → now.rows d ≡ lists.rows d
  pub names : DiffersAt Text lists.names now.names name (Some (pos id))
  pub kind_is : now.kinds name ≡ kind
  pub pairs : now.pairs name ≡ listed tree name kind
  pub others : (index : List ℕ) → index ≢ name → (now.kinds index ≡ lists.kinds index) × (now.pairs index ≡ lists.pairs index)

abbrev pub IndexMakeAgrees : Type 0
IndexMakeAgrees = (tree : Tree) (lists now : Lists) (name : List ℕ) (id : ℕ) (kind : KeyKind) → Agrees tree lists
    → GainsIndex tree lists now name id kind → Agrees (record tree { indices = insert tree.indices name kind }) now

-- An index is removed: the index directory's rows lose its name.
pub record LosesIndex (lists now : Lists) (name : List ℕ) : Type 0 where
  pub rows : (d : ℕ) → now.rows d ≡ lists.rows d
  pub names : DiffersAt Text lists.names now.names name None
  pub others : (index : List ℕ) → index ≢ name → (now.kinds index ≡ lists.kinds index) × (now.pairs index ≡ lists.pairs index)

abbrev pub IndexRemoveAgrees : Type 0
IndexRemoveAgrees = (tree : Tree) (lists now : Lists) (name : List ℕ) → Agrees tree lists → LosesIndex lists now name
    → Agrees (record tree { indices = remove tree.indices name }) now

-- A node moves: its directory's rows lose its name, and then the other directory's rows, perhaps the same ones, gain the new name. Of
-- the node, where it is a directory, `..` leads to the new directory, and other rows stay. Each index where its key is another has the
-- new pair in the place of the old one.
pub record MovesNode (tree : Tree) (lists mid now : Lists) (dir to id : ℕ) (n m : Node) : Type 0 where
  pub lost : mid.rows dir ≡ without Text (lists.rows dir) n.name
  pub first : (d : ℕ) → d ≢ dir → mid.rows d ≡ lists.rows d
  pub gained : now.rows to ≡ put Text (mid.rows to) m.name (pos id)
  pub second : (d : ℕ) → d ≢ to → d ≢ id → now.rows d ≡ mid.rows d
  pub own : n.kind ≡ Dir → DiffersAt Text (lists.rows id) (now.rows id) (codes "..") (Some (pos to))
  pub names : now.names ≡ lists.names
  pub kinds : (index : List ℕ) → now.kinds index ≡ lists.kinds index
  pub pairs : (index : List ℕ) (value : ℤ) → assoc Text lists.names index ≡ Some value
      → (now.pairs index ≡ relisted (lists.kinds index) id (key_in tree.root index (lists.kinds index) id m) (lists.pairs index))
      ⊎ ((key_in tree.root index (lists.kinds index) id m ≡ key_in tree.root index (lists.kinds index) id n) × (now.pairs index ≡ lists.pairs index))

-- the record of a node that has moved
abbrev pub moved_node : ℕ → List ℕ → ℤ → Node → Node
moved_node to name stamp n = record n { name = name; parent = to; changed = stamp }

abbrev pub RenameAgrees : Type 0
RenameAgrees = (s : State) (lists mid now : Lists) (dir to : ℕ) (d t : Node) (name : List ℕ) (stamp : ℤ) (id : ℕ) (n : Node)
    → HasPlainNodes s.tree → HasPlainNodes (moved s dir to name stamp id).tree
    → IsNode s.tree dir d → IsNode s.tree to t → t.kind ≡ Dir → IsNode s.tree id n → id ≢ s.tree.root → n.parent ≡ dir → Agrees s.tree lists
    → MovesNode s.tree lists mid now dir to id n (moved_node to name stamp n) → Agrees (moved s dir to name stamp id).tree now

-- A node that is no full directory leaves a plain tree, which stays plain; and lists that lose it agree, where its directory keeps its
-- record: so a node goes that a move replaces.
abbrev pub ReplacedAgrees : Type 0
ReplacedAgrees = (s : State) (lists now : Lists) (id : ℕ) (node : Node) → HasPlainNodes s.tree → IsNode s.tree id node → id ≢ s.tree.root
    → is_full s.tree id node ≡ false → Agrees s.tree lists → LosesNode lists now node.parent id node
    → HasPlainNodes (without_node s id).tree × Agrees (without_node s id).tree now

-- Each of these calls gives one node alone another place, and other keys: so the lists of indices move as the laws of lists say.
abbrev pub MakeChangesSeat : Type 0
MakeChangesSeat = (s : State) (dir : ℕ) (d : Node) (name : List ℕ) (kind : MakeKind) (mode : ℕ) (stamp : ℤ) (id : ℕ)
    → HasPlainNodes s.tree → IsNode s.tree dir d → d.kind ≡ Dir → get s.tree.nodes id ≡ None
    → ChangesSeat s.tree (made s dir name kind mode stamp id).tree id

abbrev pub RemoveChangesSeat : Type 0
RemoveChangesSeat = (s : State) (dir : ℕ) (d : Node) (stamp : ℤ) (id : ℕ) (node : Node) → HasPlainNodes s.tree → IsNode s.tree dir d
    → IsNode s.tree id node → id ≢ s.tree.root → node.parent ≡ dir
    → ChangesSeat s.tree (dropped s dir stamp id).tree id

abbrev pub RenameChangesSeat : Type 0
RenameChangesSeat = (s : State) (dir to : ℕ) (d t : Node) (name : List ℕ) (stamp : ℤ) (id : ℕ) (n : Node) → HasPlainNodes s.tree
    → HasPlainNodes (moved s dir to name stamp id).tree
    → IsNode s.tree dir d → IsNode s.tree to t → t.kind ≡ Dir → IsNode s.tree id n → id ≢ s.tree.root → n.parent ≡ dir
    → ChangesSeat s.tree (moved s dir to name stamp id).tree id

-- What lists with one thing changed have there, and elsewhere.
pub record IsListsAt (lists : Lists) : Type 0 where
  pub rows_here : (d : ℕ) (rows : List Row) → (with_rows lists d rows).rows d ≡ rows
  pub rows_elsewhere : (d b : ℕ) (rows : List Row) → b ≢ d → (with_rows lists d rows).rows b ≡ lists.rows b
  pub pairs_here : (name : List ℕ) (pairs : List (List ℕ × ℕ)) → (with_pairs lists name pairs).pairs name ≡ pairs
  pub pairs_elsewhere : (name index : List ℕ) (pairs : List (List ℕ × ℕ)) → index ≢ name → (with_pairs lists name pairs).pairs index ≡ lists.pairs index
  pub index_here : (name : List ℕ) (kind : KeyKind) (pairs : List (List ℕ × ℕ))
      → ((with_index lists name kind pairs).kinds name ≡ kind) × ((with_index lists name kind pairs).pairs name ≡ pairs)
  pub index_elsewhere : (name index : List ℕ) (kind : KeyKind) (pairs : List (List ℕ × ℕ)) → index ≢ name
      → ((with_index lists name kind pairs).kinds index ≡ lists.kinds index) × ((with_index lists name kind pairs).pairs index ≡ lists.pairs index)

abbrev pub ListsAt : Type 0
ListsAt = (lists : Lists) → IsListsAt lists

-- The key of a new node, by the index's name: `name` lists it by its name, `size` and `last_modified` list a file by its size and its
-- stamp, and no other index lists it.
abbrev pub new_key : List ℕ → Kind → List ℕ → ℕ → ℤ → Option (List ℕ)
new_key index kind name size stamp =
    if bytes_eq index (codes "name") then Some name
    else if bytes_eq index (codes "size") then (if is_file kind then Some (unsigned_bytes 8 size) else None)
    else if bytes_eq index (codes "last_modified") then (if is_file kind then Some (signed64_bytes stamp) else None)
    else None

abbrev pub KeyOfNew : Type 0
KeyOfNew = (root : ℕ) (index : List ℕ) (of : KeyKind) (id : ℕ) (kind : Kind) (name : List ℕ) (parent mode size : ℕ) (target : List ℕ) (stamp : ℤ) → id ≢ root
    → key_in root index of id (new_node kind name parent mode size target stamp) ≡ new_key index kind name size stamp

-- The nodes after each of these calls, one after the other as the steps of the call put and take them.
abbrev pub MadeNodes : Type 0
MadeNodes = (s : State) (dir : ℕ) (d : Node) (name : List ℕ) (kind : MakeKind) (mode : ℕ) (stamp : ℤ) (id : ℕ) → IsNode s.tree dir d → get s.tree.nodes id ≡ None
    → (made s dir name kind mode stamp id).tree.nodes
    ≡ insert (insert s.tree.nodes id (new_node (kind_made kind) name dir mode (length (target_of kind)) (target_of kind) stamp)) dir (touched stamp d)

abbrev pub DroppedNodes : Type 0
DroppedNodes = (s : State) (dir : ℕ) (d : Node) (stamp : ℤ) (id : ℕ) → IsNode s.tree dir d → dir ≢ id
    → (dropped s dir stamp id).tree.nodes ≡ insert (remove s.tree.nodes id) dir (touched stamp d)

-- of a move within one directory, and of one to another directory
abbrev pub MovedNodes : Type 0
MovedNodes = (s : State) (dir to : ℕ) (d t : Node) (name : List ℕ) (stamp : ℤ) (id : ℕ) (n : Node)
    → IsNode s.tree dir d → IsNode s.tree to t → IsNode s.tree id n → dir ≢ id → to ≢ id
    → (to ≡ dir → (moved s dir to name stamp id).tree.nodes ≡ insert (insert s.tree.nodes dir (touched stamp d)) id (moved_node to name stamp n))
    × (to ≢ dir → (moved s dir to name stamp id).tree.nodes ≡ insert (insert (insert s.tree.nodes dir (touched stamp d)) to (touched stamp t)) id (moved_node to name stamp n))
