-- A step leaves as many nodes as its entry makes of those that were there.
use Rattle.std.proofs.Common.{◌≡◌, ℕ, ℤ, List, [], ◌∷◌, ◌++◌, Option, Some, None, Bool, true, false, cond, length, refl, ap, sym, ◌∙◌, subst, arith}
use Rattle.std.specs.Prelude.{◌+◌, ◌-◌, not, ◌&&◌, ◌==◌, if◌then◌else◌, is_some}
use Rattle.std.specs.Str.{bytes_eq}
use Rattle.std.proofs.lemmas.Slice.Eq.{bytes_eq-Decides}
use Rattle.std.specs.Cmp.{nat_cmp_total}
use Rattle.std.specs.FinMap.{get, insert, remove, entries, len, len-entries, len-insert, len-remove}
use Rattle.bfs_tree.specs.declared.call.MakeKind.{MakeKind}
use Rattle.bfs_tree.specs.declared.call.Call.{Call}
use Rattle.bfs_tree.specs.declared.call.Call.TheVariants as calls
use Rattle.bfs_tree.specs.declared.reply.Reply.{Reply}
use Rattle.bfs_tree.specs.declared.reply.Reply.TheVariants as replies
use Rattle.bfs_tree.specs.declared.reply.Entry.{Entry}
use Rattle.bfs_tree.specs.declared.state.Hold.{Hold}
use Rattle.bfs_tree.specs.Trees.{Tree, Node, Nodes, is_dir, child}
use Rattle.bfs_tree.specs.States.{State, last_hold}
use Rattle.bfs_tree.specs.Refusals.{first, at_node, at_child, own_refusal}
use Rattle.bfs_tree.specs.Answers.{IsAnswer}
use Rattle.bfs_tree.specs.Changes.{with_node, changed_at, touched, made, without_node, dropped, removed, moved, moved_over, renamed, holding, holding_to_write, released, changed, id_made}
use Rattle.bfs_tree.specs.Steps.{Step, refused, answered, by_tree, by_disk, no_room, is_done}
use Rattle.bfs_tree.proofs.Members.{child-there, child-seat}
use Rattle.bfs_tree.proofs.Replies.{own-refuses, disk-refuses, room-refuses}
use Rattle.bfs_count.specs.Counts.{nodes_of, replaces, counted}
use Rattle.bfs_count.proofs.Unchanged.{counted_same}

-- ---- nodes that are put and taken

abbrev many : Nodes → ℕ
many nodes = length (entries nodes)

-- a node with a new id is one more
many-more : (nodes : Nodes) (id : ℕ) (n : Node) → get nodes id ≡ None → many (insert nodes id n) ≡ many nodes + 1
many-more nodes id n gone =
    sym (len-entries (insert nodes id n)) ∙ len-insert nat_cmp_total nodes id n ∙ ap (λ (o : Option Node). cond (is_some o) (len nodes) (len nodes + 1)) gone ∙ ap (λ k. k + 1) (len-entries nodes)

-- a node in the place of the one with its id is none more
many-same : (nodes : Nodes) (id : ℕ) (m n : Node) → get nodes id ≡ Some m → many (insert nodes id n) ≡ many nodes
many-same nodes id m n there =
    sym (len-entries (insert nodes id n)) ∙ len-insert nat_cmp_total nodes id n ∙ ap (λ (o : Option Node). cond (is_some o) (len nodes) (len nodes + 1)) there ∙ len-entries nodes

-- without a node that is there it is one less
many-less : (nodes : Nodes) (id : ℕ) (n : Node) → get nodes id ≡ Some n → many (remove nodes id) ≡ many nodes - 1
many-less nodes id n there =
    sym (len-entries (remove nodes id)) ∙ len-remove nat_cmp_total nodes id ∙ ap (λ (o : Option Node). cond (is_some o) (len nodes - 1) (len nodes)) there ∙ ap (λ k. k - 1) (len-entries nodes)

-- a node that is changed leaves the number
many-changed : (nodes : Nodes) (id : ℕ) (f : Node → Node) → many (with_node nodes id f) ≡ many nodes
many-changed nodes id f =
    elim (get nodes id) as (λ o. get nodes id ≡ o → many (changed_at f o id nodes) ≡ many nodes) [
      | None ↦ λ _. refl
      | Some n ↦ λ there. many-same nodes id n (f n) there
    ] refl

many-moved : (s : State) (dir to_dir : ℕ) (to_name : List ℕ) (stamp : ℤ) (id : ℕ) → nodes_of (moved s dir to_dir to_name stamp id).tree ≡ nodes_of s.tree
many-moved s dir to_dir to_name stamp id =
    let one = with_node s.tree.nodes dir (touched stamp) in
    let two = with_node one to_dir (touched stamp) in
    many-changed two id (λ n. record n { name = to_name; parent = to_dir; changed = stamp }) ∙ many-changed one to_dir (touched stamp) ∙ many-changed s.tree.nodes dir (touched stamp)

-- ---- the child that is moved or removed

-- it is there where no own refusal's condition holds
found-child : (d : Option Node) (o : Option (ℕ × Node)) (rest : ℕ → Node → List (Bool × Reply)) → first (at_node d (λ n. (not (is_dir n.kind), replies.NotDir) ∷ at_child o rest)) ≡ None → (e : ℕ × Node) × (o ≡ Some e)
found-child None o rest h = cc
found-child (Some n) None rest h = elim (not (is_dir n.kind)) as (λ b. (if b then Some replies.NotDir else Some replies.NotFound) ≡ None → (e : ℕ × Node) × (None ≡ Some e)) [ true ↦ λ h. cc | false ↦ λ h. cc ] h
found-child (Some n) (Some e) rest h = (e, refl)

same-some : {A : Type 0} (o : Option A) (a b : A) → o ≡ Some a → o ≡ Some b → a ≡ b
same-some o a b p q = cc

equal-is : (a b : ℕ) → a ≡ b → (a == b) ≡ true
equal-is a b e = grind (arith, e)

is-equal : (a b : ℕ) → (a == b) ≡ true → a ≡ b
is-equal a b e = grind (arith, e)

both : (a b : Bool) → a ≡ true → b ≡ true → (a && b) ≡ true
both true true p q = refl
both true false p q = cc
both false b p q = cc

parts : (a b : Bool) → (a && b) ≡ true → (a ≡ true) × (b ≡ true)
parts true b h = (refl, h)
parts false b h = cc

-- a node of one id has one place
same-place : (tree : Tree) (dir to_dir : ℕ) (name to_name : List ℕ) (e there : ℕ × Node) → child tree dir name ≡ Some e → child tree to_dir to_name ≡ Some there → (there.0 == e.0) ≡ true
    → ((dir == to_dir) && bytes_eq name to_name) ≡ true
same-place tree dir to_dir name to_name e there is too same =
    let ids : there.0 ≡ e.0 = is-equal there.0 e.0 same in
    let node : e.1 ≡ there.1 = same-some (get tree.nodes e.0) e.1 there.1 (child-there tree dir name e is).0 (ap (get tree.nodes) (sym ids) ∙ (child-there tree to_dir to_name there too).0) in
    let seat = child-seat tree dir name e is in
    let other = child-seat tree to_dir to_name there too in
    both (dir == to_dir) (bytes_eq name to_name)
    (equal-is dir to_dir (sym seat.0 ∙ ap (λ (n : Node). n.parent) node ∙ other.0))
    ((bytes_eq-Decides name to_name).1 (sym seat.1 ∙ ap (λ (n : Node). n.name) node ∙ other.1))

-- and one place has one node
other-place : (tree : Tree) (dir to_dir : ℕ) (name to_name : List ℕ) (e there : ℕ × Node) → child tree dir name ≡ Some e → child tree to_dir to_name ≡ Some there → (there.0 == e.0) ≡ false
    → ((dir == to_dir) && bytes_eq name to_name) ≡ false
other-place tree dir to_dir name to_name e there is too apart =
    elim ((dir == to_dir) && bytes_eq name to_name) as (λ b. ((dir == to_dir) && bytes_eq name to_name) ≡ b → b ≡ false) [
      | true ↦ λ h.
          let both = parts (dir == to_dir) (bytes_eq name to_name) h in
          let dirs : dir ≡ to_dir = is-equal dir to_dir both.0 in
          let names : name ≡ to_name = (bytes_eq-Decides name to_name).0 both.1 in
          let one : child tree dir name ≡ Some there = ap (λ d. child tree d name) dirs ∙ ap (child tree to_dir) names ∙ too in
          let same : e ≡ there = same-some (child tree dir name) e there is one in
          let equal : (there.0 == e.0) ≡ true = equal-is there.0 e.0 (ap (λ (x : ℕ × Node). x.0) (sym same)) in
          cc
      | false ↦ λ _. refl
    ] refl

-- ---- every call

-- the number after a Rename that is done
abbrev left : ℕ → ℕ → List ℕ → ℕ → List ℕ → Bool → ℕ
left n dir name to_dir to_name replaced = counted n (calls.Rename dir name to_dir to_name) replies.Done replaced

there-counts : (s : State) (dir : ℕ) (name : List ℕ) (to_dir : ℕ) (to_name : List ℕ) (stamp : ℤ) (e there : ℕ × Node) → child s.tree dir name ≡ Some e → child s.tree to_dir to_name ≡ Some there
    → nodes_of (moved_over s dir to_dir to_name stamp e.0 (Some there)).tree ≡ left (nodes_of s.tree) dir name to_dir to_name (not ((dir == to_dir) && bytes_eq name to_name))
there-counts s dir name to_dir to_name stamp e there is too =
    elim (there.0 == e.0) as (λ b. (there.0 == e.0) ≡ b → nodes_of (if b then s else moved (without_node s there.0) dir to_dir to_name stamp e.0).tree ≡ left (nodes_of s.tree) dir name to_dir to_name (not ((dir == to_dir) && bytes_eq name to_name))) [
      | true ↦ λ same. sym (ap (λ b. left (nodes_of s.tree) dir name to_dir to_name (not b)) (same-place s.tree dir to_dir name to_name e there is too same))
      | false ↦ λ apart.
          many-moved (without_node s there.0) dir to_dir to_name stamp e.0 ∙ many-less s.tree.nodes there.0 there.1 (child-there s.tree to_dir to_name there too).0
          ∙ sym (ap (λ b. left (nodes_of s.tree) dir name to_dir to_name (not b)) (other-place s.tree dir to_dir name to_name e there is too apart))
    ] refl

moved-counts : (s : State) (dir : ℕ) (name : List ℕ) (to_dir : ℕ) (to_name : List ℕ) (stamp : ℤ) (e : ℕ × Node) → child s.tree dir name ≡ Some e
    → nodes_of (moved_over s dir to_dir to_name stamp e.0 (child s.tree to_dir to_name)).tree ≡ left (nodes_of s.tree) dir name to_dir to_name (replaces s.tree (calls.Rename dir name to_dir to_name))
moved-counts s dir name to_dir to_name stamp e is =
    elim (child s.tree to_dir to_name) as (λ o. child s.tree to_dir to_name ≡ o
    → nodes_of (moved_over s dir to_dir to_name stamp e.0 o).tree ≡ left (nodes_of s.tree) dir name to_dir to_name (is_some o && not ((dir == to_dir) && bytes_eq name to_name))) [
      | None ↦ λ _. many-moved s dir to_dir to_name stamp e.0
      | Some there ↦ λ too. there-counts s dir name to_dir to_name stamp e there is too
    ] refl

made-counts : (s : State) (dir : ℕ) (name : List ℕ) (kind : MakeKind) (mode : ℕ) (stamp : ℤ) (id : ℕ) → get s.tree.nodes id ≡ None → nodes_of (made s dir name kind mode stamp id).tree ≡ nodes_of s.tree + 1
made-counts s dir name kind mode stamp id gone = many-changed _ dir _ ∙ many-more s.tree.nodes id _ gone

dropped-counts : (s : State) (dir : ℕ) (name : List ℕ) (stamp : ℤ) (e : ℕ × Node) → child s.tree dir name ≡ Some e → nodes_of (dropped s dir stamp e.0).tree ≡ nodes_of s.tree - 1
dropped-counts s dir name stamp e is = many-changed (remove s.tree.nodes e.0) dir (touched stamp) ∙ many-less s.tree.nodes e.0 e.1 (child-there s.tree dir name e is).0

held-counts : (s : State) (hold : Hold) (stamp : ℤ) → nodes_of (holding s hold stamp).tree ≡ nodes_of s.tree
held-counts s hold stamp =
    elim hold.write as (λ b. nodes_of (if b then holding_to_write s hold stamp else record s { holds = s.holds ++ hold ∷ [] }).tree ≡ nodes_of s.tree) [
      | true ↦ many-changed s.tree.nodes hold.id (λ n. record n { modified = stamp; changed = stamp })
      | false ↦ refl
    ]

released-counts : (s : State) (session id : ℕ) (bytes : List ℕ) (whole : Bool) (o : Option Hold) → nodes_of (released s session id bytes whole o).tree ≡ nodes_of s.tree
released-counts s session id bytes whole None = refl
released-counts s session id bytes whole (Some hold) = refl

call-counts : (session : ℕ) (stamp : ℤ) (call : Call) (reply : Reply) (s : State) → own_refusal call s ≡ None → IsAnswer session call s reply
    → nodes_of (changed session stamp call reply s).tree ≡ counted (nodes_of s.tree) call reply (replaces s.tree call)
call-counts session stamp (calls.Make dir name kind mode) reply s free answer =
    subst (λ r. nodes_of (made s dir name kind mode stamp (id_made r)).tree ≡ counted (nodes_of s.tree) (calls.Make dir name kind mode) r false) (sym answer.1) (made-counts s dir name kind mode stamp answer.0 answer.2)
call-counts session stamp (calls.Remove dir name) reply s free answer =
    let e = found-child (get s.tree.nodes dir) (child s.tree dir name) _ free in
    subst (λ o. nodes_of (removed s dir stamp o).tree ≡ counted (nodes_of s.tree) (calls.Remove dir name) reply false) (sym e.1)
    (dropped-counts s dir name stamp e.0 e.1 ∙ sym (ap (λ r. counted (nodes_of s.tree) (calls.Remove dir name) r false) answer))
call-counts session stamp (calls.Rename dir name to_dir to_name) reply s free answer =
    let e = found-child (get s.tree.nodes dir) (child s.tree dir name) _ free in
    let call = calls.Rename dir name to_dir to_name in
    subst (λ o. nodes_of (renamed s dir to_dir to_name stamp o).tree ≡ counted (nodes_of s.tree) call reply (replaces s.tree call)) (sym e.1)
    (moved-counts s dir name to_dir to_name stamp e.0 e.1 ∙ sym (ap (λ r. counted (nodes_of s.tree) call r (replaces s.tree call)) answer))
call-counts session stamp (calls.Lookup dir name) reply s free answer = refl
call-counts session stamp (calls.List dir) reply s free answer = refl
call-counts session stamp (calls.Stat id) reply s free answer = refl
call-counts session stamp (calls.SetMode id mode uid gid) reply s free answer = many-changed s.tree.nodes id (λ n. record n { mode = mode; uid = uid; gid = gid; changed = stamp })
call-counts session stamp (calls.SetSize id size) reply s free answer = many-changed s.tree.nodes id (λ n. record n { size = size; modified = stamp; changed = stamp })
call-counts session stamp (calls.ReadLink id) reply s free answer = refl
call-counts session stamp (calls.AttrWrite id name kind bytes) reply s free answer = many-changed s.tree.nodes id (λ n. record n { attributes = insert n.attributes name (record { code = kind; bytes = bytes }); changed = stamp })
call-counts session stamp (calls.AttrRead id name) reply s free answer = refl
call-counts session stamp (calls.AttrRemove id name) reply s free answer = many-changed s.tree.nodes id (λ n. record n { attributes = remove n.attributes name; changed = stamp })
call-counts session stamp (calls.AttrList id) reply s free answer = refl
call-counts session stamp (calls.IndexMake name kind) reply s free answer = refl
call-counts session stamp (calls.IndexRemove name) reply s free answer = refl
call-counts session stamp calls.IndexList reply s free answer = refl
call-counts session stamp (calls.IndexFind name low high) reply s free answer = refl
call-counts session stamp (calls.Hold id at count writes) reply s free answer = held-counts s (record { session = session; id = id; at = at; length = count; write = writes }) stamp
call-counts session stamp (calls.Release id bytes whole before after) reply s free answer = released-counts s session id bytes whole (last_hold s.holds session id)
call-counts session stamp calls.Sync reply s free answer = refl

stays-counts : (s : State) (e : Entry) (t : State) → t ≡ s → is_done e.reply ≡ false → nodes_of t.tree ≡ counted (nodes_of s.tree) e.call e.reply (replaces s.tree e.call)
stays-counts s e t stays refuses = ap (λ (x : State). nodes_of x.tree) stays ∙ sym (counted_same (nodes_of s.tree) e.call e.reply (replaces s.tree e.call) refuses)

pub step-counts : (s : State) (e : Entry) (t : State) → Step s e t → nodes_of t.tree ≡ counted (nodes_of s.tree) e.call e.reply (replaces s.tree e.call)
step-counts s e t (by_tree (refused is_refused stays)) = stays-counts s e t stays (own-refuses e.call s e.reply is_refused)
step-counts s e t (by_disk fault stays) = stays-counts s e t stays (disk-refuses e.reply fault)
step-counts s e t (no_room free changes want stays) = stays-counts s e t stays (room-refuses e.reply want)
step-counts s e t (by_tree (answered free answer is)) = ap (λ (x : State). nodes_of x.tree) is ∙ call-counts e.session e.stamp e.call e.reply s free answer
