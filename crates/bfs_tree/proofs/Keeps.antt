-- Steps keep a tree plain, call by call.
use Rattle.std.proofs.Common.{◌≡◌, ◌≢◌, ◌⊎◌, inl, inr, ℕ, ℤ, List, [], ◌∷◌, ◌++◌, Option, Some, None, Bool, true, false, cond, length, refl, ap, sym, ◌∙◌, subst, codes, arith, append-nil, append_assoc}
use Rattle.std.specs.Prelude.{nat_lt, not, ◌&&◌, ◌||◌, ◌==◌, if◌then◌else◌}
use Rattle.std.proofs.lemmas.Grind.{fold-append}
use Rattle.std.specs.Option.{option_map, is_some, is_none}
use Rattle.std.specs.Str.{bytes_eq}
use Rattle.std.proofs.lemmas.Slice.Eq.{bytes_eq-Decides}
use Rattle.std.specs.Ordering.{nat_cmp, eq_by_cmp, is_eq}
use Rattle.std.specs.declared.cmp.Ordering.{Ordering}
use Rattle.std.specs.declared.cmp.Ordering.TheVariants.{Less, Equal, Greater}
use Rattle.std.specs.Cmp.{nat_cmp_total}
use Rattle.std.specs.Cmp.Lexicographic.{nat_list_cmp_total}
use Rattle.std.specs.FinMap.{get, insert, remove, entries, len, empty, len-empty, get-insert, get-remove, get-empty, nat_cmp-IsAntisymmetric, slice_cmp-IsAntisymmetric}
use Rattle.bfs_base.specs.Keys.{text_cmp}
use Rattle.bfs_base.specs.declared.kind.KeyKind.{KeyKind}
use Rattle.bfs_base.specs.declared.kind.KeyKind.TheVariants.{Text, I64}
use Rattle.bfs_tree.specs.declared.call.Kind.{Kind}
use Rattle.bfs_tree.specs.declared.call.Kind.TheVariants.{File, Dir, Link}
use Rattle.bfs_tree.specs.declared.call.MakeKind.{MakeKind}
use Rattle.bfs_tree.specs.declared.call.Call.{Call}
use Rattle.bfs_tree.specs.declared.call.Call.TheVariants as calls
use Rattle.bfs_tree.specs.declared.reply.Reply.{Reply}
use Rattle.bfs_tree.specs.declared.reply.Reply.TheVariants as replies
use Rattle.bfs_tree.specs.declared.reply.Entry.{Entry}
use Rattle.bfs_tree.specs.declared.state.Hold.{Hold}
use Rattle.bfs_tree.specs.Names.{is_bad_name, is_bad_target, target_of}
use Rattle.bfs_tree.specs.Trees.{Tree, Node, Nodes, Indices, HasPlainNodes, HasBuiltIn, HasPlainIndices, IsPlain, is_dir, new_node, child}
use Rattle.bfs_tree.specs.States.{State, last_hold, conflict}
use Rattle.bfs_tree.specs.Refusals.{first, at_node, at_child, at_replaced, replaced, is_one_dir, held, refusals, own_refusal, is_inside, is_full, is_built_in, has_children}
use Rattle.bfs_tree.specs.Answers.{IsAnswer}
use Rattle.bfs_tree.specs.Changes.{with_node, changed_at, touched, kind_made, made, without_node, dropped, removed, moved, moved_over, renamed, holding, holding_to_write, released, changed, id_made}
use Rattle.bfs_tree.specs.Steps.{Step, next, refused, answered, by_tree, by_disk, no_room}
use Rattle.bfs_tree.specs.Histories.{Mounted, start, state_after, after, LegalFrom, Legal}
use Rattle.bfs_tree.proofs.Plains.{Shape, Shapes, shape, shapes, seen, shown, Way, way_end, way_up, leads-of, IsDir, Plain, plain-of, of-plain, plain-nodes, put, taken, plain-put, plain-taken, same-or-other, way-back, way-alike}
use Rattle.bfs_tree.proofs.Members.{child-there, child-seat, no-child, no-children}
use Rattle.bfs_tree.proofs.Ways.{inside-below, dir-is}
use Rattle.bfs_tree.proofs.Legals.{legal-prefix}

-- ---- shapes after a change

mapped-cond : (b : Bool) (x y : Option Node) → option_map shape (cond b x y) ≡ cond b (option_map shape x) (option_map shape y)
mapped-cond true x y = refl
mapped-cond false x y = refl

inserted : (nodes : Nodes) (id : ℕ) (n : Node) (q : ℕ) → shapes (insert nodes id n) q ≡ put (shapes nodes) id (shape n) q
inserted nodes id n q = ap (option_map shape) (get-insert nat_cmp_total nodes id n q) ∙ mapped-cond (eq_by_cmp nat_cmp q id) (Some n) (get nodes q)

without : (nodes : Nodes) (id q : ℕ) → shapes (remove nodes id) q ≡ taken (shapes nodes) id q
without nodes id q = ap (option_map shape) (get-remove nat_cmp_total nodes id q) ∙ mapped-cond (eq_by_cmp nat_cmp q id) None (get nodes q)

put-same : (at : Shapes) (id : ℕ) (s : Shape) → at id ≡ Some s → (q : ℕ) → put at id s q ≡ at q
put-same at id s is q =
    elim (eq_by_cmp nat_cmp q id) as (λ b. eq_by_cmp nat_cmp q id ≡ b → cond b (Some s) (at q) ≡ at q) [
      | true ↦ λ tie. let here : q ≡ id = grind (arith, tie) in sym (ap at here ∙ is)
      | false ↦ λ _. refl
    ] refl

-- a change of other fields
same-shapes : (nodes : Nodes) (id : ℕ) (f : Node → Node) → ((n : Node) → shape (f n) ≡ shape n) → (q : ℕ) → shapes (with_node nodes id f) q ≡ shapes nodes q
same-shapes nodes id f keeps q =
    elim (get nodes id) as (λ o. get nodes id ≡ o → shapes (changed_at f o id nodes) q ≡ shapes nodes q) [
      | None ↦ λ _. refl
      | Some n ↦ λ is. inserted nodes id (f n) q ∙ put-same (shapes nodes) id (shape (f n)) (shown nodes id n is ∙ ap Some (sym (keeps n))) q
    ] refl

-- a change of a node that is there
moved-shapes : (nodes : Nodes) (id : ℕ) (n : Node) (f : Node → Node) → get nodes id ≡ Some n → (q : ℕ) → shapes (with_node nodes id f) q ≡ put (shapes nodes) id (shape (f n)) q
moved-shapes nodes id n f is q = ap (λ o. shapes (changed_at f o id nodes) q) is ∙ inserted nodes id (f n) q

abbrev with_nodes_of : Tree → Nodes → Tree
with_nodes_of tree nodes = record tree { nodes = nodes }

keeps-plain : (tree : Tree) (nodes : Nodes) (at : Shapes) → IsPlain tree → Plain tree.root at → ((q : ℕ) → shapes nodes q ≡ at q) → IsPlain (with_nodes_of tree nodes)
keeps-plain tree nodes at p q same = of-plain tree (with_nodes_of tree nodes) p refl (subst (Plain tree.root) (λ i x. sym (same x) i) q)

same-plain : (tree : Tree) (id : ℕ) (f : Node → Node) → ((n : Node) → shape (f n) ≡ shape n) → IsPlain tree → IsPlain (with_nodes_of tree (with_node tree.nodes id f))
same-plain tree id f keeps p = keeps-plain tree (with_node tree.nodes id f) (shapes tree.nodes) p (plain-of tree p.nodes) (same-shapes tree.nodes id f keeps)

-- ---- no own refusal

-- no condition of these holds
abbrev Free : List (Bool × Reply) → Type 0
Free [] = Unit {0}
Free (r ∷ rs) = (r.0 ≡ false) × Free rs

free-of : (rs : List (Bool × Reply)) → first rs ≡ None → Free rs
free-of [] h = tt
free-of ((true, r) ∷ rs) h = cc
free-of ((false, r) ∷ rs) h = (refl, free-of rs h)

node-step : (o : Option Node) (rest : Node → List (Bool × Reply)) → first (at_node o rest) ≡ None → (n : Node) × (o ≡ Some n) × (first (rest n) ≡ None)
node-step None rest h = cc
node-step (Some n) rest h = (n, refl, h)

child-step : (o : Option (ℕ × Node)) (rest : ℕ → Node → List (Bool × Reply)) → first (at_child o rest) ≡ None → (e : ℕ × Node) × (o ≡ Some e) × (first (rest e.0 e.1) ≡ None)
child-step None rest h = cc
child-step (Some e) rest h = (e, refl, h)

past : (b : Bool) (r : Reply) (rs : List (Bool × Reply)) → first ((b, r) ∷ rs) ≡ None → (b ≡ false) × (first rs ≡ None)
past true r rs h = cc
past false r rs h = (refl, h)

not-false : (b : Bool) → not b ≡ false → b ≡ true
not-false true h = refl
not-false false h = cc

not-some : {A : Type 0} (o : Option A) → is_some o ≡ false → o ≡ None
not-some None h = refl
not-some (Some x) h = cc

left-false : (a b : Bool) → (a || b) ≡ false → a ≡ false
left-false true b h = cc
left-false false b h = refl

right-false : (a b : Bool) → (a || b) ≡ false → b ≡ false
right-false true b h = cc
right-false false b h = h

has-name : (name : List ℕ) → is_bad_name name ≡ false → name ≢ []
has-name name good none = let bad : is_bad_name name ≡ true = ap is_bad_name none in cc

-- ---- Make

no-way : (root : ℕ) (at : Shapes) (id : ℕ) → Plain root at → at id ≡ None → (x : ℕ) (t : Shape) → at x ≡ Some t → Way at id x → ⊥
no-way root at id p gone _ t is way_end = cc
no-way root at id p gone _ t is (way_up x u up on) = let d = p.parents x u up in no-way root at id p gone u.parent d.0 d.1 on

abbrev make_rest : State → ℕ → List ℕ → MakeKind → Node → List (Bool × Reply)
make_rest s dir name kind d =
    (not (is_dir d.kind), replies.NotDir) ∷ (is_bad_name name || is_bad_target kind, replies.NameBad) ∷ (nat_lt 1024 (length (target_of kind)), replies.TooBig) ∷ (is_some (child s.tree dir name), replies.Exists) ∷ []

made-plain : (s : State) (dir : ℕ) (name : List ℕ) (kind : MakeKind) (mode : ℕ) (stamp : ℤ) (id : ℕ) → IsPlain s.tree → own_refusal (calls.Make dir name kind mode) s ≡ None → get s.tree.nodes id ≡ None
    → IsPlain (made s dir name kind mode stamp id).tree
made-plain s dir name kind mode stamp id p free gone =
    let nodes = s.tree.nodes in
    let p' = plain-of s.tree p.nodes in
    let node : Node = new_node (kind_made kind) name dir mode (length (target_of kind)) (target_of kind) stamp in
    let d = node-step (get s.tree.nodes dir) (make_rest s dir name kind) free in
    let said = free-of (make_rest s dir name kind d.0) d.2 in
    let unseen : shapes s.tree.nodes id ≡ None = ap (option_map shape) gone in
    let fine : is_bad_name name ≡ false = left-false (is_bad_name name) (is_bad_target kind) said.1.0 in
    let there : shapes s.tree.nodes dir ≡ Some (shape d.0) = shown s.tree.nodes dir d.0 d.1 in
    keeps-plain s.tree (with_node (insert s.tree.nodes id node) dir (touched stamp)) (put (shapes s.tree.nodes) id (shape node)) p
    (plain-put (shapes s.tree.nodes) id (shape node) s.tree.root p' (not_root gone) (λ o is. cc) (shape d.0, there, dir-is d.0.kind (not-false (is_dir d.0.kind) said.0))
    (no-way s.tree.root (shapes s.tree.nodes) id p' unseen dir (shape d.0) there)
    (λ q t is other apart up named. let n = seen (get s.tree.nodes q) t is in no-child s.tree dir name (not-some (child s.tree dir name) said.1.1.1.0) q n.0 n.1 other (ap (λ (u : Shape). u.parent) n.2 ∙ up) (ap (λ (u : Shape). u.name) n.2 ∙ named)) fine
    (has-name name fine))
    (λ q. same-shapes (insert s.tree.nodes id node) dir (touched stamp) (λ n. refl) q ∙ inserted s.tree.nodes id node q)
  where
    not_root : get s.tree.nodes id ≡ None → id ≢ s.tree.root
    not_root gone same = let there = p.nodes.root in let is : get s.tree.nodes id ≡ Some there.0 = ap (get s.tree.nodes) same ∙ there.1 in cc

-- ---- Remove

not-full : (k : Kind) (b : Bool) → (is_dir k && b) ≡ false → k ≡ Dir → b ≡ false
not-full File b h is = cc
not-full Dir b h is = h
not-full Link b h is = cc

-- no node stands in a node that is no full directory
childless : (tree : Tree) (id : ℕ) (node : Node) → HasPlainNodes tree → get tree.nodes id ≡ Some node → is_full tree id node ≡ false → (q : ℕ) (t : Shape) → shapes tree.nodes q ≡ Some t → q ≢ tree.root → t.parent ≢ id
childless tree id node p is_node empty q t is_t other up =
    let n = seen (get tree.nodes q) t is_t in
    let above : n.0.parent ≡ id = ap (λ (u : Shape). u.parent) n.2 ∙ up in
    let d = p.parents q n.0 n.1 in
    let here : get tree.nodes id ≡ Some d.0 = ap (get tree.nodes) (sym above) ∙ d.1 in
    let same : d.0 ≡ node = same_some (get tree.nodes id) d.0 node here is_node in
    let directory : node.kind ≡ Dir = ap (λ (m : Node). m.kind) (sym same) ∙ d.2 in
    no-children tree id (not-full node.kind (has_children tree.root id (entries tree.nodes)) empty directory) q n.0 n.1 other above
  where
    same_some : (o : Option Node) (m n : Node) → o ≡ Some m → o ≡ Some n → m ≡ n
    same_some o m n a b = cc

-- a node that is no full directory may leave the tree
without-plain : (s : State) (id : ℕ) (node : Node) → IsPlain s.tree → get s.tree.nodes id ≡ Some node → id ≢ s.tree.root → is_full s.tree id node ≡ false → IsPlain (without_node s id).tree
without-plain s id node p is other empty =
    keeps-plain s.tree (remove s.tree.nodes id) (taken (shapes s.tree.nodes) id) p
    (plain-taken (shapes s.tree.nodes) id s.tree.root (plain-of s.tree p.nodes) other (childless s.tree id node p.nodes is empty))
    (without s.tree.nodes id)

dropped-plain : (s : State) (dir : ℕ) (name : List ℕ) (stamp : ℤ) (e : ℕ × Node) → IsPlain s.tree → child s.tree dir name ≡ Some e → is_full s.tree e.0 e.1 ≡ false → IsPlain (dropped s dir stamp e.0).tree
dropped-plain s dir name stamp e p is empty =
    let c = child-there s.tree dir name e is in
    same-plain (without_node s e.0).tree dir (touched stamp) (λ n. refl) (without-plain s e.0 e.1 p c.0 c.1 empty)

abbrev remove_rest : State → ℕ → Node → List (Bool × Reply)
remove_rest s id node = (is_full s.tree id node, replies.NotEmpty) ∷ held (conflict s.holds id true)

removed-plain : (s : State) (dir : ℕ) (name : List ℕ) (stamp : ℤ) → IsPlain s.tree → own_refusal (calls.Remove dir name) s ≡ None → IsPlain (removed s dir stamp (child s.tree dir name)).tree
removed-plain s dir name stamp p free =
    let d = node-step (get s.tree.nodes dir) (λ d. (not (is_dir d.kind), replies.NotDir) ∷ at_child (child s.tree dir name) (remove_rest s)) free in
    let e = child-step (child s.tree dir name) (remove_rest s) (past (not (is_dir d.0.kind)) replies.NotDir (at_child (child s.tree dir name) (remove_rest s)) d.2).1 in
    subst (λ o. IsPlain (removed s dir stamp o).tree) (sym e.1) (dropped-plain s dir name stamp e.0 p e.1 (free-of (remove_rest s e.0.0 e.0.1) e.2).0)

-- ---- Rename

-- no way leads through what is no directory
only-dirs : (root : ℕ) (at : Shapes) (id : ℕ) (s : Shape) → Plain root at → at id ≡ Some s → s.kind ≢ Dir → (x : ℕ) → IsDir at x → Way at id x → ⊥
only-dirs root at id s p is other _ d way_end = let same : d.0 ≡ s = same_some (at id) d.0 s d.1 is in other (ap (λ (t : Shape). t.kind) (sym same) ∙ d.2)
  where
    same_some : (o : Option Shape) (m n : Shape) → o ≡ Some m → o ≡ Some n → m ≡ n
    same_some o m n a b = cc
only-dirs root at id s p is other _ d (way_up x u up on) = only-dirs root at id s p is other u.parent (p.parents x u up) on

is-dir-or-not : (k : Kind) → (k ≡ Dir) ⊎ (k ≢ Dir)
is-dir-or-not File = inr (λ e. cc)
is-dir-or-not Dir = inl refl
is-dir-or-not Link = inr (λ e. cc)

abbrev over_rest : State → Node → ℕ → Node → List (Bool × Reply)
over_rest s node there other = (is_one_dir node.kind other.kind, replies.Exists) ∷ (is_full s.tree there other, replies.NotEmpty) ∷ held (conflict s.holds there true)

abbrev rename_rest : State → ℕ → ℕ → Node → List ℕ → Node → List (Bool × Reply)
rename_rest s to_dir id node to_name t =
    (not (is_dir t.kind), replies.NotDir) ∷ (is_bad_name to_name, replies.NameBad) ∷ (is_inside s.tree id node to_dir, replies.Inside) ∷ at_replaced (replaced id (child s.tree to_dir to_name)) (over_rest s node)

abbrev rename_on : State → ℕ → List ℕ → ℕ → Node → List (Bool × Reply)
rename_on s to_dir to_name id node = at_node (get s.tree.nodes to_dir) (rename_rest s to_dir id node to_name)

abbrev moved_to : List ℕ → ℕ → ℤ → Node → Node
moved_to name parent stamp n = record n { name = name; parent = parent; changed = stamp }

put-alike : (at bt : Shapes) (id : ℕ) (s : Shape) → ((q : ℕ) → at q ≡ bt q) → (q : ℕ) → put at id s q ≡ put bt id s q
put-alike at bt id s same q = ap (λ o. cond (eq_by_cmp nat_cmp q id) (Some s) o) (same q)

-- the node may stand in a directory of the tree, which is not below it, under a name that no other node has there
record MayMove (tree : Tree) (to_dir : ℕ) (to_name : List ℕ) (id : ℕ) (n : Node) : Type 0 where
  there : get tree.nodes id ≡ Some n
  below : id ≢ tree.root
  target : IsDir (shapes tree.nodes) to_dir
  outside : Way (shapes tree.nodes) id to_dir → ⊥
  alone : (q : ℕ) (m : Node) → get tree.nodes q ≡ Some m → q ≢ tree.root → q ≢ id → m.parent ≡ to_dir → m.name ≡ to_name → ⊥
  good : is_bad_name to_name ≡ false

-- a node that is found once others were touched has the shape that it had
moved-plain : (s : State) (dir to_dir : ℕ) (to_name : List ℕ) (stamp : ℤ) (id : ℕ) (n : Node) → IsPlain s.tree → MayMove s.tree to_dir to_name id n → IsPlain (moved s dir to_dir to_name stamp id).tree
moved-plain s dir to_dir to_name stamp id n p may =
    let m = seen (get touched_both id) (shape n) (twice id ∙ shown s.tree.nodes id n may.there) in
    let moves : shape (moved_to to_name to_dir stamp m.0) ≡ new_shape = λ i. record { kind = (m.2 i).kind; name = to_name; parent = to_dir } in
    keeps-plain s.tree (with_node touched_both id (moved_to to_name to_dir stamp)) (put (shapes s.tree.nodes) id new_shape) p
    (plain-put (shapes s.tree.nodes) id new_shape s.tree.root (plain-of s.tree p.nodes) may.below keeps may.target may.outside
    (λ q u is other apart up named. let m = seen (get s.tree.nodes q) u is in may.alone q m.0 m.1 other apart (ap (λ (v : Shape). v.parent) m.2 ∙ up) (ap (λ (v : Shape). v.name) m.2 ∙ named))
    may.good (has-name to_name may.good))
    (λ q. moved-shapes touched_both id m.0 (moved_to to_name to_dir stamp) m.1 q ∙ ap (λ (v : Shape). put (shapes touched_both) id v q) moves ∙ put-alike (shapes touched_both) (shapes s.tree.nodes) id new_shape twice q)
  where
    touched_both : Nodes
    touched_both = with_node (with_node s.tree.nodes dir (touched stamp)) to_dir (touched stamp)

    new_shape : Shape
    new_shape = record { kind = n.kind; name = to_name; parent = to_dir }

    twice : (q : ℕ) → shapes touched_both q ≡ shapes s.tree.nodes q
    twice q = same-shapes (with_node s.tree.nodes dir (touched stamp)) to_dir (touched stamp) (λ n. refl) q ∙ same-shapes s.tree.nodes dir (touched stamp) (λ n. refl) q

    keeps : (o : Shape) → shapes s.tree.nodes id ≡ Some o → o.kind ≡ n.kind
    keeps o seen_o = let seen_n : shapes s.tree.nodes id ≡ Some (shape n) = shown s.tree.nodes id n may.there in let same : o ≡ shape n = cc in ap (λ (v : Shape). v.kind) same

-- what the refusals leave: a node and a directory that is not below it
record MayGo (tree : Tree) (to_dir : ℕ) (id : ℕ) (n t : Node) : Type 0 where
  node : get tree.nodes id ≡ Some n
  below : id ≢ tree.root
  to_there : get tree.nodes to_dir ≡ Some t
  target : t.kind ≡ Dir
  outside : is_inside tree id n to_dir ≡ false

no-way-in : (tree : Tree) (to_dir id : ℕ) (n t : Node) → HasPlainNodes tree → MayGo tree to_dir id n t → Way (shapes tree.nodes) id to_dir → ⊥
no-way-in tree to_dir id n t p may way = elim (is-dir-or-not n.kind) as (λ _. ⊥) [
  | inl directory ↦ let inside : is_inside tree id n to_dir ≡ true = (inside-below tree id to_dir n).1 (directory, leads-of tree id to_dir way) in let apart : is_inside tree id n to_dir ≡ false = may.outside in cc
  | inr other ↦ only-dirs tree.root (shapes tree.nodes) id (shape n) (plain-of tree p) (shown tree.nodes id n may.node) other to_dir (shape t, shown tree.nodes to_dir t may.to_there, may.target) way
]

-- no node has the name
fresh-plain : (s : State) (dir to_dir : ℕ) (to_name : List ℕ) (stamp : ℤ) (id : ℕ) (n t : Node) → IsPlain s.tree → MayGo s.tree to_dir id n t → is_bad_name to_name ≡ false → child s.tree to_dir to_name ≡ None
    → IsPlain (moved s dir to_dir to_name stamp id).tree
fresh-plain s dir to_dir to_name stamp id n t p may good none = moved-plain s dir to_dir to_name stamp id n p (record {
  there = may.node;
  below = may.below;
  target = (shape t, shown s.tree.nodes to_dir t may.to_there, may.target);
  outside = no-way-in s.tree to_dir id n t p.nodes may;
  alone = λ q m is other apart up named. no-child s.tree to_dir to_name none q m is other up named;
  good = good;
})

-- another node has the name, and leaves the tree
over-plain : (s : State) (dir to_dir : ℕ) (to_name : List ℕ) (stamp : ℤ) (id : ℕ) (n t : Node) (e : ℕ × Node) → IsPlain s.tree → MayGo s.tree to_dir id n t → is_bad_name to_name ≡ false → child s.tree to_dir to_name ≡ Some e
    → e.0 ≢ id → is_full s.tree e.0 e.1 ≡ false → IsPlain (moved (without_node s e.0) dir to_dir to_name stamp id).tree
over-plain s dir to_dir to_name stamp id n t e p may good is_child apart empty =
    let c = child-there s.tree to_dir to_name e is_child in
    let seat = child-seat s.tree to_dir to_name e is_child in
    let p' = without-plain s e.0 e.1 p c.0 c.1 empty in
    moved-plain (without_node s e.0) dir to_dir to_name stamp id n p' (record {
      there = still id n (λ h. apart (sym h)) may.node;
      below = may.below;
      target = (shape t, shown (remove s.tree.nodes e.0) to_dir t (still to_dir t (not-there c.0 c.1 seat.0) may.to_there), may.target);
      outside = λ way. no-way-in s.tree to_dir id n t p.nodes may (way-back (shapes s.tree.nodes) e.0 id to_dir (way-alike (shapes (remove s.tree.nodes e.0)) (taken (shapes s.tree.nodes) e.0) (without s.tree.nodes e.0) id to_dir way));
      alone = λ q m is other _ up named. let old = was q m is in old.0 (p.nodes.apart q e.0 m e.1 old.1 c.0 (up ∙ sym seat.0) (named ∙ sym seat.1));
      good = good;
    })
  where
    still : (q : ℕ) (m : Node) → q ≢ e.0 → get s.tree.nodes q ≡ Some m → get (remove s.tree.nodes e.0) q ≡ Some m
    still q m other is = get-remove nat_cmp_total s.tree.nodes e.0 q ∙ elim (same-or-other q e.0) as (λ _. cond (eq_by_cmp nat_cmp q e.0) None (get s.tree.nodes q) ≡ Some m) [
      | inl here ↦ absurd (other here.0)
      | inr away ↦ ap (λ b. cond b None (get s.tree.nodes q)) away.1 ∙ is
    ]

    was : (q : ℕ) (m : Node) → get (remove s.tree.nodes e.0) q ≡ Some m → (q ≢ e.0) × (get s.tree.nodes q ≡ Some m)
    was q m is = elim (same-or-other q e.0) as (λ _. (q ≢ e.0) × (get s.tree.nodes q ≡ Some m)) [
      | inl here ↦ let gone : get (remove s.tree.nodes e.0) q ≡ None = get-remove nat_cmp_total s.tree.nodes e.0 q ∙ ap (λ b. cond b None (get s.tree.nodes q)) here.1 in cc
      | inr away ↦ (away.0, ap (λ b. cond b None (get s.tree.nodes q)) (sym away.1) ∙ sym (get-remove nat_cmp_total s.tree.nodes e.0 q) ∙ is)
    ]

    not-there : get s.tree.nodes e.0 ≡ Some e.1 → e.0 ≢ s.tree.root → e.1.parent ≡ to_dir → to_dir ≢ e.0
    not-there is other up same = childless s.tree e.0 e.1 p.nodes is empty e.0 (shape e.1) (shown s.tree.nodes e.0 e.1 is) other (up ∙ same)

replaced-none : (id : ℕ) (o : Option (ℕ × Node)) (e : ℕ × Node) → o ≡ Some e → (e.0 == id) ≡ false → replaced id o ≡ Some e
replaced-none id o e is other = ap (replaced id) is ∙ ap (λ b. if b then None else Some e) other

apart-of : (a b : ℕ) → (a == b) ≡ false → a ≢ b
apart-of a b e same = grind (arith, e, same)

over : (s : State) (dir to_dir : ℕ) (to_name : List ℕ) (stamp : ℤ) (id : ℕ) (n t : Node) → IsPlain s.tree → MayGo s.tree to_dir id n t → is_bad_name to_name ≡ false
    → first (at_replaced (replaced id (child s.tree to_dir to_name)) (over_rest s n)) ≡ None → IsPlain (moved_over s dir to_dir to_name stamp id (child s.tree to_dir to_name)).tree
over s dir to_dir to_name stamp id n t p may good free =
    elim (child s.tree to_dir to_name) as (λ o. child s.tree to_dir to_name ≡ o → IsPlain (moved_over s dir to_dir to_name stamp id o).tree) [
      | None ↦ λ none. fresh-plain s dir to_dir to_name stamp id n t p may good none
      | Some e ↦ λ is.
          elim (e.0 == id) as (λ b. (e.0 == id) ≡ b → IsPlain (if b then s else moved (without_node s e.0) dir to_dir to_name stamp id).tree) [
            | true ↦ λ _. p
            | false ↦ λ other.
                let said = free-of (over_rest s n e.0 e.1) (subst (λ o. first (at_replaced o (over_rest s n)) ≡ None) (replaced-none id (child s.tree to_dir to_name) e is other) free) in
                over-plain s dir to_dir to_name stamp id n t e p may good is (apart-of e.0 id other) said.1.0
          ] refl
    ] refl

renamed-plain : (s : State) (dir : ℕ) (name : List ℕ) (to_dir : ℕ) (to_name : List ℕ) (stamp : ℤ) → IsPlain s.tree → own_refusal (calls.Rename dir name to_dir to_name) s ≡ None
    → IsPlain (renamed s dir to_dir to_name stamp (child s.tree dir name)).tree
renamed-plain s dir name to_dir to_name stamp p free =
    let d = node-step (get s.tree.nodes dir) (λ d. (not (is_dir d.kind), replies.NotDir) ∷ at_child (child s.tree dir name) (rename_on s to_dir to_name)) free in
    let e = child-step (child s.tree dir name) (rename_on s to_dir to_name) (past (not (is_dir d.0.kind)) replies.NotDir (at_child (child s.tree dir name) (rename_on s to_dir to_name)) d.2).1 in
    let t = node-step (get s.tree.nodes to_dir) (rename_rest s to_dir e.0.0 e.0.1 to_name) e.2 in
    let said = first-three (not (is_dir t.0.kind)) (is_bad_name to_name) (is_inside s.tree e.0.0 e.0.1 to_dir) (at_replaced (replaced e.0.0 (child s.tree to_dir to_name)) (over_rest s e.0.1)) t.2 in
    let c = child-there s.tree dir name e.0 e.1 in
    subst (λ o. IsPlain (renamed s dir to_dir to_name stamp o).tree) (sym e.1) (over s dir to_dir to_name stamp e.0.0 e.0.1 t.0 p (record {
      node = c.0;
      below = c.1;
      to_there = t.1;
      target = dir-is t.0.kind (not-false (is_dir t.0.kind) said.0);
      outside = said.2;
    }) said.1 said.3)
  where
    first-three : (a b c : Bool) (rs : List (Bool × Reply)) → first ((a, replies.NotDir) ∷ (b, replies.NameBad) ∷ (c, replies.Inside) ∷ rs) ≡ None → (a ≡ false) × (b ≡ false) × (c ≡ false) × (first rs ≡ None)
    first-three true b c rs h = cc
    first-three false true c rs h = cc
    first-three false false true rs h = cc
    first-three false false false rs h = (refl, refl, refl, h)

-- ---- the calls on indices

text-same : (k name : List ℕ) → eq_by_cmp text_cmp k name ≡ true → k ≡ name
text-same k name e = slice_cmp-IsAntisymmetric nat_cmp-IsAntisymmetric k name (equal (text_cmp k name) e)
  where
    equal : (o : Ordering) → is_eq o ≡ true → o ≡ Equal
    equal Less h = cc
    equal Equal h = refl
    equal Greater h = cc

still-there : (indices : Indices) (name k : List ℕ) (kind x : KeyKind) → get indices name ≡ None → get indices k ≡ Some x → get (insert indices name kind) k ≡ Some x
still-there indices name k kind x gone is =
    get-insert nat_list_cmp_total indices name kind k
    ∙ elim (eq_by_cmp text_cmp k name) as (λ b. eq_by_cmp text_cmp k name ≡ b → cond b (Some kind) (get indices k) ≡ Some x) [
      | true ↦ λ tie. let here : get indices k ≡ get indices name = ap (get indices) (text-same k name tie) in cc
      | false ↦ λ _. is
    ] refl

still-left : (indices : Indices) (name k : List ℕ) (x : KeyKind) → bytes_eq k name ≡ false → get indices k ≡ Some x → get (remove indices name) k ≡ Some x
still-left indices name k x apart is =
    get-remove nat_list_cmp_total indices name k
    ∙ elim (eq_by_cmp text_cmp k name) as (λ b. eq_by_cmp text_cmp k name ≡ b → cond b None (get indices k) ≡ Some x) [
      | true ↦ λ tie. let same : bytes_eq k name ≡ true = (bytes_eq-Decides k name).1 (text-same k name tie) in cc
      | false ↦ λ _. is
    ] refl

other-way : (k name : List ℕ) → bytes_eq name k ≡ false → bytes_eq k name ≡ false
other-way k name e =
    elim (bytes_eq k name) as (λ b. bytes_eq k name ≡ b → b ≡ false) [
      | true ↦ λ is. let back : bytes_eq name k ≡ true = (bytes_eq-Decides name k).1 (sym ((bytes_eq-Decides k name).0 is)) in cc
      | false ↦ λ _. refl
    ] refl

-- the built-in indices stay where another index is made or removed
built-in-made : (indices : Indices) (name : List ℕ) (kind : KeyKind) → get indices name ≡ None → HasBuiltIn indices → HasBuiltIn (insert indices name kind)
built-in-made indices name kind gone has = record {
  by_name = still-there indices name (codes "name") kind Text gone has.by_name;
  by_size = still-there indices name (codes "size") kind I64 gone has.by_size;
  by_time = still-there indices name (codes "last_modified") kind I64 gone has.by_time;
}

built-in-left : (indices : Indices) (name : List ℕ) → is_built_in name ≡ false → HasBuiltIn indices → HasBuiltIn (remove indices name)
built-in-left indices name own has =
    let first_two = left-false (bytes_eq name (codes "name") || bytes_eq name (codes "size")) (bytes_eq name (codes "last_modified")) own in
    record {
      by_name = still-left indices name (codes "name") Text (other-way (codes "name") name (left-false (bytes_eq name (codes "name")) (bytes_eq name (codes "size")) first_two)) has.by_name;
      by_size = still-left indices name (codes "size") I64 (other-way (codes "size") name (right-false (bytes_eq name (codes "name")) (bytes_eq name (codes "size")) first_two)) has.by_size;
      by_time = still-left indices name (codes "last_modified") I64 (other-way (codes "last_modified") name (right-false (bytes_eq name (codes "name") || bytes_eq name (codes "size")) (bytes_eq name (codes "last_modified")) own)) has.by_time;
    }

-- what a change of the indices keeps: the built-in ones, and that there is none
abbrev Keeps : Indices → Indices → Type 0
Keeps old new = (HasBuiltIn old → HasBuiltIn new) × (old ≡ empty → new ≡ empty)

keeps-same : (old : Indices) → Keeps old old
keeps-same old = (λ h. h, λ e. e)

none-made : (n : ℕ) → n ≡ 0 → (n == 0) ≡ false → ⊥
none-made n e h = grind (arith, e, h)

length-of-none : (indices : Indices) → indices ≡ empty → len indices ≡ 0
length-of-none indices e = ap len e ∙ len-empty text_cmp KeyKind

index-made : (s : State) (name : List ℕ) (kind : KeyKind) → own_refusal (calls.IndexMake name kind) s ≡ None → Keeps s.tree.indices (insert s.tree.indices name kind)
index-made s name kind free =
    let said = free-of (refusals (calls.IndexMake name kind) s) free in (
      built-in-made s.tree.indices name kind (not-some (get s.tree.indices name) said.1.0),
      λ e. absurd (none-made (len s.tree.indices) (length-of-none s.tree.indices e) said.0),
    )

index-removed : (s : State) (name : List ℕ) → own_refusal (calls.IndexRemove name) s ≡ None → Keeps s.tree.indices (remove s.tree.indices name)
index-removed s name free =
    let said = free-of (refusals (calls.IndexRemove name) s) free in (
      built-in-left s.tree.indices name said.1.0,
      λ e. absurd (not-none (get s.tree.indices name) said.0 (ap (λ (m : Indices). get m name) e ∙ get-empty text_cmp name)),
    )
  where
    not-none : (o : Option KeyKind) → is_none o ≡ false → o ≡ None → ⊥
    not-none None h e = cc
    not-none (Some k) h e = cc

keeps-indices : (old new : Indices) → Keeps old new → HasPlainIndices old → HasPlainIndices new
keeps-indices old new keeps (inl e) = inl (keeps.1 e)
keeps-indices old new keeps (inr has) = inr (keeps.0 has)

with-indices : (tree : Tree) (indices : Indices) → IsPlain tree → Keeps tree.indices indices → IsPlain (record tree { indices = indices })
with-indices tree indices p keeps = record { nodes = plain-nodes (record tree { indices = indices }) (plain-of tree p.nodes); indices = keeps-indices tree.indices indices keeps p.indices }

-- ---- every call

held-plain : (s : State) (hold : Hold) (stamp : ℤ) → IsPlain s.tree → IsPlain (holding s hold stamp).tree
held-plain s hold stamp p =
    elim hold.write as (λ b. IsPlain (if b then holding_to_write s hold stamp else record s { holds = s.holds ++ hold ∷ [] }).tree) [
      | true ↦ same-plain s.tree hold.id (λ n. record n { modified = stamp; changed = stamp }) (λ n. refl) p
      | false ↦ p
    ]

released-plain : (s : State) (session id : ℕ) (bytes : List ℕ) (whole : Bool) (o : Option Hold) → IsPlain s.tree → IsPlain (released s session id bytes whole o).tree
released-plain s session id bytes whole None p = p
released-plain s session id bytes whole (Some hold) p = p

call-keeps : (session : ℕ) (stamp : ℤ) (call : Call) (reply : Reply) (s : State) → IsPlain s.tree → own_refusal call s ≡ None → IsAnswer session call s reply → IsPlain (changed session stamp call reply s).tree
call-keeps session stamp (calls.Make dir name kind mode) reply s p free answer =
    subst (λ id. IsPlain (made s dir name kind mode stamp id).tree) (sym (ap id_made answer.1)) (made-plain s dir name kind mode stamp answer.0 p free answer.2)
call-keeps session stamp (calls.Remove dir name) reply s p free answer = removed-plain s dir name stamp p free
call-keeps session stamp (calls.Rename dir name to_dir to_name) reply s p free answer = renamed-plain s dir name to_dir to_name stamp p free
call-keeps session stamp (calls.Lookup dir name) reply s p free answer = p
call-keeps session stamp (calls.List dir) reply s p free answer = p
call-keeps session stamp (calls.Stat id) reply s p free answer = p
call-keeps session stamp (calls.SetMode id mode uid gid) reply s p free answer = same-plain s.tree id (λ n. record n { mode = mode; uid = uid; gid = gid; changed = stamp }) (λ n. refl) p
call-keeps session stamp (calls.SetSize id size) reply s p free answer = same-plain s.tree id (λ n. record n { size = size; modified = stamp; changed = stamp }) (λ n. refl) p
call-keeps session stamp (calls.ReadLink id) reply s p free answer = p
call-keeps session stamp (calls.AttrWrite id name kind bytes) reply s p free answer =
    same-plain s.tree id (λ n. record n { attributes = insert n.attributes name (record { code = kind; bytes = bytes }); changed = stamp }) (λ n. refl) p
call-keeps session stamp (calls.AttrRead id name) reply s p free answer = p
call-keeps session stamp (calls.AttrRemove id name) reply s p free answer = same-plain s.tree id (λ n. record n { attributes = remove n.attributes name; changed = stamp }) (λ n. refl) p
call-keeps session stamp (calls.AttrList id) reply s p free answer = p
call-keeps session stamp (calls.IndexMake name kind) reply s p free answer = with-indices s.tree (insert s.tree.indices name kind) p (index-made s name kind free)
call-keeps session stamp (calls.IndexRemove name) reply s p free answer = with-indices s.tree (remove s.tree.indices name) p (index-removed s name free)
call-keeps session stamp calls.IndexList reply s p free answer = p
call-keeps session stamp (calls.IndexFind name low high) reply s p free answer = p
call-keeps session stamp (calls.Hold id at count writes) reply s p free answer = held-plain s (record { session = session; id = id; at = at; length = count; write = writes }) stamp p
call-keeps session stamp (calls.Release id bytes whole before after) reply s p free answer = released-plain s session id bytes whole (last_hold s.holds session id) p
call-keeps session stamp calls.Sync reply s p free answer = p

pub step-keeps : (old new : State) (entry : Entry) → IsPlain old.tree → Step old entry new → IsPlain new.tree
step-keeps old new e p (by_tree (refused is_refused stays)) = subst (λ (s : State). IsPlain s.tree) (sym stays) p
step-keeps old new e p (by_disk fault stays) = subst (λ (s : State). IsPlain s.tree) (sym stays) p
step-keeps old new e p (no_room free changes want stays) = subst (λ (s : State). IsPlain s.tree) (sym stays) p
step-keeps old new e p (by_tree (answered free answer is)) = subst (λ (s : State). IsPlain s.tree) (sym is) (call-keeps e.session e.stamp e.call e.reply old p free answer)

from-keeps : (t0 : Mounted) (before es : List Entry) → IsPlain (after t0 before) → LegalFrom t0 before es → IsPlain (after t0 (before ++ es))
from-keeps t0 before [] p legal = subst (λ h. IsPlain (after t0 h)) (sym (append-nil before)) p
from-keeps t0 before (e ∷ es) p legal =
    let step : Step (state_after t0 before) e (next (state_after t0 before) e) = legal.0.step in
    let one : state_after t0 (before ++ e ∷ []) ≡ next (state_after t0 before) e = fold-append next (start t0) before (e ∷ []) in
    let kept : IsPlain (after t0 (before ++ e ∷ [])) = subst (λ (s : State). IsPlain s.tree) (sym one) (step-keeps (state_after t0 before) (next (state_after t0 before) e) e p step) in
    subst (λ h. IsPlain (after t0 h)) (append_assoc before (e ∷ []) es) (from-keeps t0 (before ++ e ∷ []) es kept legal.1)

pub history-keeps : (t0 : Mounted) (history more : List Entry) → IsPlain t0.tree → Legal t0 (history ++ more) → IsPlain (after t0 history)
history-keeps t0 history more p legal = from-keeps t0 [] history p (legal-prefix t0 [] history more legal)

-- ---- the indices after a step

made-over : (s : State) (dir to_dir : ℕ) (to_name : List ℕ) (stamp : ℤ) (id : ℕ) (o : Option (ℕ × Node)) → (moved_over s dir to_dir to_name stamp id o).tree.indices ≡ s.tree.indices
made-over s dir to_dir to_name stamp id None = refl
made-over s dir to_dir to_name stamp id (Some e) = elim (e.0 == id) as (λ b. (if b then s else moved (without_node s e.0) dir to_dir to_name stamp id).tree.indices ≡ s.tree.indices) [ true ↦ refl | false ↦ refl ]

same-indices-renamed : (s : State) (dir to_dir : ℕ) (to_name : List ℕ) (stamp : ℤ) (o : Option (ℕ × Node)) → (renamed s dir to_dir to_name stamp o).tree.indices ≡ s.tree.indices
same-indices-renamed s dir to_dir to_name stamp None = refl
same-indices-renamed s dir to_dir to_name stamp (Some e) = made-over s dir to_dir to_name stamp e.0 (child s.tree to_dir to_name)

same-indices-removed : (s : State) (dir : ℕ) (stamp : ℤ) (o : Option (ℕ × Node)) → (removed s dir stamp o).tree.indices ≡ s.tree.indices
same-indices-removed s dir stamp None = refl
same-indices-removed s dir stamp (Some e) = refl

same-indices-holding : (s : State) (hold : Hold) (stamp : ℤ) → (holding s hold stamp).tree.indices ≡ s.tree.indices
same-indices-holding s hold stamp = elim hold.write as (λ b. (if b then holding_to_write s hold stamp else record s { holds = s.holds ++ hold ∷ [] }).tree.indices ≡ s.tree.indices) [ true ↦ refl | false ↦ refl ]

same-indices-released : (s : State) (session id : ℕ) (bytes : List ℕ) (whole : Bool) (o : Option Hold) → (released s session id bytes whole o).tree.indices ≡ s.tree.indices
same-indices-released s session id bytes whole None = refl
same-indices-released s session id bytes whole (Some hold) = refl

keeps-all : (old new : Indices) → new ≡ old → Keeps old new
keeps-all old new same = (λ h. subst HasBuiltIn (sym same) h, λ e. same ∙ e)

call-keeps-indices : (session : ℕ) (stamp : ℤ) (call : Call) (reply : Reply) (s : State) → own_refusal call s ≡ None → Keeps s.tree.indices (changed session stamp call reply s).tree.indices
call-keeps-indices session stamp (calls.Make dir name kind mode) reply s free = keeps-same s.tree.indices
call-keeps-indices session stamp (calls.Remove dir name) reply s free = keeps-all s.tree.indices _ (same-indices-removed s dir stamp (child s.tree dir name))
call-keeps-indices session stamp (calls.Rename dir name to_dir to_name) reply s free = keeps-all s.tree.indices _ (same-indices-renamed s dir to_dir to_name stamp (child s.tree dir name))
call-keeps-indices session stamp (calls.Lookup dir name) reply s free = keeps-same s.tree.indices
call-keeps-indices session stamp (calls.List dir) reply s free = keeps-same s.tree.indices
call-keeps-indices session stamp (calls.Stat id) reply s free = keeps-same s.tree.indices
call-keeps-indices session stamp (calls.SetMode id mode uid gid) reply s free = keeps-same s.tree.indices
call-keeps-indices session stamp (calls.SetSize id size) reply s free = keeps-same s.tree.indices
call-keeps-indices session stamp (calls.ReadLink id) reply s free = keeps-same s.tree.indices
call-keeps-indices session stamp (calls.AttrWrite id name kind bytes) reply s free = keeps-same s.tree.indices
call-keeps-indices session stamp (calls.AttrRead id name) reply s free = keeps-same s.tree.indices
call-keeps-indices session stamp (calls.AttrRemove id name) reply s free = keeps-same s.tree.indices
call-keeps-indices session stamp (calls.AttrList id) reply s free = keeps-same s.tree.indices
call-keeps-indices session stamp (calls.IndexMake name kind) reply s free = index-made s name kind free
call-keeps-indices session stamp (calls.IndexRemove name) reply s free = index-removed s name free
call-keeps-indices session stamp calls.IndexList reply s free = keeps-same s.tree.indices
call-keeps-indices session stamp (calls.IndexFind name low high) reply s free = keeps-same s.tree.indices
call-keeps-indices session stamp (calls.Hold id at count writes) reply s free = keeps-all s.tree.indices _ (same-indices-holding s (record { session = session; id = id; at = at; length = count; write = writes }) stamp)
call-keeps-indices session stamp (calls.Release id bytes whole before after) reply s free = keeps-all s.tree.indices _ (same-indices-released s session id bytes whole (last_hold s.holds session id))
call-keeps-indices session stamp calls.Sync reply s free = keeps-same s.tree.indices

stays-keeps : (old new : State) → new ≡ old → Keeps old.tree.indices new.tree.indices
stays-keeps old new same = keeps-all old.tree.indices new.tree.indices (ap (λ (s : State). s.tree.indices) same)

pub step-keeps-indices : (old new : State) (entry : Entry) → Step old entry new → Keeps old.tree.indices new.tree.indices
step-keeps-indices old new e (by_tree (refused is_refused stays)) = stays-keeps old new stays
step-keeps-indices old new e (by_disk fault stays) = stays-keeps old new stays
step-keeps-indices old new e (no_room free changes want stays) = stays-keeps old new stays
step-keeps-indices old new e (by_tree (answered free answer is)) = subst (λ (s : State). Keeps old.tree.indices s.tree.indices) (sym is) (call-keeps-indices e.session e.stamp e.call e.reply old free)
