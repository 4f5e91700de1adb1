-- A node is made.
use Rattle.std.proofs.Common.{◌≡◌, ◌≢◌, ◌⊎◌, inl, inr, ℕ, ℤ, pos, List, length, refl, sym, ap, ◌∙◌, arith, Bool, true, false, cond, Option, Some, None, codes}
use Rattle.std.specs.Option.{option_map, option_and_then}
use Rattle.std.proofs.lemmas.Grind.{common_steps}
use Rattle.std.specs.Ordering.{nat_cmp, eq_by_cmp}
use Rattle.std.specs.Cmp.{nat_cmp_total}
use Rattle.std.specs.FinMap.{get, insert, remove, get-insert, get-remove}
use Rattle.bfs_base.specs.declared.kind.KeyKind.{KeyKind}
use Rattle.bfs_base.specs.declared.kind.KeyKind.TheVariants.{Text}
use Rattle.bfs_node.specs.Page.{Row}
use Rattle.bfs_pages.specs.Maps.{assoc, put}
use Rattle.bfs_pages.specs.Order.{same_keys}
use Rattle.bfs_tree.specs.declared.call.Kind.{Kind}
use Rattle.bfs_tree.specs.declared.call.Kind.TheVariants.{Dir}
use Rattle.bfs_tree.specs.declared.call.MakeKind.{MakeKind}
use Rattle.bfs_tree.specs.Changes.{changed_at, touched, kind_made, made}
use Rattle.bfs_tree.specs.Listings.{key_in, key_at, listed, with_key, without_id}
use Rattle.bfs_tree.specs.Names.{target_of}
use Rattle.bfs_tree.specs.States.{State}
use Rattle.bfs_tree.specs.Trees.{Node, Nodes, Tree, IsNode, HasPlainNodes, new_node, is_file}
use Rattle.bfs_tree.proofs.ListMoves.{listed-stays, listed-taken, key-depends-on}
use Rattle.bfs_maps.specs.Laws.{DiffersAt}
use Rattle.bfs_maps.proofs.MapLaws.{put_differs}
use Rattle.bfs_shift.specs.Lists.{Lists, Agrees}
use Rattle.bfs_shift.specs.Seats.{seat, seat_at, had, ChangesSeat, StandsAt, RowsFollow, PairsFollow}
use Rattle.bfs_shift.specs.TreeLaws.{first_rows, GainsNode}
use Rattle.bfs_shift.proofs.OneIndex.{same_name}
use Rattle.bfs_shift.proofs.Renewed.{same_id}
use Rattle.bfs_shift.proofs.Leaves.{taken_none}
use Rattle.bfs_shift.proofs.Following.{same_or_not, named_or_not, agrees_follows}

tie : (q : ℕ) → eq_by_cmp nat_cmp q q ≡ true
tie q = grind (arith, common_steps)

no_tie : (q k : ℕ) → q ≢ k → eq_by_cmp nat_cmp q k ≡ false
no_tie q k apart = by_test (eq_by_cmp nat_cmp q k) refl
  where
    by_test : (t : Bool) → eq_by_cmp nat_cmp q k ≡ t → eq_by_cmp nat_cmp q k ≡ false
    by_test true e = absurd (apart (same_id q k e))
    by_test false e = e

pub put_here : (nodes : Nodes) (id : ℕ) (n : Node) → get (insert nodes id n) id ≡ Some n
put_here nodes id n = get-insert nat_cmp_total nodes id n id ∙ ap (λ b. cond b (Some n) (get nodes id)) (tie id)

pub put_other : (nodes : Nodes) (id : ℕ) (n : Node) (q : ℕ) → q ≢ id → get (insert nodes id n) q ≡ get nodes q
put_other nodes id n q apart = get-insert nat_cmp_total nodes id n q ∙ ap (λ b. cond b (Some n) (get nodes q)) (no_tie q id apart)

pub taken_other : (nodes : Nodes) (id q : ℕ) → q ≢ id → get (remove nodes id) q ≡ get nodes q
taken_other nodes id q apart = get-remove nat_cmp_total nodes id q ∙ ap (λ b. cond b None (get nodes q)) (no_tie q id apart)

pub names_apart : (a b : List ℕ) → a ≢ b → same_keys Text a b ≡ false
names_apart a b apart = by_test (same_keys Text a b) refl
  where
    by_test : (t : Bool) → same_keys Text a b ≡ t → same_keys Text a b ≡ false
    by_test true e = absurd (apart (same_name a b e))
    by_test false e = e

dir_no_file : (k : Kind) → k ≡ Dir → is_file k ≡ true → ⊥
dir_no_file k dir e = let bad : false ≡ true = ap is_file (sym dir) ∙ e in cc

-- a directory that was touched has the keys that it had
pub touched_key : (root : ℕ) (index : List ℕ) (kind : KeyKind) (id : ℕ) (d : Node) (stamp : ℤ) → d.kind ≡ Dir → key_in root index kind id (touched stamp d) ≡ key_in root index kind id d
touched_key root index kind id d stamp dir = key-depends-on root index kind id (touched stamp d) d refl refl refl (λ file. absurd (dir_no_file d.kind dir file)) refl

-- no pair of a list is one of a node that isn't there
pub none_listed : (tree : Tree) (index : List ℕ) (kind : KeyKind) (id : ℕ) → get tree.nodes id ≡ None → without_id id (listed tree index kind) ≡ listed tree index kind
none_listed tree index kind id absent = sym (listed-taken tree index kind id) ∙ listed-stays tree (record tree { nodes = remove tree.nodes id }) index kind (λ q. at q (same_or_not q id))
  where
    at : (q : ℕ) → (q ≡ id) ⊎ (q ≢ id) → option_and_then (key_in tree.root index kind q) (get (remove tree.nodes id) q) ≡ option_and_then (key_in tree.root index kind q) (get tree.nodes q)
    at q (inl same) = ap (option_and_then (key_in tree.root index kind q)) (ap (get (remove tree.nodes id)) same ∙ taken_none tree.nodes id ∙ sym absent ∙ ap (get tree.nodes) (sym same))
    at q (inr apart) = ap (option_and_then (key_in tree.root index kind q)) (taken_other tree.nodes id q apart)

-- the directory of a node that came or went was touched
module _ (tree : Tree) (nodes : Nodes) (dir : ℕ) (d : Node) (stamp : ℤ) (is : IsNode tree dir d) (is_dir : d.kind ≡ Dir) (e : ℕ) (apart : dir ≢ e) (same : (q : ℕ) → q ≢ e → get nodes q ≡ get tree.nodes q) where
  abbrev after : Tree
  after = record tree { nodes = changed_at (touched stamp) (get nodes dir) dir nodes }

  after_is : changed_at (touched stamp) (get nodes dir) dir nodes ≡ insert nodes dir (touched stamp d)
  after_is = ap (λ (o : Option Node). changed_at (touched stamp) o dir nodes) (same dir apart ∙ is)

  pub one_is : get after.nodes e ≡ get nodes e
  one_is = ap (λ (m : Nodes). get m e) after_is ∙ put_other nodes dir (touched stamp d) e (λ x. apart (sym x))

  dir_now : get after.nodes dir ≡ Some (touched stamp d)
  dir_now = ap (λ (m : Nodes). get m dir) after_is ∙ put_here nodes dir (touched stamp d)

  other_now : (q : ℕ) → q ≢ e → q ≢ dir → get after.nodes q ≡ get tree.nodes q
  other_now q one two = ap (λ (m : Nodes). get m q) after_is ∙ put_other nodes dir (touched stamp d) q two ∙ same q one

  pub seats_stay : (q : ℕ) → q ≢ e → seat_at after q ≡ seat_at tree q
  seats_stay q one = by_id (same_or_not q dir)
    where
      by_id : (q ≡ dir) ⊎ (q ≢ dir) → seat_at after q ≡ seat_at tree q
      by_id (inr two) = ap (option_map seat) (other_now q one two)
      by_id (inl here) = ap (seat_at after) here ∙ ap (option_map seat) dir_now ∙ ap (option_map seat) (sym is) ∙ ap (seat_at tree) (sym here)

  pub keys_stay : (q : ℕ) → q ≢ e → (index : List ℕ) (kind : KeyKind) → key_at after index kind q ≡ key_at tree index kind q
  keys_stay q one index kind = by_id (same_or_not q dir)
    where
      by_id : (q ≡ dir) ⊎ (q ≢ dir) → key_at after index kind q ≡ key_at tree index kind q
      by_id (inr two) = ap (option_and_then (key_in tree.root index kind q)) (other_now q one two)
      by_id (inl here) =
          ap (key_at after index kind) here ∙ ap (option_and_then (key_in tree.root index kind dir)) dir_now ∙ touched_key tree.root index kind dir d stamp is_dir
          ∙ ap (option_and_then (key_in tree.root index kind dir)) (sym is) ∙ ap (key_at tree index kind) (sym here)

module _ (s : State) (dir : ℕ) (d : Node) (name : List ℕ) (kind : MakeKind) (mode : ℕ) (stamp : ℤ) (id : ℕ) (plain : HasPlainNodes s.tree) (is : IsNode s.tree dir d) (is_dir : d.kind ≡ Dir) (absent : get s.tree.nodes id ≡ None) where
  abbrev pub made_node : Node
  made_node = new_node (kind_made kind) name dir mode (length (target_of kind)) (target_of kind) stamp

  abbrev made_tree : Tree
  made_tree = (made s dir name kind mode stamp id).tree

  dir_apart : dir ≢ id
  dir_apart e = let both : Some d ≡ None = sym is ∙ ap (get s.tree.nodes) e ∙ absent in cc

  same : (q : ℕ) → q ≢ id → get (insert s.tree.nodes id made_node) q ≡ get s.tree.nodes q
  same q apart = put_other s.tree.nodes id made_node q apart

  pub made_there : IsNode made_tree id made_node
  made_there = one_is s.tree (insert s.tree.nodes id made_node) dir d stamp is is_dir id dir_apart same ∙ put_here s.tree.nodes id made_node

  pub made_only : (m : Node) → IsNode made_tree id m → made_node ≡ m
  made_only m at = let both : Some made_node ≡ Some m = sym made_there ∙ at in cc

  pub made_nobody : (m : Node) → IsNode s.tree id m → ⊥
  made_nobody m at = let both : None ≡ Some m = sym absent ∙ at in cc

  pub make_changes : ChangesSeat s.tree made_tree id
  make_changes = record {
    root = refl;
    not_root = λ e. made_nobody plain.root.0 (ap (get s.tree.nodes) e ∙ plain.root.1);
    indices = refl;
    kind = λ n m at was. absurd (made_nobody n at);
    others = seats_stay s.tree (insert s.tree.nodes id made_node) dir d stamp is is_dir id dir_apart same;
    keys = keys_stay s.tree (insert s.tree.nodes id made_node) dir d stamp is is_dir id dir_apart same;
  }

module _ (s : State) (lists now : Lists) (dir : ℕ) (d : Node) (name : List ℕ) (kind : MakeKind) (mode : ℕ) (stamp : ℤ) (id : ℕ) (plain : HasPlainNodes s.tree) (plain_now : HasPlainNodes (made s dir name kind mode stamp id).tree)
    (is : IsNode s.tree dir d) (is_dir : d.kind ≡ Dir) (absent : get s.tree.nodes id ≡ None) (agrees : Agrees s.tree lists)
    (gains : GainsNode s.tree lists now dir id (new_node (kind_made kind) name dir mode (length (target_of kind)) (target_of kind) stamp)) where
  abbrev node : Node
  node = new_node (kind_made kind) name dir mode (length (target_of kind)) (target_of kind) stamp

  abbrev new : Tree
  new = (made s dir name kind mode stamp id).tree

  there : IsNode new id node
  there = made_there s dir d name kind mode stamp id plain is is_dir absent

  only : (m : Node) → IsNode new id m → node ≡ m
  only = made_only s dir d name kind mode stamp id plain is is_dir absent

  nobody : (m : Node) → IsNode s.tree id m → ⊥
  nobody = made_nobody s dir d name kind mode stamp id plain is is_dir absent

  changes : ChangesSeat s.tree new id
  changes = make_changes s dir d name kind mode stamp id plain is is_dir absent

  differs : DiffersAt Text (lists.rows dir) (put Text (lists.rows dir) name (pos id)) name (Some (pos id))
  differs = put_differs Text (lists.rows dir) name (pos id)

  at_parent : (other : List ℕ) → assoc Text (now.rows dir) other ≡ assoc Text (put Text (lists.rows dir) name (pos id)) other
  at_parent other = ap (λ (l : List Row). assoc Text l other) gains.parent

  came : (a : ℕ) (other : List ℕ) → StandsAt new id a other → assoc Text (now.rows a) other ≡ Some (pos id)
  came a other at =
      let n_is = only at.0 at.1 in
      let up : dir ≡ a = ap (λ (x : Node). x.parent) n_is ∙ at.2 in
      let named : name ≡ other = ap (λ (x : Node). x.name) n_is ∙ at.3 in
      ap (λ (j : ℕ). assoc Text (now.rows j) other) (sym up) ∙ ap (assoc Text (now.rows dir)) (sym named) ∙ at_parent name ∙ differs.changed

  stayed : (a : ℕ) (other : List ℕ) → ¬ StandsAt s.tree id a other → ¬ StandsAt new id a other → a ≢ id → assoc Text (now.rows a) other ≡ assoc Text (lists.rows a) other
  stayed a other before after apart = by_id (same_or_not a dir)
    where
      by_name : a ≡ dir → (other ≡ name) ⊎ (other ≢ name) → assoc Text (now.rows a) other ≡ assoc Text (lists.rows a) other
      by_name here (inl e) = absurd (after (node, there, sym here, sym e))
      by_name here (inr e) =
          ap (λ (j : ℕ). assoc Text (now.rows j) other) here ∙ at_parent other ∙ differs.others other (names_apart other name e) ∙ ap (λ (j : ℕ). assoc Text (lists.rows j) other) (sym here)

      by_id : (a ≡ dir) ⊎ (a ≢ dir) → assoc Text (now.rows a) other ≡ assoc Text (lists.rows a) other
      by_id (inr e) = ap (λ (l : List Row). assoc Text l other) (gains.others a e apart)
      by_id (inl e) = by_name e (named_or_not other name)

  kind_is : (m : Node) → IsNode new id m → m.kind ≡ Dir → node.kind ≡ Dir
  kind_is m at e = ap (λ (x : Node). x.kind) (only m at) ∙ e

  own_rows : (m : Node) → IsNode new id m → m.kind ≡ Dir → (other : List ℕ) → assoc Text (now.rows id) other ≡ assoc Text (first_rows id dir) other
  own_rows m at e other = ap (λ (l : List Row). assoc Text l other) (gains.own (kind_is m at e))

  nothing_else : (other : List ℕ) → other ≢ codes "." → other ≢ codes ".." → assoc Text (first_rows id dir) other ≡ None
  nothing_else other one two =
      ap (λ b. cond b (Some (pos id)) (cond (same_keys Text other (codes "..")) (Some (pos dir)) None)) (names_apart other (codes ".") one)
      ∙ ap (λ b. cond b (Some (pos dir)) None) (names_apart other (codes "..") two)

  no_seat : (other : List ℕ) → had lists id other (seat_at s.tree id) ≡ None
  no_seat other = ap (λ (o : Option Node). had lists id other (option_map seat o)) absent

  follow : RowsFollow s.tree new lists now id
  follow = record {
    came = came;
    went = λ a other before after apart. absurd (nobody before.0 before.1);
    stayed = stayed;
    itself = λ m at e. own_rows m at e (codes ".");
    up = λ m at e. own_rows m at e (codes "..") ∙ ap (λ (x : Node). Some (pos x.parent)) (only m at);
    within = λ m at e other one two. own_rows m at e other ∙ nothing_else other one two ∙ sym (no_seat other);
  }

  key_now : (index : List ℕ) (k : KeyKind) → key_at new index k id ≡ key_in s.tree.root index k id node
  key_now index k = ap (option_and_then (key_in s.tree.root index k id)) there

  pairs : PairsFollow new lists now id
  pairs = record {
    names = gains.names;
    kinds = gains.kinds;
    pairs = λ index value at.
        let i = agrees.indices index value at in
        let none : without_id id (lists.pairs index) ≡ lists.pairs index = ap (without_id id) i.pairs ∙ none_listed s.tree index (lists.kinds index) id absent ∙ sym i.pairs in
        gains.pairs index value at ∙ ap (λ (key : Option (List ℕ)). with_key (lists.kinds index) id key (lists.pairs index)) (sym (key_now index (lists.kinds index)))
        ∙ ap (with_key (lists.kinds index) id (key_at new index (lists.kinds index) id)) (sym none);
  }

  pub make_agrees : Agrees (made s dir name kind mode stamp id).tree now
  make_agrees = agrees_follows s.tree new id plain plain_now changes lists now agrees follow pairs
