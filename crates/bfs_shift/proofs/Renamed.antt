-- A node moves.
use Rattle.std.proofs.Common.{◌≡◌, ◌≢◌, ◌⊎◌, inl, inr, ℕ, ℤ, pos, List, length, refl, sym, ap, ◌∙◌, arith, Option, Some, None, codes}
use Rattle.std.specs.Option.{option_map, option_and_then}
use Rattle.std.specs.FinMap.{get, insert}
use Rattle.bfs_base.specs.declared.kind.KeyKind.{KeyKind}
use Rattle.bfs_base.specs.declared.kind.KeyKind.TheVariants.{Text}
use Rattle.bfs_node.specs.Page.{Row}
use Rattle.bfs_pages.specs.Maps.{assoc, put, without}
use Rattle.bfs_tree.specs.declared.call.Kind.TheVariants.{Dir}
use Rattle.bfs_tree.specs.Changes.{changed_at, with_node, touched, moved}
use Rattle.bfs_tree.specs.Listings.{key_in, key_at, listed, relisted}
use Rattle.bfs_tree.specs.States.{State}
use Rattle.bfs_tree.specs.Trees.{Node, Nodes, Tree, IsNode, HasPlainNodes}
use Rattle.bfs_tree.proofs.ListMoves.{listed-put, listed-kept}
use Rattle.bfs_maps.specs.Laws.{DiffersAt}
use Rattle.bfs_maps.proofs.MapLaws.{put_differs, taken_differs}
use Rattle.bfs_shift.specs.Lists.{Lists, Agrees}
use Rattle.bfs_shift.specs.Seats.{seat, seat_at, had, ChangesSeat, StandsAt, RowsFollow}
use Rattle.bfs_shift.specs.TreeLaws.{MovesNode, moved_node}
use Rattle.bfs_shift.proofs.Following.{same_or_not, named_or_not, no_loop, agrees_follows}
use Rattle.bfs_shift.proofs.Made.{put_here, put_other, names_apart, touched_key}

-- directories that are touched stand where they did, with the keys that they had
module _ (nodes : Nodes) (x : ℕ) (d : Node) (stamp : ℤ) (is : get nodes x ≡ Some d) (dir : d.kind ≡ Dir) where
  abbrev after : Nodes
  after = with_node nodes x (touched stamp)

  after_is : with_node nodes x (touched stamp) ≡ insert nodes x (touched stamp d)
  after_is = ap (λ (o : Option Node). changed_at (touched stamp) o x nodes) is

  pub touched_here : get (with_node nodes x (touched stamp)) x ≡ Some (touched stamp d)
  touched_here = ap (λ (m : Nodes). get m x) after_is ∙ put_here nodes x (touched stamp d)

  pub touched_other : (q : ℕ) → q ≢ x → get (with_node nodes x (touched stamp)) q ≡ get nodes q
  touched_other q apart = ap (λ (m : Nodes). get m q) after_is ∙ put_other nodes x (touched stamp d) q apart

  pub touched_seat : (q : ℕ) → option_map seat (get (with_node nodes x (touched stamp)) q) ≡ option_map seat (get nodes q)
  touched_seat q = by_id (same_or_not q x)
    where
      by_id : (q ≡ x) ⊎ (q ≢ x) → option_map seat (get (with_node nodes x (touched stamp)) q) ≡ option_map seat (get nodes q)
      by_id (inr apart) = ap (option_map seat) (touched_other q apart)
      by_id (inl here) = ap (λ (j : ℕ). option_map seat (get (with_node nodes x (touched stamp)) j)) here ∙ ap (option_map seat) touched_here ∙ ap (option_map seat) (sym is) ∙ ap (λ (j : ℕ). option_map seat (get nodes j)) (sym here)

  pub touched_keys : (root : ℕ) (index : List ℕ) (kind : KeyKind) (q : ℕ) → option_and_then (key_in root index kind q) (get (with_node nodes x (touched stamp)) q) ≡ option_and_then (key_in root index kind q) (get nodes q)
  touched_keys root index kind q = by_id (same_or_not q x)
    where
      by_id : (q ≡ x) ⊎ (q ≢ x) → option_and_then (key_in root index kind q) (get (with_node nodes x (touched stamp)) q) ≡ option_and_then (key_in root index kind q) (get nodes q)
      by_id (inr apart) = ap (option_and_then (key_in root index kind q)) (touched_other q apart)
      by_id (inl here) =
          ap (λ (j : ℕ). option_and_then (key_in root index kind j) (get (with_node nodes x (touched stamp)) j)) here
          ∙ ap (option_and_then (key_in root index kind x)) touched_here ∙ touched_key root index kind x d stamp dir ∙ ap (option_and_then (key_in root index kind x)) (sym is)
          ∙ ap (λ (j : ℕ). option_and_then (key_in root index kind j) (get nodes j)) (sym here)

module _ (s : State) (dir to : ℕ) (d t : Node) (name : List ℕ) (stamp : ℤ) (id : ℕ) (n : Node) (plain : HasPlainNodes s.tree) (plain_now : HasPlainNodes (moved s dir to name stamp id).tree)
    (is : IsNode s.tree dir d) (is_to : IsNode s.tree to t) (to_dir : t.kind ≡ Dir) (there : IsNode s.tree id n) (other : id ≢ s.tree.root) (up : n.parent ≡ dir) where
  abbrev moved_one : Node
  moved_one = moved_node to name stamp n

  abbrev moved_tree : Tree
  moved_tree = (moved s dir to name stamp id).tree

  abbrev one : Nodes
  one = with_node s.tree.nodes dir (touched stamp)

  abbrev two : Nodes
  two = with_node one to (touched stamp)

  is_dir : d.kind ≡ Dir
  is_dir =
      let p : (x : Node) × IsNode s.tree n.parent x × (x.kind ≡ Dir) = plain.parents id n there in
      let same : p.0 ≡ d = (let both : Some p.0 ≡ Some d = sym p.1 ∙ ap (get s.tree.nodes) up ∙ is in cc) in
      ap (λ (x : Node). x.kind) (sym same) ∙ p.2

  dir_apart : dir ≢ id
  dir_apart e = no_loop s.tree id other n there (up ∙ e) id (plain.lead id n there) refl

  -- the other directory after the first was touched
  record Second : Type 0 where
    node : Node
    at : get one to ≡ Some node
    kind : node.kind ≡ Dir

  second : Second
  second = by_id (same_or_not to dir)
    where
      by_id : (to ≡ dir) ⊎ (to ≢ dir) → Second
      by_id (inl e) = record { node = touched stamp d; at = ap (get one) e ∙ touched_here s.tree.nodes dir d stamp is is_dir; kind = is_dir }
      by_id (inr apart) = record { node = t; at = touched_other s.tree.nodes dir d stamp is is_dir to apart ∙ is_to; kind = to_dir }

  seats_two : (q : ℕ) → option_map seat (get two q) ≡ seat_at s.tree q
  seats_two q = touched_seat one to second.node stamp second.at second.kind q ∙ touched_seat s.tree.nodes dir d stamp is is_dir q

  keys_two : (index : List ℕ) (kind : KeyKind) (q : ℕ) → option_and_then (key_in s.tree.root index kind q) (get two q) ≡ key_at s.tree index kind q
  keys_two index kind q = touched_keys one to second.node stamp second.at second.kind s.tree.root index kind q ∙ touched_keys s.tree.nodes dir d stamp is is_dir s.tree.root index kind q

  one_id : get one id ≡ Some n
  one_id = touched_other s.tree.nodes dir d stamp is is_dir id (λ e. dir_apart (sym e)) ∙ there

  -- the node is there after both, and perhaps touched where it is the other directory itself, which the moved_tree tree rules out
  to_apart : to ≢ id
  to_apart e = no_loop moved_tree id other m_now.0 m_now.1 (m_now.2 ∙ e) id (plain_now.lead id m_now.0 m_now.1) refl
    where
      m_now : (x : Node) × IsNode moved_tree id x × (x.parent ≡ to)
      m_now = by_node (get two id) refl (seats_two id ∙ ap (option_map seat) there)
        where
          by_node : (o : Option Node) → get two id ≡ o → option_map seat o ≡ Some (seat n) → (x : Node) × IsNode moved_tree id x × (x.parent ≡ to)
          by_node None e bad = absurd (let b : None ≡ Some (seat n) = bad in cc)
          by_node (Some x) e same = (moved_node to name stamp x, ap (λ (o : Option Node). get (changed_at (moved_node to name stamp) o id two) id) e ∙ put_here two id (moved_node to name stamp x), refl)

  two_id : get two id ≡ Some n
  two_id = touched_other one to second.node stamp second.at second.kind id (λ e. to_apart (sym e)) ∙ one_id

  new_is : with_node two id (moved_node to name stamp) ≡ insert two id moved_one
  new_is = ap (λ (o : Option Node). changed_at (moved_node to name stamp) o id two) two_id

  pub moved_there : IsNode moved_tree id moved_one
  moved_there = ap (λ (x : Nodes). get x id) new_is ∙ put_here two id moved_one

  pub moved_only : (x : Node) → IsNode moved_tree id x → moved_one ≡ x
  moved_only x at = let both : Some moved_one ≡ Some x = sym moved_there ∙ at in cc

  pub moved_was : (x : Node) → IsNode s.tree id x → n ≡ x
  moved_was x at = let both : Some n ≡ Some x = sym there ∙ at in cc

  others_now : (q : ℕ) → q ≢ id → get moved_tree.nodes q ≡ get two q
  others_now q apart = ap (λ (x : Nodes). get x q) new_is ∙ put_other two id moved_one q apart

  pub rename_changes : ChangesSeat s.tree moved_tree id
  rename_changes = record {
    root = refl;
    not_root = other;
    indices = refl;
    kind = λ x y before after. ap (λ (z : Node). z.kind) (sym (moved_only y after)) ∙ ap (λ (z : Node). z.kind) (moved_was x before);
    others = λ q apart. ap (option_map seat) (others_now q apart) ∙ seats_two q;
    keys = λ q apart index kind. ap (option_and_then (key_in s.tree.root index kind q)) (others_now q apart) ∙ keys_two index kind q;
  }

module _ (s : State) (lists mid now : Lists) (dir to : ℕ) (d t : Node) (name : List ℕ) (stamp : ℤ) (id : ℕ) (n : Node) (plain : HasPlainNodes s.tree) (plain_now : HasPlainNodes (moved s dir to name stamp id).tree)
    (is : IsNode s.tree dir d) (is_to : IsNode s.tree to t) (to_dir : t.kind ≡ Dir) (there : IsNode s.tree id n) (other : id ≢ s.tree.root) (up : n.parent ≡ dir) (agrees : Agrees s.tree lists)
    (moves : MovesNode s.tree lists mid now dir to id n (moved_node to name stamp n)) where
  abbrev m : Node
  m = moved_node to name stamp n

  abbrev new : Tree
  new = (moved s dir to name stamp id).tree

  now_there : IsNode new id m
  now_there = moved_there s dir to d t name stamp id n plain plain_now is is_to to_dir there other up

  only : (x : Node) → IsNode new id x → m ≡ x
  only = moved_only s dir to d t name stamp id n plain plain_now is is_to to_dir there other up

  was : (x : Node) → IsNode s.tree id x → n ≡ x
  was = moved_was s dir to d t name stamp id n plain plain_now is is_to to_dir there other up

  changes : ChangesSeat s.tree new id
  changes = rename_changes s dir to d t name stamp id n plain plain_now is is_to to_dir there other up

  taken : DiffersAt Text (lists.rows dir) (without Text (lists.rows dir) n.name) n.name None
  taken = taken_differs Text (lists.rows dir) n.name

  gained : DiffersAt Text (mid.rows to) (put Text (mid.rows to) name (pos id)) name (Some (pos id))
  gained = put_differs Text (mid.rows to) name (pos id)

  in_mid : (a : ℕ) → a ≡ dir → (l : List ℕ) → assoc Text (mid.rows a) l ≡ assoc Text (without Text (lists.rows dir) n.name) l
  in_mid a e l = ap (λ (j : ℕ). assoc Text (mid.rows j) l) e ∙ ap (λ (rows : List Row). assoc Text rows l) moves.lost

  in_to : (a : ℕ) → a ≡ to → (l : List ℕ) → assoc Text (now.rows a) l ≡ assoc Text (put Text (mid.rows to) name (pos id)) l
  in_to a e l = ap (λ (j : ℕ). assoc Text (now.rows j) l) e ∙ ap (λ (rows : List Row). assoc Text rows l) moves.gained

  came : (a : ℕ) (l : List ℕ) → StandsAt new id a l → assoc Text (now.rows a) l ≡ Some (pos id)
  came a l at =
      let m_is = only at.0 at.1 in
      let here : a ≡ to = sym at.2 ∙ ap (λ (x : Node). x.parent) (sym m_is) in
      let named : name ≡ l = ap (λ (x : Node). x.name) m_is ∙ at.3 in
      in_to a here l ∙ ap (assoc Text (put Text (mid.rows to) name (pos id))) (sym named) ∙ gained.changed

  -- what the rows have where the node stands not since, from what they had in between
  since : (a : ℕ) (l : List ℕ) → ¬ StandsAt new id a l → a ≢ id → assoc Text (now.rows a) l ≡ assoc Text (mid.rows a) l
  since a l after apart = by_id (same_or_not a to)
    where
      by_name : a ≡ to → (l ≡ name) ⊎ (l ≢ name) → assoc Text (now.rows a) l ≡ assoc Text (mid.rows a) l
      by_name here (inl e) = absurd (after (m, now_there, sym here, sym e))
      by_name here (inr e) = in_to a here l ∙ gained.others l (names_apart l name e) ∙ ap (λ (j : ℕ). assoc Text (mid.rows j) l) (sym here)

      by_id : (a ≡ to) ⊎ (a ≢ to) → assoc Text (now.rows a) l ≡ assoc Text (mid.rows a) l
      by_id (inl here) = by_name here (named_or_not l name)
      by_id (inr e) = ap (λ (rows : List Row). assoc Text rows l) (moves.second a e apart)

  went : (a : ℕ) (l : List ℕ) → StandsAt s.tree id a l → ¬ StandsAt new id a l → a ≢ id → assoc Text (now.rows a) l ≡ None
  went a l at after apart =
      let n_is = was at.0 at.1 in
      let here : a ≡ dir = sym at.2 ∙ ap (λ (x : Node). x.parent) (sym n_is) ∙ up in
      let named : n.name ≡ l = ap (λ (x : Node). x.name) n_is ∙ at.3 in
      since a l after apart ∙ in_mid a here l ∙ ap (assoc Text (without Text (lists.rows dir) n.name)) (sym named) ∙ taken.changed

  stayed : (a : ℕ) (l : List ℕ) → ¬ StandsAt s.tree id a l → ¬ StandsAt new id a l → a ≢ id → assoc Text (now.rows a) l ≡ assoc Text (lists.rows a) l
  stayed a l before after apart = since a l after apart ∙ by_id (same_or_not a dir)
    where
      by_name : a ≡ dir → (l ≡ n.name) ⊎ (l ≢ n.name) → assoc Text (mid.rows a) l ≡ assoc Text (lists.rows a) l
      by_name here (inl e) = absurd (before (n, there, up ∙ sym here, sym e))
      by_name here (inr e) = in_mid a here l ∙ taken.others l (names_apart l n.name e) ∙ ap (λ (j : ℕ). assoc Text (lists.rows j) l) (sym here)

      by_id : (a ≡ dir) ⊎ (a ≢ dir) → assoc Text (mid.rows a) l ≡ assoc Text (lists.rows a) l
      by_id (inl here) = by_name here (named_or_not l n.name)
      by_id (inr e) = ap (λ (rows : List Row). assoc Text rows l) (moves.first a e)

  kind_is : (x : Node) → IsNode new id x → x.kind ≡ Dir → n.kind ≡ Dir
  kind_is x at e = ap (λ (z : Node). z.kind) (only x at) ∙ e

  own_dot : n.kind ≡ Dir → assoc Text (now.rows id) (codes ".") ≡ Some (pos id)
  own_dot e = (moves.own e).others (codes ".") (names_apart (codes ".") (codes "..") dots_differ) ∙ (agrees.rows id n there e (codes ".") (pos id)).1 (inl (refl, refl))
    where
      dots_differ : codes "." ≢ codes ".."
      dots_differ same = let lengths : length (codes ".") ≡ length (codes "..") = ap length same in omega (arith, lengths)

  had_it : (l : List ℕ) → had lists id l (seat_at s.tree id) ≡ assoc Text (lists.rows id) l
  had_it l = ap (λ (o : Option Node). had lists id l (option_map seat o)) there

  follow : RowsFollow s.tree new lists now id
  follow = record {
    came = came;
    went = went;
    stayed = stayed;
    itself = λ x at e. own_dot (kind_is x at e);
    up = λ x at e. (moves.own (kind_is x at e)).changed ∙ ap (λ (z : Node). Some (pos z.parent)) (only x at);
    within = λ x at e l first second. (moves.own (kind_is x at e)).others l (names_apart l (codes "..") second) ∙ sym (had_it l);
  }

  key_now : (index : List ℕ) (k : KeyKind) → key_at new index k id ≡ key_in s.tree.root index k id m
  key_now index k = ap (option_and_then (key_in s.tree.root index k id)) now_there

  pairs_at : (index : List ℕ) (value : ℤ) → assoc Text lists.names index ≡ Some value → now.pairs index ≡ relisted (lists.kinds index) id (key_at new index (lists.kinds index) id) (lists.pairs index)
  pairs_at index value at = by_case (lists.kinds index) refl (moves.pairs index value at)
    where
      by_case : (k : KeyKind) → lists.kinds index ≡ k
          → (now.pairs index ≡ relisted (lists.kinds index) id (key_in s.tree.root index (lists.kinds index) id m) (lists.pairs index)) ⊎ ((key_in s.tree.root index (lists.kinds index) id m ≡ key_in s.tree.root index (lists.kinds index) id n) × (now.pairs index ≡ lists.pairs index))
          → now.pairs index ≡ relisted (lists.kinds index) id (key_at new index (lists.kinds index) id) (lists.pairs index)
      by_case k e (inl moved_there) = moved_there ∙ ap (λ (key : Option (List ℕ)). relisted (lists.kinds index) id key (lists.pairs index)) (sym (key_now index (lists.kinds index)))
      by_case k e (inr kept) =
          let i = agrees.indices index value at in
          let stays : listed (record s.tree { nodes = insert s.tree.nodes id m }) index (lists.kinds index) ≡ listed s.tree index (lists.kinds index) = listed-kept s.tree index (lists.kinds index) id n m there kept.0 in
          let placed : listed (record s.tree { nodes = insert s.tree.nodes id m }) index (lists.kinds index) ≡ relisted (lists.kinds index) id (key_in s.tree.root index (lists.kinds index) id m) (listed s.tree index (lists.kinds index)) = listed-put s.tree index (lists.kinds index) id m in
          kept.1 ∙ i.pairs ∙ sym stays ∙ placed ∙ ap (relisted (lists.kinds index) id (key_in s.tree.root index (lists.kinds index) id m)) (sym i.pairs)
          ∙ ap (λ (key : Option (List ℕ)). relisted (lists.kinds index) id key (lists.pairs index)) (sym (key_now index (lists.kinds index)))

  pub rename_agrees : Agrees (moved s dir to name stamp id).tree now
  rename_agrees = agrees_follows s.tree new id plain plain_now changes lists now agrees follow (record { names = moves.names; kinds = moves.kinds; pairs = pairs_at })
