-- A node is removed.
use Rattle.std.proofs.Common.{◌≡◌, ◌≢◌, ◌⊎◌, inl, inr, ℕ, ℤ, List, refl, sym, ap, ◌∙◌, Option, Some, None}
use Rattle.std.specs.Option.{option_and_then}
use Rattle.std.specs.FinMap.{get, remove}
use Rattle.bfs_base.specs.declared.kind.KeyKind.TheVariants.{Text}
use Rattle.bfs_node.specs.Page.{Row}
use Rattle.bfs_pages.specs.Maps.{assoc, without}
use Rattle.bfs_tree.specs.declared.call.Kind.TheVariants.{Dir}
use Rattle.bfs_tree.specs.Changes.{dropped}
use Rattle.bfs_tree.specs.Listings.{key_in, relisted}
use Rattle.bfs_tree.specs.States.{State}
use Rattle.bfs_tree.specs.Trees.{Node, Tree, IsNode, HasPlainNodes}
use Rattle.bfs_maps.specs.Laws.{DiffersAt}
use Rattle.bfs_maps.proofs.MapLaws.{taken_differs}
use Rattle.bfs_shift.specs.Lists.{Lists, Agrees}
use Rattle.bfs_shift.specs.Seats.{ChangesSeat, StandsAt, RowsFollow, PairsFollow}
use Rattle.bfs_shift.specs.TreeLaws.{LosesNode}
use Rattle.bfs_shift.proofs.Leaves.{taken_none}
use Rattle.bfs_shift.proofs.Following.{same_or_not, named_or_not, no_loop, agrees_follows}
use Rattle.bfs_shift.proofs.Made.{taken_other, names_apart, one_is, seats_stay, keys_stay}

-- lists that lose a node agree with any tree in which it is no more, and all others stand where they did
module _ (tree new : Tree) (lists now : Lists) (dir id : ℕ) (node : Node) (plain : HasPlainNodes tree) (plain_now : HasPlainNodes new) (there : IsNode tree id node) (up : node.parent ≡ dir)
    (changes : ChangesSeat tree new id) (gone : get new.nodes id ≡ None) (root : new.root ≡ tree.root) (agrees : Agrees tree lists) (loses : LosesNode lists now dir id node) where
  nobody : (m : Node) → IsNode new id m → ⊥
  nobody m at = let both : None ≡ Some m = sym gone ∙ at in cc

  differs : DiffersAt Text (lists.rows dir) (without Text (lists.rows dir) node.name) node.name None
  differs = taken_differs Text (lists.rows dir) node.name

  at_parent : (name : List ℕ) → assoc Text (now.rows dir) name ≡ assoc Text (without Text (lists.rows dir) node.name) name
  at_parent name = ap (λ (l : List Row). assoc Text l name) loses.parent

  went : (a : ℕ) (name : List ℕ) → StandsAt tree id a name → ¬ StandsAt new id a name → a ≢ id → assoc Text (now.rows a) name ≡ None
  went a name at after apart =
      let n_is : node ≡ at.0 = (let both : Some node ≡ Some at.0 = sym there ∙ at.1 in cc) in
      let here : dir ≡ a = sym up ∙ ap (λ (x : Node). x.parent) n_is ∙ at.2 in
      let named : node.name ≡ name = ap (λ (x : Node). x.name) n_is ∙ at.3 in
      ap (λ (j : ℕ). assoc Text (now.rows j) name) (sym here) ∙ ap (assoc Text (now.rows dir)) (sym named) ∙ at_parent node.name ∙ differs.changed

  stayed : (a : ℕ) (name : List ℕ) → ¬ StandsAt tree id a name → ¬ StandsAt new id a name → a ≢ id → assoc Text (now.rows a) name ≡ assoc Text (lists.rows a) name
  stayed a name before after apart = by_id (same_or_not a dir)
    where
      by_name : a ≡ dir → (name ≡ node.name) ⊎ (name ≢ node.name) → assoc Text (now.rows a) name ≡ assoc Text (lists.rows a) name
      by_name here (inl e) = absurd (before (node, there, up ∙ sym here, sym e))
      by_name here (inr e) =
          ap (λ (j : ℕ). assoc Text (now.rows j) name) here ∙ at_parent name ∙ differs.others name (names_apart name node.name e) ∙ ap (λ (j : ℕ). assoc Text (lists.rows j) name) (sym here)

      by_id : (a ≡ dir) ⊎ (a ≢ dir) → assoc Text (now.rows a) name ≡ assoc Text (lists.rows a) name
      by_id (inr e) = ap (λ (l : List Row). assoc Text l name) (loses.others a e)
      by_id (inl e) = by_name e (named_or_not name node.name)

  follow : RowsFollow tree new lists now id
  follow = record {
    came = λ a name at. absurd (nobody at.0 at.1);
    went = went;
    stayed = stayed;
    itself = λ m at e. absurd (nobody m at);
    up = λ m at e. absurd (nobody m at);
    within = λ m at e name one two. absurd (nobody m at);
  }

  pairs : PairsFollow new lists now id
  pairs = record {
    names = loses.names;
    kinds = loses.kinds;
    pairs = λ index value at.
        loses.pairs index value at
        ∙ ap (λ (o : Option Node). relisted (lists.kinds index) id (option_and_then (key_in new.root index (lists.kinds index) id) o) (lists.pairs index)) (sym gone);
  }

  pub lost_agrees : Agrees new now
  lost_agrees = agrees_follows tree new id plain plain_now changes lists now agrees follow pairs

module _ (s : State) (dir : ℕ) (d : Node) (stamp : ℤ) (id : ℕ) (node : Node) (plain : HasPlainNodes s.tree) (is : IsNode s.tree dir d) (there : IsNode s.tree id node) (other : id ≢ s.tree.root) (up : node.parent ≡ dir) where
  abbrev new_tree : Tree
  new_tree = (dropped s dir stamp id).tree

  is_dir : d.kind ≡ Dir
  is_dir =
      let p : (x : Node) × IsNode s.tree node.parent x × (x.kind ≡ Dir) = plain.parents id node there in
      let same : p.0 ≡ d = (let both : Some p.0 ≡ Some d = sym p.1 ∙ ap (get s.tree.nodes) up ∙ is in cc) in
      ap (λ (x : Node). x.kind) (sym same) ∙ p.2

  dir_apart : dir ≢ id
  dir_apart e = no_loop s.tree id other node there (up ∙ e) id (plain.lead id node there) refl

  same : (q : ℕ) → q ≢ id → get (remove s.tree.nodes id) q ≡ get s.tree.nodes q
  same q apart = taken_other s.tree.nodes id q apart

  pub dropped_gone : get new_tree.nodes id ≡ None
  dropped_gone = one_is s.tree (remove s.tree.nodes id) dir d stamp is is_dir id dir_apart same ∙ taken_none s.tree.nodes id

  nobody_now : (m : Node) → IsNode new_tree id m → ⊥
  nobody_now m at = let both : None ≡ Some m = sym dropped_gone ∙ at in cc

  pub remove_changes : ChangesSeat s.tree new_tree id
  remove_changes = record {
    root = refl;
    not_root = other;
    indices = refl;
    kind = λ n m was at. absurd (nobody_now m at);
    others = seats_stay s.tree (remove s.tree.nodes id) dir d stamp is is_dir id dir_apart same;
    keys = keys_stay s.tree (remove s.tree.nodes id) dir d stamp is is_dir id dir_apart same;
  }

module _ (s : State) (lists now : Lists) (dir : ℕ) (d : Node) (stamp : ℤ) (id : ℕ) (node : Node) (plain : HasPlainNodes s.tree) (plain_now : HasPlainNodes (dropped s dir stamp id).tree)
    (is : IsNode s.tree dir d) (there : IsNode s.tree id node) (other : id ≢ s.tree.root) (up : node.parent ≡ dir) (agrees : Agrees s.tree lists) (loses : LosesNode lists now dir id node) where
  pub remove_agrees : Agrees (dropped s dir stamp id).tree now
  remove_agrees = lost_agrees s.tree (dropped s dir stamp id).tree lists now dir id node plain plain_now there up (remove_changes s dir d stamp id node plain is there other up) (dropped_gone s dir d stamp id node plain is there other up) refl agrees loses
