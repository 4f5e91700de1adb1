-- A node is made and entered.
use Rattle.std.proofs.Common.{◌≡◌, ◌≢◌, ℕ, ℤ, pos, List, [], length, Option, Some, None, Bool, false, refl, sym, ap, ◌∙◌, subst}
use Rattle.std.specs.FinMap.{get}
use Rattle.bfs_base.specs.declared.kind.KeyKind.TheVariants.{Text}
use Rattle.bfs_super.specs.Conditions.{IsValid}
use Rattle.bfs_super.specs.Geometry.{geometry_of}
use Rattle.bfs_super.specs.declared.sup.Super.{Super}
use Rattle.bfs_super.specs.declared.geometry.Geometry.{Geometry}
use Rattle.bfs_bitmap.specs.Runs.{Room}
use Rattle.bfs_node.specs.Page.{Row}
use Rattle.bfs_pages.specs.Maps.{assoc, put}
use Rattle.bfs_tree.specs.Changes.{made, kind_made}
use Rattle.bfs_tree.specs.Names.{is_bad_name, target_of}
use Rattle.bfs_tree.specs.Refusals.{own_refusal}
use Rattle.bfs_tree.specs.States.{State}
use Rattle.bfs_tree.specs.Steps.{ByTree, Turn}
use Rattle.bfs_tree.specs.declared.call.Call.TheVariants as calls
use Rattle.bfs_tree.specs.declared.call.Kind.{Kind}
use Rattle.bfs_tree.specs.declared.call.Kind.TheVariants.{File, Dir, Link}
use Rattle.bfs_tree.specs.declared.call.MakeKind.{MakeKind}
use Rattle.bfs_tree.specs.declared.reply.Reply.TheVariants as replies
use Rattle.bfs_tree.specs.Trees.{Node, Tree, IsNode, IsPlain, child, new_node}
use Rattle.bfs_tree.proofs.Keeps.{step-keeps}
use Rattle.bfs_maps.specs.NumberTrees.{AreNumbers}
use Rattle.bfs_shift.specs.Lists.{Lists, Agrees, with_rows}
use Rattle.bfs_shift.specs.TreeLaws.{GainsNode, first_rows}
use Rattle.bfs_shift.specs.Work.{IsStepped}
use Rattle.bfs_shift.proofs.Ends.{made_nodes}
use Rattle.bfs_shift.proofs.Made.{make_agrees, put_other}
use Rattle.bfs_shift.proofs.Parts.{lists_at, key_of_new}
use Rattle.bfs_look.specs.Ready.{IsReady}
use Rattle.bfs_look.proofs.Children.{child_is}
use Rattle.bfs_look.proofs.Known.{rows_numbers}
use Rattle.bfs_look.proofs.Listed.{proper_child, good_is_proper}
use Rattle.bfs_calls.specs.Made.{HasFirstRows, IsCreated, IsBorn, IsFor, IsNamed, HasEntered, ListsNode, IsMadeIn, with_new, with_touched}
use Rattle.bfs_moves.proofs.Stepping.{stepped_twice}

-- the rows of lists in which only a new directory's have come
pub same_rows : (lists : Lists) (id dir : ℕ) (kind : Kind) → (kind ≡ Dir → ⊥) → HasFirstRows lists lists id dir kind
same_rows lists id dir kind other = record { own = λ e. absurd (other e); others = λ k apart. refl; names = refl; kinds = λ index. refl; pairs = λ index. refl }

pub first_rows_come : (lists : Lists) (id dir : ℕ) (kind : Kind) → HasFirstRows lists (with_rows lists id (first_rows id dir)) id dir kind
first_rows_come lists id dir kind = record {
  own = λ e. (lists_at lists).rows_here id (first_rows id dir);
  others = λ k apart. (lists_at lists).rows_elsewhere id k (first_rows id dir) apart;
  names = refl;
  kinds = λ index. refl;
  pairs = λ index. refl;
}

pub file_no_dir : File ≡ Dir → ⊥
file_no_dir e = cc

pub link_no_dir : Link ≡ Dir → ⊥
link_no_dir e = cc

module _ (s : Super) (v : Room) (m : ℕ → Option (List ℕ)) (tree : Tree) (lists : Lists) (ready : IsReady (geometry_of s) v m tree lists) where
  abbrev g : Geometry
  g = geometry_of s

  -- a block that is no node isn't the root's
  pub not_root : (id : ℕ) → get tree.nodes id ≡ None → id ≢ g.root
  not_root id absent e =
      let root = ready.plain.nodes.root in
      let there : Some root.0 ≡ None = sym root.1 ∙ ap (get tree.nodes) (ready.root ∙ sym e) ∙ absent in cc

  -- a name that no child has is in no row
  pub no_child_no_row : (dir : ℕ) (d : Node) → IsNode tree dir d → d.kind ≡ Dir → (name : List ℕ) → is_bad_name name ≡ false → child tree dir name ≡ None → assoc Text (lists.rows dir) name ≡ None
  no_child_no_row dir d is isdir name good none = by_row (assoc Text (lists.rows dir) name) refl
    where
      by_row : (o : Option ℤ) → assoc Text (lists.rows dir) name ≡ o → assoc Text (lists.rows dir) name ≡ None
      by_row None e = e
      by_row (Some value) e =
          let c = proper_child s v m tree lists ready dir d is isdir name value (good_is_proper name good) ((ready.agrees.rows dir d is isdir name value).0 e) in
          let there : child tree dir name ≡ Some (c.0, c.2.node) = child_is tree ready.plain.nodes dir name c.0 c.2.node c.2.there c.2.not_root c.2.parent c.2.named in
          let bad : None ≡ Some (c.0, c.2.node) = sym none ∙ there in
          absurd cc

  -- a new node as it is born
  module _ (valid : IsValid s) (now : Room) (id dir : ℕ) (d node : Node) (told : Option (ℕ → Option (List ℕ))) (old new : ℕ → Bool) (created : IsCreated g v now m tree lists id dir node told old new)
      (is : IsNode tree dir d) (isdir : d.kind ≡ Dir) (free : assoc Text (lists.rows dir) node.name ≡ None) where
    pub born : IsBorn g now created.filled.step.map tree lists created.filled.begun dir d id node
    born = record {
      work = created.filled.step.work;
      rows = created.filled.rows;
      agrees = ready.agrees;
      plain = ready.plain;
      there = is;
      dir_kind = isdir;
      absent = created.absent;
      free = free;
      numbers = rows_numbers s v m tree lists ready dir d is isdir valid;
    }

-- the directory of a node that was born, beside it
module _ (g : Geometry) (v : Room) (m : ℕ → Option (List ℕ)) (tree : Tree) (lists begun : Lists) (dir : ℕ) (d : Node) (id : ℕ) (node : Node) (born : IsBorn g v m tree lists begun dir d id node) where
  dir_apart : dir ≢ id
  dir_apart e = let both : Some d ≡ None = sym born.there ∙ ap (get tree.nodes) e ∙ born.absent in cc

  pub still_there : IsNode (with_new tree id node) dir d
  still_there = put_other tree.nodes id node dir dir_apart ∙ born.there

  pub still_numbers : AreNumbers (begun.rows dir)
  still_numbers = subst AreNumbers (sym (born.rows.others dir dir_apart)) born.numbers

  pub still_free : (name : List ℕ) → node.name ≡ name → assoc Text (begun.rows dir) name ≡ None
  still_free name named = ap (λ (rows : List Row). assoc Text rows name) (born.rows.others dir dir_apart) ∙ ap (assoc Text (lists.rows dir)) (sym named) ∙ born.free

-- the keys of a new node, which has no bytes where it is a file
pub new_is_for : (tree : Tree) (id : ℕ) (kind : MakeKind) (name : List ℕ) (parent mode : ℕ) (stamp : ℤ) → id ≢ tree.root
    → IsFor tree id (new_node (kind_made kind) name parent mode (length (target_of kind)) (target_of kind) stamp) (kind_made kind) name stamp
new_is_for tree id MakeKind.File name parent mode stamp apart = record {
  kind_is = refl;
  name_is = refl;
  keys = λ index of. key_of_new tree.root index of id File name parent mode 0 [] stamp apart;
}
new_is_for tree id MakeKind.Dir name parent mode stamp apart = record {
  kind_is = refl;
  name_is = refl;
  keys = λ index of. key_of_new tree.root index of id Dir name parent mode 0 [] stamp apart;
}
new_is_for tree id (MakeKind.Link target) name parent mode stamp apart = record {
  kind_is = refl;
  name_is = refl;
  keys = λ index of. key_of_new tree.root index of id Link name parent mode (length target) target stamp apart;
}

-- a node that was born is entered
module _ (g : Geometry) (v mid now : Room) (m : ℕ → Option (List ℕ)) (tree : Tree) (lists begun : Lists) (dir : ℕ) (d : Node) (id : ℕ) (node : Node) (stamp : ℤ) (name : List ℕ) (told1 told2 : Option (ℕ → Option (List ℕ))) (c0 c1 c2 : ℕ → Bool)
    (born : IsBorn g v m tree lists begun dir d id node) (named : node.name ≡ name)
    (one : IsStepped g v mid m (with_new tree id node) (with_touched (with_new tree id node) dir d stamp) (with_rows begun dir (put Text (begun.rows dir) name (pos id))) [] told1 c0 c1) where
  abbrev between : Lists
  between = with_rows begun dir (put Text (begun.rows dir) name (pos id))

  apart : dir ≢ id
  apart e = let both : Some d ≡ None = sym born.there ∙ ap (get tree.nodes) e ∙ born.absent in cc

  pub named_now : IsNamed g mid one.map tree (with_touched (with_new tree id node) dir d stamp) lists between id
  named_now = record {
    work = one.work;
    names = born.rows.names;
    kinds = born.rows.kinds;
    pairs = born.rows.pairs;
    agrees = born.agrees;
    plain = born.plain;
    absent = born.absent;
  }

  module _ (last : Lists) (two : IsStepped g mid now one.map (with_touched (with_new tree id node) dir d stamp) (with_touched (with_new tree id node) dir d stamp) last [] told2 c1 c2) (lists_node : ListsNode tree lists between last id node) where
    gains : GainsNode tree lists last dir id node
    gains = record {
      parent =
          lists_node.rows dir ∙ (lists_at begun).rows_here dir (put Text (begun.rows dir) name (pos id))
          ∙ ap (λ (rows : List Row). put Text rows name (pos id)) (born.rows.others dir apart) ∙ ap (λ (n : List ℕ). put Text (lists.rows dir) n (pos id)) (sym named);
      own = λ e. lists_node.rows id ∙ (lists_at begun).rows_elsewhere dir id (put Text (begun.rows dir) name (pos id)) (λ x. apart (sym x)) ∙ born.rows.own e;
      others = λ k one two. lists_node.rows k ∙ (lists_at begun).rows_elsewhere dir k (put Text (begun.rows dir) name (pos id)) one ∙ born.rows.others k two;
      names = lists_node.names ∙ born.rows.names;
      kinds = λ index. lists_node.kinds index ∙ born.rows.kinds index;
      pairs = lists_node.pairs;
    }

    pub entered : HasEntered g v now m tree lists dir d id node stamp told2 c0 c2
    entered = record {
      last = last;
      step = stepped_twice g v mid now m (with_new tree id node) (with_touched (with_new tree id node) dir d stamp) (with_touched (with_new tree id node) dir d stamp) between last [] [] told1 told2 c0 c1 c2 one two;
      gains = gains;
    }

-- and the volume stands for the plain tree with it
module _ (g : Geometry) (v mid now : Room) (m : ℕ → Option (List ℕ)) (s : State) (lists : Lists) (dir : ℕ) (d : Node) (name : List ℕ) (kind : MakeKind) (mode : ℕ) (stamp : ℤ) (id : ℕ) (told1 told2 : Option (ℕ → Option (List ℕ))) (c0 c1 c2 : ℕ → Bool)
    (plain : IsPlain s.tree) (agrees : Agrees s.tree lists) (is : IsNode s.tree dir d) (isdir : d.kind ≡ Dir) (none : own_refusal (calls.Make dir name kind mode) s ≡ None) where
  abbrev node : Node
  node = new_node (kind_made kind) name dir mode (length (target_of kind)) (target_of kind) stamp

  abbrev after : Tree
  after = (made s dir name kind mode stamp id).tree

  module _ (created : IsCreated g v mid m s.tree lists id dir node told1 c0 c1) (entered : HasEntered g mid now created.filled.step.map s.tree lists dir d id node stamp told2 c1 c2) where
    plain_now : IsPlain after
    plain_now =
        step-keeps s (made s dir name kind mode stamp id) (record { session = 0; tag = 0; stamp = stamp; call = calls.Make dir name kind mode; reply = replies.Made id }) plain
        (Turn.by_tree (ByTree.answered none (id, refl, created.absent) refl))

    tree_is : with_touched (with_new s.tree id node) dir d stamp ≡ after
    tree_is = ap (λ ns. record s.tree { nodes = ns }) (sym (made_nodes s dir d name kind mode stamp id is created.absent))

    both : IsStepped g v now m s.tree (with_touched (with_new s.tree id node) dir d stamp) entered.last [] told2 c0 c2
    both = stepped_twice g v mid now m s.tree (with_new s.tree id node) (with_touched (with_new s.tree id node) dir d stamp) created.filled.begun entered.last [] [] told1 told2 c0 c1 c2 created.filled.step entered.step

    pub made_in : IsMadeIn g v now m s.tree s dir name kind mode stamp id told2 c0 c2
    made_in = record {
      absent = created.absent;
      done = record {
        lists = entered.last;
        step = subst (λ (t : Tree). IsStepped g v now m s.tree t entered.last [] told2 c0 c2) tree_is both;
        agrees = make_agrees s lists entered.last dir d name kind mode stamp id plain.nodes plain_now.nodes is isdir created.absent agrees entered.gains;
        root = refl;
      };
    }
