-- A place is made free, and what may come there then.
use Rattle.std.proofs.Common.{◌≡◌, ◌≢◌, ◌⊎◌, inl, inr, ℕ, ℤ, List, [], Option, Some, None, Bool, true, false, cond, refl, sym, ap, ◌∙◌, subst, arith}
use Rattle.std.specs.Prelude.{◌==◌, IfSome, ◌&&◌}
use Rattle.std.specs.FinMap.{get, remove}
use Rattle.bfs_super.specs.declared.geometry.Geometry.{Geometry}
use Rattle.bfs_bitmap.specs.Runs.{Room}
use Rattle.bfs_tree.specs.Changes.{moved, moved_over, renamed, without_node}
use Rattle.bfs_tree.specs.Refusals.{is_full, is_inside, has_children, replaced}
use Rattle.std.specs.FinMap.{entries}
use Rattle.bfs_tree.specs.States.{State}
use Rattle.bfs_tree.specs.Trees.{Node, Tree, IsNode, IsPlain, LeadsTo, at_top, by_parent, child, is_dir}
use Rattle.bfs_tree.specs.declared.call.Kind.TheVariants.{Dir}
use Rattle.bfs_tree.proofs.Members.{child-there, child-seat, no-children}
use Rattle.bfs_tree.proofs.Ways.{inside-below}
use Rattle.bfs_shift.specs.Lists.{Lists}
use Rattle.bfs_shift.proofs.Following.{no_loop, same_or_not}
use Rattle.bfs_shift.proofs.Leaves.{taken_none}
use Rattle.bfs_shift.proofs.Made.{taken_other}
use Rattle.bfs_look.specs.Ready.{IsReady}
use Rattle.bfs_leave.specs.Leaving.{IsLeft, tree_without}
use Rattle.bfs_leave.proofs.Steps.{goes_on_gives, gives_back_twice}
use Rattle.bfs_moves.proofs.Ends.{goes_on_same}
use Rattle.bfs_make.proofs.Telling.{one_map}
use Rattle.bfs_remove_node.specs.declared.child.Child.{Child}
use Rattle.bfs_remove_node.specs.Removed.{IsOf}
use Rattle.bfs_rename.specs.Counted.{AreOf}
use Rattle.bfs_rename.specs.Done.{HasVacated, IsRenamedIn, IsVacating, tree_vacated}
use Rattle.bfs_rename.specs.Moved.{HasMove, HasMoved, IsMove, moved_tree}
use Rattle.bfs_rename.specs.Renamed.{MayBeRenamed, MayBeReplaced}
use Rattle.bfs_rename.specs.Replacing.{StandsEmpty, HasLeftReady}
use Rattle.bfs_rename.proofs.Childs.{replaced_is}

not_same : (a b : ℕ) → a ≢ b → (a == b) ≡ false
not_same a b other = grind (arith, other)

is_same : (a : ℕ) → (a == a) ≡ true
is_same a = grind arith

-- nothing was done
pub stays : (g : Geometry) (v : Room) (m : ℕ → Option (List ℕ)) (tree : Tree) (lists : Lists) (told : Option (ℕ → Option (List ℕ))) (old : ℕ → Bool) → IsReady g v m tree lists → told ≡ Some m → IsLeft g v v m tree tree lists [] told old old
stays g v m tree lists told old ready is = record { map = m; is = is; work = ready.work; gives = goes_on_gives g v v m m tree tree old old ready.reserved (goes_on_same g v m tree old) }

pub vacated_none : (g : Geometry) (v : Room) (m : ℕ → Option (List ℕ)) (tree : Tree) (lists : Lists) (told : Option (ℕ → Option (List ℕ))) (old : ℕ → Bool) → IsReady g v m tree lists → told ≡ Some m → (o : Option (ℕ × Node)) → AreOf o None → HasVacated g v v m tree o told old old
unfolding stays
vacated_none g v m tree lists told old ready is None of = record { lists = lists; left = stays g v m tree lists told old ready is; ready = ready }
vacated_none g v m tree lists told old ready is (Some e) bad = absurd bad

pub vacated_some : (g : Geometry) (v now : Room) (m : ℕ → Option (List ℕ)) (tree : Tree) (told : Option (ℕ → Option (List ℕ))) (old new : ℕ → Bool) (o : Option (ℕ × Node)) (e : ℕ × Node) (c : Child) → o ≡ Some e → IsOf e c
    → HasLeftReady g v now m tree c.id told old new → HasVacated g v now m tree o told old new
vacated_some g v now m tree told old new o e c is of left =
    let at : HasLeftReady g v now m tree e.0 told old new = subst (λ (k : ℕ). HasLeftReady g v now m tree k told old new) of.id left in
    subst (λ (x : Option (ℕ × Node)). HasVacated g v now m tree x told old new) (sym is) (record { lists = at.lists; left = at.left; ready = at.ready })

-- by another view of the bitmap that is the same
pub vacated_from : (g : Geometry) (v mid now : Room) (m : ℕ → Option (List ℕ)) (tree : Tree) (o : Option (ℕ × Node)) (told : Option (ℕ → Option (List ℕ))) (c0 c1 c2 : ℕ → Bool) → mid ≡ v → c1 ≡ c0
    → HasVacated g mid now m tree o told c1 c2 → HasVacated g v now m tree o told c0 c2
vacated_from g v mid now m tree o told c0 c1 c2 same changed one =
    subst (λ (r : Room). HasVacated g r now m tree o told c0 c2) same (subst (λ (ch : ℕ → Bool). HasVacated g mid now m tree o told ch c2) changed one)

-- a node that may move then, by whichever map is told
pub arriving : (g : Geometry) (v : Room) (map : ℕ → Option (List ℕ)) (told : Option (ℕ → Option (List ℕ))) (tree : Tree) (lists : Lists) (dir : ℕ) (name : List ℕ) (to_dir : ℕ) (to_name : List ℕ) (id : ℕ) (n : Node) (c : Child)
    → told ≡ Some map → IsReady g v map tree lists → IsMove tree dir name to_dir to_name id n → IsOf (id, n) c → (k : ℕ → Option (List ℕ)) → told ≡ Some k → HasMove g v k dir name to_dir to_name c.id c.kind
arriving g v map told tree lists dir name to_dir to_name id n c is ready move of k now =
    subst (λ (x : ℕ → Option (List ℕ)). HasMove g v x dir name to_dir to_name c.id c.kind) (one_map told map k is now)
    (record { tree = tree; lists = lists; ready = ready; n = n; move = subst (λ (x : ℕ). IsMove tree dir name to_dir to_name x n) (sym of.id) move; kind_is = of.kind })

pub stands : (tree : Tree) (o : Option (ℕ × Node)) (e : ℕ × Node) (c : Child) (dir : ℕ) (name : List ℕ) → o ≡ Some e → IsOf e c → IsVacating tree o dir name → StandsEmpty tree c.id e.1 dir name
stands tree o e c dir name is of vacating =
    subst (λ (k : ℕ). StandsEmpty tree k e.1 dir name) (sym of.id) (subst (λ (x : Option (ℕ × Node)). IfSome x (λ y. StandsEmpty tree y.0 y.1 dir name)) is vacating)

-- ---- the way up in a tree without a node

leads_in : (tree : Tree) (gone top x : ℕ) → LeadsTo (tree_without tree gone) top x → LeadsTo tree top x
leads_in tree gone _ _ at_top = at_top
leads_in tree gone top _ (by_parent x n there up) = by_parent x n (node_in x n there) (leads_in tree gone top n.parent up)
  where
    node_in : (k : ℕ) (p : Node) → IsNode (tree_without tree gone) k p → IsNode tree k p
    node_in k p at = by_id (same_or_not k gone)
      where
        by_id : (k ≡ gone) ⊎ (k ≢ gone) → IsNode tree k p
        by_id (inl e) = let bad : None ≡ Some p = sym (taken_none tree.nodes gone) ∙ sym (ap (get (remove tree.nodes gone)) e) ∙ at in absurd cc
        by_id (inr other) = sym (taken_other tree.nodes gone k other) ∙ at

outside_in : (tree : Tree) (gone id d : ℕ) (n : Node) → is_inside tree id n d ≡ false → is_inside (tree_without tree gone) id n d ≡ false
outside_in tree gone id d n out = by_test (is_inside (tree_without tree gone) id n d) refl
  where
    by_test : (b : Bool) → is_inside (tree_without tree gone) id n d ≡ b → is_inside (tree_without tree gone) id n d ≡ false
    by_test false e = e
    by_test true e =
        let below = (inside-below (tree_without tree gone) id d n).0 e in
        let bad : true ≡ false = sym ((inside-below tree id d n).1 (below.0, leads_in tree gone id d below.1)) ∙ out in
        absurd cc

full_is : (tree : Tree) (id : ℕ) (n : Node) → n.kind ≡ Dir → is_full tree id n ≡ false → has_children tree.root id (entries tree.nodes) ≡ false
full_is tree id n isdir empty = sym (ap (λ (b : Bool). b && has_children tree.root id (entries tree.nodes)) (ap is_dir isdir)) ∙ empty

module _ (tree : Tree) (plain : IsPlain tree) (dir : ℕ) (name : List ℕ) (to_dir : ℕ) (to_name : List ℕ) (may : MayBeRenamed tree dir name to_dir to_name) where
  abbrev id : ℕ
  id = may.id

  abbrev n : Node
  n = may.node

  there : IsNode tree id n
  there = (child-there tree dir name (id, n) may.child_is).0

  apart : id ≢ tree.root
  apart = (child-there tree dir name (id, n) may.child_is).1

  up : n.parent ≡ dir
  up = (child-seat tree dir name (id, n) may.child_is).0

  named : n.name ≡ name
  named = (child-seat tree dir name (id, n) may.child_is).1

  dir_apart : id ≢ dir
  dir_apart e = no_loop tree id apart n there (up ∙ sym e) id (plain.nodes.lead id n there) refl

  to_apart : id ≢ to_dir
  to_apart e =
      let same : n ≡ may.t = (let both : Some n ≡ Some may.t = sym there ∙ ap (get tree.nodes) e ∙ may.to_there in cc) in
      let bad : true ≡ false = sym ((inside-below tree id to_dir n).1 (ap (λ (x : Node). x.kind) same ∙ may.to_kind, subst (LeadsTo tree id) e at_top)) ∙ may.outside in
      cc

  pub vacating : IsVacating tree (replaced id (child tree to_dir to_name)) to_dir to_name
  vacating = by_other (replaced id (child tree to_dir to_name)) refl may.over
    where
      by_other : (o : Option (ℕ × Node)) → replaced id (child tree to_dir to_name) ≡ o → IfSome o (MayBeReplaced tree n.kind) → IsVacating tree o to_dir to_name
      by_other None e over = tt
      by_other (Some x) e over =
          let is = replaced_is id (child tree to_dir to_name) x e in
          let at = child-there tree to_dir to_name x is.0 in
          let seat = child-seat tree to_dir to_name x is.0 in
          record { there = at.0; apart = at.1; parent = seat.0; named = seat.1; empty = over.empty }

  module _ (two : (dir ≡ to_dir) × (name ≡ to_name) → ⊥) where
    -- where no other node has the place, none has
    free_none : replaced id (child tree to_dir to_name) ≡ None → child tree to_dir to_name ≡ None
    free_none e = by_child (child tree to_dir to_name) refl e
      where
        itself : (x : ℕ × Node) → child tree to_dir to_name ≡ Some x → x.0 ≡ id → ⊥
        itself x is same =
            let at = child-there tree to_dir to_name x is in
            let seat = child-seat tree to_dir to_name x is in
            let node : x.1 ≡ n = (let both : Some x.1 ≡ Some n = sym at.0 ∙ ap (get tree.nodes) same ∙ there in cc) in
            two (sym up ∙ ap (λ (y : Node). y.parent) (sym node) ∙ seat.0, sym named ∙ ap (λ (y : Node). y.name) (sym node) ∙ seat.1)

        by_same : (x : ℕ × Node) → child tree to_dir to_name ≡ Some x → (x.0 ≡ id) ⊎ (x.0 ≢ id) → replaced id (Some x) ≡ None → ⊥
        by_same x is (inl same) f = itself x is same
        by_same x is (inr other) f = let bad : Some x ≡ None = sym (ap (λ (b : Bool). cond b None (Some x)) (not_same x.0 id other)) ∙ f in cc

        by_child : (o : Option (ℕ × Node)) → child tree to_dir to_name ≡ o → replaced id o ≡ None → child tree to_dir to_name ≡ None
        by_child None is f = is
        by_child (Some x) is f = absurd (by_same x is (same_or_not x.0 id) f)

    move_none : replaced id (child tree to_dir to_name) ≡ None → IsMove tree dir name to_dir to_name id n
    move_none e = record {
      d = may.d;
      there = may.there;
      dir_kind = may.dir_kind;
      t = may.t;
      to_there = may.to_there;
      to_kind = may.to_kind;
      node_there = there;
      apart = apart;
      parent = up;
      named = named;
      good = may.good_name;
      dir_apart = dir_apart;
      to_apart = to_apart;
      outside = may.outside;
      free = free_none e;
    }

    module _ (x : ℕ × Node) (is : replaced id (child tree to_dir to_name) ≡ Some x) where
      at : StandsEmpty tree x.0 x.1 to_dir to_name
      at = subst (λ (o : Option (ℕ × Node)). IsVacating tree o to_dir to_name) is vacating

      id_stays : id ≢ x.0
      id_stays e = (replaced_is id (child tree to_dir to_name) x is).1 (sym e)

      to_stays : to_dir ≢ x.0
      to_stays e = no_loop tree x.0 at.apart x.1 at.there (at.parent ∙ e) x.0 (plain.nodes.lead x.0 x.1 at.there) refl

      dir_stays : dir ≢ x.0
      dir_stays e =
          let same : may.d ≡ x.1 = (let both : Some may.d ≡ Some x.1 = sym may.there ∙ ap (get tree.nodes) e ∙ at.there in cc) in
          let isdir : x.1.kind ≡ Dir = ap (λ (y : Node). y.kind) (sym same) ∙ may.dir_kind in
          no-children tree x.0 (full_is tree x.0 x.1 isdir at.empty) id n there apart (up ∙ e)

      left : Tree
      left = tree_without tree x.0

      free_some : child (tree_without tree x.0) to_dir to_name ≡ None
      free_some = by_child (child (tree_without tree x.0) to_dir to_name) refl
        where
          by_child : (o : Option (ℕ × Node)) → child (tree_without tree x.0) to_dir to_name ≡ o → child (tree_without tree x.0) to_dir to_name ≡ None
          by_child None e = e
          by_child (Some y) e = absurd (by_id (same_or_not y.0 x.0))
            where
              here : get (remove tree.nodes x.0) y.0 ≡ Some y.1
              here = (child-there (tree_without tree x.0) to_dir to_name y e).0

              by_id : (y.0 ≡ x.0) ⊎ (y.0 ≢ x.0) → ⊥
              by_id (inl same) = let bad : None ≡ Some y.1 = sym (taken_none tree.nodes x.0) ∙ sym (ap (get (remove tree.nodes x.0)) same) ∙ here in cc
              by_id (inr other) =
                  let was : get tree.nodes y.0 ≡ Some y.1 = sym (taken_other tree.nodes x.0 y.0 other) ∙ here in
                  let seat = child-seat (tree_without tree x.0) to_dir to_name y e in
                  other (plain.nodes.apart y.0 x.0 y.1 x.1 was at.there (seat.0 ∙ sym at.parent) (seat.1 ∙ sym at.named))

      move_some : IsMove (tree_without tree x.0) dir name to_dir to_name id n
      move_some = record {
        d = may.d;
        there = taken_other tree.nodes x.0 dir dir_stays ∙ may.there;
        dir_kind = may.dir_kind;
        t = may.t;
        to_there = taken_other tree.nodes x.0 to_dir to_stays ∙ may.to_there;
        to_kind = may.to_kind;
        node_there = taken_other tree.nodes x.0 id id_stays ∙ there;
        apart = apart;
        parent = up;
        named = named;
        good = may.good_name;
        dir_apart = dir_apart;
        to_apart = to_apart;
        outside = outside_in tree x.0 id to_dir n may.outside;
        free = free_some;
      }

    pub move_then : IsMove (tree_vacated tree (replaced id (child tree to_dir to_name))) dir name to_dir to_name id n
    move_then = by_other (replaced id (child tree to_dir to_name)) refl
      where
        by_other : (o : Option (ℕ × Node)) → replaced id (child tree to_dir to_name) ≡ o → IsMove (tree_vacated tree o) dir name to_dir to_name id n
        by_other None e = move_none e
        by_other (Some x) e = move_some x e

    -- the tree since, in every state that has the tree before
    over_is : (s : State) (stamp : ℤ) → s.tree ≡ tree → (c : Option (ℕ × Node)) → child tree to_dir to_name ≡ c → (moved_over s dir to_dir to_name stamp id c).tree ≡ moved_tree (tree_vacated tree (replaced id c)) dir to_dir to_name stamp id
    over_is s stamp same None e = ap (λ (t : Tree). moved_tree t dir to_dir to_name stamp id) same
    over_is s stamp same (Some x) e = by_id (same_or_not x.0 id)
      where
        by_id : (x.0 ≡ id) ⊎ (x.0 ≢ id) → (moved_over s dir to_dir to_name stamp id (Some x)).tree ≡ moved_tree (tree_vacated tree (replaced id (Some x))) dir to_dir to_name stamp id
        by_id (inl it) =
            let seat = child-seat tree to_dir to_name x e in
            let node : x.1 ≡ n = (let both : Some x.1 ≡ Some n = sym (child-there tree to_dir to_name x e).0 ∙ ap (get tree.nodes) it ∙ there in cc) in
            absurd (two (sym up ∙ ap (λ (y : Node). y.parent) (sym node) ∙ seat.0, sym named ∙ ap (λ (y : Node). y.name) (sym node) ∙ seat.1))
        by_id (inr other) =
            ap (λ (b : Bool). (cond b s (moved (without_node s x.0) dir to_dir to_name stamp id)).tree) (not_same x.0 id other)
            ∙ ap (λ (t : Tree). moved_tree (tree_without t x.0) dir to_dir to_name stamp id) same
            ∙ sym (ap (λ (b : Bool). moved_tree (tree_vacated tree (cond b None (Some x))) dir to_dir to_name stamp id) (not_same x.0 id other))

    pub follows : (stamp : ℤ) (s : State) → s.tree ≡ tree → (renamed s dir to_dir to_name stamp (child s.tree dir name)).tree ≡ moved_tree (tree_vacated tree (replaced id (child tree to_dir to_name))) dir to_dir to_name stamp id
    follows stamp s same =
        ap (λ (o : Option (ℕ × Node)). (renamed s dir to_dir to_name stamp o).tree) (ap (λ (t : Tree). child t dir name) same ∙ may.child_is)
        ∙ ap (λ (t : Tree). (moved_over s dir to_dir to_name stamp id (child t to_dir to_name)).tree) same
        ∙ over_is s stamp same (child tree to_dir to_name) refl

    root_of : (o : Option (ℕ × Node)) → (tree_vacated tree o).root ≡ tree.root
    root_of None = refl
    root_of (Some x) = refl

    -- both steps together
    pub renamed_in : (g : Geometry) (v v1 v2 : Room) (m : ℕ → Option (List ℕ)) (stamp : ℤ) (t1 t2 : Option (ℕ → Option (List ℕ))) (c0 c1 c2 : ℕ → Bool)
        → (one : HasVacated g v v1 m tree (replaced id (child tree to_dir to_name)) t1 c0 c1)
        → HasMoved g v1 v2 one.left.map (tree_vacated tree (replaced id (child tree to_dir to_name))) dir to_dir to_name stamp id t2 c1 c2
        → IsRenamedIn g v v2 m tree dir name to_dir to_name stamp t2 c0 c2
    renamed_in g v v1 v2 m stamp t1 t2 c0 c1 c2 one two =
        let tree1 = tree_vacated tree (replaced id (child tree to_dir to_name)) in
        let after = moved_tree tree1 dir to_dir to_name stamp id in
        record {
          after = after;
          lists = two.last;
          left = record {
            map = two.step.map;
            is = two.step.is;
            work = two.step.work;
            gives = gives_back_twice g v v1 v2 m one.left.map two.step.map tree tree1 after c0 c1 c2 one.left.gives
                (goes_on_gives g v1 v2 one.left.map two.step.map tree1 after c1 c2 one.ready.reserved two.step.goes_on);
          };
          agrees = two.agrees;
          root = root_of (replaced id (child tree to_dir to_name));
          follows = follows stamp;
        }

  -- where the place is its own, nothing changes
  pub same_place : (g : Geometry) (v : Room) (m : ℕ → Option (List ℕ)) (lists : Lists) (stamp : ℤ) (told : Option (ℕ → Option (List ℕ))) (old : ℕ → Bool) → IsReady g v m tree lists → told ≡ Some m → (dir ≡ to_dir) × (name ≡ to_name)
      → IsRenamedIn g v v m tree dir name to_dir to_name stamp told old old
  same_place g v m lists stamp told old ready is one = record {
    after = tree;
    lists = lists;
    left = stays g v m tree lists told old ready is;
    agrees = ready.agrees;
    root = refl;
    follows = λ s same.
        let own : child tree to_dir to_name ≡ Some (id, n) = subst (λ (l : List ℕ). child tree to_dir l ≡ Some (id, n)) one.1 (subst (λ (k : ℕ). child tree k name ≡ Some (id, n)) one.0 may.child_is) in
        ap (λ (o : Option (ℕ × Node)). (renamed s dir to_dir to_name stamp o).tree) (ap (λ (t : Tree). child t dir name) same ∙ may.child_is)
        ∙ ap (λ (o : Option (ℕ × Node)). (moved_over s dir to_dir to_name stamp id o).tree) (ap (λ (t : Tree). child t to_dir to_name) same ∙ own)
        ∙ ap (λ (b : Bool). (cond b s (moved (without_node s id) dir to_dir to_name stamp id)).tree) (is_same id)
        ∙ same;
  }
