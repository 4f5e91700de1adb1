-- The refusals of a call that removes a node, by what a look-up and a listing answer.
use Rattle.std.proofs.Common.{◌≡◌, ℕ, suc, pos, List, [], ◌∷◌, length, Option, Some, None, Bool, true, false, refl, sym, ap, ◌∙◌, subst, map, cond, arith}
use Rattle.std.specs.Prelude.{not, nat_lt, ◌&&◌, IsSomeAnd}
use Rattle.std.specs.List.{fold}
use Rattle.std.specs.FinMap.{get, entries}
use Rattle.std.specs.Ordering.{is_lt}
use Rattle.bfs_base.specs.Keys.{text_cmp}
use Rattle.bfs_tree.specs.declared.call.Call.TheVariants as calls
use Rattle.bfs_tree.specs.declared.call.Kind.TheVariants.{Dir}
use Rattle.bfs_tree.specs.declared.reply.Reply.{Reply}
use Rattle.bfs_tree.specs.declared.reply.Reply.TheVariants as replies
use Rattle.bfs_tree.specs.declared.state.Hold.{Hold}
use Rattle.bfs_tree.specs.Answers.{names_in}
use Rattle.bfs_tree.specs.Orders.{placed, in_order}
use Rattle.bfs_tree.specs.Refusals.{own_refusal, first, at_node, at_child, held, has_children, is_full}
use Rattle.bfs_tree.specs.States.{State, conflict}
use Rattle.bfs_tree.specs.Steps.{ByTree, Reads}
use Rattle.bfs_tree.specs.Trees.{Node, Tree, IsNode, is_dir, child, children_in}
use Rattle.bfs_look.proofs.Known.{dir_is}
use Rattle.bfs_remove_node.specs.Refused.{found_in, refused_by, has_names}
use Rattle.bfs_remove_node.specs.Removed.{MayBeRemoved}
use Rattle.bfs_remove_node.specs.declared.child.Child.{Child}

module _ (s : State) (dir : ℕ) (name : List ℕ) where
  -- what comes for a child that is there
  abbrev of_child : ℕ → Node → List (Bool × Reply)
  of_child id node = (is_full s.tree id node, replies.NotEmpty) ∷ held (conflict s.holds id true)

  abbrev of_dir : (ℕ → Node → List (Bool × Reply)) → Node → List (Bool × Reply)
  of_dir rest d = (not (is_dir d.kind), replies.NotDir) ∷ at_child (child s.tree dir name) rest

  -- the first refusal, by what is there
  abbrev by_there : (ℕ → Node → List (Bool × Reply)) → Option Node → Option Reply
  by_there rest o = first (at_node o (of_dir rest))

  abbrev none : ℕ → Node → List (Bool × Reply)
  none id node = []

  -- the directory and the child that a look-up has found, and what the call is refused by then
  pub record Found (child_at : Child) : Type 0 where
    pub d : Node
    pub there : IsNode s.tree dir d
    pub dir_kind : d.kind ≡ Dir
    pub node : Node
    pub child_is : child s.tree dir name ≡ Some (child_at.id, node)
    pub kind_is : child_at.kind ≡ node.kind
    pub refusal : own_refusal (calls.Remove dir name) s ≡ first (of_child child_at.id node)

  -- where a directory and its child are there
  pub here : (d : Node) → IsNode s.tree dir d → is_dir d.kind ≡ true → (id : ℕ) (node : Node) → child s.tree dir name ≡ Some (id, node) → own_refusal (calls.Remove dir name) s ≡ first (of_child id node)
  here d is isdir id node found =
      ap (by_there of_child) is ∙ ap (λ (b : Bool). first ((not b, replies.NotDir) ∷ at_child (child s.tree dir name) of_child)) isdir
      ∙ ap (λ (o : Option (ℕ × Node)). first (at_child o of_child)) found

  -- a refusal that is one of a look-up too
  both_refuse : (o : Option Node) (t : Option (ℕ × Node)) (reply : Reply) → child s.tree dir name ≡ t → by_there none o ≡ Some reply → by_there of_child o ≡ Some (refused_by reply)
  both_refuse None t reply c e = let same : replies.NotFound ≡ reply = (let b : Some replies.NotFound ≡ Some reply = e in cc) in ap (λ (r : Reply). Some (refused_by r)) same
  both_refuse (Some d) t reply c e = by_kind (is_dir d.kind) e
    where
      by_child : (o : Option (ℕ × Node)) → first (at_child o none) ≡ Some reply → first (at_child o of_child) ≡ Some (refused_by reply)
      by_child None e = let same : replies.NotFound ≡ reply = (let b : Some replies.NotFound ≡ Some reply = e in cc) in ap (λ (r : Reply). Some (refused_by r)) same
      by_child (Some x) e = let bad : None ≡ Some reply = e in absurd cc

      by_kind : (b : Bool) → first ((not b, replies.NotDir) ∷ at_child (child s.tree dir name) none) ≡ Some reply → first ((not b, replies.NotDir) ∷ at_child (child s.tree dir name) of_child) ≡ Some (refused_by reply)
      by_kind false e = let same : replies.NotDir ≡ reply = (let b : Some replies.NotDir ≡ Some reply = e in cc) in ap (λ (r : Reply). Some (refused_by r)) same
      by_kind true e = by_child (child s.tree dir name) e

  -- what a look-up refuses with has found nothing
  refused_none : (o : Option Node) (reply : Reply) → by_there none o ≡ Some reply → found_in reply ≡ None
  refused_none None reply e = let same : replies.NotFound ≡ reply = (let b : Some replies.NotFound ≡ Some reply = e in cc) in ap found_in (sym same)
  refused_none (Some d) reply e = by_kind (is_dir d.kind) e
    where
      by_child : (o : Option (ℕ × Node)) → first (at_child o none) ≡ Some reply → found_in reply ≡ None
      by_child None e = let same : replies.NotFound ≡ reply = (let b : Some replies.NotFound ≡ Some reply = e in cc) in ap found_in (sym same)
      by_child (Some x) e = let bad : None ≡ Some reply = e in absurd cc

      by_kind : (b : Bool) → first ((not b, replies.NotDir) ∷ at_child (child s.tree dir name) none) ≡ Some reply → found_in reply ≡ None
      by_kind false e = let same : replies.NotDir ≡ reply = (let b : Some replies.NotDir ≡ Some reply = e in cc) in ap found_in (sym same)
      by_kind true e = by_child (child s.tree dir name) e

  -- where a look-up isn't refused, a directory and a child are there
  answered_there : (o : Option Node) → get s.tree.nodes dir ≡ o → by_there none o ≡ None → (d : Node) × IsNode s.tree dir d × (is_dir d.kind ≡ true) × (e : ℕ × Node) × (child s.tree dir name ≡ Some e)
  answered_there None is e = let bad : Some replies.NotFound ≡ None = e in absurd cc
  answered_there (Some d) is e = by_kind (is_dir d.kind) refl e
    where
      by_child : (o : Option (ℕ × Node)) → child s.tree dir name ≡ o → first (at_child o none) ≡ None → (x : ℕ × Node) × (child s.tree dir name ≡ Some x)
      by_child None c e = let bad : Some replies.NotFound ≡ None = e in absurd cc
      by_child (Some x) c e = (x, c)

      by_kind : (b : Bool) → is_dir d.kind ≡ b → first ((not b, replies.NotDir) ∷ at_child (child s.tree dir name) none) ≡ None → (d : Node) × IsNode s.tree dir d × (is_dir d.kind ≡ true) × (e : ℕ × Node) × (child s.tree dir name ≡ Some e)
      by_kind false k e = let bad : Some replies.NotDir ≡ None = e in absurd cc
      by_kind true k e = let c = by_child (child s.tree dir name) refl e in (d, is, k, c.0, c.1)

  module _ (reply : Reply) (reads : Reads (calls.Lookup dir name) s reply) where
    pub looked_none : found_in reply ≡ None → own_refusal (calls.Remove dir name) s ≡ Some (refused_by reply)
    looked_none nothing = by_turn (reads 0 (pos 0))
      where
        by_turn : ByTree 0 (pos 0) (calls.Lookup dir name) reply s s → own_refusal (calls.Remove dir name) s ≡ Some (refused_by reply)
        by_turn (ByTree.refused e same) = both_refuse (get s.tree.nodes dir) (child s.tree dir name) reply refl e
        by_turn (ByTree.answered e a same) =
            let t = answered_there (get s.tree.nodes dir) refl e in
            let is : reply ≡ replies.Found t.3.0 t.3.1.kind = subst (λ (o : Option (ℕ × Node)). IsSomeAnd o (λ x. reply ≡ replies.Found x.0 x.1.kind)) t.4 a in
            let at : Child = record { id = t.3.0; kind = t.3.1.kind } in
            let bad : Some at ≡ None = sym (ap found_in is) ∙ nothing in
            absurd cc

    pub looked_some : (c : Child) → found_in reply ≡ Some c → Found c
    looked_some c found = by_turn (reads 0 (pos 0))
      where
        by_turn : ByTree 0 (pos 0) (calls.Lookup dir name) reply s s → Found c
        by_turn (ByTree.refused e same) = let bad : None ≡ Some c = sym (refused_none (get s.tree.nodes dir) reply e) ∙ found in absurd cc
        by_turn (ByTree.answered e a same) =
            let t = answered_there (get s.tree.nodes dir) refl e in
            let is : reply ≡ replies.Found t.3.0 t.3.1.kind = subst (λ (o : Option (ℕ × Node)). IsSomeAnd o (λ x. reply ≡ replies.Found x.0 x.1.kind)) t.4 a in
            let made : Child = record { id = t.3.0; kind = t.3.1.kind } in
            let one : made ≡ c = (let both : Some made ≡ Some c = sym (ap found_in is) ∙ found in cc) in
            let at : child s.tree dir name ≡ Some (c.id, t.3.1) = t.4 ∙ ap (λ (x : Child). Some (x.id, t.3.1)) one in
            record {
              d = t.0;
              there = t.1;
              dir_kind = dir_is t.0.kind t.2;
              node = t.3.1;
              child_is = at;
              kind_is = sym (ap (λ (x : Child). x.kind) one);
              refusal = here t.0 t.1 t.2 c.id t.3.1 at;
            }

  -- where there is no refusal, the child may be removed
  pub may_be : own_refusal (calls.Remove dir name) s ≡ None → MayBeRemoved s.tree dir name
  may_be fine = by_node (get s.tree.nodes dir) refl fine
    where
      empty_is : (full : Bool) (rest : List (Bool × Reply)) → first ((full, replies.NotEmpty) ∷ rest) ≡ None → full ≡ false
      empty_is false rest e = refl
      empty_is true rest e = let bad : Some replies.NotEmpty ≡ None = e in absurd cc

      by_child : (d : Node) → get s.tree.nodes dir ≡ Some d → is_dir d.kind ≡ true → (o : Option (ℕ × Node)) → child s.tree dir name ≡ o → first (at_child o of_child) ≡ None → MayBeRemoved s.tree dir name
      by_child d is k None c e = let bad : Some replies.NotFound ≡ None = e in absurd cc
      by_child d is k (Some x) c e = record {
        d = d;
        there = is;
        dir_kind = dir_is d.kind k;
        id = x.0;
        node = x.1;
        child_is = c;
        empty = empty_is (is_full s.tree x.0 x.1) (held (conflict s.holds x.0 true)) e;
      }

      by_kind : (d : Node) → get s.tree.nodes dir ≡ Some d → (b : Bool) → is_dir d.kind ≡ b → first ((not b, replies.NotDir) ∷ at_child (child s.tree dir name) of_child) ≡ None → MayBeRemoved s.tree dir name
      by_kind d is false k e = let bad : Some replies.NotDir ≡ None = e in absurd cc
      by_kind d is true k e = by_child d is k (child s.tree dir name) refl e

      by_node : (o : Option Node) → get s.tree.nodes dir ≡ o → by_there of_child o ≡ None → MayBeRemoved s.tree dir name
      by_node None is e = let bad : Some replies.NotFound ≡ None = e in absurd cc
      by_node (Some d) is e = by_kind d is (is_dir d.kind) refl e

-- and the other way round, where nothing is held
pub none_held : (s : State) (dir : ℕ) (name : List ℕ) (may : MayBeRemoved s.tree dir name) → s.holds ≡ [] → own_refusal (calls.Remove dir name) s ≡ None
none_held s dir name may free =
    here s dir name may.d may.there (ap is_dir may.dir_kind) may.id may.node may.child_is
    ∙ ap (λ (b : Bool). first ((b, replies.NotEmpty) ∷ held (conflict s.holds may.id true))) may.empty
    ∙ ap (λ (hs : List Hold). first (held (conflict hs may.id true))) free

-- ---- whether a directory is full, by its names

some : (n : ℕ) → nat_lt 0 (suc n) ≡ true
some n = grind arith

placed_some : (xs : List (List ℕ)) (x : List ℕ) → nat_lt 0 (length (placed text_cmp xs x)) ≡ true
placed_some [] x = some 0
placed_some (y ∷ ys) x = by_test (is_lt (text_cmp x y))
  where
    by_test : (b : Bool) → nat_lt 0 (length (cond b (x ∷ y ∷ ys) (y ∷ placed text_cmp ys x))) ≡ true
    by_test true = some (length (y ∷ ys))
    by_test false = some (length (placed text_cmp ys x))

fold_some : (xs acc : List (List ℕ)) → nat_lt 0 (length acc) ≡ true → nat_lt 0 (length (fold (placed text_cmp) acc xs)) ≡ true
fold_some [] acc there = there
fold_some (x ∷ xs) acc there = fold_some xs (placed text_cmp acc x) (placed_some acc x)

order_some : (xs : List (List ℕ)) → nat_lt 0 (length (in_order text_cmp xs)) ≡ nat_lt 0 (length xs)
order_some [] = refl
order_some (x ∷ xs) = fold_some xs (placed text_cmp [] x) (placed_some [] x) ∙ sym (some (length xs))

map_some : (es : List (ℕ × Node)) → nat_lt 0 (length (map (λ (e : ℕ × Node). e.1.name) es)) ≡ nat_lt 0 (length es)
map_some [] = refl
map_some (e ∷ es) = some (length (map (λ (e : ℕ × Node). e.1.name) es)) ∙ sym (some (length es))

pub names_children : (tree : Tree) (d : ℕ) → nat_lt 0 (length (names_in tree d)) ≡ has_children tree.root d (entries tree.nodes)
names_children tree d = order_some (map (λ (e : ℕ × Node). e.1.name) (children_in tree.root d (entries tree.nodes))) ∙ map_some (children_in tree.root d (entries tree.nodes))

-- a listing of a directory that is there says whether it is full
pub listed_full : (s : State) (id : ℕ) (n : Node) (reply : Reply) → IsNode s.tree id n → is_dir n.kind ≡ true → Reads (calls.List id) s reply → has_names reply ≡ is_full s.tree id n
listed_full s id n reply is isdir reads = by_turn (reads 0 (pos 0))
  where
    refusal : own_refusal (calls.List id) s ≡ None
    refusal =
        ap (λ (o : Option Node). first (at_node o (λ (d : Node). (not (is_dir d.kind), replies.NotDir) ∷ []))) is
        ∙ ap (λ (b : Bool). first ((not b, replies.NotDir) ∷ [])) isdir

    by_turn : ByTree 0 (pos 0) (calls.List id) reply s s → has_names reply ≡ is_full s.tree id n
    by_turn (ByTree.refused e same) = let bad : None ≡ Some reply = sym refusal ∙ e in absurd cc
    by_turn (ByTree.answered e a same) =
        ap has_names a ∙ names_children s.tree id ∙ sym (ap (λ (b : Bool). b && has_children s.tree.root id (entries s.tree.nodes)) isdir)

pub leaf_not_full : (tree : Tree) (id : ℕ) (n : Node) → is_dir n.kind ≡ false → false ≡ is_full tree id n
leaf_not_full tree id n e = sym (ap (λ (b : Bool). b && has_children tree.root id (entries tree.nodes)) e)
