-- The keys under which indices list a node that has lost an attribute.
use Rattle.std.proofs.Common.{◌≡◌, ◌≢◌, ◌⊎◌, inl, inr, ℕ, ℤ, List, codes, Bool, true, false, cond, Option, Some, None, refl, sym, ap, ◌∙◌, subst}
use Rattle.std.specs.Prelude.{◌==◌, ◌||◌}
use Rattle.std.specs.Option.{option_and_then}
use Rattle.std.specs.Str.{bytes_eq}
use Rattle.std.proofs.lemmas.Cmp.{nat_list_cmp_total}
use Rattle.std.specs.FinMap.{get, remove, get-remove}
use Rattle.bfs_base.specs.declared.kind.KeyKind.{KeyKind}
use Rattle.bfs_base.specs.declared.kind.KeyKind.TheVariants.{Text}
use Rattle.bfs_bytes.specs.Fields.{unsigned_bytes, signed64_bytes}
use Rattle.bfs_pages.specs.Maps.{assoc}
use Rattle.bfs_tree.specs.Changes.{changed, changed_at}
use Rattle.bfs_tree.specs.Listings.{key_in, key_of_attribute, relisted, without_id}
use Rattle.bfs_tree.specs.Refusals.{is_built_in}
use Rattle.bfs_tree.specs.States.{State}
use Rattle.bfs_tree.specs.Trees.{Attribute, Node, Tree, IsNode, is_file}
use Rattle.bfs_tree.specs.declared.call.Call.TheVariants.{AttrRemove}
use Rattle.bfs_tree.specs.declared.reply.Reply.TheVariants.{Done}
use Rattle.bfs_shift.specs.Lists.{Lists, Agrees}
use Rattle.bfs_shift.specs.TreeLaws.{Rekeys}
use Rattle.bfs_shift.proofs.Following.{named_or_not}
use Rattle.bfs_shift.proofs.Made.{names_apart}
use Rattle.bfs_shift.proofs.Statuses.{status_agrees}
use Rattle.bfs_attrs.proofs.Clears.{get_removed}
use Rattle.bfs_attr_calls.specs.Removed.{node_without, tree_with, UnlistsUnder}

-- whatever the last is, where a test before it holds; and where none does
pub built : (a b c : Bool) (x y z w other : Option (List ℕ)) → (a || b || c) ≡ true → cond a x (cond b y (cond c z w)) ≡ cond a x (cond b y (cond c z other))
built true b c x y z w other e = refl
built false true c x y z w other e = refl
built false false true x y z w other e = refl
built false false false x y z w other e = absurd (let bad : false ≡ true = e in cc)

unbuilt : (a b c : Bool) (x y z w : Option (List ℕ)) → (a || b || c) ≡ false → cond a x (cond b y (cond c z w)) ≡ w
unbuilt true b c x y z w e = absurd (let bad : true ≡ false = e in cc)
unbuilt false true c x y z w e = absurd (let bad : true ≡ false = e in cc)
unbuilt false false true x y z w e = absurd (let bad : true ≡ false = e in cc)
unbuilt false false false x y z w e = refl

module _ (root : ℕ) (index : List ℕ) (kind : KeyKind) (id : ℕ) (n : Node) where
  -- the key, by the attribute of the index's name
  abbrev key_by : Option Attribute → Option (List ℕ)
  key_by o =
      cond (bytes_eq index (codes "name")) (cond (id == root) None (Some n.name))
      (cond (bytes_eq index (codes "size")) (cond (is_file n.kind) (Some (unsigned_bytes 8 n.size)) None)
      (cond (bytes_eq index (codes "last_modified")) (cond (is_file n.kind) (Some (signed64_bytes n.modified)) None) (option_and_then (key_of_attribute kind) o)))

  abbrev of_name : Option (List ℕ)
  of_name = cond (id == root) None (Some n.name)

  abbrev of_size : Option (List ℕ)
  of_size = cond (is_file n.kind) (Some (unsigned_bytes 8 n.size)) None

  abbrev of_time : Option (List ℕ)
  of_time = cond (is_file n.kind) (Some (signed64_bytes n.modified)) None

  pub attribute_key : is_built_in index ≡ false → key_in root index kind id n ≡ option_and_then (key_of_attribute kind) (get n.attributes index)
  attribute_key not_built =
      unbuilt (bytes_eq index (codes "name")) (bytes_eq index (codes "size")) (bytes_eq index (codes "last_modified")) of_name of_size of_time (option_and_then (key_of_attribute kind) (get n.attributes index)) not_built

  module _ (name : List ℕ) (stamp : ℤ) where
    pub other_key : index ≢ name → key_in root index kind id (node_without n name stamp) ≡ key_in root index kind id n
    other_key apart = ap key_by (get-remove nat_list_cmp_total n.attributes name index ∙ ap (λ (t : Bool). cond t None (get n.attributes index)) (names_apart index name apart))

    pub built_key : is_built_in index ≡ true → key_in root index kind id (node_without n name stamp) ≡ key_in root index kind id n
    built_key is =
        built (bytes_eq index (codes "name")) (bytes_eq index (codes "size")) (bytes_eq index (codes "last_modified")) of_name of_size of_time
        (option_and_then (key_of_attribute kind) (get (remove n.attributes name) index)) (option_and_then (key_of_attribute kind) (get n.attributes index)) is

    pub no_key : index ≡ name → is_built_in index ≡ false → key_in root index kind id (node_without n name stamp) ≡ None
    no_key same not_built =
        unbuilt (bytes_eq index (codes "name")) (bytes_eq index (codes "size")) (bytes_eq index (codes "last_modified")) of_name of_size of_time (option_and_then (key_of_attribute kind) (get (remove n.attributes name) index)) not_built
        ∙ ap (option_and_then (key_of_attribute kind)) (ap (get (remove n.attributes name)) same ∙ get_removed n.attributes name)

module _ (tree : Tree) (lists now : Lists) (id : ℕ) (n : Node) (name : List ℕ) (stamp : ℤ) (is : IsNode tree id n) (agrees : Agrees tree lists) (unlists : UnlistsUnder tree lists now id n name) where
  abbrev then : Node
  then = node_without n name stamp

  abbrev Is : List ℕ → Type 0
  Is index = (now.pairs index ≡ relisted (lists.kinds index) id (key_in tree.root index (lists.kinds index) id then) (lists.pairs index))
      ⊎ ((key_in tree.root index (lists.kinds index) id then ≡ key_in tree.root index (lists.kinds index) id n) × (now.pairs index ≡ lists.pairs index))

  by_own : (value : ℤ) → assoc Text lists.names name ≡ Some value → (t : Bool) → is_built_in name ≡ t → Is name
  by_own value row true e = inr (built_key tree.root name (lists.kinds name) id n name stamp e, unlists.built_in e)
  by_own value row false e = by_case (unlists.own value row e)
    where
      gone : key_in tree.root name (lists.kinds name) id then ≡ None
      gone = no_key tree.root name (lists.kinds name) id n name stamp refl e

      by_case : (now.pairs name ≡ without_id id (lists.pairs name)) ⊎ ((key_in tree.root name (lists.kinds name) id n ≡ None) × (now.pairs name ≡ lists.pairs name)) → Is name
      by_case (inl less) = inl (less ∙ ap (λ (k : Option (List ℕ)). relisted (lists.kinds name) id k (lists.pairs name)) (sym gone))
      by_case (inr none) = inr (gone ∙ sym none.0, none.1)

  each : (index : List ℕ) (value : ℤ) → assoc Text lists.names index ≡ Some value → (index ≡ name) ⊎ (index ≢ name) → Is index
  each index value row (inr apart) = inr (other_key tree.root index (lists.kinds index) id n name stamp apart, unlists.others index apart)
  each index value row (inl same) = subst Is (sym same) (by_own value (ap (assoc Text lists.names) (sym same) ∙ row) (is_built_in name) refl)

  rekeys : Rekeys tree lists now id n then
  rekeys = record { rows = unlists.rows; names = unlists.names; kinds = unlists.kinds; pairs = λ index value row. each index value row (named_or_not index name) }

  follows : (s : State) → s.tree ≡ tree → (changed 0 stamp (AttrRemove id name) Done s).tree ≡ tree_with tree id then
  follows s same =
      ap (λ (t : Tree). record t { nodes = changed_at (λ (x : Node). record x { attributes = remove x.attributes name; changed = stamp }) (get t.nodes id) id t.nodes }) same
      ∙ ap (λ (o : Option Node). record tree { nodes = changed_at (λ (x : Node). record x { attributes = remove x.attributes name; changed = stamp }) o id tree.nodes }) is

  pub attribute_unlists : Agrees (tree_with tree id then) now × ((s : State) → s.tree ≡ tree → (changed 0 stamp (AttrRemove id name) Done s).tree ≡ tree_with tree id then)
  attribute_unlists = (status_agrees tree lists now id n then is refl refl refl agrees rekeys, follows)
