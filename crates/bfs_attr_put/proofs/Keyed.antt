-- The keys under which indices list a node that has got an attribute.
use Rattle.std.proofs.Common.{◌≡◌, ◌≢◌, ◌⊎◌, inl, inr, ℕ, ℤ, List, codes, Bool, true, false, cond, Option, Some, None, refl, sym, ap, ◌∙◌, subst}
use Rattle.std.specs.Prelude.{◌==◌}
use Rattle.std.specs.Option.{option_and_then}
use Rattle.std.specs.Str.{bytes_eq}
use Rattle.std.proofs.lemmas.Cmp.{nat_list_cmp_total}
use Rattle.std.proofs.lemmas.Slice.Eq.{bytes_eq-Decides}
use Rattle.std.specs.FinMap.{get, insert, get-insert}
use Rattle.bfs_base.specs.declared.kind.KeyKind.{KeyKind}
use Rattle.bfs_base.specs.declared.kind.KeyKind.TheVariants.{Text}
use Rattle.bfs_bytes.specs.Fields.{unsigned_bytes, signed64_bytes}
use Rattle.bfs_pages.specs.Maps.{assoc}
use Rattle.bfs_tree.specs.Changes.{changed, changed_at}
use Rattle.bfs_tree.specs.Listings.{key_in, key_of_attribute, relisted}
use Rattle.bfs_tree.specs.Refusals.{is_built_in}
use Rattle.bfs_tree.specs.States.{State}
use Rattle.bfs_tree.specs.Trees.{Attribute, Attributes, Node, Tree, IsNode, is_file}
use Rattle.bfs_tree.specs.declared.call.Call.TheVariants.{AttrWrite}
use Rattle.bfs_tree.specs.declared.reply.Reply.TheVariants.{Done}
use Rattle.bfs_tree.proofs.ListMoves.{key-depends-on}
use Rattle.bfs_attr.proofs.Finds.{same_test}
use Rattle.bfs_shift.specs.Lists.{Lists, Agrees}
use Rattle.bfs_shift.specs.TreeLaws.{Rekeys}
use Rattle.bfs_shift.proofs.Following.{named_or_not}
use Rattle.bfs_shift.proofs.Made.{names_apart}
use Rattle.bfs_shift.proofs.Statuses.{status_agrees}
use Rattle.bfs_attr_calls.specs.Removed.{tree_with}
use Rattle.bfs_attr_calls.proofs.Keys.{built, attribute_key}
use Rattle.bfs_attr_put.specs.Written.{node_with, ListsUnder}

-- what was put under a name is there
get_put : (a : Attributes) (name : List ℕ) (x : Attribute) → get (insert a name x) name ≡ Some x
get_put a name x =
    get-insert nat_list_cmp_total a name x name
    ∙ ap (λ (t : Bool). cond t (Some x) (get a name)) (same_test name name ∙ (bytes_eq-Decides name name).1 refl)

module _ (root : ℕ) (index : List ℕ) (kind : KeyKind) (id : ℕ) (n : Node) (name : List ℕ) (attribute : Attribute) (stamp : ℤ) where
  abbrev named : Option (List ℕ)
  named = cond (id == root) None (Some n.name)

  abbrev sized : Option (List ℕ)
  sized = cond (is_file n.kind) (Some (unsigned_bytes 8 n.size)) None

  abbrev timed : Option (List ℕ)
  timed = cond (is_file n.kind) (Some (signed64_bytes n.modified)) None

  abbrev borne : Attributes → Option (List ℕ)
  borne attributes = option_and_then (key_of_attribute kind) (get attributes index)

  pub other_key : index ≢ name → key_in root index kind id (node_with n name attribute stamp) ≡ key_in root index kind id n
  other_key apart =
      key-depends-on root index kind id (node_with n name attribute stamp) n refl refl refl (λ file. refl)
      (get-insert nat_list_cmp_total n.attributes name attribute index ∙ ap (λ (t : Bool). cond t (Some attribute) (get n.attributes index)) (names_apart index name apart))

  pub built_key : is_built_in index ≡ true → key_in root index kind id (node_with n name attribute stamp) ≡ key_in root index kind id n
  built_key is =
      built (bytes_eq index (codes "name")) (bytes_eq index (codes "size")) (bytes_eq index (codes "last_modified")) named sized timed (borne (insert n.attributes name attribute)) (borne n.attributes) is

  pub own_key : index ≡ name → is_built_in index ≡ false → key_in root index kind id (node_with n name attribute stamp) ≡ key_of_attribute kind attribute
  own_key same not_built =
      attribute_key root index kind id (node_with n name attribute stamp) not_built
      ∙ ap (option_and_then (key_of_attribute kind)) (ap (get (insert n.attributes name attribute)) same ∙ get_put n.attributes name attribute)

module _ (tree : Tree) (lists now : Lists) (id : ℕ) (n : Node) (name : List ℕ) (attribute : Attribute) (stamp : ℤ) (is : IsNode tree id n) (agrees : Agrees tree lists) (under : ListsUnder lists now id name attribute) where
  abbrev then : Node
  then = node_with n name attribute stamp

  abbrev Is : List ℕ → Type 0
  Is index = (now.pairs index ≡ relisted (lists.kinds index) id (key_in tree.root index (lists.kinds index) id then) (lists.pairs index))
      ⊎ ((key_in tree.root index (lists.kinds index) id then ≡ key_in tree.root index (lists.kinds index) id n) × (now.pairs index ≡ lists.pairs index))

  by_own : (value : ℤ) → assoc Text lists.names name ≡ Some value → (t : Bool) → is_built_in name ≡ t → Is name
  by_own value row true e = inr (built_key tree.root name (lists.kinds name) id n name attribute stamp e, under.built_in e)
  by_own value row false e =
      inl (under.own value row e ∙ ap (λ (k : Option (List ℕ)). relisted (lists.kinds name) id k (lists.pairs name)) (sym (own_key tree.root name (lists.kinds name) id n name attribute stamp refl e)))

  each : (index : List ℕ) (value : ℤ) → assoc Text lists.names index ≡ Some value → (index ≡ name) ⊎ (index ≢ name) → Is index
  each index value row (inr apart) = inr (other_key tree.root index (lists.kinds index) id n name attribute stamp apart, under.others index apart)
  each index value row (inl same) = subst Is (sym same) (by_own value (ap (assoc Text lists.names) (sym same) ∙ row) (is_built_in name) refl)

  rekeys : Rekeys tree lists now id n then
  rekeys = record { rows = under.rows; names = under.names; kinds = under.kinds; pairs = λ index value row. each index value row (named_or_not index name) }

  follows : (s : State) → s.tree ≡ tree → (changed 0 stamp (AttrWrite id name attribute.code attribute.bytes) Done s).tree ≡ tree_with tree id then
  follows s same =
      ap (λ (t : Tree). record t { nodes = changed_at (λ (x : Node). record x { attributes = insert x.attributes name attribute; changed = stamp }) (get t.nodes id) id t.nodes }) same
      ∙ ap (λ (o : Option Node). record tree { nodes = changed_at (λ (x : Node). record x { attributes = insert x.attributes name attribute; changed = stamp }) o id tree.nodes }) is

  pub attribute_lists : Agrees (tree_with tree id then) now × ((s : State) → s.tree ≡ tree → (changed 0 stamp (AttrWrite id name attribute.code attribute.bytes) Done s).tree ≡ tree_with tree id then)
  attribute_lists = (status_agrees tree lists now id n then is refl refl refl agrees rekeys, follows)
