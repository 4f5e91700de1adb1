-- The replies of calls that read the plain tree, by what was found there.
use Rattle.std.proofs.Common.{◌≡◌, ℕ, List, [], ◌∷◌, Option, Some, None, Bool, true, false, not, refl, sym, ap, ◌∙◌, subst}
use Rattle.std.specs.Prelude.{IsSomeAnd, ◌&&◌, is_none}
use Rattle.std.specs.FinMap.{get, entries}
use Rattle.bfs_base.specs.declared.kind.KeyKind.{KeyKind}
use Rattle.bfs_tree.specs.Answers.{info_of, names_in, rows_of_attributes, rows_of_indices}
use Rattle.bfs_tree.specs.Listings.{kind_of_key, rows_between}
use Rattle.bfs_tree.specs.Refusals.{own_refusal, first, at_node, at_child, at_index, is_kind}
use Rattle.bfs_tree.specs.States.{State}
use Rattle.bfs_tree.specs.Steps.{Reads, refused, answered}
use Rattle.bfs_tree.specs.Trees.{Node, Attribute, IsNode, child, is_dir, is_link}
use Rattle.bfs_tree.specs.declared.call.Call.TheVariants as calls
use Rattle.bfs_tree.specs.declared.reply.Reply.{Reply}
use Rattle.bfs_tree.specs.declared.reply.Reply.TheVariants as replies
use Rattle.bfs_tree.specs.declared.rows.Key.{Key}

module _ (s : State) where
  -- ---- a directory's child

  abbrev below : ℕ → List ℕ → Node → List (Bool × Reply)
  below dir name d = (not (is_dir d.kind), replies.NotDir) ∷ at_child (child s.tree dir name) (λ id node. [])

  pub lookup_none : (dir : ℕ) (name : List ℕ) → get s.tree.nodes dir ≡ None → Reads (calls.Lookup dir name) s replies.NotFound
  lookup_none dir name e session stamp = refused (ap (λ o. first (at_node o (below dir name))) e) refl

  -- behind the directory's refusals
  lookup_dir : (dir : ℕ) (name : List ℕ) (d : Node) → IsNode s.tree dir d → (t : Bool) → is_dir d.kind ≡ t
      → own_refusal (calls.Lookup dir name) s ≡ first ((not t, replies.NotDir) ∷ at_child (child s.tree dir name) (λ id node. []))
  lookup_dir dir name d is t e = ap (λ o. first (at_node o (below dir name))) is ∙ ap (λ (b : Bool). first ((not b, replies.NotDir) ∷ at_child (child s.tree dir name) (λ id node. []))) e

  pub lookup_leaf : (dir : ℕ) (name : List ℕ) (d : Node) → IsNode s.tree dir d → is_dir d.kind ≡ false → Reads (calls.Lookup dir name) s replies.NotDir
  lookup_leaf dir name d is e session stamp = refused (lookup_dir dir name d is false e) refl

  pub lookup_missing : (dir : ℕ) (name : List ℕ) (d : Node) → IsNode s.tree dir d → is_dir d.kind ≡ true → child s.tree dir name ≡ None → Reads (calls.Lookup dir name) s replies.NotFound
  lookup_missing dir name d is e none session stamp = refused (lookup_dir dir name d is true e ∙ ap (λ o. first (at_child o (λ id node. []))) none) refl

  pub lookup_found : (dir : ℕ) (name : List ℕ) (d : Node) → IsNode s.tree dir d → is_dir d.kind ≡ true → (id : ℕ) (n : Node) → child s.tree dir name ≡ Some (id, n) → Reads (calls.Lookup dir name) s (replies.Found id n.kind)
  lookup_found dir name d is e id n found session stamp = answered (lookup_dir dir name d is true e ∙ ap (λ o. first (at_child o (λ id node. []))) found)
      (subst (λ (o : Option (ℕ × Node)). IsSomeAnd o (λ c. replies.Found id n.kind ≡ replies.Found c.0 c.1.kind)) (sym found) refl) refl

  -- ---- a directory's names

  pub list_none : (dir : ℕ) → get s.tree.nodes dir ≡ None → Reads (calls.List dir) s replies.NotFound
  list_none dir e session stamp = refused (ap (λ o. first (at_node o (λ (d : Node). (not (is_dir d.kind), replies.NotDir) ∷ []))) e) refl

  list_dir : (dir : ℕ) (d : Node) → IsNode s.tree dir d → (t : Bool) → is_dir d.kind ≡ t → own_refusal (calls.List dir) s ≡ first ((not t, replies.NotDir) ∷ [])
  list_dir dir d is t e = ap (λ o. first (at_node o (λ (d : Node). (not (is_dir d.kind), replies.NotDir) ∷ []))) is ∙ ap (λ (b : Bool). first ((not b, replies.NotDir) ∷ [])) e

  pub list_leaf : (dir : ℕ) (d : Node) → IsNode s.tree dir d → is_dir d.kind ≡ false → Reads (calls.List dir) s replies.NotDir
  list_leaf dir d is e session stamp = refused (list_dir dir d is false e) refl

  pub list_found : (dir : ℕ) (d : Node) (names : List (List ℕ)) → IsNode s.tree dir d → is_dir d.kind ≡ true → names ≡ names_in s.tree dir → Reads (calls.List dir) s (replies.Names names)
  list_found dir d names is e are session stamp = answered (list_dir dir d is true e) (ap (λ ns. replies.Names ns) are) refl

  -- ---- a node's record

  pub stat_none : (id : ℕ) → get s.tree.nodes id ≡ None → Reads (calls.Stat id) s replies.NotFound
  stat_none id e session stamp = refused (ap (λ o. first (at_node o (λ (n : Node). []))) e) refl

  pub stat_found : (id : ℕ) (n : Node) → IsNode s.tree id n → Reads (calls.Stat id) s (replies.Info (info_of n))
  stat_found id n is session stamp = answered (ap (λ o. first (at_node o (λ (n : Node). []))) is) (subst (λ (o : Option Node). IsSomeAnd o (λ m. replies.Info (info_of n) ≡ replies.Info (info_of m))) (sym is) refl) refl

  -- ---- a link's target

  pub link_none : (id : ℕ) → get s.tree.nodes id ≡ None → Reads (calls.ReadLink id) s replies.NotFound
  link_none id e session stamp = refused (ap (λ o. first (at_node o (λ (n : Node). (not (is_link n.kind), replies.NotLink) ∷ []))) e) refl

  link_there : (id : ℕ) (n : Node) → IsNode s.tree id n → (t : Bool) → is_link n.kind ≡ t → own_refusal (calls.ReadLink id) s ≡ first ((not t, replies.NotLink) ∷ [])
  link_there id n is t e = ap (λ o. first (at_node o (λ (n : Node). (not (is_link n.kind), replies.NotLink) ∷ []))) is ∙ ap (λ (b : Bool). first ((not b, replies.NotLink) ∷ [])) e

  pub link_other : (id : ℕ) (n : Node) → IsNode s.tree id n → is_link n.kind ≡ false → Reads (calls.ReadLink id) s replies.NotLink
  link_other id n is e session stamp = refused (link_there id n is false e) refl

  pub link_found : (id : ℕ) (n : Node) → IsNode s.tree id n → is_link n.kind ≡ true → Reads (calls.ReadLink id) s (replies.Target n.target)
  link_found id n is e session stamp = answered (link_there id n is true e) (subst (λ (o : Option Node). IsSomeAnd o (λ m. replies.Target n.target ≡ replies.Target m.target)) (sym is) refl) refl

  -- ---- attributes

  pub attribute_none : (id : ℕ) (name : List ℕ) → get s.tree.nodes id ≡ None → Reads (calls.AttrRead id name) s replies.NotFound
  attribute_none id name e session stamp = refused (ap (λ o. first (at_node o (λ (n : Node). (is_none (get n.attributes name), replies.NoAttr) ∷ []))) e) refl

  attribute_there : (id : ℕ) (name : List ℕ) (n : Node) → IsNode s.tree id n → (o : Option Attribute) → get n.attributes name ≡ o → own_refusal (calls.AttrRead id name) s ≡ first ((is_none o, replies.NoAttr) ∷ [])
  attribute_there id name n is o e = ap (λ o. first (at_node o (λ (n : Node). (is_none (get n.attributes name), replies.NoAttr) ∷ []))) is ∙ ap (λ (a : Option Attribute). first ((is_none a, replies.NoAttr) ∷ [])) e

  pub attribute_missing : (id : ℕ) (name : List ℕ) (n : Node) → IsNode s.tree id n → get n.attributes name ≡ None → Reads (calls.AttrRead id name) s replies.NoAttr
  attribute_missing id name n is e session stamp = refused (attribute_there id name n is None e) refl

  pub attribute_found : (id : ℕ) (name : List ℕ) (n : Node) (a : Attribute) → IsNode s.tree id n → get n.attributes name ≡ Some a → Reads (calls.AttrRead id name) s (replies.Attr a.code a.bytes)
  attribute_found id name n a is e session stamp = answered (attribute_there id name n is (Some a) e)
      (subst (λ (o : Option Node). IsSomeAnd o (λ m. IsSomeAnd (get m.attributes name) (λ b. replies.Attr a.code a.bytes ≡ replies.Attr b.code b.bytes))) (sym is)
      (subst (λ (o : Option Attribute). IsSomeAnd o (λ b. replies.Attr a.code a.bytes ≡ replies.Attr b.code b.bytes)) (sym e) refl)) refl

  pub attributes_none : (id : ℕ) → get s.tree.nodes id ≡ None → Reads (calls.AttrList id) s replies.NotFound
  attributes_none id e session stamp = refused (ap (λ o. first (at_node o (λ (n : Node). []))) e) refl

  pub attributes_found : (id : ℕ) (n : Node) → IsNode s.tree id n → Reads (calls.AttrList id) s (replies.Attrs (rows_of_attributes (entries n.attributes)))
  attributes_found id n is session stamp = answered (ap (λ o. first (at_node o (λ (n : Node). []))) is)
      (subst (λ (o : Option Node). IsSomeAnd o (λ m. replies.Attrs (rows_of_attributes (entries n.attributes)) ≡ replies.Attrs (rows_of_attributes (entries m.attributes)))) (sym is) refl) refl

  -- ---- indices

  pub indices_found : Reads calls.IndexList s (replies.Indices (rows_of_indices (entries s.tree.indices)))
  indices_found session stamp = answered refl refl refl

  abbrev kinds_differ : Key → Key → KeyKind → List (Bool × Reply)
  kinds_differ low high kind = (not (is_kind (kind_of_key low) kind && is_kind (kind_of_key high) kind), replies.KeyKind) ∷ []

  pub find_none : (name : List ℕ) (low high : Key) → get s.tree.indices name ≡ None → Reads (calls.IndexFind name low high) s replies.NoIndex
  find_none name low high e session stamp = refused (ap (λ o. first (at_index o (kinds_differ low high))) e) refl

  find_there : (name : List ℕ) (low high : Key) (kind : KeyKind) → get s.tree.indices name ≡ Some kind → (t : Bool) → (is_kind (kind_of_key low) kind && is_kind (kind_of_key high) kind) ≡ t
      → own_refusal (calls.IndexFind name low high) s ≡ first ((not t, replies.KeyKind) ∷ [])
  find_there name low high kind is t e = ap (λ o. first (at_index o (kinds_differ low high))) is ∙ ap (λ (b : Bool). first ((not b, replies.KeyKind) ∷ [])) e

  pub find_other : (name : List ℕ) (low high : Key) (kind : KeyKind) → get s.tree.indices name ≡ Some kind → (is_kind (kind_of_key low) kind && is_kind (kind_of_key high) kind) ≡ false → Reads (calls.IndexFind name low high) s replies.KeyKind
  find_other name low high kind is e session stamp = refused (find_there name low high kind is false e) refl

  pub find_found : (name : List ℕ) (low high : Key) (kind : KeyKind) → get s.tree.indices name ≡ Some kind → (is_kind (kind_of_key low) kind && is_kind (kind_of_key high) kind) ≡ true
      → Reads (calls.IndexFind name low high) s (replies.Rows (rows_between s.tree name kind low high))
  find_found name low high kind is e session stamp = answered (find_there name low high kind is true e)
      (subst (λ (o : Option KeyKind). IsSomeAnd o (λ k. replies.Rows (rows_between s.tree name kind low high) ≡ replies.Rows (rows_between s.tree name k low high))) (sym is) refl) refl
