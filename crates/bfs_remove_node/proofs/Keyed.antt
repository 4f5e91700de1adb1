-- What a read of an attribute and a listing of indices say.
use Rattle.std.proofs.Common.{◌≡◌, ℕ, pos, List, [], ◌∷◌, Option, Some, None, Bool, true, false, cond, refl, sym, ap, ◌∙◌, subst}
use Rattle.std.specs.Prelude.{codes, ◌==◌, ◌||◌, is_some, is_none, IsSomeAnd}
use Rattle.std.specs.Option.{option_and_then}
use Rattle.std.specs.FinMap.{get, entries}
use Rattle.std.specs.Str.{bytes_eq}
use Rattle.bfs_base.specs.declared.kind.KeyKind.{KeyKind}
use Rattle.bfs_tree.specs.Answers.{rows_of_indices}
use Rattle.bfs_tree.specs.Listings.{code_of, key_at, key_in, key_of_attribute, key_of_bytes}
use Rattle.bfs_tree.specs.Refusals.{own_refusal, first, at_node, is_built_in}
use Rattle.bfs_tree.specs.States.{State}
use Rattle.bfs_tree.specs.Steps.{ByTree, Reads}
use Rattle.bfs_tree.specs.Trees.{Attribute, Node, Tree, IsNode, is_file}
use Rattle.bfs_bytes.specs.Fields.{unsigned_bytes, signed64_bytes}
use Rattle.bfs_tree.specs.declared.call.Call.TheVariants as calls
use Rattle.bfs_tree.specs.declared.reply.Reply.{Reply}
use Rattle.bfs_tree.specs.declared.reply.Reply.TheVariants as replies
use Rattle.bfs_tree.specs.declared.rows.IndexRow.{IndexRow}
use Rattle.bfs_remove_node.specs.Counted.{has_key, indices_in, is_listed}

-- an index that isn't built in lists a node by the attribute of its name
abbrev by_tests : ℕ → KeyKind → ℕ → Node → List ℕ → Bool → Bool → Bool → Option (List ℕ)
by_tests root kind id n index a b c =
    cond a (cond (id == root) None (Some n.name))
    (cond b (cond (is_file n.kind) (Some (unsigned_bytes 8 n.size)) None)
    (cond c (cond (is_file n.kind) (Some (signed64_bytes n.modified)) None)
    (option_and_then (key_of_attribute kind) (get n.attributes index))))

key_else : (root : ℕ) (index : List ℕ) (kind : KeyKind) (id : ℕ) (n : Node) → is_built_in index ≡ false → key_in root index kind id n ≡ option_and_then (key_of_attribute kind) (get n.attributes index)
key_else root index kind id n other = by_names (bytes_eq index (codes "name")) (bytes_eq index (codes "size")) (bytes_eq index (codes "last_modified")) other
  where
    by_names : (a b c : Bool) → (a || b || c) ≡ false → by_tests root kind id n index a b c ≡ option_and_then (key_of_attribute kind) (get n.attributes index)
    by_names false false false all = refl
    by_names false false true all = let bad : true ≡ false = all in absurd cc
    by_names false true c all = let bad : true ≡ false = all in absurd cc
    by_names true b c all = let bad : true ≡ false = all in absurd cc

module _ (s : State) (id : ℕ) (n : Node) (is : IsNode s.tree id n) (name : List ℕ) (kind : KeyKind) (reply : Reply) (reads : Reads (calls.AttrRead id name) s reply) where
  refusal : (o : Option Attribute) → get n.attributes name ≡ o → own_refusal (calls.AttrRead id name) s ≡ first ((is_none o, replies.NoAttr) ∷ [])
  refusal o e =
      ap (λ (x : Option Node). first (at_node x (λ (m : Node). (is_none (get m.attributes name), replies.NoAttr) ∷ []))) is
      ∙ ap (λ (x : Option Attribute). first ((is_none x, replies.NoAttr) ∷ [])) e

  pub key_read : has_key kind reply ≡ is_some (option_and_then (key_of_attribute kind) (get n.attributes name))
  key_read = by_attribute (get n.attributes name) refl (reads 0 (pos 0))
    where
      by_attribute : (o : Option Attribute) → get n.attributes name ≡ o → ByTree 0 (pos 0) (calls.AttrRead id name) reply s s → has_key kind reply ≡ is_some (option_and_then (key_of_attribute kind) (get n.attributes name))
      by_attribute None e (ByTree.refused r same) =
          let both : Some replies.NoAttr ≡ Some reply = sym (refusal None e) ∙ r in
          let one : replies.NoAttr ≡ reply = cc in
          ap (has_key kind) (sym one) ∙ sym (ap (λ (x : Option Attribute). is_some (option_and_then (key_of_attribute kind) x)) e)
      by_attribute None e (ByTree.answered r a same) = let bad : Some replies.NoAttr ≡ None = sym (refusal None e) ∙ r in absurd cc
      by_attribute (Some x) e (ByTree.refused r same) = let bad : None ≡ Some reply = sym (refusal (Some x) e) ∙ r in absurd cc
      by_attribute (Some x) e (ByTree.answered r a same) =
          let at : IsSomeAnd (Some n) (λ m. IsSomeAnd (get m.attributes name) (λ y. reply ≡ replies.Attr y.code y.bytes)) = subst (λ (o : Option Node). IsSomeAnd o (λ m. IsSomeAnd (get m.attributes name) (λ y. reply ≡ replies.Attr y.code y.bytes))) is a in
          let here : reply ≡ replies.Attr x.code x.bytes = subst (λ (o : Option Attribute). IsSomeAnd o (λ y. reply ≡ replies.Attr y.code y.bytes)) e at in
          ap (has_key kind) here ∙ by_code x (x.code == code_of kind)
          ∙ sym (ap (λ (o : Option Attribute). is_some (option_and_then (key_of_attribute kind) o)) e)
        where
          by_code : (x : Attribute) (b : Bool) → cond b (is_some (key_of_bytes kind x.bytes)) false ≡ is_some (cond b (key_of_bytes kind x.bytes) None)
          by_code x true = refl
          by_code x false = refl

pub listed_by : (s : State) (id : ℕ) (n : Node) → IsNode s.tree id n → (row : IndexRow) (reply : Reply) → is_built_in row.name ≡ false → Reads (calls.AttrRead id row.name) s reply → has_key row.kind reply ≡ is_listed s.tree id row
listed_by s id n is row reply other reads =
    key_read s id n is row.name row.kind reply reads
    ∙ sym (ap is_some (ap (option_and_then (key_in s.tree.root row.name row.kind id)) is ∙ key_else s.tree.root row.name row.kind id n other))
    ∙ sym (ap (λ (b : Bool). cond b false (is_some (key_at s.tree row.name row.kind id))) other)

pub built_not : (tree : Tree) (id : ℕ) (row : IndexRow) → is_built_in row.name ≡ true → false ≡ is_listed tree id row
built_not tree id row e = sym (ap (λ (b : Bool). cond b false (is_some (key_at tree row.name row.kind id))) e)

-- a listing of indices has those of the tree
pub indices_read : (s : State) (reply : Reply) → Reads calls.IndexList s reply → indices_in reply ≡ rows_of_indices (entries s.tree.indices)
indices_read s reply reads = by_turn (reads 0 (pos 0))
  where
    by_turn : ByTree 0 (pos 0) calls.IndexList reply s s → indices_in reply ≡ rows_of_indices (entries s.tree.indices)
    by_turn (ByTree.refused r same) = let bad : None ≡ Some reply = r in absurd cc
    by_turn (ByTree.answered r a same) = ap indices_in a
