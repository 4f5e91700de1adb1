-- What calls answer that take something out.
use Rattle.std.proofs.Common.{◌≡◌, ℕ, ℤ, List, [], ◌∷◌, Bool, true, false, Option, Some, None, refl, sym, ◌∙◌}
use Rattle.std.specs.FinMap.{get, remove}
use Rattle.std.specs.Prelude.{is_none, IsSome}
use Rattle.bfs_base.specs.declared.kind.KeyKind.{KeyKind}
use Rattle.bfs_tree.specs.declared.call.Call.TheVariants.{Remove, Rename, AttrRemove, IndexRemove}
use Rattle.bfs_tree.specs.declared.reply.Reply.TheVariants.{Done, NotFound, NoAttr, NoIndex, BuiltIn}
use Rattle.bfs_tree.specs.declared.state.Hold.{Hold}
use Rattle.bfs_tree.specs.Changes.{changed, removed, renamed}
use Rattle.bfs_tree.specs.Refusals.{at_node, first, is_built_in, own_refusal}
use Rattle.bfs_tree.specs.States.{State}
use Rattle.bfs_tree.specs.Steps.{ByTree}
use Rattle.bfs_tree.specs.Trees.{Attribute, Node, Tree, child}
use Rattle.bfs_index_make.specs.Removed.{HasAttributeAt}
use Rattle.bfs_index_make.specs.RemoveIndexRemoved.{IsOwnIndex}
use Rattle.bfs_index_make.proofs.RemoveIndexRefusing.{no_such_index, is_there_so}
use Rattle.bfs_answers.specs.Answered.{AnswersIn}

-- of a node that is removed
pub removed_answers : (tree after : Tree) (holds : List Hold) (dir : ℕ) (name : List ℕ) (stamp : ℤ) → ((s : State) → s.tree ≡ tree → s.holds ≡ holds → own_refusal (Remove dir name) s ≡ None)
    → ((s : State) → s.tree ≡ tree → (removed s dir stamp (child s.tree dir name)).tree ≡ after) → AnswersIn stamp (Remove dir name) Done tree holds after
removed_answers tree after holds dir name stamp fine follows = λ s same held session.
    (removed s dir stamp (child s.tree dir name), follows s same, ByTree.answered (fine s same held) refl refl)

-- of a node that is renamed: another one may have gone for it
pub renamed_answers : (tree after : Tree) (holds : List Hold) (dir : ℕ) (name : List ℕ) (to_dir : ℕ) (to_name : List ℕ) (stamp : ℤ)
    → ((s : State) → s.tree ≡ tree → s.holds ≡ holds → own_refusal (Rename dir name to_dir to_name) s ≡ None)
    → ((s : State) → s.tree ≡ tree → (renamed s dir to_dir to_name stamp (child s.tree dir name)).tree ≡ after) → AnswersIn stamp (Rename dir name to_dir to_name) Done tree holds after
renamed_answers tree after holds dir name to_dir to_name stamp fine follows = λ s same held session.
    (renamed s dir to_dir to_name stamp (child s.tree dir name), follows s same, ByTree.answered (fine s same held) refl refl)

-- of an index
pub unindexed_answers : (tree after : Tree) (holds : List Hold) (name : List ℕ) (stamp : ℤ) → ((s : State) → s.tree ≡ tree → own_refusal (IndexRemove name) s ≡ None)
    → ((s : State) → s.tree ≡ tree → after ≡ record s.tree { indices = remove s.tree.indices name }) → AnswersIn stamp (IndexRemove name) Done tree holds after
unindexed_answers tree after holds name stamp fine follows = λ s same held session.
    (record s { tree = record s.tree { indices = remove s.tree.indices name } }, sym (follows s same), ByTree.answered (fine s same) refl refl)

-- a call that removes an index has no refusal of its own only where the index is there and isn't built in
pub own_index : (s : State) (name : List ℕ) → own_refusal (IndexRemove name) s ≡ None → IsOwnIndex s.tree name
own_index s name fine = by_kind (get s.tree.indices name) refl (is_built_in name) refl
  where
    by_kind : (o : Option KeyKind) → get s.tree.indices name ≡ o → (built : Bool) → is_built_in name ≡ built → IsOwnIndex s.tree name
    by_kind None there built is = absurd (let bad : None ≡ Some NoIndex = sym fine ∙ no_such_index s name there in cc)
    by_kind (Some kind) there true is = absurd (let bad : None ≡ Some BuiltIn = sym fine ∙ is_there_so s name kind true there is in cc)
    by_kind (Some kind) there false is = record { kind = kind; there = there; other = is }

-- of an attribute that is removed
pub unattributed_answers : (tree after : Tree) (holds : List Hold) (id : ℕ) (name : List ℕ) (stamp : ℤ) → ((s : State) → s.tree ≡ tree → own_refusal (AttrRemove id name) s ≡ None)
    → ((s : State) → s.tree ≡ tree → (changed 0 stamp (AttrRemove id name) Done s).tree ≡ after) → AnswersIn stamp (AttrRemove id name) Done tree holds after
unattributed_answers tree after holds id name stamp fine follows = λ s same held session.
    (changed 0 stamp (AttrRemove id name) Done s, follows s same, ByTree.answered (fine s same) refl refl)

-- a call that removes an attribute has no refusal of its own only where the node is there and has it
pub own_attribute : (s : State) (id : ℕ) (name : List ℕ) → own_refusal (AttrRemove id name) s ≡ None → HasAttributeAt s.tree id name
own_attribute s id name fine = by_node (get s.tree.nodes id) refl fine
  where
    by_node : (o : Option Node) → get s.tree.nodes id ≡ o → first (at_node o (λ node. (is_none (get node.attributes name), NoAttr) ∷ [])) ≡ None → HasAttributeAt s.tree id name
    by_node None there e = absurd (let bad : Some NotFound ≡ None = e in cc)
    by_node (Some n) there e = record { node = n; there = there; bears = by_attribute (get n.attributes name) e }
      where
        by_attribute : (a : Option Attribute) → first ((is_none a, NoAttr) ∷ []) ≡ None → IsSome a
        by_attribute None e = absurd (let bad : Some NoAttr ≡ None = e in cc)
        by_attribute (Some a) e = refl
