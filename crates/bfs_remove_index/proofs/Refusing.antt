-- The refusals of a call that removes an index.
use Rattle.std.proofs.Common.{◌≡◌, ◌∙◌, ℕ, List, Bool, cond, Option, Some, None, ap}
use Rattle.std.specs.FinMap.{get}
use Rattle.bfs_base.specs.declared.kind.KeyKind.{KeyKind}
use Rattle.bfs_tree.specs.declared.call.Call.TheVariants.{IndexRemove}
use Rattle.bfs_tree.specs.declared.reply.Reply.{Reply}
use Rattle.bfs_tree.specs.declared.reply.Reply.TheVariants.{NoIndex, BuiltIn}
use Rattle.std.specs.Prelude.{is_none}
use Rattle.bfs_tree.specs.Refusals.{is_built_in, own_refusal}
use Rattle.bfs_tree.specs.States.{State}

-- by whether the tree has the index, and whether it is built in
abbrev refused_by : Bool → Bool → Option Reply
refused_by none built = cond none (Some NoIndex) (cond built (Some BuiltIn) None)

pub no_such_index : (s : State) (name : List ℕ) → get s.tree.indices name ≡ None → own_refusal (IndexRemove name) s ≡ Some NoIndex
no_such_index s name none = ap (λ (o : Option KeyKind). refused_by (is_none o) (is_built_in name)) none

pub is_there_so : (s : State) (name : List ℕ) (kind : KeyKind) (built : Bool) → get s.tree.indices name ≡ Some kind → is_built_in name ≡ built → own_refusal (IndexRemove name) s ≡ cond built (Some BuiltIn) None
is_there_so s name kind built there is = ap (λ (o : Option KeyKind). refused_by (is_none o) (is_built_in name)) there ∙ ap (λ (b : Bool). cond b (Some BuiltIn) None) is
