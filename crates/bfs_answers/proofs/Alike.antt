-- A call that gains a file no data blocks is allowed to take as many blocks as it may change.
use Rattle.std.proofs.Common.{◌≡◌, ◌≤◌, ◌+◌, ℕ, List, Bool, true, false, Option, Some, None, refl, arith}
use Rattle.std.specs.Prelude.{◌==◌, if◌then◌else◌}
use Rattle.bfs_super.specs.declared.geometry.Geometry.{Geometry}
use Rattle.bfs_tree.specs.declared.call.Call.{Call}
use Rattle.bfs_tree.specs.declared.state.Hold.{Hold}
use Rattle.bfs_tree.specs.Refusals.{own_refusal}
use Rattle.bfs_tree.specs.States.{State}
use Rattle.bfs_tree.specs.Steps.{changes_tree}
use Rattle.bfs_tree.specs.Trees.{Node, Tree, child}
use Rattle.bfs_sound.specs.Need.{cost_of, logged_cost, logged_need, removing, renaming, replacing}
use Rattle.bfs_sound.specs.Volumes.{Volume}
use Rattle.bfs_shift.specs.Shifts.{volume_in}
use Rattle.bfs_calls.specs.Allowances.{allowance}
use Rattle.bfs_answers.specs.Looks.{IsAllowed}

-- a node that is removed gains nothing
pub removing_gains : (v : Volume) (tree : Tree) (dir : ℕ) (o : Option (ℕ × Node)) → (removing v tree dir o).file ≡ 0
removing_gains v tree dir None = refl
removing_gains v tree dir (Some e) = refl

-- nor does one that is renamed
replacing_gains : (v : Volume) (tree : Tree) (to_dir id : ℕ) (o : Option (ℕ × Node)) → (replacing v tree to_dir id o).file ≡ 0
replacing_gains v tree to_dir id None = refl
replacing_gains v tree to_dir id (Some e) = by_same (e.0 == id) refl
  where
    by_same : (same : Bool) → (e.0 == id) ≡ same → (replacing v tree to_dir id (Some e)).file ≡ 0
    by_same true is = grind (arith, is)
    by_same false is = grind (arith, is)

pub renaming_gains : (v : Volume) (tree : Tree) (dir to_dir : ℕ) (to_name : List ℕ) (o : Option (ℕ × Node)) → (renaming v tree dir to_dir to_name o).file ≡ 0
renaming_gains v tree dir to_dir to_name None = refl
renaming_gains v tree dir to_dir to_name (Some e) =
    let none = replacing_gains v tree to_dir e.0 (child tree to_dir to_name) in
    let sum : 0 + (replacing v tree to_dir e.0 (child tree to_dir to_name)).file ≡ 0 = omega (arith, none) in
    sum

-- Need for the log is no more than Need
need_more : (b : Bool) (n logged file : ℕ) → n ≤ (if b then logged else 0) → n ≤ (if b then logged + file else 0)
need_more true n logged file le = omega (arith, le)
need_more false n logged file le = le

pub allowed_alike : (g : Geometry) (m : ℕ → Option (List ℕ)) (tree : Tree) (holds : List Hold) (call : Call) (n : ℕ) → changes_tree call ≡ true → ((s : State) → s.tree ≡ tree → s.holds ≡ holds → own_refusal call s ≡ None)
    → (cost_of (volume_in g m) tree call).file ≡ 0 → n ≡ allowance (volume_in g m) tree call → n ≤ logged_need (volume_in g m) tree call → IsAllowed g m tree holds call (record { logged = n; taken = n })
allowed_alike g m tree holds call n changes fine none is within = record {
  changes = changes;
  fine = fine;
  logged_is = is;
  taken_is = omega (arith, none);
  logged = within;
  taken = need_more (changes_tree call) n (logged_cost (volume_in g m) (cost_of (volume_in g m) tree call)) (cost_of (volume_in g m) tree call).file within;
}
