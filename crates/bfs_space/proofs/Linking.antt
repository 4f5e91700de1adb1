-- Face before a call and Face after it: the call is caused between the two.
use Rattle.std.proofs.Common.{◌≡◌, ◌≢◌, inl, inr, ⊎_elim, ◌<◌, ◌≤◌, ◌+◌, ◌-◌, ◌/◌, ◌%◌, ◌*◌, ℕ, List, [], true, ◌==◌, nat_lt, not, Option, unwrap_or, refl, sym, ◌∙◌, ap, subst, arith}
use Rattle.std.specs.Prelude.{max, get_or}
use Rattle.std.proofs.lemmas.Bool.{true≢false, and_from, lt-ltb}
use Rattle.std.proofs.lemmas.Nat.Bits.{bit_at-lt}
use Rattle.std.specs.Int.{bit_at}
use Rattle.bfs_super.specs.declared.sup.Super.{Super}
use Rattle.bfs_super.specs.Geometry.{geometry_of}
use Rattle.bfs_bitmap.specs.Bits.{bit_of}
use Rattle.bfs_bitmap.specs.Counted.{AreRuns}
use Rattle.bfs_bitmap.specs.Runs.{Room, IsFreeRun, is_free, is_reserved, marked, per_block}
use Rattle.bfs_bitmap.specs.declared.given.Given.{Given}
use Rattle.bfs_stream.specs.Sizes.{sizes_of}
use Rattle.bfs_stream.specs.Grown.{IsOfVolume}
use Rattle.bfs_tree.specs.declared.call.Call.{Call}
use Rattle.bfs_tree.specs.declared.call.Call.TheVariants as calls
use Rattle.bfs_tree.specs.declared.reply.Reply.{Reply}
use Rattle.bfs_tree.specs.declared.reply.Reply.TheVariants as replies
use Rattle.bfs_tree.specs.declared.state.Hold.{Hold}
use Rattle.bfs_tree.specs.Trees.{Tree}
use Rattle.bfs_sound.specs.Volumes.{Volume, IsMarked}
use Rattle.bfs_sound.specs.Need.{logged_need, need}
use Rattle.bfs_sound.specs.Owners.{node_owners}
use Rattle.bfs_super.specs.Conditions.{ceil}
use Rattle.bfs_calls.specs.Refusals.{is_own}
use Rattle.bfs_device.specs.Ahead.{geometry_with}
use Rattle.bfs_core.specs.Caused.{AreFewIn, IsFreeIn, IsWanting}
use Rattle.bfs_replies.specs.Replies.{HasFewRuns, IsOutside, array_run}

-- ---- Need is of blocks, and not of how many are used

abbrev volume_with : Super → ℕ → (ℕ → List ℕ) → Volume
volume_with s used blocks = record { geometry = geometry_with s used; blocks = blocks }

abbrev volume_from : Super → (ℕ → List ℕ) → Volume
volume_from s blocks = record { geometry = geometry_of s; blocks = blocks }

pub same_logged : (s : Super) (used : ℕ) (blocks : ℕ → List ℕ) (tree : Tree) (call : Call) → logged_need (volume_with s used blocks) tree call ≡ logged_need (volume_from s blocks) tree call
unfolding node_owners
same_logged s used blocks tree (calls.Make dir name kind mode) = refl
same_logged s used blocks tree (calls.Remove dir name) = refl
same_logged s used blocks tree (calls.Rename dir name to_dir to_name) = refl
same_logged s used blocks tree (calls.SetSize id size) = refl
same_logged s used blocks tree (calls.AttrWrite id name kind bytes) = refl
same_logged s used blocks tree (calls.AttrRemove id name) = refl
same_logged s used blocks tree (calls.IndexMake name kind) = refl
same_logged s used blocks tree (calls.IndexRemove name) = refl
same_logged s used blocks tree (calls.Hold id at count writes) = refl
same_logged s used blocks tree _ = refl

pub same_need : (s : Super) (used : ℕ) (blocks : ℕ → List ℕ) (tree : Tree) (call : Call) → need (volume_with s used blocks) tree call ≡ need (volume_from s blocks) tree call
unfolding node_owners
same_need s used blocks tree (calls.Make dir name kind mode) = refl
same_need s used blocks tree (calls.Remove dir name) = refl
same_need s used blocks tree (calls.Rename dir name to_dir to_name) = refl
same_need s used blocks tree (calls.SetSize id size) = refl
same_need s used blocks tree (calls.AttrWrite id name kind bytes) = refl
same_need s used blocks tree (calls.AttrRemove id name) = refl
same_need s used blocks tree (calls.IndexMake name kind) = refl
same_need s used blocks tree (calls.IndexRemove name) = refl
same_need s used blocks tree (calls.Hold id at count writes) = refl
same_need s used blocks tree _ = refl

-- ---- why a call was turned away

clear_bit : (n : ℕ) → n < 2 → n ≢ 1 → (n == 0) ≡ true
clear_bit n low other = grind (arith, low, other)

bit_clear : (bytes : List ℕ) (i : ℕ) → bit_of bytes i ≢ 1 → (bit_of bytes i == 0) ≡ true
unfolding bit_of
bit_clear bytes i other = clear_bit (bit_at (get_or bytes (i / 8) 0) (i % 8)) (bit_at-lt (get_or bytes (i / 8) 0) (i % 8)) other

module _ (s : Super) (used : ℕ) (v : Room) (m : ℕ → Option (List ℕ)) (volume : IsOfVolume (sizes_of s) v) (counts : v.tally.used ≡ used) where
  abbrev there : Volume
  there = volume_with s used (λ k. unwrap_or (m k) [])

  is_clear_at : (k : ℕ) → k < v.blocks → ¬ IsMarked there k → (marked (per_block v) m k == 0) ≡ true
  is_clear_at k inside none =
      bit_clear (unwrap_or (m (1 + k / per_block v)) []) (k % per_block v)
      (λ one. none (subst (λ (n : ℕ). k < n) volume.blocks inside, ap (λ (n : ℕ). marked (8 * n) m k) (sym volume.block_size) ∙ one))

  free_at : v.given ≡ [] → (k : ℕ) → k < v.blocks → ¬ IsMarked there k → is_free v m k ≡ true
  free_at idle k inside none =
      and_from (nat_lt k v.blocks) _ (lt-ltb k v.blocks inside)
      (and_from (marked (per_block v) m k == 0) _ (is_clear_at k inside none) (ap (λ (gs : List Given). not (is_reserved gs k)) idle))

  run_at : v.given ≡ [] → (len first : ℕ) → IsFreeIn there len first → IsFreeRun v m first len
  run_at idle len first free = record {
    one_group = subst (λ (n : ℕ). first % n + len ≤ n) (sym volume.group_blocks) free.one_group;
    free = λ k from to. (let inside = free.inside in let e = volume.blocks in free_at idle k (omega (arith, to, inside, e)) (free.free k from to));
  }

  few_runs : v.given ≡ [] → (needed : ℕ) → HasFewRuns v m (array_run v) needed → AreFewIn there (max 1 (4096 / s.block_size)) needed
  few_runs idle needed few firsts apart free =
      let len : array_run v ≡ max 1 (4096 / s.block_size) = ap (λ (n : ℕ). max 1 (4096 / n)) volume.block_size in
      let runs : AreRuns v m (array_run v) 0 firsts = subst (λ (n : ℕ). AreRuns v m n 0 firsts) (sym len) (record {
        apart = apart;
        free = λ k d lt. run_at idle (max 1 (4096 / s.block_size)) _ (free k d lt);
      }) in
      let most = few.2 firsts runs in
      let less = few.1 in
      omega (arith, most, less)

  pub own_wants : (tree : Tree) (call : Call) (reply : Reply) → is_own reply ≡ true → IsWanting there tree call reply
  own_wants tree call (replies.NoSpace free needed) is = absurd (true≢false (sym is))
  own_wants tree call (replies.NoLogRoom blocks room) is = absurd (true≢false (sym is))
  own_wants tree call _ is = tt

  pub outside_wants : (tree : Tree) (holds : List Hold) (Idle : Type 0) (call : Call) (reply : Reply) → (Idle → v.given ≡ []) → IsOutside (geometry_of s) v m tree holds Idle call reply → IsWanting there tree call reply
  outside_wants tree holds Idle call (replies.NoSpace free needed) idle w = record {
    takes = w.takes;
    free_is = w.free_is ∙ ap (λ (n : ℕ). n - v.tally.used) volume.blocks ∙ ap (λ (n : ℕ). there.geometry.blocks - n) counts;
    within = subst (λ (n : ℕ). needed ≤ n) (sym (same_need s used there.blocks tree call)) w.within;
    why = ⊎_elim (λ short. inl short) (λ few. inr (few_runs (idle w.idle) needed few)) w.why;
  }
  outside_wants tree holds Idle call (replies.NoLogRoom blocks room) idle w = record {
    room_is = w.room_is;
    within = subst (λ (n : ℕ). blocks ≤ n) (sym (same_logged s used there.blocks tree call)) w.within;
    why = subst (λ (n : ℕ). n < blocks + ceil blocks 126) (sym w.room_is) w.why;
  }
  outside_wants tree holds Idle call _ idle w = tt
