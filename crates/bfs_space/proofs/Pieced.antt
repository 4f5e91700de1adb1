-- The blocks of a file's stream are blocks of data, and a piece below its size lies in them.
use Rattle.std.proofs.Common.{◌≡◌, ◌≤◌, ◌<◌, ◌+◌, ◌*◌, ◌-◌, ℕ, zero, suc, pos, List, [], ◌∷◌, ◌++◌, length, get_or, Bool, true, false, Option, Some, None, refl, sym, ◌∙◌, subst, arith}
use Rattle.std.specs.Prelude.{nat_lt}
use Rattle.std.specs.List.{All, flat_map}
use Rattle.std.specs.FinMap.{get, entries, empty}
use Rattle.std.proofs.lemmas.Bool.{cond-true, ltb-false, or_parts}
use Rattle.bfs_base.specs.Lists.{times, Has}
use Rattle.bfs_super.specs.declared.geometry.Geometry.{Geometry}
use Rattle.bfs_super.specs.declared.sup.Super.{Super}
use Rattle.bfs_super.specs.Conditions.{IsValid, natural}
use Rattle.bfs_super.specs.Geometry.{geometry_of}
use Rattle.bfs_bitmap.specs.Runs.{Room}
use Rattle.bfs_stream.specs.Grown.{Owns}
use Rattle.bfs_stream.specs.Places.{places_at}
use Rattle.bfs_stream.specs.Sizes.{sizes_of}
use Rattle.bfs_stream.specs.Told.{contents}
use Rattle.bfs_stream.proofs.Doubles.{times-append}
use Rattle.bfs_tree.specs.declared.call.Call.{Call}
use Rattle.bfs_tree.specs.declared.call.Call.TheVariants as calls
use Rattle.bfs_tree.specs.declared.reply.Reply.{Reply}
use Rattle.bfs_tree.specs.declared.reply.Reply.TheVariants as replies
use Rattle.bfs_tree.specs.declared.state.Hold.{Hold}
use Rattle.bfs_tree.specs.Refusals.{own_refusal, is_past}
use Rattle.bfs_tree.specs.States.{State}
use Rattle.bfs_tree.specs.Steps.{ByTree, is_done}
use Rattle.bfs_tree.specs.Trees.{Node, Tree, IsNode, is_file}
use Rattle.bfs_tree.proofs.Replies.{own-refuses}
use Rattle.bfs_sound.specs.Volumes.{Volume, IsMarked}
use Rattle.bfs_sound.specs.Inodes.{stream_blocks}
use Rattle.bfs_sound.specs.Owners.{node_blocks, data_blocks, file_data, fixed_blocks, reach}
use Rattle.bfs_sound.proofs.Counts.{has_member, times_split}
use Rattle.bfs_sound.proofs.Nodes.{node_metadata, node_split}
use Rattle.bfs_sound.proofs.Parts.{in_entries, reach_parts}
use Rattle.bfs_device.specs.Layouts.{IsData, layout_of}
use Rattle.bfs_shift.specs.Lists.{Lists}
use Rattle.bfs_shift.specs.Shifts.{volume_in}
use Rattle.bfs_shift.specs.Stocked.{Stocked}
use Rattle.bfs_shift.specs.Work.{IsAtWork}
use Rattle.bfs_moves.proofs.Ends.{reached}
use Rattle.bfs_replies.proofs.Owned.{file_owns, file_size}
use Rattle.bfs_core.proofs.Masks.{data_when}
use Rattle.bfs_replies.proofs.Refusing.{no_node, no_file, too_big, past_end}
use Rattle.bfs_replies.specs.Looks.{IsHeldIn, IsLooked, is_to_do}
use Rattle.bfs_replies.specs.Looked.{Looked}
use Rattle.bfs_replies.specs.Looked.TheVariants.{Answered, Allowed}
use Rattle.bfs_replies.proofs.Keeping.{inode_marked}

-- what stands at a place of a list is in it
place_has : (xs : List ℕ) (i d : ℕ) → i < length xs → Has xs (get_or xs i d)
place_has [] i d low = absurd (omega (arith, low))
place_has (x ∷ xs) zero d low = first_has x xs
  where
    first_has : (x : ℕ) (xs : List ℕ) → Has (x ∷ xs) x
    first_has x xs = grind arith
place_has (x ∷ xs) (suc i) d low = let rest : 0 < times (get_or xs i d) xs = place_has xs i d (omega (arith, low)) in let some : 0 < times (get_or xs i d) (x ∷ xs) = omega (arith, rest) in some

all_of : (P : ℕ → Type 0) (xs : List ℕ) → ((k : ℕ) → Has xs k → P k) → All P xs
all_of P xs each i d low = each (get_or xs i d) (place_has xs i d low)

module _ (v : Volume) (tree : Tree) (lists : Lists) (stocked : Stocked v tree lists []) (k : ℕ) where
  split : times k (flat_map (node_blocks v) (entries tree.nodes)) ≡ times k (flat_map (node_metadata v) (entries tree.nodes)) + times k (file_data v tree)
  split = times_split k (node_blocks v) (node_metadata v) (data_blocks v) (entries tree.nodes) (node_split v k)

  -- file data is reached, and so it is marked
  data_marked : 0 < times k (file_data v tree) → IsMarked v k
  data_marked some = (reached v tree lists stocked k).1 (let parts = reach_parts v tree k in let s = split in let h : 0 < times k (reach v tree) = omega (arith, parts, s, some) in h)

  -- and neither as block 0 nor as the log's
  data_apart : 0 < times k (file_data v tree) → times k (fixed_blocks v) ≡ 0
  data_apart some =
      let parts = reach_parts v tree k in
      let s = split in
      let joined = times-append k (reach v tree) [] in
      let once : times k (reach v tree ++ []) ≤ 1 = stocked.once k in
      omega (arith, parts, s, joined, once, some)

-- a block of a file's stream is file data
stream_in : (v : Volume) (tree : Tree) (id : ℕ) (n : Node) (k : ℕ) → IsNode tree id n → is_file n.kind ≡ true → Has (stream_blocks v id) k → 0 < times k (file_data v tree)
stream_in v tree id n k is file has =
    has_member (data_blocks v) (entries tree.nodes) (id, n) k (in_entries tree.nodes id n is)
    (subst (λ (xs : List ℕ). Has xs k) (sym (cond-true (is_file n.kind) (stream_blocks v id) [] file)) has)

module _ (s : Super) (v : Room) (m : ℕ → Option (List ℕ)) (tree : Tree) (lists : Lists) (work : IsAtWork (geometry_of s) v m tree lists []) (id : ℕ) (n : Node) (is : IsNode tree id n) (file : is_file n.kind ≡ true) where
  pub file_places : All (IsData (layout_of s)) (stream_blocks (volume_in (geometry_of s) m) id)
  file_places = all_of (IsData (layout_of s)) (stream_blocks (volume_in (geometry_of s) m) id) (λ k has.
      let some = stream_in (volume_in (geometry_of s) m) tree id n k is file has in
      let marked : IsMarked (volume_in (geometry_of s) m) k = data_marked (volume_in (geometry_of s) m) tree lists work.stocked k some in
      data_when s k marked.0 0 (data_apart (volume_in (geometry_of s) m) tree lists work.stocked k some))

  -- its inode is a block of the volume
  pub file_inside : id < natural s.num_blocks
  file_inside = (inode_marked (volume_in (geometry_of s) m) tree lists work.stocked id n is).0

  module _ (valid : IsValid s) where
    pub file_owned : Owns (record { id = id; sizes = sizes_of s }) v [] m
    file_owned = file_owns s v m tree lists [] id n valid work is file

    -- a piece below the file's size lies in its blocks
    pub piece_inside : (at count : ℕ) → at + count ≤ n.size → at + count ≤ s.block_size * length (places_at (sizes_of s) (contents m) id)
    piece_inside at count below =
        let size = file_size s v m tree lists [] id n valid work is file in
        let high = file_owned.stands.sound.size_high in
        omega (arith, below, size, high)

-- the file where a hold has no refusal of its own
module _ (s : State) (id at count : ℕ) (write : Bool) (none : own_refusal (calls.Hold id at count write) s ≡ None) where
  by_past : (n : Node) → (b : Bool) → is_past n.size at count ≡ b → b ≡ false → at + count ≤ n.size
  by_past n b is clear =
      let tests = or_parts (nat_lt n.size at) (nat_lt (n.size - at) count) (is ∙ clear) in
      let low = ltb-false n.size at tests.0 in
      let high = ltb-false (n.size - at) count tests.1 in
      omega (arith, low, high)

  by_end : (n : Node) → IsNode s.tree id n → is_file n.kind ≡ true → nat_lt 65536 count ≡ false → (b : Bool) → is_past n.size at count ≡ b → b ≡ false
  by_end n is file small true e = let bad : Some (replies.PastEnd n.size) ≡ None = sym (past_end s id at count write n is file small n.size refl e) ∙ none in absurd cc
  by_end n is file small false e = refl

  by_length : (n : Node) → IsNode s.tree id n → is_file n.kind ≡ true → (b : Bool) → nat_lt 65536 count ≡ b → nat_lt 65536 count ≡ false
  by_length n is file true e = let bad : Some replies.TooBig ≡ None = sym (too_big s id at count write n is file e) ∙ none in absurd cc
  by_length n is file false e = e

  by_file : (n : Node) → IsNode s.tree id n → (b : Bool) → is_file n.kind ≡ b → is_file n.kind ≡ true
  by_file n is true e = e
  by_file n is false e = let bad : Some replies.NotFile ≡ None = sym (no_file s id at count write n is e) ∙ none in absurd cc

  by_node : (o : Option Node) → get s.tree.nodes id ≡ o → IsHeldIn s.tree id at count
  by_node None e = let bad : Some replies.NotFound ≡ None = sym (no_node s id at count write e) ∙ none in absurd cc
  by_node (Some n) e =
      let file = by_file n e (is_file n.kind) refl in
      let small = by_length n e file (nat_lt 65536 count) refl in
      record {
        node = n;
        there = e;
        file = file;
        few = ltb-false 65536 count small;
        below = by_past n (is_past n.size at count) refl (by_end n e file small (is_past n.size at count) refl);
      }

  pub held_in : IsHeldIn s.tree id at count
  held_in = by_node (get s.tree.nodes id) refl

-- so it is where a look at the call has found that it is to be done
pub looked_in : (g : Geometry) (m : ℕ → Option (List ℕ)) (tree : Tree) (holds : List Hold) (call : Call) (looked : Looked) (id at count : ℕ) (write : Bool) → call ≡ calls.Hold id at count write → IsLooked g m tree holds call looked
    → is_to_do looked ≡ true → IsHeldIn tree id at count
looked_in g m tree holds call looked id at count write is found to_do =
    held_in st id at count write (subst (λ (x : Call). own_refusal x st ≡ None) is (by_look looked found to_do))
  where
    st : State
    st = record { tree = tree; holds = holds; known = empty }

    by_turn : (reply : Reply) (t : State) → is_done reply ≡ true → ByTree 0 (pos 0) call reply st t → own_refusal call st ≡ None
    by_turn reply t done (ByTree.refused refusal same) = let bad : true ≡ false = sym done ∙ own-refuses call st reply refusal in absurd cc
    by_turn reply t done (ByTree.answered none answer same) = none

    by_look : (l : Looked) → IsLooked g m tree holds call l → is_to_do l ≡ true → own_refusal call st ≡ None
    by_look (Answered reply) answers done = let a = answers (pos 0) st refl refl 0 in by_turn reply a.0 done a.2
    by_look (Allowed a) allowed done = allowed.fine st refl refl
