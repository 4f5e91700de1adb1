-- A whole call that writes a node's status.
use Rattle.std.proofs.Common.{◌≡◌, ◌<◌, ◌↔◌, ◌⊎◌, inl, inr, ℕ, List, [], ◌∷◌, length, refl, sym, ap, ◌∙◌, subst, append-nil}
use Rattle.std.specs.FinMap.{insert}
use Rattle.bfs_base.specs.Lists.{times, Has, ChangesAt}
use Rattle.bfs_base.specs.declared.kind.KeyKind.{KeyKind}
use Rattle.bfs_inode.specs.Inode.{inode_at, stream_at}
use Rattle.bfs_tree.specs.Listings.{key_in}
use Rattle.bfs_tree.specs.Trees.{Node, Tree, IsNode, IsPlain}
use Rattle.bfs_sound.specs.Volumes.{Volume, IsMarked}
use Rattle.bfs_sound.specs.Owners.{reach}
use Rattle.bfs_sound.specs.Whole.{IsSound}
use Rattle.bfs_sound.specs.Laws.{with_blocks}
use Rattle.bfs_shift.specs.Lists.{Lists, Agrees}
use Rattle.bfs_shift.specs.Stocked.{Stocked, Shifts}
use Rattle.bfs_shift.specs.Inodes.{KeepsPlace, HasBytes, IsSamePlace, HasStatus}
use Rattle.bfs_shift.specs.Laws.{lists_of}
use Rattle.bfs_shift.proofs.Closed.{stocked_sound, sound_stocked, sound_agrees}
use Rattle.bfs_shift.proofs.Counted.{length_is_same}
use Rattle.bfs_shift.proofs.Stamped.{one_shift, reached, status_changed, only_d}
use Rattle.bfs_shift.proofs.Statuses.{status_agrees}
use Rattle.bfs_shift.proofs.Widens.{there_or_not}

module _ (v : Volume) (tree : Tree) (new : ℕ → List ℕ) (d : ℕ) (n now : Node) (sound : IsSound v tree) (is : IsNode tree d n) (some : 0 < v.geometry.block_size) (changes : ChangesAt v.blocks new (d ∷ []))
    (kept : KeepsPlace (v.blocks d) (new d)) (bytes : HasBytes (v.blocks d) (new d)) (stream : stream_at (new d) ≡ stream_at (v.blocks d)) (target : (inode_at (new d)).stream_bytes ≡ (inode_at (v.blocks d)).stream_bytes)
    (same : IsSamePlace n now) (size : now.size ≡ n.size) (same_target : now.target ≡ n.target) (status : HasStatus (with_blocks v new) d now)
    (keys : (index : List ℕ) (kind : KeyKind) → key_in tree.root index kind d now ≡ key_in tree.root index kind d n) (plain : IsPlain (record tree { nodes = insert tree.nodes d now })) where
  abbrev w : Volume
  w = with_blocks v new

  abbrev after : Tree
  after = record tree { nodes = insert tree.nodes d now }

  abbrev lists : Lists
  lists = lists_of v tree

  before : Stocked v tree lists []
  before = sound_stocked v tree sound

  stocked : Stocked w after lists []
  stocked = status_changed v tree lists [] new d n now before is some changes kept bytes stream target same size same_target status

  agrees : Agrees after lists
  agrees = status_agrees tree lists lists d n now is same.kind same.name same.parent (sound_agrees v tree sound)
      (record { rows = λ b. refl; names = refl; kinds = λ index. refl; pairs = λ index value at. inr (keys index (lists.kinds index), refl) })

  shift : Shifts v new (d ∷ []) (d ∷ [])
  shift = one_shift v tree lists [] new d n now before is some changes kept bytes stream target same size same_target status

  marks : (k : ℕ) → IsMarked w k ↔ IsMarked v k
  marks k = (λ m. on ((shift.marks k).0 m), λ m. (shift.marks k).1 (back m (there_or_not k (d ∷ []))))
    where
      on : Has (d ∷ []) k ⊎ (IsMarked v k × (times k (d ∷ []) ≡ 0)) → IsMarked v k
      on (inl h) =
          subst (IsMarked v) (sym (only_d v tree lists [] new d n now before is some changes kept bytes stream target same size same_target status k h))
          ((before.marks d).1 (reached v tree lists [] new d n now before is some changes kept bytes stream target same size same_target status))
      on (inr old) = old.0

      back : IsMarked v k → Has (d ∷ []) k ⊎ (times k (d ∷ []) ≡ 0) → Has (d ∷ []) k ⊎ (IsMarked v k × (times k (d ∷ []) ≡ 0))
      back m (inl h) = inl h
      back m (inr none) = inr (m, none)

  as_many : length (reach w after) ≡ length (reach v tree)
  as_many = ap length (sym (append-nil (reach w after))) ∙ length_is_same v w tree after lists lists [] [] before stocked refl marks ∙ ap length (append-nil (reach v tree))

  pub status_is_sound : IsSound w after
  status_is_sound = stocked_sound w after lists stocked agrees plain sound.nodes.stands.root sound.nodes.stands.none.1 (sound.used ∙ sym as_many)
