-- Face over what tells the sealed volume is the last volume of the story.
use Rattle.std.proofs.Common.{◌≡◌, ◌↔◌, ◌<◌, ℕ, List, [], ◌∷◌, Option, Some, None, unwrap_or, refl, sym, ◌∙◌, ap, subst, arith}
use Rattle.std.proofs.lemmas.List.{take_all}
use Rattle.bfs_base.specs.Lists.{times}
use Rattle.bfs_super.specs.declared.sup.Super.{Super}
use Rattle.bfs_super.specs.declared.geometry.Geometry.{Geometry}
use Rattle.bfs_txn.specs.Changed.{newest, or_else}
use Rattle.bfs_tree.specs.Trees.{Tree}
use Rattle.bfs_tree.specs.Histories.{after}
use Rattle.bfs_sound.specs.Volumes.{Volume, log_blocks, IsMarked}
use Rattle.bfs_sound.specs.Owners.{IsMetadata, fixed_blocks}
use Rattle.bfs_sound.specs.Whole.{IsSound}
use Rattle.bfs_sound.proofs.Carried.{sound_stays, metadata_stays, bits_stay}
use Rattle.bfs_device.specs.Layouts.{layout_of, IsData}
use Rattle.bfs_device.specs.Ahead.{geometry_with}
use Rattle.bfs_core.specs.Spaces.{SpaceView, IsFaceMetadata, face, face_over}
use Rattle.bfs_core.specs.Stories.{Words, Story, IsStory, SpaceFits, TellsFace, IsMetadataIn, tree_in, end_of}
use Rattle.bfs_core.proofs.Masks.{metadata_data}
use Rattle.bfs_core.proofs.Images.{some_bytes}

-- metadata of a volume with this geometry is data
pub data_in : (s : Super) (used : ℕ) (v : Volume) (tree : Tree) → v.geometry ≡ geometry_with s used → IsSound v tree → (k : ℕ) → IsMetadata v tree k → times k (fixed_blocks v) ≡ 0 → IsData (layout_of s) k
data_in s used v tree same sound k meta fixed =
    let is : v ≡ (let w : Volume = record { geometry = geometry_with s used; blocks = v.blocks } in w) = λ i. record { geometry = same i; blocks = v.blocks } in
    metadata_data s used v.blocks tree (subst (λ (x : Volume). IsSound x tree) is sound) k (subst (λ (x : Volume). IsMetadata x tree k) is meta) (subst (λ (x : Volume). times k (fixed_blocks x) ≡ 0) is fixed)

module _ (y : Story) (w : Words) (sp : SpaceView) (m : ℕ → Option (List ℕ)) (story : IsStory y w.left) (space : SpaceFits y w sp) (tells : TellsFace y w.sealed m) where
  some : 0 < (y.faces (end_of y)).geometry.block_size
  some = let e = ap (λ (g : Geometry). g.block_size) space.geometry in let p = some_bytes sp.sup space.valid in omega (arith, e, p)

  fixed_same : fixed_blocks (y.faces (end_of y)) ≡ fixed_blocks (y.faces w.sealed)
  fixed_same = ap (λ (g : Geometry). 0 ∷ log_blocks g) space.geometry ∙ sym (ap (λ (g : Geometry). 0 ∷ log_blocks g) space.ends)

  pub face_at : (k : ℕ) → IsMetadataIn y (end_of y) k → times k (fixed_blocks (y.faces (end_of y))) ≡ 0 → face_over sp.group m k ≡ (y.faces (end_of y)).blocks k
  face_at k meta fixed = by_group (newest sp.group k) refl
    where
      by_group : (o : Option (List ℕ)) → newest sp.group k ≡ o → unwrap_or (or_else o (m k)) [] ≡ (y.faces (end_of y)).blocks k
      by_group (Some bytes) is = space.group.changed k bytes meta is
      by_group None is =
          let before = space.group.rest k meta is in
          tells k before.0 (subst (λ (xs : List ℕ). times k xs ≡ 0) fixed_same fixed) ∙ before.1 fixed

  face_is : (let v : Volume = record (y.faces (end_of y)) { blocks = face_over sp.group m } in v) ≡ face sp m
  face_is = λ i. record { geometry = space.geometry i; blocks = face_over sp.group m }

  tree_end : tree_in y (end_of y) ≡ after y.t0 sp.history
  tree_end = ap (after y.t0) (take_all (end_of y) y.history (omega arith) ∙ sym space.history)

  end_sound : IsSound (y.faces (end_of y)) (tree_in y (end_of y))
  end_sound = story.sound (end_of y) (omega arith)

  pub face_sound : IsSound (face sp m) (after y.t0 sp.history)
  face_sound = subst (IsSound (face sp m)) tree_end (subst (λ (v : Volume). IsSound v (tree_in y (end_of y))) face_is (sound_stays (y.faces (end_of y)) (face_over sp.group m) (tree_in y (end_of y)) end_sound some face_at))

  pub to_face : (k : ℕ) → IsMetadataIn y (end_of y) k ↔ IsFaceMetadata y.t0 sp m k
  to_face k =
      let stays = metadata_stays (y.faces (end_of y)) (face_over sp.group m) (tree_in y (end_of y)) end_sound some face_at k in (
        (λ meta. subst (λ (x : Tree). IsMetadata (face sp m) x k) tree_end (subst (λ (v : Volume). IsMetadata v (tree_in y (end_of y)) k) face_is (stays.1 meta))),
        (λ meta. stays.0 (subst (λ (v : Volume). IsMetadata v (tree_in y (end_of y)) k) (sym face_is) (subst (λ (x : Tree). IsMetadata (face sp m) x k) (sym tree_end) meta))),
      )

  pub to_bits : (k : ℕ) → IsMarked (y.faces (end_of y)) k ↔ IsMarked (face sp m) k
  to_bits k =
      let stays = bits_stay (y.faces (end_of y)) (face_over sp.group m) (tree_in y (end_of y)) end_sound some face_at k in (
        (λ is. subst (λ (v : Volume). IsMarked v k) face_is (stays.1 is)),
        (λ is. stays.0 (subst (λ (v : Volume). IsMarked v k) (sym face_is) is)),
      )
