-- A space that was opened and a device that has adopted a disk fit a story that begins.
use Rattle.std.proofs.Common.{◌≡◌, inl, ℕ, zero, suc, List, [], take, Some, refl, sym, ◌∙◌, ap, subst, arith}
use Rattle.std.proofs.lemmas.Bool.{true≢false}
use Rattle.bfs_disk.specs.State.{State, Holds, Filled}
use Rattle.bfs_super.specs.declared.sup.Super.{Super}
use Rattle.bfs_super.specs.Conditions.{IsValid}
use Rattle.bfs_log.specs.Replay.{super_of, blocks_of}
use Rattle.bfs_tree.specs.Trees.{Tree}
use Rattle.bfs_tree.specs.declared.reply.Entry.{Entry}
use Rattle.bfs_tree.specs.Histories.{Mounted, after}
use Rattle.bfs_sound.specs.Volumes.{Volume}
use Rattle.bfs_sound.specs.Owners.{IsMetadata}
use Rattle.bfs_sound.specs.Whole.{IsSound, IsWhole, volume_of}
use Rattle.bfs_device.specs.Phases.{none}
use Rattle.bfs_device.specs.Books.{IsOnDisk}
use Rattle.bfs_device.specs.Seals.{adopted}
use Rattle.bfs_device.proofs.Sealing.{adopted_rests}
use Rattle.bfs_core.specs.Spaces.{opened}
use Rattle.bfs_core.specs.Stories.{IsPair, Story, IsStory, SpaceFits, DeviceFits, IsMetadataIn, begun, no_words, tree_in}
use Rattle.bfs_core.proofs.Openings.{read_is}
use Rattle.bfs_core.proofs.Steady.{adopted_steady}

no_entries : (n : ℕ) (es : List Entry) → es ≡ [] → take n es ≡ []
no_entries n es none = ap (take n) none ∙ of_none n
  where
    of_none : (n : ℕ) → take {A = Entry} n [] ≡ []
    of_none zero = refl
    of_none (suc n) = refl

module _ (t0 : Mounted) (image : List ℕ) (st : State) (whole : IsWhole image t0.tree) (holds : Holds image st) (filled : Filled st) (on : IsOnDisk (Some st.size) (super_of image)) where
  abbrev s : Super
  s = super_of image

  abbrev v : Volume
  v = volume_of (super_of image) (blocks_of image)

  abbrev y : Story
  y = begun t0 (volume_of (super_of image) (blocks_of image))

  valid : IsValid (super_of image)
  valid = whole.whole.valid.super

  tree_is : (n : ℕ) → tree_in y n ≡ t0.tree
  tree_is n = ap (after t0) (no_entries n [] refl)

  to_end : (n k : ℕ) → IsMetadataIn y n k → IsMetadata v t0.tree k
  to_end n k meta = subst (λ (x : Tree). IsMetadata v x k) (tree_is n) meta

  from_end : (n k : ℕ) → IsMetadata v t0.tree k → IsMetadataIn y n k
  from_end n k meta = subst (λ (x : Tree). IsMetadata v x k) (sym (tree_is n)) meta

  story_begins : IsStory y 0
  story_begins = record {
    legal = tt;
    sound = λ n le. subst (IsSound v) (sym (tree_is n)) whole.whole.sound;
    metadata = λ i j k low up high meta. inl (from_end j k (to_end i k meta));
    sets = λ i j k low up high is. absurd (true≢false (sym is));
  }

  space_begins : SpaceFits y no_words (opened (super_of image))
  space_begins = record {
    valid = valid;
    history = refl;
    sealed = refl;
    covered = omega arith;
    geometry = refl;
    ends = refl;
    idle = λ empty. refl;
    sized = λ i lt. absurd (omega (arith, lt));
    group = record {
      exact = λ k. ((λ has. absurd (has refl)), (λ since. absurd (true≢false (sym since.3))));
      changed = λ k bytes meta is. absurd (cc);
      rest = λ k meta nothing. (meta, (λ fixed. refl));
    };
    given = record {
      unmarked = λ k bad. absurd (true≢false (sym bad));
      blocks = λ n k low high is. inl (record { marked = is; metadata = ((λ meta. from_end 0 k (to_end n k meta)), (λ meta. from_end n k (to_end 0 k meta))) });
      sets = λ i k low high is. absurd (true≢false (sym is));
      own = λ k has. absurd (has refl);
    };
  }

  device_begins : DeviceFits y no_words (super_of image) (adopted (super_of image)) none st
  device_begins = record {
    steady = adopted_steady (super_of image) valid whole.whole.emptied;
    right = adopted_rests (super_of image) st image valid filled on holds refl;
    volume = λ used. refl;
    sealed = refl;
    durable = refl;
    left = refl;
    known = λ k d lt. absurd (omega (arith, lt));
    versions = record {
      geometry = λ n is. refl;
      reads = λ n k is meta d. read_is (super_of image) st image k valid filled on holds refl d;
      untouched = λ n k is meta. refl;
    };
    files = λ k bad. absurd (true≢false (sym bad));
    groups = λ g k nothing has. absurd nothing;
  }

  pub pair_begins : IsPair y no_words (opened (super_of image)) (adopted (super_of image)) none st
  pair_begins = record { story = story_begins; space = space_begins; device = device_begins }
