-- A note that leaves the tree as it is.
use Rattle.std.proofs.Common.{◌≡◌, inl, inr, ⊎_elim, ℕ, List, [], ◌∷◌, Option, refl, sym, subst, arith}
use Rattle.std.proofs.lemmas.Bool.{true≢false}
use Rattle.std.proofs.lemmas.List.{length-append}
use Rattle.bfs_tree.specs.Trees.{Tree}
use Rattle.bfs_tree.specs.declared.reply.Entry.{Entry}
use Rattle.bfs_tree.specs.Histories.{Follows, Mounted, after}
use Rattle.bfs_tree.proofs.Legals.{legal-push}
use Rattle.bfs_sound.specs.Owners.{IsMetadata}
use Rattle.bfs_sound.specs.Whole.{IsSound}
use Rattle.bfs_device.specs.Phases.{none}
use Rattle.bfs_core.specs.Spaces.{SpaceView, Entered, HasSet, IsFaceMetadata, IsSoundOver, face, noted}

module _ (t0 : Mounted) (sp : SpaceView) (m : ℕ → Option (List ℕ)) (e : Entry) (old : IsSoundOver t0 sp m) (follows : Follows t0 sp.history e) (same : after t0 (noted sp e).history ≡ after t0 sp.history) where
  later : (k : ℕ) → IsFaceMetadata t0 sp m k → IsFaceMetadata t0 (noted sp e) m k
  later k meta = subst (λ (x : Tree). IsMetadata (face sp m) x k) (sym same) meta

  before : (k : ℕ) → IsFaceMetadata t0 (noted sp e) m k → IsFaceMetadata t0 sp m k
  before k meta = subst (λ (x : Tree). IsMetadata (face sp m) x k) same meta

  pub note_entered : Entered t0 sp (noted sp e) m e
  note_entered = record {
    same = record { sup = refl; sealed = refl; sealed_used = refl };
    history = refl;
    follows = follows;
    sound = record {
      legal = legal-push t0 [] sp.history e old.legal follows;
      sound = subst (IsSound (face sp m)) (sym same) old.sound;
      unmarked = old.unmarked;
      own = λ k has. ⊎_elim (λ meta. inl (later k meta)) (λ fresh. inr fresh) (old.own k has);
      sized = old.sized;
      covered = (let le = old.covered in omega (arith, le, length-append sp.history (e ∷ [])));
    };
    blocks = λ k marked. inl (record { marked = marked; metadata = (later k, before k) });
    held = λ n k held. held;
    idle = λ nothing. (nothing, refl);
  }

  pub note_set : HasSet t0 sp (noted sp e) m none
  note_set = record {
    group = λ k. ((λ has. inl has), (λ is. ⊎_elim (λ was. was) (λ bad. absurd (true≢false (sym bad))) is));
    rest = λ k meta clear. before k meta;
  }
