-- A node that was taken out of the indices of some rows, one after the other.
use Rattle.std.proofs.Common.{◌≡◌, ◌<◌, ◌⊎◌, inl, inr, ℕ, List, [], ◌∷◌, subst, Bool, true, Option, Some}
use Rattle.bfs_super.specs.declared.geometry.Geometry.{Geometry}
use Rattle.bfs_bitmap.specs.Fills.{IsBitmapBlock}
use Rattle.bfs_bitmap.specs.Runs.{Room}
use Rattle.bfs_tree.specs.Trees.{Tree}
use Rattle.bfs_tree.specs.declared.reply.Info.{Info}
use Rattle.bfs_attr.specs.declared.directory.InodeRow.{InodeRow}
use Rattle.bfs_shift.specs.Lists.{Lists}
use Rattle.bfs_shift.specs.Work.{IsStepped}
use Rattle.bfs_moves.proofs.Ends.{goes_on_same}
use Rattle.bfs_unlist.specs.Reading.{IsPartly, IsRead, IsUnlisting, IsUnlistingAt, HasPartly}
use Rattle.bfs_make.proofs.Telling.{one_map}
use Rattle.bfs_moves.proofs.Stepping.{stepped_twice}

-- the steps so far, of which the indices with these rows alone may list the node still
pub record IsFar (g : Geometry) (v now : Room) (m : ℕ → Option (List ℕ)) (tree : Tree) (lists : Lists) (id : ℕ) (info : Info) (rest : List InodeRow) (told : Option (ℕ → Option (List ℕ))) (old new : ℕ → Bool) : Type 0 where
  pub last : Lists
  pub step : IsStepped g v now m tree tree last [] told old new
  pub read : IsRead tree lists id info rest
  pub partly : IsPartly tree lists last id rest

pub far_none : (g : Geometry) (v : Room) (m : ℕ → Option (List ℕ)) (tree : Tree) (lists now : Lists) (id : ℕ) (info : Info) (rows : List InodeRow) (told : Option (ℕ → Option (List ℕ))) (old : ℕ → Bool)
    → told ≡ Some m → IsUnlisting g v m tree lists now id info rows → IsFar g v v m tree lists id info rows told old old
far_none g v m tree lists now id info rows told old is u = record {
  last = now;
  step = record { map = m; is = is; work = u.work; goes_on = goes_on_same g v m tree old };
  read = u.read;
  partly = u.partly;
}

module _ (g : Geometry) (v now : Room) (m : ℕ → Option (List ℕ)) (tree : Tree) (lists : Lists) (id : ℕ) (info : Info) (told : Option (ℕ → Option (List ℕ))) (old new : ℕ → Bool) where
  pub far_unlisting : (rest : List InodeRow) (far : IsFar g v now m tree lists id info rest told old new) → IsUnlisting g now far.step.map tree lists far.last id info rest
  far_unlisting rest far = record { work = far.step.work; read = far.read; partly = far.partly }

  pub far_split : (rows : List InodeRow) (row : InodeRow) (rest : List InodeRow) → rows ≡ row ∷ rest → IsFar g v now m tree lists id info rows told old new → IsFar g v now m tree lists id info (row ∷ rest) told old new
  far_split rows row rest split far = subst (λ (l : List InodeRow). IsFar g v now m tree lists id info l told old new) split far

  pub far_at : (row : InodeRow) (rest : List InodeRow) → IsFar g v now m tree lists id info (row ∷ rest) told old new → (n : ℕ → Option (List ℕ)) → told ≡ Some n → IsUnlistingAt g now n id info row
  far_at row rest far n is = (
    rest,
    record {
      tree = tree;
      lists = lists;
      now = far.last;
      unlisting = subst (λ (k : ℕ → Option (List ℕ)). IsUnlisting g now k tree lists far.last id info (row ∷ rest)) (one_map told far.step.map n far.step.is is) (far_unlisting (row ∷ rest) far);
    },
  )

  pub far_more : (later : Room) (row : InodeRow) (rest : List InodeRow) (told2 : Option (ℕ → Option (List ℕ))) (since : ℕ → Bool) (far : IsFar g v now m tree lists id info (row ∷ rest) told old new)
      → HasPartly g now later far.step.map tree lists id rest told2 new since → IsFar g v later m tree lists id info rest told2 old since
  far_more later row rest told2 since far more = record {
    last = more.last;
    step = stepped_twice g v now later m tree tree tree far.last more.last [] [] told told2 old new since far.step more.step;
    read = record {
      node = far.read.node;
      there = far.read.there;
      apart = far.read.apart;
      info_is = far.read.info_is;
      plain = far.read.plain;
      kinds = far.read.kinds;
      lead = far.read.lead.1;
    };
    partly = more.partly;
  }

  pub far_ends : (rest : List InodeRow) → rest ≡ [] → IsFar g v now m tree lists id info rest told old new → HasPartly g v now m tree lists id [] told old new
  far_ends rest none far = record { last = far.last; step = far.step; partly = subst (λ (l : List InodeRow). IsPartly tree lists far.last id l) none far.partly }

-- what was changed by two steps
pub changed_again : (v now : Room) (blocks : ℕ) (a b c : ℕ → Bool) → now ≡ record v { tally = now.tally } → ((k : ℕ) → b k ≡ true → (a k ≡ true) ⊎ (IsBitmapBlock v k ⊎ (k < blocks)))
    → ((k : ℕ) → c k ≡ true → (b k ≡ true) ⊎ (IsBitmapBlock now k ⊎ (k < blocks))) → (k : ℕ) → c k ≡ true → (a k ≡ true) ⊎ (IsBitmapBlock v k ⊎ (k < blocks))
changed_again v now blocks a b c rest one two k e = by_side (two k e)
  where
    by_side : (b k ≡ true) ⊎ (IsBitmapBlock now k ⊎ (k < blocks)) → (a k ≡ true) ⊎ (IsBitmapBlock v k ⊎ (k < blocks))
    by_side (inl before) = one k before
    by_side (inr (inl bits)) = inr (inl (subst (λ (x : Room). IsBitmapBlock x k) rest bits))
    by_side (inr (inr low)) = inr (inr low)
