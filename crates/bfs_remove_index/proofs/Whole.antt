-- An index was removed.
use Rattle.std.proofs.Common.{◌≡◌, ◌∙◌, ℕ, List, [], ◌++◌, Bool, Option, refl, sym, ap, subst}
use Rattle.std.specs.FinMap.{remove}
use Rattle.bfs_super.specs.declared.geometry.Geometry.{Geometry}
use Rattle.bfs_bitmap.specs.declared.given.Given.{Given}
use Rattle.bfs_bitmap.specs.Runs.{Room, as_kept}
use Rattle.bfs_stream.specs.Standing.{standing}
use Rattle.bfs_tree.specs.Trees.{Tree}
use Rattle.bfs_sound.specs.Inodes.{inode_blocks}
use Rattle.bfs_shift.specs.Lists.{Lists, with_names}
use Rattle.bfs_shift.specs.Shifts.{volume_in}
use Rattle.bfs_shift.specs.Work.{IsAtWork}
use Rattle.bfs_shift.proofs.Statuses.{index_remove_agrees}
use Rattle.bfs_look.specs.Ready.{IsReady}
use Rattle.bfs_leave.specs.Leaving.{IsClear, GivesBack, IsLeft}
use Rattle.bfs_leave.proofs.Standing.{same_standing}
use Rattle.bfs_leave.proofs.Steps.{goes_on_gives, gives_back_twice}
use Rattle.bfs_remove_index.specs.Removed.{HasIndexTaken, IsIndexRemoved, without_index}

-- a step that gives nothing back keeps what stands of the runs that were given back
pub rest_more : (v now : Room) → now ≡ record v { tally = now.tally } → now ≡ record v { given = now.given; tally = now.tally }
rest_more v now rest = rest ∙ ap (λ (gs : List Given). record v { given = gs; tally = now.tally }) (sym (ap (λ (r : Room). r.given) rest))

pub kept_still : (v now : Room) → now ≡ record v { tally = now.tally } → as_kept now ≡ as_kept v
kept_still v now rest = ap as_kept rest

pub standing_still : (v now : Room) → now ≡ record v { tally = now.tally } → standing now ≡ standing v
standing_still v now rest = same_standing v now (ap (λ (r : Room). r.given) rest)

-- and one that gives back after it
pub rest_twice : (v mid now : Room) → mid ≡ record v { tally = mid.tally } → now ≡ record mid { given = now.given; tally = now.tally } → now ≡ record v { given = now.given; tally = now.tally }
rest_twice v mid now one two = two ∙ ap (λ (r : Room). record r { given = now.given; tally = now.tally }) one

module _ (g : Geometry) (v mid : Room) (m : ℕ → Option (List ℕ)) (tree : Tree) (lists : Lists) (name : List ℕ) (inode : ℕ) (told : Option (ℕ → Option (List ℕ))) (old half : ℕ → Bool)
    (ready : IsReady g v m tree lists) (taken : HasIndexTaken g v mid m tree lists name inode told old half) where
  abbrev after : Tree
  after = without_index tree name

  abbrev since : Lists
  since = with_names lists taken.names

  first : GivesBack g v mid m taken.step.map tree after old half
  first = goes_on_gives g v mid m taken.step.map tree after old half ready.reserved taken.step.goes_on

  -- the index is loose, and no reserved block is marked
  pub loose_work : IsAtWork g mid taken.step.map after since (inode_blocks (volume_in g taken.step.map) inode ++ [])
  loose_work = subst (λ (l : List ℕ). IsAtWork g mid taken.step.map after since (l ++ [])) (sym taken.same) taken.step.work

  pub loose_clear : IsClear g mid taken.step.map
  loose_clear = first.clear

  pub index_removed : (now : Room) (last : Option (ℕ → Option (List ℕ))) (new : ℕ → Bool) → IsLeft g mid now taken.step.map after after since [] last half new → IsIndexRemoved g v now m tree name last old new
  index_removed now last new two = record {
    after = after;
    lists = since;
    left = record { map = two.map; is = two.is; work = two.work; gives = gives_back_twice g v mid now m taken.step.map two.map tree after after old half new first two.gives };
    agrees = index_remove_agrees tree lists since name ready.agrees (record { rows = λ d. refl; names = taken.differs; others = λ index apart. (refl, refl) });
    root = refl;
    follows = λ s e. ap (λ (t : Tree). record t { indices = remove t.indices name }) (sym e);
  }
