-- A node that another one replaces goes: it is listed no more, its name is taken, and it leaves the tree.
use Rattle.std.proofs.Common.{◌≡◌, ℕ, pos, List, [], Option, Some, Bool, sym, ap, ◌∙◌, subst}
use Rattle.bfs_base.specs.declared.kind.KeyKind.TheVariants.{Text}
use Rattle.bfs_super.specs.Conditions.{IsValid}
use Rattle.bfs_super.specs.Geometry.{geometry_of}
use Rattle.bfs_super.specs.declared.geometry.Geometry.{Geometry}
use Rattle.bfs_super.specs.declared.sup.Super.{Super}
use Rattle.bfs_bitmap.specs.Runs.{Room}
use Rattle.bfs_node.specs.Page.{Row}
use Rattle.bfs_pages.specs.Maps.{assoc, without}
use Rattle.bfs_tree.specs.Trees.{Node, Tree, IsDirectory}
use Rattle.bfs_maps.specs.NumberTrees.{AreNumbers}
use Rattle.bfs_shift.specs.Lists.{Lists}
use Rattle.bfs_shift.specs.TreeLaws.{LosesNode}
use Rattle.bfs_shift.specs.Work.{GoesOn, IsStepped, HasDirectoryAt}
use Rattle.bfs_shift.proofs.Parts.{lists_at}
use Rattle.bfs_shift.proofs.Without.{plain_without, replaced_agrees}
use Rattle.bfs_look.specs.Ready.{IsReady}
use Rattle.bfs_look.proofs.Known.{rows_numbers, row_child}
use Rattle.bfs_leave.specs.Leaving.{GivesBack, IsLeft, tree_without}
use Rattle.bfs_leave.proofs.Steps.{goes_on_gives, gives_back_twice}
use Rattle.bfs_remove_node.specs.Without.{HasUnlisted, HasNodeIn}
use Rattle.bfs_remove_node.specs.Whole.{HoldsNode}
use Rattle.bfs_make.proofs.Telling.{one_map}
use Rattle.bfs_moves.proofs.Ends.{goes_on_twice}
use Rattle.bfs_remove_node.proofs.Sought.{plain_of}
use Rattle.bfs_rename.specs.Replacing.{StandsEmpty, HasLeftReady}
use Rattle.bfs_rename.specs.Rows.{row_taken}

module _ (s : Super) (v : Room) (m : ℕ → Option (List ℕ)) (tree : Tree) (lists : Lists) (ready : IsReady (geometry_of s) v m tree lists) (valid : IsValid s)
    (id : ℕ) (node : Node) (dir : ℕ) (name : List ℕ) (at : StandsEmpty tree id node dir name) where
  abbrev g : Geometry
  g = geometry_of s

  -- its directory
  pub above : IsDirectory tree dir
  above = subst (IsDirectory tree) at.parent (ready.plain.nodes.parents id node at.there)

  pub row : assoc Text (lists.rows dir) name ≡ Some (pos id)
  row = ap (assoc Text (lists.rows dir)) (sym at.named) ∙ row_child s v m tree lists ready dir above.0 above.1 above.2 id node at.there at.apart at.parent

  pub node_in : HasNodeIn g v m id
  node_in = record { tree = tree; lists = lists; node = node; ready = ready; there = at.there; apart = at.apart }

  -- it is listed no more
  module _ (v1 : Room) (t1 : Option (ℕ → Option (List ℕ))) (c0 c1 : ℕ → Bool) (one : HasUnlisted g v v1 m tree lists id t1 c0 c1) where
    directory : HasDirectoryAt g v1 one.step.map dir
    directory = record { tree = tree; lists = one.last; loose = []; node = above.0; work = one.step.work; there = above.1; kind = above.2 }

    pub directory_at : (n : ℕ → Option (List ℕ)) → t1 ≡ Some n → HasDirectoryAt g v1 n dir
    directory_at n told = subst (λ (k : ℕ → Option (List ℕ)). HasDirectoryAt g v1 k dir) (one_map t1 one.step.map n one.step.is told) directory

    pub numbers : AreNumbers (one.last.rows dir)
    numbers = subst AreNumbers (sym (one.without.rows dir)) (rows_numbers s v m tree lists ready dir above.0 above.1 above.2 valid)

    pub row_still : assoc Text (one.last.rows dir) name ≡ Some (pos id)
    row_still = ap (λ (rows : List Row). assoc Text rows name) (one.without.rows dir) ∙ row

    abbrev pub last : Lists
    last = row_taken one.last dir name

    loses_at : LosesNode lists last dir id node
    loses_at = record {
      parent =
          (lists_at one.last).rows_here dir (without Text (one.last.rows dir) name) ∙ ap (λ (rows : List Row). without Text rows name) (one.without.rows dir)
          ∙ ap (without Text (lists.rows dir)) (sym at.named);
      others = λ k other. (lists_at one.last).rows_elsewhere dir k (without Text (one.last.rows dir) name) other ∙ one.without.rows k;
      names = one.without.names;
      kinds = one.without.kinds;
      pairs = one.without.pairs;
    }

    loses : LosesNode lists last node.parent id node
    loses = subst (λ (k : ℕ). LosesNode lists last k id node) (sym at.parent) loses_at

    -- its name is taken
    module _ (v2 : Room) (t2 : Option (ℕ → Option (List ℕ))) (c2 : ℕ → Bool) (two : IsStepped g v1 v2 one.step.map tree tree last [] t2 c1 c2) where
      both : GoesOn g v v2 m two.map tree tree c0 c2
      both = goes_on_twice g v v1 v2 m one.step.map two.map tree tree tree c0 c1 c2 one.step.goes_on two.goes_on

      pub gives : GivesBack g v v2 m two.map tree tree c0 c2
      gives = goes_on_gives g v v2 m two.map tree tree c0 c2 ready.reserved both

      holds : HoldsNode g v2 two.map id
      holds = record { tree = tree; lists = last; loose = []; node = node; work = two.work; there = at.there }

      pub holds_at : (n : ℕ → Option (List ℕ)) → t2 ≡ Some n → HoldsNode g v2 n id
      holds_at n told = subst (λ (k : ℕ → Option (List ℕ)). HoldsNode g v2 k id) (one_map t2 two.map n two.is told) holds

      -- it leaves the tree
      module _ (v3 : Room) (t3 : Option (ℕ → Option (List ℕ))) (c3 : ℕ → Bool) (three : IsLeft g v2 v3 two.map tree (tree_without tree id) last [] t3 c2 c3) where
        abbrev gone : IsLeft g v v3 m tree (tree_without tree id) last [] t3 c0 c3
        gone = record {
          map = three.map;
          is = three.is;
          work = three.work;
          gives = gives_back_twice g v v2 v3 m two.map three.map tree tree (tree_without tree id) c0 c2 c3 gives three.gives;
        }

        pub left_ready : HasLeftReady g v v3 m tree id t3 c0 c3
        left_ready = record {
          lists = last;
          left = gone;
          ready = record {
            work = three.work;
            agrees = replaced_agrees (plain_of tree) lists last id node ready.plain.nodes at.there at.apart at.empty ready.agrees loses;
            plain = record { nodes = plain_without (plain_of tree) lists last id node ready.plain.nodes at.there at.apart at.empty; indices = ready.plain.indices };
            root = ready.root;
            reserved = three.gives.clear;
          };
        }
