-- A whole call that gives a file a size.
use Rattle.std.proofs.Common.{◌≡◌, ◌∙◌, ℕ, ℤ, List, [], length, None, Some, Option, Bool, true, refl, sym, ap, subst}
use Rattle.bfs_super.specs.declared.geometry.Geometry.{Geometry}
use Rattle.bfs_bitmap.specs.Runs.{Room}
use Rattle.bfs_tree.specs.Changes.{changed}
use Rattle.bfs_tree.specs.Refusals.{own_refusal}
use Rattle.bfs_tree.specs.States.{State}
use Rattle.bfs_tree.specs.Steps.{ByTree}
use Rattle.bfs_tree.specs.Trees.{Node, Tree, IsNode, is_file}
use Rattle.bfs_tree.specs.declared.call.Call.TheVariants.{SetSize}
use Rattle.bfs_tree.specs.declared.reply.Reply.TheVariants.{Done}
use Rattle.bfs_tree.specs.declared.state.Hold.{Hold}
use Rattle.bfs_sound.specs.Inodes.{stream_blocks}
use Rattle.bfs_sound.specs.Volumes.{sizes}
use Rattle.bfs_shift.specs.Lists.{Lists, Agrees}
use Rattle.bfs_shift.specs.Shifts.{volume_in}
use Rattle.bfs_shift.proofs.Statuses.{status_agrees}
use Rattle.bfs_look.specs.Ready.{IsReady}
use Rattle.bfs_set_size.specs.Resizing.{IsResizing}
use Rattle.bfs_set_size.specs.Relisted.{resized_node, HasListedAnew}
use Rattle.bfs_set_size.specs.Sized.{with_size, HasBlocksFor, HasResized, IsSizedSo}
use Rattle.bfs_set_size.proofs.Resized.{sized_there}
use Rattle.bfs_set_size.proofs.Steps.{goes_on_resizes, resizes_twice}
use Rattle.bfs_set_size.proofs.Written.{sized_tree}

module _ (g : Geometry) (v now later : Room) (m : ℕ → Option (List ℕ)) (tree : Tree) (lists : Lists) (id size : ℕ) (stamp : ℤ) (n : Node) (holds : List Hold) (told1 told2 : Option (ℕ → Option (List ℕ))) (c0 c1 c2 : ℕ → Bool)
    (ready : IsReady g v m tree lists) (is : IsNode tree id n) (file : is_file n.kind ≡ true) (fine : (s : State) → s.tree ≡ tree → s.holds ≡ holds → own_refusal (SetSize id size) s ≡ None)
    (resized : HasResized g v now m tree lists [] id n.size size stamp told1 c0 c1) (listed : HasListedAnew g now later resized.step.map tree (with_size tree id size stamp) lists id n (resized_node n size stamp) told2 c1 c2) where
  abbrev after : Tree
  after = with_size tree id size stamp

  step : IsResizing g v later m tree after listed.last [] id resized.grows told2 c0 c2
  step = record {
    map = listed.step.map;
    is = listed.step.is;
    work = listed.step.work;
    resizes = resizes_twice g v now later m resized.step.map listed.step.map tree after after id resized.grows c0 c1 c2 resized.step.resizes
        (goes_on_resizes g now later resized.step.map listed.step.map after after id resized.grows c1 c2 resized.step.resizes.clear listed.step.goes_on);
  }

  agrees : Agrees after listed.last
  agrees = subst (λ (t : Tree). Agrees t listed.last) (sized_tree tree id n size stamp is) (status_agrees tree lists listed.last id n (resized_node n size stamp) is refl refl refl ready.agrees listed.rekeys)

  -- the indices leave the file's blocks
  blocks_are : (x : Node) → IsNode tree id x → HasBlocksFor (sizes g) x.size size (length (stream_blocks (volume_in g m) id)) (length (stream_blocks (volume_in g step.map) id))
  unfolding step
  blocks_are x at =
      let both : Some x ≡ Some n = sym at ∙ is in
      let one : x ≡ n = cc in
      let stay = (listed.step.goes_on.files id (resized_node n size stamp) (sized_there tree id n size stamp is) file).1 in
      subst (λ (k : ℕ). HasBlocksFor (sizes g) x.size size (length (stream_blocks (volume_in g m) id)) k) (ap length (sym stay))
      (subst (λ (y : Node). HasBlocksFor (sizes g) y.size size (length (stream_blocks (volume_in g m) id)) (length (stream_blocks (volume_in g resized.step.map) id))) (sym one) resized.blocks)

  pub sized_so : IsSizedSo g v later m tree holds stamp id size told2 c0 c2
  sized_so = record {
    after = after;
    lists = listed.last;
    grows = resized.grows;
    step = step;
    blocks = blocks_are;
    agrees = agrees;
    root = refl;
    answers = λ s same held. (
      changed 0 stamp (SetSize id size) Done s,
      ap (λ (t : Tree). with_size t id size stamp) same,
      held,
      λ session. ByTree.answered (fine s same held) refl refl,
    );
  }
