-- What a close leaves.
use Rattle.std.proofs.Common.{◌≡◌, ◌≤◌, ℕ, List, length, Bool, Option, Some, IfSome, ap, subst, arith}
use Rattle.std.proofs.Math.Logic.{∥∥₁_map}
use Rattle.bfs_disk.specs.State.{State, Tells, Filled, IsImage}
use Rattle.bfs_disk.specs.Disk.{MayLeave}
use Rattle.bfs_tree.specs.declared.reply.Entry.{Entry}
use Rattle.bfs_tree.specs.Histories.{Mounted, after}
use Rattle.bfs_sound.specs.Whole.{Recovers}
use Rattle.bfs_device.specs.Books.{Books, IsOnDisk, IsRight, RecoversOne, durable_of}
use Rattle.bfs_core.specs.Spaces.{SpaceView}
use Rattle.bfs_core.specs.Cores.{RecoversFrom}
use Rattle.bfs_core.specs.Moments.{Adoption}
use Rattle.bfs_core.proofs.Images.{recovers_all, recovers_from}
use Rattle.bfs_core.proofs.Times.{recovers_less}
use Rattle.bfs_core.proofs.Settling.{settled_recovers}
use Rattle.bfs_core.specs.Settled.{KeepsKnown}
use Rattle.bfs_core.specs.Chains.{Image}
use Rattle.bfs_device_blocks.proofs.Holding.{sized_so}
use Rattle.bfs_device_blocks.specs.Lent.{HasCore}

-- where all entries are durable, whatever a crash leaves recovers to the tree after all of them
pub all_recovers : (t0 : Mounted) (adopted : Adoption) (sp : SpaceView) (history : List Entry) (b : Books) (told : Option State) (clock : ℕ) (since : ℕ → List ℕ → Type 0) → sp.history ≡ history → length history ≤ durable_of b
    → ((t : ℕ → Bool) (right : Tells told (IsRight b t)) (image : List ℕ) → MayLeave told image → RecoversOne b t right.0 image) → HasCore t0 adopted sp b told clock since → (image : List ℕ) → MayLeave told image → Recovers image (after t0 history)
all_recovers t0 adopted sp history b told clock since same low recovers core image left =
    let one = recovers core.0.2.0 (core.0.0, core.0.1, core.0.2.1.right) image left in
    let from : RecoversFrom t0 sp.history (durable_of b) image = recovers_from t0 sp b core.0.2.0 core.0.0 image core.0.2.1 one in
    let all : RecoversFrom t0 sp.history (length sp.history) image = recovers_less t0 sp.history (length sp.history) (durable_of b) image (let e = ap length same in omega (arith, e, low)) from in
    subst (λ (h : List Entry). Recovers image (after t0 h)) same (recovers_all t0 sp.history image all)

-- and else at least those that were durable before
pub some_recovers : (t0 : Mounted) (adopted : Adoption) (n : ℕ) (sp : SpaceView) (history : List Entry) (b : Books) (told : Option State) (clock : ℕ) (since : ℕ → List ℕ → Type 0) → sp.history ≡ history → n ≤ durable_of b
    → ((t : ℕ → Bool) (right : Tells told (IsRight b t)) (image : List ℕ) → MayLeave told image → RecoversOne b t right.0 image) → HasCore t0 adopted sp b told clock since → (image : List ℕ) → MayLeave told image → RecoversFrom t0 history n image
some_recovers t0 adopted n sp history b told clock since same low recovers core image left =
    let one = recovers core.0.2.0 (core.0.0, core.0.1, core.0.2.1.right) image left in
    let from : RecoversFrom t0 sp.history (durable_of b) image = recovers_from t0 sp b core.0.2.0 core.0.0 image core.0.2.1 one in
    subst (λ (h : List Entry). RecoversFrom t0 h n image) same (recovers_less t0 sp.history n (durable_of b) image low from)

-- since what led to mounting began, a crash might have left only what recovers
pub since_begun : (t0 : Mounted) (adopted : Adoption) (sp : SpaceView) (history : List Entry) (b : Books) (told : Option State) (clock : ℕ) (since : ℕ → List ℕ → Type 0) → sp.history ≡ history → HasCore t0 adopted sp b told clock since
    → (c : List ℕ) → since adopted.begun c → ∥ RecoversFrom t0 history 0 c ∥₁
since_begun t0 adopted sp history b told clock since same core c left =
    subst (λ (h : List Entry). ∥ RecoversFrom t0 h 0 c ∥₁) same (∥∥₁_map core.1 (λ kept. kept.first adopted.begun c (omega arith) (let a = kept.early in let z = kept.low in omega (arith, a, z)) left))

-- files keep the bytes that were known since so many entries, where these are durable
keeps_less : (t0 : Mounted) (history : List Entry) (n m : ℕ) (image : List ℕ) → n ≤ m → KeepsKnown t0 history m image → KeepsKnown t0 history n image
keeps_less t0 history n m image le keeps = record {
  number = keeps.number;
  low = (let low = keeps.low in omega (arith, le, low));
  high = keeps.high;
  recovers = keeps.recovers;
  bytes = λ id place byte since. keeps.bytes id place byte (λ k from upto. since k (omega (arith, le, from)) upto);
}

pub known_kept : (t0 : Mounted) (adopted : Adoption) (first : Image) (n : ℕ) (sp : SpaceView) (history : List Entry) (b : Books) (told : Option State) (size : Option ℕ) (clock : ℕ) (since : ℕ → List ℕ → Type 0) → sp.history ≡ history → n ≤ durable_of b
    → IfSome told Filled → IfSome told (λ x. size ≡ Some x.size) → IsOnDisk size b.sup → ((t : ℕ → Bool) (right : Tells told (IsRight b t)) (image : List ℕ) → MayLeave told image → RecoversOne b t right.0 image)
    → HasCore t0 adopted sp b told clock since → adopted.first ≡ Some first → (image : List ℕ) → MayLeave told image → KeepsKnown t0 history n image
known_kept t0 adopted first n sp history b told size clock since same low filled sized on recovers core begins image left =
    let one = recovers core.0.2.0 (core.0.0, core.0.1, core.0.2.1.right) image left in
    let is : IsImage core.0.0 image = subst (λ (o : Option State). MayLeave o image) core.0.1 left in
    let here = sized_so b size told filled sized on core.0.0 core.0.1 in
    subst (λ (h : List Entry). KeepsKnown t0 h n image) same
    (keeps_less t0 sp.history n (durable_of b) image low
    (settled_recovers t0 sp b core.0.2.0 core.0.0 image core.0.2.1 core.0.2.2 (core.2.settled first begins core.0.0 core.0.1) here.0 here.1 one is))
