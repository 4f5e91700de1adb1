-- What a disk holds once its log was replayed and it was checked.
use Rattle.std.proofs.Common.{◌≡◌, ◌≤◌, ◌<◌, ◌*◌, ◌/◌, ◌∙◌, ◌⊎◌, inl, inr, ⊎_elim, ℕ, List, [], length, true, Option, Some, None, IfSome, refl, sym, ap, subst, arith}
use Rattle.std.specs.Prelude.{is_some}
use Rattle.std.proofs.lemmas.Bool.{true≢false}
use Rattle.bfs_base.specs.Moments.{Passed}
use Rattle.bfs_disk.specs.State.{State, Tells, Filled, Holds, ReadsAs}
use Rattle.bfs_disk.specs.Disk.{HasSectors, MayLeave}
use Rattle.bfs_disk.proofs.Images.{quiet_image}
use Rattle.bfs_super.specs.declared.sup.Super.{Super}
use Rattle.bfs_super.specs.Conditions.{IsValid, natural}
use Rattle.bfs_log.specs.Replay.{Replayed, super_of}
use Rattle.bfs_log.proofs.Replays.{replayed_empty, replayed_one}
use Rattle.bfs_tree.specs.Trees.{Tree}
use Rattle.bfs_sound.specs.Whole.{IsWhole, Recovers}
use Rattle.bfs_replay.specs.Recover.{GoesOn, IsRecovered, IsShort}
use Rattle.bfs_replay.specs.Steps.{sectors_of}
use Rattle.bfs_replay.proofs.Homes.{image_of_reads}
use Rattle.bfs_replay.proofs.Sizes.{has_two}
use Rattle.bfs_core.specs.Cores.{RecoversFrom, newest_map}
use Rattle.bfs_core.specs.Moments.{KeptSince, adopted_from}
use Rattle.bfs_check.specs.Checked.{IsCheckFault, IsFound, IsVerdict, IsWholeWith, HasCauseIn}
use Rattle.bfs_check.specs.declared.checking.Verdict.{Verdict}
use Rattle.bfs_check.specs.declared.checking.Verdict.TheVariants as verdicts
use Rattle.bfs_check.specs.declared.checking.CheckFault.{CheckFault}
use Rattle.bfs_check.specs.declared.checking.CheckFault.TheVariants as checking
use Rattle.bfs_finding.specs.declared.finding.Finding.{Finding}
use Rattle.bfs_check.specs.Summary.{Summary}
use Rattle.bfs_device.proofs.Stepping.{filled_state, on_state}
use Rattle.bfs_core.specs.Chains.{Image, HasChain, image_in}
use Rattle.bfs_core.proofs.Chains.{chain_opened}
use Rattle.bfs_core.proofs.Openings.{core_opened}
use Rattle.bfs_core.proofs.Settling.{settled_opened}
use Rattle.bfs_device.specs.Phases.{none}
use Rattle.bfs_device_blocks.specs.Lent.{HasImages}
use Rattle.bfs_core.specs.KnownBytes.{HasBytesOf, HasKnown}
use Rattle.bfs_core.specs.Spaces.{opened}
use Rattle.bfs_core.proofs.Knowing.{known_opened}
use Rattle.bfs_device.specs.Books.{IsOnDisk}
use Rattle.bfs_device.specs.Seals.{adopted}
use Rattle.bfs_tree.specs.Histories.{Mounted}
use Rattle.bfs_count.specs.Counts.{nodes_of}
use Rattle.bfs_mount.specs.Mounts.{IsHeld, IsHeldWhole, IsMountedFrom, IsUnshort}

pub reads : (told : Option State) (image : List ℕ) → Tells told (Holds image) → Tells told (λ s. ReadsAs s image)
reads told image h = (h.0, h.1, h.2.reads)

pub now_reads : (told now : Option State) (image : List ℕ) → now ≡ told → Tells told (Holds image) → Tells now (Holds image)
now_reads told now image same h = (h.0, same ∙ h.1, h.2)

-- an image that is whole recovers to its tree
pub whole_recovers : (image : List ℕ) (tree : Tree) → IsWhole image tree → Recovers image tree
whole_recovers image tree whole = record { result = image; replayed = replayed_empty image whole.valid (ap natural whole.whole.emptied); whole = whole }

-- what it is mounted from
pub mounted_recovers : (image : List ℕ) (t0 : Mounted) → IsMountedFrom image t0 → Recovers image t0.tree
mounted_recovers image t0 m = record { result = m.next; replayed = m.replayed; whole = m.whole }

-- and so is what replay gives of it
pub mounted_next : (image next : List ℕ) (t0 : Mounted) → IsMountedFrom image t0 → Replayed image next → IsWhole next t0.tree × HasBytesOf next t0
mounted_next image next t0 m replayed =
    let same : m.next ≡ next = replayed_one image m.next next m.replayed replayed in
    (subst (λ (x : List ℕ). IsWhole x t0.tree) same m.whole, subst (λ (x : List ℕ). HasBytesOf x t0) same m.bytes)

pub mounted_again : (image next : List ℕ) (t0 : Mounted) → IsMountedFrom image t0 → Replayed image next → IsMountedFrom next t0
mounted_again image next t0 m replayed =
    let parts = mounted_next image next t0 m replayed in
    record { next = next; replayed = replayed_empty next parts.0.valid (ap natural parts.0.whole.emptied); whole = parts.0; bytes = parts.1 }

-- of a yes
pub summed : (image : List ℕ) (v : Verdict) (s : Summary) → v ≡ verdicts.Yes s → IsVerdict image v → IsWholeWith image s
summed image v s is w = subst (IsVerdict image) is w

-- of a no
pub found : (image : List ℕ) (v : Verdict) (f : Finding) → v ≡ verdicts.No f → IsVerdict image v → IsFound image f
found image v f is w = subst (IsVerdict image) is w

-- a cause in a call is one in it and calls before
pub cause_from : (old mid new : ℕ) (fault : CheckFault) → old ≤ mid → HasCauseIn mid new fault → HasCauseIn old new fault
cause_from old mid new (checking.Short count needed) low cause = tt
cause_from old mid new (checking.Disk before after) low cause = (let first = cause.0 in omega (arith, low, first), cause.1, cause.2)
cause_from old mid new checking.NoMemory low cause = tt

pub held_some : (o : Option State) → o ≡ None → (st : State) → o ≡ Some st → ⊥
held_some o none st is = true≢false (ap is_some (sym is ∙ none))

same_state : (a b : State) → Some a ≡ Some b → a ≡ b
same_state a b e = cc

-- where the disk held an image, what it holds since is whole
module _ (old told : Option State) (s : Super) (held : IsHeld old) (silent : old ≡ None → told ≡ None) (recovered : (image : List ℕ) → Tells old (Holds image) → IsRecovered true image told s) where
  pub held_whole : (nodes : ℕ) → ((image : List ℕ) → Tells told (Holds image) → (tree : Tree) × IsWhole image tree × (nodes ≡ nodes_of tree)) → IsHeldWhole s nodes told
  held_whole nodes whole st is = by_old old refl
    where
      by_old : (o : Option State) → old ≡ o → (image : List ℕ) × (tree : Tree) × Holds image st × IsWhole image tree × (s ≡ super_of image) × (nodes ≡ nodes_of tree)
      by_old None none = absurd (held_some told (silent none) st is)
      by_old (Some was) before =
          let h = held was before in
          let got = recovered h.0 (was, before, h.1) in
          let w = whole got.0 got.2 in
          (got.0, w.0, subst (Holds got.0) (same_state got.2.0 st (sym got.2.1 ∙ is)) got.2.2, w.1, got.3, w.2)

-- two images that a quiet disk holds are one
pub one_image : (told : Option State) (st : State) (a b : List ℕ) → told ≡ Some st → IfSome told Filled → Holds a st → Tells told (Holds b) → a ≡ b
one_image told st a b is filled ha hb =
    let same : st ≡ hb.0 = same_state st hb.0 (sym is ∙ hb.1) in
    quiet_image st b a ha.quiet (subst (λ (x : State). ReadsAs x b) (sym same) hb.2.reads) (image_of_reads st a (filled_state told st filled is) ha.reads)

-- what is held whole is what replay gives of itself
pub held_recovered : (s : Super) (nodes : ℕ) (told : Option State) → IfSome told Filled → IsHeldWhole s nodes told → (image : List ℕ) → Tells told (Holds image) → IsRecovered true image told s
held_recovered s nodes told filled whole image held =
    let h = whole held.0 held.1 in
    let same : h.0 ≡ image = one_image told held.0 h.0 image held.1 filled h.2 held in
    let replayed = replayed_empty h.0 h.3.valid (ap natural h.3.whole.emptied) in
    (h.0, subst (λ (x : List ℕ). Replayed x h.0) same replayed, (held.0, held.1, h.2), h.4)

-- a volume that fits its disk isn't short
module _ (image : List ℕ) (told : Option State) (size : Option ℕ) (s : Super) (held : Tells told (Holds image)) (sized : IfSome told (λ t. size ≡ Some t.size)) (valid : IsValid s) (on : HasSectors size (sectors_of s)) (is : s ≡ super_of image) where
  has : (n : ℕ) → HasSectors size n → n ≤ held.0.size
  has n h = subst (λ (z : Option ℕ). HasSectors z n) (subst (λ (o : Option State). IfSome o (λ t. size ≡ Some t.size)) held.1 sized) h

  sectors : length image / 512 ≡ held.0.size
  sectors = ap (λ (n : ℕ). n / 512) (held.2.reads.size) ∙ div512 held.0.size
    where
      div512 : (n : ℕ) → 512 * n / 512 ≡ n
      div512 n = grind arith

  never_short : (sectors needed : ℕ) → IsShort image sectors needed → ⊥
  never_short count needed short = by_side short.2
    where
      by_side : (needed ≡ 2) ⊎ ((2 ≤ count) × IsValid (super_of image) × (needed ≡ sectors_of (super_of image))) → ⊥
      by_side (inl two) = let low = has 2 (has_two s valid size on) in omega (arith, low, two, short.0, short.1, sectors)
      by_side (inr more) = let low = has (sectors_of s) on in let e : sectors_of s ≡ sectors_of (super_of image) = ap sectors_of is in omega (arith, low, e, more.2, short.0, short.1, sectors)

  pub unshort : (fault : CheckFault) → IsCheckFault image fault → IsUnshort fault
  unshort (checking.Short count needed) short = absurd (never_short count needed short)
  unshort (checking.Disk before after) h = tt
  unshort checking.NoMemory h = tt

-- the known bytes of what is held whole, once it is opened
pub known_held : (t0 : Mounted) (image : List ℕ) (told : Option State) (size : Option ℕ) (st : State) → IsWhole image t0.tree → HasBytesOf image t0 → Tells told (Holds image) → IfSome told Filled → IfSome told (λ x. size ≡ Some x.size) → IsOnDisk size (super_of image) → told ≡ Some st
    → HasKnown t0 (opened (super_of image)) (adopted (super_of image)) st
known_held t0 image told size st whole bytes held filled sized on is =
    known_opened t0 image st whole (subst (Holds image) (same_state held.0 st (sym held.1 ∙ is)) held.2) (filled_state told st filled is) (on_state (super_of image) size told st sized on is) bytes

-- and the image that begins its chain
pub images_held : (t0 : Mounted) (begun clock : ℕ) (image : List ℕ) (told : Option State) (size : Option ℕ) → IsWhole image t0.tree → Tells told (Holds image) → IfSome told Filled → IfSome told (λ x. size ≡ Some x.size) → IsOnDisk size (super_of image) → HasBytesOf image t0
    → HasImages t0 (adopted_from begun clock (Some (image_in image))) (opened (super_of image)) (adopted (super_of image)) told
images_held t0 begun clock image told size whole held filled sized on bytes = record {
  chain = λ first begins st is.
      let same : image_in image ≡ first = same_image (image_in image) first begins in
      subst (λ (i : Image). HasChain t0 i (opened (super_of image)) (newest_map (adopted (super_of image)) st)) same
      (chain_opened t0 image st whole (subst (Holds image) (same_state held.0 st (sym held.1 ∙ is)) held.2) (filled_state told st filled is) (on_state (super_of image) size told st sized on is));
  settled = λ first begins st is.
      let here : Holds image st = subst (Holds image) (same_state held.0 st (sym held.1 ∙ is)) held.2 in
      let all = filled_state told st filled is in
      let long = on_state (super_of image) size told st sized on is in
      settled_opened t0 image st none whole here all long (core_opened t0 image st whole here all long) (known_held t0 image told size st whole bytes held filled sized on is);
}
  where
    same_image : (a b : Image) → Some a ≡ Some b → a ≡ b
    same_image a b e = cc

-- ---- what a crash meanwhile might have left

-- some calls, and behind them some that only read
pub passed_read : (start mid finish : ℕ) (past between since : ℕ → List ℕ → Type 0) (told : Option State) (P : List ℕ → Type 0) → Passed start mid past between P → Passed mid finish between since (MayLeave told) → ((c : List ℕ) → MayLeave told c → P c) → Passed start finish past since P
passed_read start mid finish past between since told P first then stays = record {
  later = (let a = first.later in let b = then.later in omega (arith, a, b));
  nothing_else = λ t c le left. ⊎_elim (λ was. first.nothing_else t c le was) (λ may. inr (stays c may)) (then.nothing_else t c (let a = first.later in omega (arith, a, le)) left);
  keeps = λ t c le was. then.keeps t c (let a = first.later in omega (arith, a, le)) (first.keeps t c le was);
}

-- what is replayed to the same recovers to the same tree
pub goes_recovers : (image c : List ℕ) (t0 : Mounted) → IsMountedFrom image t0 → GoesOn image c → Recovers c t0.tree
goes_recovers image c t0 m (inl same) = subst (λ (x : List ℕ). Recovers x t0.tree) (sym same) (mounted_recovers image t0 m)
goes_recovers image c t0 m (inr on) = record { result = on.0; replayed = on.2; whole = (mounted_next image on.0 t0 m on.1).0 }

-- what a crash might have left since a moment before a mount recovers, if it did before the mount
pub kept_mounting : (image : List ℕ) (t0 : Mounted) (begun start clock : ℕ) (past since : ℕ → List ℕ → Type 0) → IsMountedFrom image t0 → begun ≤ start → KeptSince t0 [] start past begun 0 → ((t u : ℕ) (c : List ℕ) → t ≤ u → since u c → since t c)
    → Passed start clock past since (GoesOn image) → KeptSince t0 [] clock since begun 0
kept_mounting image t0 begun start clock past since m early kept fewer time t c low high left = ⊎_elim
    (λ before. ⊎_elim (λ was. kept t c low before was) (λ goes. now goes) (time.nothing_else t c before left))
    (λ late. ⊎_elim (λ was. kept start c early (omega arith) was) (λ goes. now goes) (time.nothing_else start c (omega arith) (fewer start t c (omega (arith, late)) left)))
    (le_or t start)
  where
    le_or : (m n : ℕ) → (m ≤ n) ⊎ (n < m)
    le_or m n = grind arith

    now : GoesOn image c → RecoversFrom t0 [] 0 c
    now goes = (0, omega arith, omega arith, goes_recovers image c t0 m goes)

-- on a quiet disk nothing else was left since now than what it holds
pub kept_quiet : (image : List ℕ) (t0 : Mounted) (begun clock : ℕ) (since : ℕ → List ℕ → Type 0) → IsMountedFrom image t0 → ((c : List ℕ) → since begun c → c ≡ image) → ((t u : ℕ) (c : List ℕ) → t ≤ u → since u c → since t c) → KeptSince t0 [] clock since begun 0
kept_quiet image t0 begun clock since m here fewer t c low high left = (0, omega arith, omega arith, goes_recovers image c t0 m (inl (here c (fewer begun t c low left))))
