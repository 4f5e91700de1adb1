-- A check behind a recovery.
use Rattle.std.proofs.Common.{◌≡◌, ◌<◌, ◌≤◌, ◌⊎◌, inl, inr, ⊎_elim, ℕ, List, length, Bool, Option, Some, None, Result, Ok, Err, IfErr, refl, sym, ◌∙◌, subst, arith}
use Rattle.std.specs.Option.{IfSome}
use Rattle.std.proofs.Math.Logic.{∥∥₁_map}
use Rattle.bfs_base.specs.Images.{joined}
use Rattle.bfs_base.specs.Moments.{Passed}
use Rattle.bfs_base.proofs.Sectors.{length-joined, sector-joined}
use Rattle.bfs_disk.specs.State.{State, Filled, ReadsAs, Tells, newest}
use Rattle.bfs_disk.specs.StateLaws.{newest_long}
use Rattle.bfs_disk.specs.Disk.{MayLeave, HasSectors}
use Rattle.bfs_super.specs.declared.sup.Super.{Super}
use Rattle.bfs_super.specs.Conditions.{IsValid}
use Rattle.bfs_log.specs.Replay.{Replayed, super_of}
use Rattle.bfs_run.specs.Summary.{Summary}
use Rattle.bfs_replay.specs.Recover.{IsShort}
use Rattle.bfs_replay.specs.Steps.{sectors_of}
use Rattle.bfs_replay.proofs.Sizes.{has_two}
use Rattle.bfs_run.specs.Checked.{IsWholeWith, IsCheckFault}
use Rattle.bfs_run.specs.Verdict.{Verdict}
use Rattle.bfs_run.specs.CheckFault.{CheckFault}
use Rattle.bfs_run.specs.CheckFaultVariants.{Short, Disk, NoMemory}
use Rattle.bfs_tool.specs.Check.{RecoversWith, IsNotShort, IsReplayedOn, LeavesBy, IsWhole, IsRefusing, HasText, checking_status}
use Rattle.bfs_tool.specs.declared.checking.Checking.{Checking}
use Rattle.bfs_tool.specs.declared.checking.Checking.TheVariants as checkings

pub recovers_with : (image replayed : List ℕ) (summary : Summary) → Replayed image replayed → IsWholeWith replayed summary → RecoversWith image summary.nodes summary.used
recovers_with image replayed summary done whole = record { tree = whole.tree; recovers = record { result = replayed; replayed = done; whole = whole.whole }; nodes_are = whole.nodes; used_are = whole.used }

-- a disk that tells what it holds reads as some image
read_image : (state : State) → Filled state → ReadsAs state (joined state.size (newest state))
read_image state filled =
    let long : (k : ℕ) → k < state.size → length (newest state k) ≡ 512 = λ k lt. newest_long state k filled lt in
    record { size = length-joined state.size (newest state) long; each = λ k lt. sector-joined state.size (newest state) k long lt }

-- a disk holds what it held, where it does so whatever image it reads as
pub same_state : (old new : Option State) → IfSome old Filled → (old ≡ None → new ≡ None) → ((image : List ℕ) → Tells old (λ s. ReadsAs s image) → new ≡ old) → new ≡ old
same_state None new filled silent same = silent refl
same_state (Some state) new filled silent same = same (joined state.size (newest state)) (state, refl, read_image state filled)

-- what was recovered isn't too short
pub no_short : (told : Option State) (size : Option ℕ) (s : Super) (image : List ℕ) → Tells told (λ x. ReadsAs x image) → IfSome told (λ x. size ≡ Some x.size) → s ≡ super_of image → IsValid s → HasSectors size (sectors_of s)
    → (sectors needed : ℕ) → IsShort image sectors needed → ⊥
no_short told size s image reads sized same valid on sectors needed short =
    let known : size ≡ Some reads.0.size = subst (λ o. IfSome o (λ x. size ≡ Some x.size)) reads.1 sized in
    let all : sectors_of (super_of image) ≤ reads.0.size = subst (λ (t : Super). sectors_of t ≤ reads.0.size) same (subst (λ z. HasSectors z (sectors_of s)) known on) in
    let two : 2 ≤ reads.0.size = subst (λ z. HasSectors z 2) known (has_two s valid size on) in
    let long = reads.2.size in
    ⊎_elim
    (λ few. omega (arith, few, two, long, short.0, short.1))
    (λ more. let e = more.2 in omega (arith, e, all, long, short.0, short.1))
    short.2

pub not_short : (image : List ℕ) (result : Result Verdict CheckFault) → ((sectors needed : ℕ) → IsShort image sectors needed → ⊥) → IfErr result (IsCheckFault image) → IfErr result IsNotShort
not_short image (Ok verdict) never fault = tt
not_short image (Err (Short sectors needed)) never fault = never sectors needed fault
not_short image (Err (Disk before after)) never fault = tt
not_short image (Err NoMemory) never fault = tt

-- what a crash may leave while a disk is only read, it might have left before
pub read_since : (told : Option State) (start clock later : ℕ) (past since : ℕ → List ℕ → Type 0) (P : List ℕ → Type 0) → ∥ Passed clock later past since (MayLeave told) ∥₁ → start ≤ clock
    → ((c : List ℕ) → MayLeave told c → past start c) → ((c : List ℕ) → past start c → P c) → (c : List ℕ) → since start c → ∥ P c ∥₁
read_since told start clock later past since P time le now here c left = ∥∥₁_map time (λ passed. ⊎_elim (here c) (λ was. here c (now c was)) (passed.nothing_else start c le left))

-- ---- what is left at a status

whole_of : (checking : Checking) → checking_status checking ≡ 0 → IsWhole checking
whole_of (checkings.Whole nodes used) is = tt
whole_of (checkings.Wrong finding) is = absurd (omega arith)
whole_of (checkings.Short sectors needed) is = absurd (omega arith)
whole_of (checkings.NotVolume fault) is = absurd (omega arith)
whole_of (checkings.Malformed fault) is = absurd (omega arith)
whole_of checkings.DiskFailed is = absurd (omega arith)
whole_of checkings.NoMemory is = absurd (omega arith)

-- the status of an ending, or 6 where it is whole
abbrev pub HasStatus : Checking → ℕ → Type 0
HasStatus checking status = (status ≡ checking_status checking) ⊎ (IsWhole checking × (status ≡ 6))

pub reported : (checking : Checking) (status result : ℕ) → status ≡ checking_status checking → (result ≡ status) ⊎ ((status ≡ 0) × (result ≡ 6)) → HasStatus checking result
reported checking status result is printed = ⊎_elim (λ same. inl (same ∙ is)) (λ failed. inr (whole_of checking (sym is ∙ failed.0), failed.1)) printed

abbrev IsDone : ℕ → Type 0
IsDone status = (status ≡ 0) ⊎ (status ≡ 6) ⊎ (status ≡ 8)

at_three : (n : ℕ) → IsDone n → n ≡ 3 → ⊥
at_three n done is = ⊎_elim (λ a. omega (arith, a, is)) (λ b. ⊎_elim (λ c. omega (arith, c, is)) (λ d. omega (arith, d, is)) b) done

at_four : (n : ℕ) → IsDone n → n ≡ 4 → ⊥
at_four n done is = ⊎_elim (λ a. omega (arith, a, is)) (λ b. ⊎_elim (λ c. omega (arith, c, is)) (λ d. omega (arith, d, is)) b) done

pub at_seven : (n : ℕ) → IsDone n → n ≡ 7 → ⊥
at_seven n done is = ⊎_elim (λ a. omega (arith, a, is)) (λ b. ⊎_elim (λ c. omega (arith, c, is)) (λ d. omega (arith, d, is)) b) done

module _ (quiet : Bool) (image : List ℕ) (old new : Option State) where
  -- at 0, 6 and 8
  pub left_done : (checking : Checking) (n : ℕ) → HasStatus checking n → IsDone n → LeavesBy quiet image old new checking → IsReplayedOn quiet image new
  left_done (checkings.Whole nodes used) n has done left = left
  left_done (checkings.Wrong finding) n has done left = left
  left_done (checkings.Short sectors needed) n has done left = absurd (⊎_elim (at_three n done) (λ whole. whole.0) has)
  left_done (checkings.NotVolume fault) n has done left = absurd (⊎_elim (at_three n done) (λ whole. whole.0) has)
  left_done (checkings.Malformed fault) n has done left = absurd (⊎_elim (at_three n done) (λ whole. whole.0) has)
  left_done checkings.DiskFailed n has done left = absurd (⊎_elim (at_four n done) (λ whole. whole.0) has)
  left_done checkings.NoMemory n has done left = absurd (⊎_elim (at_seven n done) (λ whole. whole.0) has)

  -- where the text found no memory
  pub left_some : (checking : Checking) → HasText checking → LeavesBy quiet image old new checking → (new ≡ old) ⊎ IsReplayedOn quiet image new
  left_some (checkings.Whole nodes used) some left = inr left
  left_some (checkings.Wrong finding) some left = inr left
  left_some (checkings.Short sectors needed) some left = inl left
  left_some (checkings.NotVolume fault) some left = inl left
  left_some (checkings.Malformed fault) some left = inl left
  left_some checkings.DiskFailed some left = absurd some
  left_some checkings.NoMemory some left = absurd some

  -- at 7
  pub left_seven : (checking : Checking) (n : ℕ) → HasStatus checking n → n ≡ 7 → LeavesBy quiet image old new checking → (new ≡ old) ⊎ IsReplayedOn quiet image new
  left_seven (checkings.Whole nodes used) n has seven left = inr left
  left_seven (checkings.Wrong finding) n has seven left = inr left
  left_seven (checkings.Short sectors needed) n has seven left = inl left
  left_seven (checkings.NotVolume fault) n has seven left = inl left
  left_seven (checkings.Malformed fault) n has seven left = inl left
  left_seven checkings.DiskFailed n has seven left = absurd (⊎_elim (λ four. omega (arith, four, seven)) (λ whole. whole.0) has)
  left_seven checkings.NoMemory n has seven left = left

-- at 3 the disk is left alone, and at 4 it failed
pub refusing_of : (checking : Checking) (n : ℕ) → HasStatus checking n → n ≡ 3 → IsRefusing checking
refusing_of (checkings.Whole nodes used) n has is = absurd (⊎_elim (λ a. omega (arith, a, is)) (λ whole. let six = whole.1 in omega (arith, six, is)) has)
refusing_of (checkings.Wrong finding) n has is = absurd (⊎_elim (λ a. omega (arith, a, is)) (λ whole. whole.0) has)
refusing_of (checkings.Short sectors needed) n has is = tt
refusing_of (checkings.NotVolume fault) n has is = tt
refusing_of (checkings.Malformed fault) n has is = tt
refusing_of checkings.DiskFailed n has is = absurd (⊎_elim (λ a. omega (arith, a, is)) (λ whole. whole.0) has)
refusing_of checkings.NoMemory n has is = absurd (⊎_elim (λ a. omega (arith, a, is)) (λ whole. whole.0) has)

pub failed_of : (checking : Checking) (n : ℕ) → HasStatus checking n → n ≡ 4 → checking ≡ checkings.DiskFailed
failed_of (checkings.Whole nodes used) n has is = absurd (⊎_elim (λ a. omega (arith, a, is)) (λ whole. let six = whole.1 in omega (arith, six, is)) has)
failed_of (checkings.Wrong finding) n has is = absurd (⊎_elim (λ a. omega (arith, a, is)) (λ whole. whole.0) has)
failed_of (checkings.Short sectors needed) n has is = absurd (⊎_elim (λ a. omega (arith, a, is)) (λ whole. whole.0) has)
failed_of (checkings.NotVolume fault) n has is = absurd (⊎_elim (λ a. omega (arith, a, is)) (λ whole. whole.0) has)
failed_of (checkings.Malformed fault) n has is = absurd (⊎_elim (λ a. omega (arith, a, is)) (λ whole. whole.0) has)
failed_of checkings.DiskFailed n has is = refl
failed_of checkings.NoMemory n has is = absurd (⊎_elim (λ a. omega (arith, a, is)) (λ whole. whole.0) has)

-- the statuses that it never ends with
abbrev IsStrange : ℕ → Type 0
IsStrange n = (n ≡ 2) ⊎ ((n ≡ 5) ⊎ ((n ≡ 10) ⊎ (n ≡ 11)))

strange_at : (n : ℕ) → n ≤ 9 → (n ≡ 2 → ⊥) → (n ≡ 5 → ⊥) → IsStrange n → ⊥
strange_at n few two five strange = ⊎_elim two (λ a. ⊎_elim five (λ b. ⊎_elim (λ c. omega (arith, few, c)) (λ d. omega (arith, few, d)) b) a) strange

strange_status : (checking : Checking) → IsStrange (checking_status checking) → ⊥
strange_status (checkings.Whole nodes used) o = strange_at 0 (omega arith) (λ e. omega (arith, e)) (λ e. omega (arith, e)) o
strange_status (checkings.Wrong finding) o = strange_at 8 (omega arith) (λ e. omega (arith, e)) (λ e. omega (arith, e)) o
strange_status (checkings.Short sectors needed) o = strange_at 3 (omega arith) (λ e. omega (arith, e)) (λ e. omega (arith, e)) o
strange_status (checkings.NotVolume fault) o = strange_at 3 (omega arith) (λ e. omega (arith, e)) (λ e. omega (arith, e)) o
strange_status (checkings.Malformed fault) o = strange_at 3 (omega arith) (λ e. omega (arith, e)) (λ e. omega (arith, e)) o
strange_status checkings.DiskFailed o = strange_at 4 (omega arith) (λ e. omega (arith, e)) (λ e. omega (arith, e)) o
strange_status checkings.NoMemory o = strange_at 7 (omega arith) (λ e. omega (arith, e)) (λ e. omega (arith, e)) o

pub never_strange : (checking : Checking) (n : ℕ) → (n ≡ 7) ⊎ HasStatus checking n → IsStrange n → ⊥
never_strange checking n ended strange =
    ⊎_elim (λ seven. strange_at n (omega (arith, seven)) (λ e. omega (arith, seven, e)) (λ e. omega (arith, seven, e)) strange)
    (λ has. ⊎_elim (λ same. strange_status checking (subst IsStrange same strange)) (λ whole. let six = whole.1 in strange_at n (omega (arith, six)) (λ e. omega (arith, six, e)) (λ e. omega (arith, six, e)) strange) has)
    ended
