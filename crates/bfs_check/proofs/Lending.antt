-- What the passes say of a disk that is lent as blocks, said of its image.
use Rattle.std.proofs.Common.{◌≡◌, ◌/◌, ℕ, List, Option, Some, Result, Ok, Err, IfOk, IfErr, sym, ◌∙◌, ap, subst}
use Rattle.std.specs.Option.{option_map}
use Rattle.bfs_disk.specs.State.{State, Filled, ReadsAs}
use Rattle.bfs_super.specs.declared.sup.Super.{Super}
use Rattle.bfs_super.specs.Conditions.{natural}
use Rattle.bfs_log.specs.Replay.{Valid, super_of, blocks_of, block_sectors}
use Rattle.bfs_stream.specs.Told.{contents}
use Rattle.bfs_sound.specs.Laws.{ImageIsCarried}
use Rattle.bfs_sound.specs.Whole.{IsWhole, volume_of}
use Rattle.bfs_sound.proofs.Carried.{volume_is}
use Rattle.bfs_finding.specs.Findings.{of_volume}
use Rattle.bfs_device.specs.Plain.{plain}
use Rattle.bfs_passes.specs.declared.passes.Summary.{Summary}
use Rattle.bfs_passes.specs.declared.fault.PassFault.{PassFault}
use Rattle.bfs_passes.specs.declared.fault.PassFault.TheVariants.{Wrong, Block}
use Rattle.bfs_passes.specs.Passed.{IsPassed, IsFaultOf}
use Rattle.bfs_check.specs.Checked.{trimmed, IsWholeWith, IsWrongOf}
use Rattle.bfs_check.proofs.Trimmed.{trimmed_super, trimmed_valid, told_blocks, whole_of_trimmed, reached_same}

-- what the blocks of a volume on a disk tell
pub told_of : (told : Option State) (size blocks : ℕ) (s : Super) (state : State) → told ≡ Some state → size ≡ s.block_size → blocks ≡ natural s.num_blocks
    → option_map (plain (size / 512) blocks) told ≡ Some (plain (block_sectors s) (natural s.num_blocks) state)
told_of told size blocks s state is long count =
    ap (option_map (plain (size / 512) blocks)) is ∙ ap (λ (n : ℕ). Some (plain (n / 512) blocks state)) long ∙ ap (λ (n : ℕ). Some (plain (s.block_size / 512) n state)) count

module _ (image : List ℕ) (valid : Valid image) (state : State) (filled : Filled state) (reads : ReadsAs state image) where
  abbrev told : ℕ → List ℕ
  told = contents (plain (block_sectors (super_of image)) (natural (super_of image).num_blocks) state)

  -- what is said of the superblock and of these blocks is said of the volume's bytes
  of_trimmed : (P : Super → (ℕ → List ℕ) → Type 0) → P (super_of image) told → P (super_of (trimmed image)) (blocks_of (trimmed image))
  of_trimmed P is = subst (λ (t : Super). P t (blocks_of (trimmed image))) (sym (trimmed_super image valid)) (subst (P (super_of image)) (told_blocks image valid state filled reads) is)

  whole_passed : ImageIsCarried → (summary : Summary) → IsPassed (super_of image) (volume_of (super_of image) told) summary → IsWholeWith image summary
  whole_passed carried summary passed =
      let there : IsPassed (super_of (trimmed image)) (volume_of (super_of (trimmed image)) (blocks_of (trimmed image))) summary = of_trimmed (λ t blocks. IsPassed t (volume_of t blocks) summary) passed in
      let bytes : Valid (trimmed image) = trimmed_valid image valid in
      let one : IsWhole (trimmed image) there.tree = record { valid = bytes; whole = record { valid = volume_is (trimmed image) bytes; emptied = there.emptied; sound = there.sound } } in
      let other : IsWhole image there.tree = whole_of_trimmed image valid carried there.tree passed.emptied one in
      record { tree = there.tree; whole = other; nodes = there.nodes; used = there.used ∙ reached_same image valid there.tree one other }

  pub passed_ok : ImageIsCarried → (result : Result Summary PassFault) → IfOk result (IsPassed (super_of image) (volume_of (super_of image) told)) → IfOk result (IsWholeWith image)
  passed_ok carried (Ok summary) passed = whole_passed carried summary passed
  passed_ok carried (Err fault) passed = tt

  pub passed_err : (result : Result Summary PassFault) → IfErr result (IsFaultOf (super_of image) (volume_of (super_of image) told)) → IfErr result (IsWrongOf image)
  passed_err (Ok summary) wrong = tt
  passed_err (Err (Wrong finding)) wrong = of_volume (trimmed_valid image valid) (of_trimmed (λ t blocks. IsFaultOf t (volume_of t blocks) (Wrong finding)) wrong)
  passed_err (Err (Block fault)) wrong = tt
