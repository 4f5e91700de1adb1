-- A disk that holds an image, under the calls of `label`.
use Rattle.std.proofs.Common.{◌≡◌, ◌⊎◌, ℕ, ◌<◌, ◌≤◌, List, ◌++◌, length, drop, Option, Some, refl, sym, ◌∙◌, ap, subst, arith}
use Rattle.std.specs.Option.{option_map, IfSome}
use Rattle.std.proofs.lemmas.List.{take_all}
use Rattle.bfs_base.specs.Images.{sector, overwritten}
use Rattle.bfs_disk.specs.State.{State, ReadsAs, Tells, Holds, written, settled}
use Rattle.bfs_disk.specs.Disk.{MayLeave, told_written, ReadsSectors, HasSectors}
use Rattle.bfs_disk.proofs.Images.{quiet_image, written_image, settled_quiet, settled_reads}
use Rattle.bfs_super.specs.Layout.{super_at}
use Rattle.bfs_super.specs.Label.{IsLabel, name_of}
use Rattle.bfs_super.specs.Conditions.{IsRefusal, IsValid}
use Rattle.bfs_tool.specs.Label.{labelled, IsChanged, RefusedBy, EndsBy, IsGood, label_status}
use Rattle.bfs_tool.specs.declared.label.Ending.{Ending}
use Rattle.bfs_tool.specs.declared.label.Ending.TheVariants as endings
use Rattle.bfs_tool.proofs.Changed.{labelled_image}

-- a crash of a quiet disk leaves its image
pub held_image : (told : Option State) (image c : List ℕ) → Tells told (Holds image) → MayLeave told c → c ≡ image
held_image told image c held left = quiet_image held.0 image c held.2.quiet held.2.reads (subst (λ s. MayLeave s c) held.1 left)

module _ (told : Option State) (image : List ℕ) (reads : Tells told (λ s. ReadsAs s image)) (size : Option ℕ) (sized : IfSome told (λ s. size ≡ Some s.size)) where
  known : size ≡ Some reads.0.size
  known = subst (λ st. IfSome st (λ s. size ≡ Some s.size)) reads.1 sized

  -- the number of sectors
  pub two_sectors : HasSectors size 2 → 1 < reads.0.size
  two_sectors two = let two_of : 2 ≤ reads.0.size = subst (λ n. HasSectors n 2) known two in omega (arith, two_of)

  pub long_image : HasSectors size 2 → 1024 ≤ length image
  long_image two = let two_of = two_sectors two in omega (arith, two_of, reads.2.size)

  some_same : (a b : ℕ) → Some a ≡ Some b → a ≡ b
  some_same a b e = cc

  pub short_image : (n : ℕ) → size ≡ Some n → n < 2 → EndsBy image (endings.Short n)
  short_image n is few =
      let same : n ≡ reads.0.size = some_same n reads.0.size (sym is ∙ known) in
      (omega (arith, same, reads.2.size), omega (arith, same, few, reads.2.size))

  -- sector 1, as it was read
  pub read_sector : (bytes : List ℕ) → length bytes ≡ 512 → HasSectors size 2 → ReadsSectors told 1 bytes → bytes ≡ sector 1 image
  read_sector bytes long two is =
      let here : ReadsSectors (Some reads.0) 1 bytes = subst (λ st. ReadsSectors st 1 bytes) reads.1 is in
      sym (take_all 512 bytes (omega (arith, long))) ∙ here 0 (omega (arith, long)) ∙ sym (reads.2.each 1 (two_sectors two))

  -- a refusal, by the sector that was read
  pub refused_ends : (ending : Ending) (bytes : List ℕ) → length bytes ≡ 512 → HasSectors size 2 → ReadsSectors told 1 bytes → RefusedBy (super_at bytes) ending → EndsBy image ending
  refused_ends endings.Done bytes long two is refused = absurd refused
  refused_ends (endings.Short n) bytes long two is refused = absurd refused
  refused_ends (endings.NotVolume fault) bytes long two is refused = (long_image two, subst (λ b. IsRefusal (super_at b) fault) (read_sector bytes long two is) refused)
  refused_ends (endings.LogBusy start end) bytes long two is refused =
      let there = subst (λ b. RefusedBy (super_at b) (endings.LogBusy start end)) (read_sector bytes long two is) refused in
      (long_image two, there.0, there.1, there.2, there.3)
  refused_ends endings.DiskFailed bytes long two is refused = absurd refused

  pub good_image : (bytes name block : List ℕ) → length bytes ≡ 512 → HasSectors size 2 → ReadsSectors told 1 bytes → IsChanged bytes name block → IsGood image
  good_image bytes name block long two is changed =
      let read = read_sector bytes long two is in
      record { long = long_image two; valid = subst (λ b. IsValid (super_at b)) read changed.valid; empty_log = subst (λ b. (super_at b).log_start ≡ (super_at b).log_end) read changed.empty_log }

  -- the image that is written
  pub new_image : (bytes name block : List ℕ) → length bytes ≡ 512 → HasSectors size 2 → ReadsSectors told 1 bytes → IsLabel name → IsChanged bytes name block → length block ≡ 512 → overwritten 1 block image ≡ labelled name image
  new_image bytes name block long two is label changed long_block =
      labelled_image name image block label (long_image two) (subst (λ b. block ≡ name_of name ++ drop 32 b) (read_sector bytes long two is) changed.bytes) long_block

-- during a write of sector 1, and after it
pub held_during : (told : Option State) (image block c : List ℕ) → (held : Tells told (Holds image)) → length block ≡ 512 → 1 < held.0.size → MayLeave (told_written told 1 block) c → (c ≡ image) ⊎ (c ≡ overwritten 1 block image)
held_during told image block c held long fits left =
    written_image held.0 1 block image held.2.quiet held.2.reads long fits c (subst (λ s. MayLeave (told_written s 1 block) c) held.1 left)

-- after the barrier
pub held_after : (told after : Option State) (image block : List ℕ) → (held : Tells told (Holds image)) → length block ≡ 512 → 1 < held.0.size → after ≡ option_map settled (told_written told 1 block) → Tells after (Holds (overwritten 1 block image))
held_after told after image block held long fits is = (
  settled (written held.0 1 block),
  is ∙ ap (λ (s : Option State). option_map settled (told_written s 1 block)) held.1,
  record { quiet = settled_quiet held.0 1 block image held.2.quiet held.2.reads long fits; reads = settled_reads held.0 1 block image held.2.quiet held.2.reads long fits },
)

-- status 0 is for the label that is changed
pub done_of : (ending : Ending) → label_status ending ≡ 0 → ending ≡ endings.Done
done_of endings.Done is = refl
done_of (endings.Short sectors) is = absurd (omega arith)
done_of (endings.NotVolume fault) is = absurd (omega arith)
done_of (endings.LogBusy start end) is = absurd (omega arith)
done_of endings.DiskFailed is = absurd (omega arith)
