-- The size of a stream that a tree stands in.
use Rattle.std.proofs.Common.{◌≡◌, ◌≤◌, inl, inr, ◌^◌, ◌%◌, ◌∙◌, ℕ, ℤ, pos, List, length, Option, Some, sym, ap, subst, arith}
use Rattle.std.proofs.Math.Pow.{pow_mono}
use Rattle.std.specs.Prelude.{IsSome}
use Rattle.bfs_bitmap.specs.Runs.{Room}
use Rattle.bfs_super.specs.Conditions.{natural}
use Rattle.bfs_stream.proofs.Frames.{has_first}
use Rattle.bfs_stream.specs.Sizes.{Origin}
use Rattle.bfs_stream.specs.Places.{arrays_at}
use Rattle.bfs_stream.specs.Told.{contents}
use Rattle.bfs_stream.specs.declared.fault.GrowFault.{GrowFault}
use Rattle.bfs_stream.specs.declared.fault.GrowFault.TheVariants.{NoRun, Full, Block}
use Rattle.bfs_txn.specs.Told.{AreSized}
use Rattle.bfs_stream_pages.specs.GoesLaws.{reads_sized}
use Rattle.bfs_stream_pages.specs.Held.{Held, IsReadable, stream_of}
use Rattle.bfs_stream_pages.specs.Steps.{IsUndamaged}
use Rattle.bfs_stream_pages.specs.Causes.{HasFailed}
use Rattle.bfs_stream_pages.specs.MovesLaws.{moved_none}
use Rattle.bfs_maps.specs.Refused.{IsUnsized}

pub large_block : (n shift : ℕ) → 10 ≤ shift → n ≡ 2 ^ shift → 1024 ≤ n
large_block n shift low e = let p : 2 ^ 10 ≤ 2 ^ shift = pow_mono low in omega (arith, e, p)

-- the inode of a stream that can be read is told
pub size_here : (o : Origin) (long : ℕ) (m : ℕ → Option (List ℕ)) → IsReadable o long m → IsSome (m o.id)
size_here o long m r = r.stands.told o.id (has_first o.id (arrays_at o.sizes (contents m) o.id))

pub held_here : (o : Origin) (v : Room) (long : ℕ) (m : ℕ → Option (List ℕ)) → Held o v long m → IsSome (m o.id)
held_here o v long m h = h.owns.stands.told o.id (has_first o.id (arrays_at o.sizes (contents m) o.id))

-- two sizes of one stream are the same
pub same_size : (z : ℤ) (a b : ℕ) → z ≡ pos a → z ≡ pos b → a ≡ b
same_size z a b e f = ap natural (sym e ∙ f)

-- a fault that is no damage has its reason in the volume as it is
pub unmoved : (o : Origin) (v : Room) (long : ℕ) (m : ℕ → Option (List ℕ)) (fault : GrowFault) → Held o v long m → IsUndamaged fault → HasFailed o v m fault
unmoved o v long m (NoRun wanted free) held bad = absurd bad
unmoved o v long m (Full room) held bad = absurd bad
unmoved o v long m (Block fault) held fine = record { now = v; map = m; moved = moved_none o v m held.owns; why = fine }

-- a stream whose bytes are whole pages has a size of whole pages
pub whole_long : (o : Origin) (long : ℕ) (m : ℕ → Option (List ℕ)) → IsReadable o long m → AreSized o.sizes.block_size (Some m) → length (stream_of o m) % 1024 ≡ 0 → long % 1024 ≡ 0
whole_long o long m r sized whole =
    let same : length (stream_of o m) ≡ long = reads_sized o long (Some m) (λ map e. let is : m ≡ map = cc in ∣ subst (λ (x : ℕ → Option (List ℕ)). IsReadable o long x) is r ∣₁) sized in
    ap (λ (n : ℕ). n % 1024) (sym same) ∙ whole

-- the size of such a stream is had, unless a block isn't
pub unsized_whole : (o : Origin) (long : ℕ) (m : ℕ → Option (List ℕ)) (fault : GrowFault) → IsReadable o long m → AreSized o.sizes.block_size (Some m) → length (stream_of o m) % 1024 ≡ 0 → IsUnsized o m fault → IsUndamaged fault
unsized_whole o long m fault r sized whole (inl fine) = fine
unsized_whole o long m fault r sized whole (inr bad) = absurd (bad.1 long r.size (whole_long o long m r sized whole))
