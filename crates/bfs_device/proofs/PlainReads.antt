-- What is read of a plain disk's block.
use Rattle.std.proofs.Common.{◌≡◌, ℕ, ◌*◌, ◌/◌, ◌<◌, List, length, true, Option, Some, None, ◌∙◌, ap, arith}
use Rattle.std.specs.Option.{IfSome}
use Rattle.std.proofs.lemmas.Bool.{le-leb}
use Rattle.bfs_disk.specs.State.{State, Filled}
use Rattle.bfs_disk.specs.Disk.{HasSectors, ReadsSectors}
use Rattle.bfs_disk.specs.Blocks.{AreRead, IsRead, contents_of}
use Rattle.bfs_disk.proofs.Joined.{contents_read, read_once}
use Rattle.bfs_super.specs.declared.sup.Super.{Super}
use Rattle.bfs_super.specs.Conditions.{natural}
use Rattle.bfs_device.specs.Books.{IsOnDisk}
use Rattle.bfs_device.specs.Plain.{has_sectors, block_inside}

pub plain_read : (size blocks place : ℕ) → size ≡ 512 * (size / 512) → (told : Option State) (known : Option ℕ) → IfSome told Filled → IfSome told (λ s. known ≡ Some s.size) → HasSectors known (size / 512 * blocks)
    → place < blocks → (bytes : List ℕ) → length bytes ≡ size → ReadsSectors told (size / 512 * place) bytes → AreRead told (size / 512) place bytes
plain_read size blocks place even None known filled sized on lt bytes long each = tt
plain_read size blocks place even (Some state) None filled sized on lt bytes long each = absurd on
plain_read size blocks place even (Some state) (Some sectors) filled sized on lt bytes long each =
    let r : ℕ = size / 512 in
    let same : sectors ≡ state.size = cc in
    let count : length bytes / 512 ≡ r = ap (λ (n : ℕ). n / 512) long in
    let is : IsRead state r place bytes = record { long = long ∙ even; each = λ j below. each j (omega (arith, below, count)) } in
    read_once state r place bytes (contents_of state r place) is (contents_read state r place filled (block_inside r blocks place state.size (omega (arith, on, same)) lt))

pub on_has : (s : Super) (known : Option ℕ) → IsOnDisk known s → has_sectors known (s.block_size / 512 * natural s.num_blocks) ≡ true
on_has s None on = absurd on
on_has s (Some sectors) on = le-leb (s.block_size / 512 * natural s.num_blocks) sectors on
