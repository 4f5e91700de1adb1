-- The superblock's sector with another label, and the image with it.
use Rattle.std.proofs.Common.{◌≡◌, ℕ, ◌+◌, ◌≤◌, List, ◌++◌, length, take, drop, refl, sym, ◌∙◌, ap, arith, append_assoc, length-append, length-drop}
use Rattle.std.specs.Prelude.{replicate}
use Rattle.std.proofs.lemmas.List.{take-append-drop, drop_at, drop-drop, drop-append-le, length-take-le}
use Rattle.bfs_base.specs.Images.{sector, overwritten}
use Rattle.bfs_super.specs.declared.sup.Super.{Super}
use Rattle.bfs_super.specs.Layout.{super_at, sizes_of, groups_of, places_of, sector_of}
use Rattle.bfs_super.specs.Label.{name_of, IsLabel}
use Rattle.bfs_tool.specs.Label.{labelled}

-- what follows the name
behind : Super → List ℕ
behind s = sizes_of s ++ (groups_of s ++ (places_of s ++ s.rest))

from_name : (s : Super) → sector_of s ≡ s.name ++ behind s
unfolding behind
from_name s =
    append_assoc (s.name ++ sizes_of s ++ groups_of s) (places_of s) s.rest
    ∙ append_assoc (s.name ++ sizes_of s) (groups_of s) (places_of s ++ s.rest)
    ∙ append_assoc s.name (sizes_of s) (groups_of s ++ (places_of s ++ s.rest))

same_behind : (s : Super) (name : List ℕ) → behind (record s { name = name }) ≡ behind s
unfolding behind sizes_of groups_of places_of
same_behind s name = refl

-- another name in the sector of a superblock
pub renamed : (old name : List ℕ) → length old ≡ 512 → sector_of (super_at old) ≡ old → sector_of (record (super_at old) { name = name }) ≡ name ++ drop 32 old
renamed old name long again =
    let s = super_at old in
    let here : length s.name ≡ 32 = length-take-le 32 old (omega (arith, long)) in
    let rest : behind s ≡ drop 32 old = sym (drop_at s.name (behind s) 32 here) ∙ ap (drop 32) (sym (from_name s) ∙ again) in
    from_name (record s { name = name }) ∙ ap (λ (l : List ℕ). name ++ l) (same_behind s name ∙ rest)

pub length-name_of : (name : List ℕ) → IsLabel name → length (name_of name) ≡ 32
length-name_of name is =
    let padding : List ℕ = replicate 32 0 in
    omega (arith, is.short, length-append name (drop (length name) padding), length-drop (length name) padding)

-- the image with that sector
pub labelled_image : (name image block : List ℕ) → IsLabel name → 1024 ≤ length image → block ≡ name_of name ++ drop 32 (sector 1 image) → length block ≡ 512 → overwritten 1 block image ≡ labelled name image
labelled_image name image block is long bytes long_block =
    let r = drop 512 image in
    let front = take 512 image in
    let whole : length (take 512 r) ≡ 512 = length-take-le 512 r (omega (arith, long, length-drop 512 image)) in
    let tail : drop 32 (take 512 r) ++ drop 512 r ≡ drop 544 image =
    sym (drop-append-le 32 (take 512 r) (drop 512 r) (omega (arith, whole))) ∙ ap (drop 32) (take-append-drop 512 r) ∙ drop-drop 32 512 image in
    ap (λ (l : List ℕ). front ++ l ++ drop (512 + length l) image) bytes
    ∙ ap (λ (l : List ℕ). front ++ (name_of name ++ drop 32 (take 512 r)) ++ l) (ap (λ (m : ℕ). drop (512 + m) image) (ap length (sym bytes) ∙ long_block) ∙ sym (drop-drop 512 512 image))
    ∙ append_assoc front (name_of name ++ drop 32 (take 512 r)) (drop 512 r)
    ∙ ap (λ (l : List ℕ). front ++ l) (append_assoc (name_of name) (drop 32 (take 512 r)) (drop 512 r) ∙ ap (λ (l : List ℕ). name_of name ++ l) tail)
    ∙ sym (append_assoc front (name_of name) (drop 544 image))
