-- Numbers of inodes, as they are gathered from the rows of an attribute directory.
use Rattle.std.proofs.Common.{◌≡◌, ◌<◌, inl, inr, ◌++◌, ℕ, zero, suc, List, [], ◌∷◌, length, get_or, map, append_assoc, refl, sym, ap, ◌∙◌, subst, arith, Bool, true, false, Option, Some, None}
use Rattle.std.specs.List.{filter, AllByRecursion}
use Rattle.bfs_base.specs.declared.kind.KeyKind.TheVariants.{Text}
use Rattle.bfs_node.specs.Page.{Row}
use Rattle.bfs_range.specs.Ranges.{rows_between}
use Rattle.bfs_sound.specs.Attributes.{IsAttributeDirectory, IsAttributeRow, attribute_directory, attribute_inodes, HasDirectory}
use Rattle.bfs_sound.specs.Inodes.{id_of, is_proper, proper_rows}
use Rattle.bfs_sound.specs.Owners.{In}
use Rattle.bfs_sound.specs.Volumes.{Volume}
use Rattle.bfs_attr.specs.Bearers.{HasAttributes}
use Rattle.bfs_attr.specs.Directories.{IsInodeRow, AreBelow, inode_rows}
use Rattle.bfs_attr.specs.Refused.{HasRows}
use Rattle.bfs_attr.specs.declared.directory.InodeRow.{InodeRow}
use Rattle.bfs_unmake.specs.Whole.{streamed_in, AllBelow}

-- each of numbers that are below is
pub each_below : (n : ℕ) (ids : List ℕ) → AllBelow n ids → (i : ℕ) → i < length ids → get_or ids i 0 < n
each_below n [] all i low = absurd (omega (arith, low))
each_below n (x ∷ xs) all zero low = all.0
each_below n (x ∷ xs) all (suc i) low = each_below n xs all.1 i (omega (arith, low))

all_joined : (n : ℕ) (xs ys : List ℕ) → AllBelow n xs → AllBelow n ys → AllBelow n (xs ++ ys)
all_joined n [] ys all more = more
all_joined n (x ∷ xs) ys all more = (all.0, all_joined n xs ys all.1 more)

pub own_below : (n id : ℕ) (alone : Bool) → id < n → AllBelow n (streamed_in id alone)
own_below n id true low = tt
own_below n id false low = (low, tt)

rows_below : (n : ℕ) (rows : List InodeRow) → AreBelow n rows → AllBelow n (map (λ row. row.id) rows)
rows_below n [] all = tt
rows_below n (r ∷ rs) all = (all.0, rows_below n rs all.1)

-- the inodes of rows, as the rows name them
inodes_named : (rows : List Row) → map {A = InodeRow} (λ row. row.id) (map (λ row. record { name = row.0; id = id_of row }) rows) ≡ map id_of rows
inodes_named [] = refl
inodes_named (r ∷ rs) = ap (λ (l : List ℕ). id_of r ∷ l) (inodes_named rs)

-- a range without ends has all rows
pub all_between : (rows : List Row) → rows_between Text None None rows ≡ rows
all_between [] = refl
all_between (r ∷ rs) = ap (λ (l : List Row). r ∷ l) (all_between rs)

-- the directory's inode was added to numbers, and then those of its rows
pub gathered : (before pushed after : List ℕ) (d : ℕ) (named : List InodeRow) (rows : List Row) → pushed ≡ before ++ d ∷ [] → after ≡ pushed ++ map (λ row. row.id) named → named ≡ inode_rows rows
    → after ≡ before ++ (d ∷ map id_of (filter (λ row. is_proper row.0) rows))
gathered before pushed after d named rows first rest are =
    rest ∙ ap (λ (l : List ℕ). l ++ map (λ row. row.id) named) first ∙ append_assoc before (d ∷ []) (map (λ row. row.id) named)
    ∙ ap (λ (l : List InodeRow). before ++ (d ∷ map (λ row. row.id) l)) are ∙ ap (λ (l : List ℕ). before ++ (d ∷ l)) (inodes_named (filter (λ row. is_proper row.0) rows))

pub gathered_below : (n : ℕ) (before pushed after : List ℕ) (d : ℕ) (named : List InodeRow) → AllBelow n before → d < n → AreBelow n named → pushed ≡ before ++ d ∷ [] → after ≡ pushed ++ map (λ row. row.id) named → AllBelow n after
gathered_below n before pushed after d named all low are first rest =
    let front : AllBelow n pushed = subst (AllBelow n) (sym first) (all_joined n before (d ∷ []) all (low, tt)) in
    subst (AllBelow n) (sym rest) (all_joined n pushed (map (λ row. row.id) named) front (rows_below n named are))

-- the rows of an attribute directory name inodes of the volume
name_inodes : (v : Volume) (n : ℕ) (rows : List Row) → AllByRecursion (IsAttributeRow v) rows → ((k : ℕ) → In k (map id_of rows) → k < n) → AllByRecursion (IsInodeRow n) rows
name_inodes v n [] all below = tt
name_inodes v n (r ∷ rs) all below = ((all.0.number, below (id_of r) (inl refl)), name_inodes v n rs all.1 (λ k h. below k (inr h)))

pub rows_found : (v : Volume) (id d : ℕ) → HasAttributes v id → attribute_directory v id ≡ Some d → HasRows v d
rows_found v id d has e =
    let is : IsAttributeDirectory v id d = subst (HasDirectory v id) e has.directory in
    let inside : (k : ℕ) → In k (attribute_inodes v (Some d)) → k < v.geometry.blocks = subst (λ (o : Option ℕ). (k : ℕ) → In k (attribute_inodes v o) → k < v.geometry.blocks) e has.inside in
    (is.tree, name_inodes v v.geometry.blocks (proper_rows v d) is.rows (λ k h. inside k (inr h)))
