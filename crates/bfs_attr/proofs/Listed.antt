-- The inodes that the rows of an attribute directory name, and the rows of attributes.
use Rattle.std.proofs.Common.{◌≡◌, inl, inr, ◌≤◌, ◌<◌, ◌^◌, ℕ, List, [], ◌∷◌, ◌++◌, length, Bool, true, false, cond, Option, Some, None, refl, sym, ◌∙◌, ap, subst, arith, map, append_assoc}
use Rattle.std.specs.Prelude.{not, ◌==◌, ◌↔◌, IsSome, nat_lt}
use Rattle.std.specs.List.{filter, flat_map, AllByRecursion}
use Rattle.std.specs.Option.{option_map}
use Rattle.std.proofs.lemmas.Bool.{cond-true, cond-false, lt-ltb, ltb-true}
use Rattle.std.proofs.lemmas.List.{append-nil}
use Rattle.bfs_base.specs.declared.kind.KeyKind.TheVariants.{Text}
use Rattle.bfs_node.specs.Page.{Row}
use Rattle.bfs_range.specs.Answers.{answer_of}
use Rattle.bfs_range.specs.Ranges.{rows_between}
use Rattle.bfs_range.specs.declared.ranged.RangedRow.{RangedRow}
use Rattle.bfs_values.specs.Values.{values_in, numbers_in}
use Rattle.bfs_smalldata.specs.Items.{Item}
use Rattle.bfs_stream.specs.Sizes.{Origin}
use Rattle.bfs_stream.proofs.Taking.{zero_test}
use Rattle.bfs_tree.specs.Answers.{rows_of_attributes}
use Rattle.bfs_tree.specs.declared.rows.AttributeRow.{AttributeRow}
use Rattle.bfs_maps.specs.Mapped.{HasReadable}
use Rattle.bfs_maps.proofs.Plain.{number_link}
use Rattle.bfs_maps.proofs.Sized.{size_here}
use Rattle.bfs_sound.specs.Volumes.{Volume}
use Rattle.bfs_sound.specs.Owners.{In}
use Rattle.bfs_sound.specs.Attributes.{is_name_item, attributes_in, attribute_at, IsAttributeRow}
use Rattle.bfs_sound.specs.Inodes.{is_proper, id_of}
use Rattle.bfs_attr.specs.Directories.{IsInodeRow, AreInodes, inode_rows, one_inode, before_inode, inodes_among, kind_row, AreThere, IsPushed, AreBelow, IsShort}
use Rattle.bfs_attr.specs.Refused.{IsFaultOf}
use Rattle.bfs_attr.specs.declared.directory.Shortage.{Shortage}
use Rattle.bfs_attr.specs.declared.directory.Shortage.TheVariants as short
use Rattle.bfs_node.specs.declared.fault.TreeFault.{TreeFault}
use Rattle.bfs_stream.specs.declared.fault.GrowFault.{GrowFault}
use Rattle.bfs_maps.specs.Refused.{IsUndone}
use Rattle.bfs_attr.specs.declared.directory.Pushed.TheVariants.{Done}
use Rattle.bfs_attr.specs.SmallData.{item_rows}
use Rattle.bfs_attr.specs.declared.directory.InodeRow.{InodeRow}

-- a value that is a plain number means this number alone
one_number : (b : List ℕ) (row : Row) (blocks : ℕ) → blocks ≤ 2 ^ 62 → IsInodeRow blocks row → values_in b row.1 ≡ id_of row ∷ []
one_number b row blocks small is = ap (numbers_in b) (number_link row.1 (id_of row, is.0, omega (arith, small, is.1)))

one_there : (blocks id : ℕ) → id < blocks → one_inode blocks (id ∷ []) ≡ Some id
one_there blocks id low = cond-true (nat_lt id blocks) (Some id) None (lt-ltb id blocks low)

-- rows that name blocks of the volume are read as they are
pub found_inodes : (blocks : ℕ) (b : List ℕ) (rows : List Row) → blocks ≤ 2 ^ 62 → AreInodes blocks rows → inodes_among blocks (answer_of b rows) ≡ Some (inode_rows rows)
found_inodes blocks b [] small are = refl
found_inodes blocks b (r ∷ rs) small are = by_test (is_proper r.0) are (found_inodes blocks b rs small)
  where
    by_test : (p : Bool) → AllByRecursion (IsInodeRow blocks) (cond p (r ∷ filter (λ row. is_proper row.0) rs) (filter (λ row. is_proper row.0) rs)) → (AreInodes blocks rs → inodes_among blocks (answer_of b rs) ≡ Some (inode_rows rs))
        → cond p (before_inode r.0 (one_inode blocks (values_in b r.1)) (inodes_among blocks (answer_of b rs))) (inodes_among blocks (answer_of b rs)) ≡ Some (map (λ row. record { name = row.0; id = id_of row }) (cond p (r ∷ filter (λ row. is_proper row.0) rs) (filter (λ row. is_proper row.0) rs)))
    by_test true are rest =
        ap (λ (ns : List ℕ). before_inode r.0 (one_inode blocks ns) (inodes_among blocks (answer_of b rs))) (one_number b r blocks small are.0)
        ∙ ap (λ (o : Option ℕ). before_inode r.0 o (inodes_among blocks (answer_of b rs))) (one_there blocks (id_of r) are.0.1)
        ∙ ap (option_map (λ rows. record { name = r.0; id = id_of r } ∷ rows)) (rest are.1)
    by_test false are rest = rest are

-- so are some of them
pub still_inodes : (P : Row → Type 0) (p q : Row → Bool) (rows : List Row) → AllByRecursion P (filter p rows) → AllByRecursion P (filter p (filter q rows))
still_inodes P p q [] all = tt
still_inodes P p q (r ∷ rs) all = by_test (q r) (p r) all (still_inodes P p q rs)
  where
    more : (b : Bool) → AllByRecursion P (cond b (r ∷ filter p rs) (filter p rs)) → (AllByRecursion P (filter p rs) → AllByRecursion P (filter p (filter q rs))) → AllByRecursion P (cond b (r ∷ filter p (filter q rs)) (filter p (filter q rs)))
    more true all rest = (all.0, rest all.1)
    more false all rest = rest all

    less : (b : Bool) → AllByRecursion P (cond b (r ∷ filter p rs) (filter p rs)) → AllByRecursion P (filter p rs)
    less true all = all.1
    less false all = all

    by_test : (t b : Bool) → AllByRecursion P (filter p (r ∷ rs)) → (AllByRecursion P (filter p rs) → AllByRecursion P (filter p (filter q rs))) → AllByRecursion P (filter p (cond t (r ∷ filter q rs) (filter q rs)))
    by_test true b all rest = more (p r) all rest
    by_test false b all rest = rest (less (p r) all)

-- the rows of an attribute directory
pub directory_rows : (v : Volume) (blocks : ℕ) (rows : List Row) → AllByRecursion (IsAttributeRow v) rows → ((k : ℕ) → In k (map id_of rows) → k < blocks) → AllByRecursion (IsInodeRow blocks) rows
directory_rows v blocks [] all below = tt
directory_rows v blocks (r ∷ rs) all below = ((all.0.number, below (id_of r) (inl refl)), directory_rows v blocks rs all.1 (λ k h. below k (inr h)))

-- a range without ends has all rows
pub all_between : (rows : List Row) → rows_between Text None None rows ≡ rows
all_between [] = refl
all_between (r ∷ rs) = ap (λ (l : List Row). r ∷ l) (all_between rs)

-- no inodes are named where there are no rows, and nowhere else
pub no_rows : (rows : List Row) (items : List InodeRow) (n : ℕ) → items ≡ map (λ row. record { name = row.0; id = id_of row }) rows → n ≡ length items → ((n == 0) ≡ true) ↔ (rows ≡ [])
no_rows [] items n is len = (λ t. refl, λ e. zero_test n (len ∙ ap length is))
no_rows (r ∷ rs) items n is len = (λ t. let z : n ≡ 0 = grind (arith, t) in let some = ap length is in absurd (omega (arith, some, len, z)), λ e. let bad : r ∷ rs ≡ [] = e in cc)

-- the inodes that rows name are told, where their streams can be read
pub rows_there : (m : ℕ → Option (List ℕ)) (at : ℕ → Origin) → ((k : ℕ) → (at k).id ≡ k) → (rows : List Row) → ((k : ℕ) → In k (map id_of rows) → HasReadable (at k) m) → AreThere m (map (λ row. record { name = row.0; id = id_of row }) rows)
rows_there m at same [] can = tt
rows_there m at same (r ∷ rs) can =
    let here = can (id_of r) (inl refl) in (
      subst (λ (k : ℕ). IsSome (m k)) (same (id_of r)) (size_here (at (id_of r)) here.0 m here.1),
      rows_there m at same rs (λ k h. can k (inr h)),
    )

-- the rows with the types in the inodes are those of the attributes
pub kinds_are : (v : Volume) (rows : List Row) → map (kind_row v) (map (λ row. record { name = row.0; id = id_of row }) rows) ≡ rows_of_attributes (map (λ row. (row.0, attribute_at v (id_of row))) rows)
kinds_are v [] = refl
kinds_are v (r ∷ rs) = ap (λ (l : List AttributeRow). kind_row v (record { name = r.0; id = id_of r }) ∷ l) (kinds_are v rs)

-- the rows of items are those of the attributes among them
pub small_are : (items : List Item) → flat_map item_rows items ≡ rows_of_attributes (attributes_in items)
small_are [] = refl
small_are (x ∷ xs) = by_test (is_name_item x) (small_are xs)
  where
    by_test : (b : Bool) → flat_map item_rows xs ≡ rows_of_attributes (attributes_in xs)
        → cond b [] (record { kind = x.kind; name = x.name } ∷ []) ++ flat_map item_rows xs
        ≡ rows_of_attributes (map (λ item. (item.name, record { code = item.kind; bytes = item.bytes })) (cond (not b) (x ∷ filter (λ item. not (is_name_item item)) xs) (filter (λ item. not (is_name_item item)) xs)))
    by_test true rest = rest
    by_test false rest = ap (λ (l : List AttributeRow). record { kind = x.kind; name = x.name } ∷ l) rest

-- one more row of an answer: it is passed over, or it names this inode
pub among_next : (blocks : ℕ) (front : List InodeRow) (row : RangedRow) (rest : List RangedRow) (id : ℕ) → one_inode blocks row.numbers ≡ Some id
    → option_map (λ ys. front ++ ys) (before_inode row.key (one_inode blocks row.numbers) (inodes_among blocks rest)) ≡ option_map (λ ys. (front ++ record { name = row.key; id = id } ∷ []) ++ ys) (inodes_among blocks rest)
among_next blocks front row rest id is =
    ap (λ (o : Option ℕ). option_map (λ ys. front ++ ys) (before_inode row.key o (inodes_among blocks rest))) is ∙ by_rest (inodes_among blocks rest)
  where
    by_rest : (o : Option (List InodeRow)) → option_map (λ ys. front ++ ys) (option_map (λ rows. record { name = row.key; id = id } ∷ rows) o) ≡ option_map (λ ys. (front ++ record { name = row.key; id = id } ∷ []) ++ ys) o
    by_rest None = refl
    by_rest (Some ys) = ap (λ (l : List InodeRow). Some l) (sym (append_assoc front (record { name = row.key; id = id } ∷ []) ys))

-- the inodes that rows name, one row after the other
pub among_start : (blocks : ℕ) (rows : List RangedRow) → option_map (λ ys. [] ++ ys) (inodes_among blocks rows) ≡ inodes_among blocks rows
among_start blocks rows = by_rest (inodes_among blocks rows)
  where
    by_rest : (o : Option (List InodeRow)) → option_map (λ ys. [] ++ ys) o ≡ o
    by_rest None = refl
    by_rest (Some ys) = refl

pub among_step : (blocks : ℕ) (front new : List InodeRow) (row : RangedRow) (rest : List RangedRow) (whole : Option (List InodeRow)) → IsPushed blocks front row new Done
    → option_map (λ ys. front ++ ys) (inodes_among blocks (row ∷ rest)) ≡ whole → option_map (λ ys. new ++ ys) (inodes_among blocks rest) ≡ whole
among_step blocks front new row rest whole (inl added) e =
    ap (λ (l : List InodeRow). option_map (λ ys. l ++ ys) (inodes_among blocks rest)) added.1.2
    ∙ sym (among_next blocks front row rest added.1.0 added.1.1)
    ∙ ap (option_map (λ ys. front ++ ys)) (sym (cond-true (is_proper row.key) (before_inode row.key (one_inode blocks row.numbers) (inodes_among blocks rest)) (inodes_among blocks rest) added.0))
    ∙ e
among_step blocks front new row rest whole (inr passed) e =
    ap (λ (l : List InodeRow). option_map (λ ys. l ++ ys) (inodes_among blocks rest)) passed.1
    ∙ ap (option_map (λ ys. front ++ ys)) (sym (cond-false (is_proper row.key) (before_inode row.key (one_inode blocks row.numbers) (inodes_among blocks rest)) (inodes_among blocks rest) passed.0))
    ∙ e

pub among_stop : (blocks : ℕ) (front : List InodeRow) (row : RangedRow) (rest : List RangedRow) (whole : Option (List InodeRow)) → is_proper row.key ≡ true → one_inode blocks row.numbers ≡ None
    → option_map (λ ys. front ++ ys) (inodes_among blocks (row ∷ rest)) ≡ whole → whole ≡ None
among_stop blocks front row rest whole proper none e =
    sym e
    ∙ ap (option_map (λ ys. front ++ ys)) (cond-true (is_proper row.key) (before_inode row.key (one_inode blocks row.numbers) (inodes_among blocks rest)) (inodes_among blocks rest) proper)
    ∙ ap (λ (o : Option ℕ). option_map (λ ys. front ++ ys) (before_inode row.key o (inodes_among blocks rest))) none

pub among_end : (blocks : ℕ) (front : List InodeRow) (whole : Option (List InodeRow)) → option_map (λ ys. front ++ ys) (inodes_among blocks []) ≡ whole → whole ≡ Some front
among_end blocks front whole e = sym e ∙ ap (λ (l : List InodeRow). Some l) (append-nil front)

one_below : (blocks : ℕ) (numbers : List ℕ) (id : ℕ) → one_inode blocks numbers ≡ Some id → id < blocks
one_below blocks [] id e = let bad : None ≡ Some id = e in cc
one_below blocks (n ∷ []) id e = by_test (nat_lt n blocks) refl e
  where
    by_test : (b : Bool) → nat_lt n blocks ≡ b → cond b (Some n) None ≡ Some id → id < blocks
    by_test true t e = let same : n ≡ id = let h : Some n ≡ Some id = e in cc in subst (λ (k : ℕ). k < blocks) same (ltb-true n blocks t)
    by_test false t e = let bad : None ≡ Some id = e in cc
one_below blocks (n ∷ other ∷ more) id e = let bad : None ≡ Some id = e in cc

-- inodes that were read are blocks of the volume
pub below_among : (blocks : ℕ) (rows : List RangedRow) (found : List InodeRow) → inodes_among blocks rows ≡ Some found → AreBelow blocks found
below_among blocks [] found e = let none : [] ≡ found = let h : Some [] ≡ Some found = e in cc in subst (AreBelow blocks) none tt
below_among blocks (r ∷ rs) found e = by_test (is_proper r.key) e (below_among blocks rs)
  where
    joined : (id : ℕ) → id < blocks → (o : Option (List InodeRow)) → ((ys : List InodeRow) → o ≡ Some ys → AreBelow blocks ys) → option_map (λ rows. record { name = r.key; id = id } ∷ rows) o ≡ Some found → AreBelow blocks found
    joined id low None rest e = let bad : None ≡ Some found = e in cc
    joined id low (Some ys) rest e =
        let whole : List InodeRow = record { name = r.key; id = id } ∷ ys in
        let same : whole ≡ found = let h : Some whole ≡ Some found = e in cc in subst (AreBelow blocks) same (low, rest ys refl)

    by_number : (o : Option ℕ) → one_inode blocks r.numbers ≡ o → before_inode r.key o (inodes_among blocks rs) ≡ Some found → ((ys : List InodeRow) → inodes_among blocks rs ≡ Some ys → AreBelow blocks ys) → AreBelow blocks found
    by_number None n e rest = let bad : None ≡ Some found = e in cc
    by_number (Some id) n e rest = joined id (one_below blocks r.numbers id n) (inodes_among blocks rs) rest e

    by_test : (p : Bool) → cond p (before_inode r.key (one_inode blocks r.numbers) (inodes_among blocks rs)) (inodes_among blocks rs) ≡ Some found → ((ys : List InodeRow) → inodes_among blocks rs ≡ Some ys → AreBelow blocks ys) → AreBelow blocks found
    by_test true e rest = by_number (one_inode blocks r.numbers) refl e rest
    by_test false e rest = rest found e

-- a want of inodes over rows that name blocks of the volume is one of memory
pub short_undone : (blocks : ℕ) (rows : List RangedRow) (s : Shortage) (directory : ℕ) (f : TreeFault GrowFault) (found : List InodeRow) → IsShort blocks rows s → IsFaultOf directory s f → inodes_among blocks rows ≡ Some found → IsUndone f
short_undone blocks rows short.Unsound directory f found none is e = let bad : None ≡ Some found = sym none ∙ e in cc
short_undone blocks rows short.NoMemory directory f found none is e = subst IsUndone (sym is) tt
