-- Rows that name attributes, one after the other.
use Rattle.std.proofs.Common.{◌≡◌, ◌≤◌, ◌<◌, ◌+◌, ◌∙◌, inl, inr, ℕ, ℤ, zero, suc, pos, List, [], ◌∷◌, ◌++◌, length, take, drop, get_or, map, Some, Bool, true, false, cond, refl, sym, ap, subst, arith, append_assoc, append-nil}
use Rattle.std.specs.List.{AllByRecursion, flat_map}
use Rattle.std.proofs.lemmas.List.{take_more, drop_more, take-append-drop, take_all}
use Rattle.bfs_base.specs.Lists.{Has}
use Rattle.bfs_node.specs.Page.{Row}
use Rattle.bfs_super.specs.Conditions.{natural}
use Rattle.bfs_sound.specs.Volumes.{Volume}
use Rattle.bfs_sound.specs.Attributes.{attribute_directory}
use Rattle.bfs_sound.specs.Inodes.{is_proper, id_of, inode_blocks, content, rows_of}
use Rattle.bfs_sound.specs.Owners.{In}
use Rattle.bfs_finding.proofs.Rows.{all_in}
use Rattle.bfs_finding.specs.Ways.{IsReached, Arrives, to_attribute}
use Rattle.bfs_claims.specs.Claims.{Claimed, AreClaimed}
use Rattle.bfs_node_check.specs.declared.role.Role.TheVariants as roles
use Rattle.bfs_inode_walk.specs.Visited.{role_blocks, IsSoundIn, IsTaken}
use Rattle.bfs_inode_walk.specs.declared.fault.VisitFault.{VisitFault}
use Rattle.bfs_inode_walk.specs.declared.fault.VisitFault.TheVariants.{Wrong, Taken, Block}
use Rattle.bfs_names_walk.specs.Rows.{as_rows, AreNames}
use Rattle.bfs_names_walk.specs.declared.row.NameRow.{NameRow}
use Rattle.bfs_node_walk.specs.Listed.{proper, NamesBlock}
use Rattle.bfs_attr_walk.specs.Attributed.{row_blocks, AreSoundRows, IsTakenIn, IsTakenBy}

abbrev as_row : NameRow → Row
as_row r = (r.name, r.value)

-- a row of a list is one of those that aren't passed over
in_rows : (rows : List NameRow) (i : ℕ) (row : NameRow) → i < length rows → row ≡ get_or rows i row → is_proper row.name ≡ true → In (as_row row) (proper (as_rows rows))
in_rows [] i row inside item p = absurd (omega (arith, inside))
in_rows (r ∷ rs) zero row inside item p =
    let e : is_proper r.name ≡ true = ap (λ (x : NameRow). is_proper x.name) (sym item) ∙ p in
    subst (λ (c : Bool). In (as_row row) (cond c (as_row r ∷ proper (as_rows rs)) (proper (as_rows rs)))) (sym e) (inl (ap as_row item))
in_rows (r ∷ rs) (suc i) row inside item p = by_test (is_proper r.name) (in_rows rs i row (omega (arith, inside)) item p)
  where
    by_test : (c : Bool) → In (as_row row) (proper (as_rows rs)) → In (as_row row) (cond c (as_row r ∷ proper (as_rows rs)) (proper (as_rows rs)))
    by_test true j = inr j
    by_test false j = j

pub named_row : (blocks : ℕ) (rows : List NameRow) (i : ℕ) (row : NameRow) → i < length rows → row ≡ get_or rows i row → AllByRecursion (NamesBlock blocks) (proper (as_rows rows)) → is_proper row.name ≡ true → NamesBlock blocks (row.name, row.value)
named_row blocks rows i row inside item all p = all_in (NamesBlock blocks) (proper (as_rows rows)) (as_row row) all (in_rows rows i row inside item p)

pub row_there : (rows : List NameRow) (others : List Row) (i : ℕ) (row : NameRow) → i < length rows → row ≡ get_or rows i row → proper (as_rows rows) ≡ others → is_proper row.name ≡ true → In (row.name, row.value) others
row_there rows others i row inside item same p = subst (λ (l : List Row). In (as_row row) l) same (in_rows rows i row inside item p)

pub row_parts : (rows : List NameRow) (i : ℕ) (row : NameRow) → i < length rows → row ≡ get_or rows i row → rows ≡ take i rows ++ (row ∷ drop (i + 1) rows)
row_parts rows i row inside item =
    sym (take-append-drop i rows) ∙ ap (λ (x : List NameRow). take i rows ++ x) (drop_more rows i row inside ∙ ap (λ (x : NameRow). x ∷ drop (i + 1) rows) (sym item))

-- rows of a directory are those of the node whose directory it is
pub rows_at : (v : Volume) (id d : ℕ) (rows : List NameRow) → AreNames (content v d) rows → attribute_directory v id ≡ Some d → proper (as_rows rows) ≡ rows_of v (attribute_directory v id)
rows_at v id d rows names dir = ap proper names.are ∙ ap (rows_of v) (sym dir)

-- the rows before one name blocks where all do
pub all_before : (blocks : ℕ) (rows : List NameRow) (i : ℕ) → AllByRecursion (NamesBlock blocks) (proper (as_rows rows)) → AllByRecursion (NamesBlock blocks) (proper (as_rows (take i rows)))
all_before blocks rows zero all = tt
all_before blocks [] (suc i) all = tt
all_before blocks (r ∷ rs) (suc i) all = by_test (is_proper r.name) (all_before blocks rs i) all
  where
    by_test : (c : Bool) → (AllByRecursion (NamesBlock blocks) (proper (as_rows rs)) → AllByRecursion (NamesBlock blocks) (proper (as_rows (take i rs))))
        → AllByRecursion (NamesBlock blocks) (cond c (as_row r ∷ proper (as_rows rs)) (proper (as_rows rs))) → AllByRecursion (NamesBlock blocks) (cond c (as_row r ∷ proper (as_rows (take i rs))) (proper (as_rows (take i rs))))
    by_test true ih a = (a.0, ih a.1)
    by_test false ih a = ih a

-- the number of the inode that a row names
value_is : (blocks : ℕ) (row : NameRow) → NamesBlock blocks (row.name, row.value) → row.value ≡ pos (natural row.value)
value_is blocks row n = n.1 ∙ ap pos (sym (ap natural n.1))

pub below : (blocks : ℕ) (row : NameRow) (id : ℕ) → id ≡ natural row.value → NamesBlock blocks (row.name, row.value) → id < blocks
below blocks row id is n = subst (λ (k : ℕ). k < blocks) (sym (is ∙ ap natural n.1)) n.2

pub arrives_at : (v : Volume) (id blocks : ℕ) (row : NameRow) (b : ℕ) → b ≡ natural row.value → NamesBlock blocks (row.name, row.value) → IsReached v id → In (row.name, row.value) (rows_of v (attribute_directory v id)) → Arrives v (to_attribute id row.name) b
arrives_at v id blocks row b is n reached i = (reached, subst (λ (z : ℤ). In (row.name, z) (rows_of v (attribute_directory v id))) (value_is blocks row n ∙ ap pos (sym is)) i)

in_middle : (x : NameRow) (front back : List NameRow) → In x (front ++ (x ∷ back))
in_middle x [] back = inl refl
in_middle x (y ∷ ys) back = inr (in_middle x ys back)

module _ (v : Volume) where
  -- one row
  pub one_sound : (row : NameRow) → (is_proper row.name ≡ true → IsSoundIn v roles.Attribute (natural row.value)) → AreSoundRows v (row ∷ [])
  one_sound row h = by_test (is_proper row.name) h
    where
      by_test : (c : Bool) → (c ≡ true → IsSoundIn v roles.Attribute (natural row.value)) → AllByRecursion (λ (r : Row). IsSoundIn v roles.Attribute (id_of r)) (cond c (as_row row ∷ []) [])
      by_test true h = (h refl, tt)
      by_test false h = tt

  abbrev blocks_if : NameRow → Bool → List ℕ
  blocks_if row c = flat_map (inode_blocks v) (map id_of (cond c (as_row row ∷ []) []))

  pub one_blocks : (row : NameRow) → is_proper row.name ≡ true → row_blocks v (row ∷ []) ≡ inode_blocks v (natural row.value)
  one_blocks row e = ap (blocks_if row) e ∙ append-nil (inode_blocks v (natural row.value))

  pub no_claims : (c : Claimed) (xs : List ℕ) (row : NameRow) → is_proper row.name ≡ false → AreClaimed c xs → AreClaimed c (xs ++ row_blocks v (row ∷ []))
  no_claims c xs row e a = subst (λ (l : List ℕ). AreClaimed c (xs ++ l)) (sym (ap (blocks_if row) e)) (subst (AreClaimed c) (sym (append-nil xs)) a)

  pub taken_one : (xs : List ℕ) (row : NameRow) (b : ℕ) (fault : VisitFault) → is_proper row.name ≡ true → b ≡ natural row.value → IsTaken xs (role_blocks v roles.Attribute b) b fault → IsTakenIn v xs row fault
  taken_one xs row b (Wrong finding) p is t = tt
  taken_one xs row b (Taken block owner) p is t = (p, t.0 ∙ is, subst (λ (k : ℕ). Has (inode_blocks v k) block) (sym t.0) t.1, t.2)
  taken_one xs row b (Block fault) p is t = tt

  -- rows behind others
  rows_more : (xs ys : List NameRow) → row_blocks v (xs ++ ys) ≡ row_blocks v xs ++ row_blocks v ys
  rows_more [] ys = refl
  rows_more (x ∷ xs) ys = by_test (is_proper x.name) (rows_more xs ys)
    where
      by_test : (c : Bool) → row_blocks v (xs ++ ys) ≡ row_blocks v xs ++ row_blocks v ys
          → flat_map (inode_blocks v) (map id_of (cond c (as_row x ∷ proper (as_rows (xs ++ ys))) (proper (as_rows (xs ++ ys))))) ≡ flat_map (inode_blocks v) (map id_of (cond c (as_row x ∷ proper (as_rows xs)) (proper (as_rows xs)))) ++ row_blocks v ys
      by_test true ih = ap (λ (l : List ℕ). inode_blocks v (natural x.value) ++ l) ih ∙ sym (append_assoc (inode_blocks v (natural x.value)) (row_blocks v xs) (row_blocks v ys))
      by_test false ih = ih

  sound_more : (xs ys : List NameRow) → AreSoundRows v xs → AreSoundRows v ys → AreSoundRows v (xs ++ ys)
  sound_more [] ys a b = b
  sound_more (x ∷ xs) ys a b = by_test (is_proper x.name) (λ h. sound_more xs ys h b) a
    where
      by_test : (c : Bool) → (AreSoundRows v xs → AreSoundRows v (xs ++ ys)) → AllByRecursion (λ (r : Row). IsSoundIn v roles.Attribute (id_of r)) (cond c (as_row x ∷ proper (as_rows xs)) (proper (as_rows xs)))
          → AllByRecursion (λ (r : Row). IsSoundIn v roles.Attribute (id_of r)) (cond c (as_row x ∷ proper (as_rows (xs ++ ys))) (proper (as_rows (xs ++ ys))))
      by_test true ih a = (a.0, ih a.1)
      by_test false ih a = ih a

  module _ (rows : List NameRow) (i : ℕ) (row : NameRow) (inside : i < length rows) (item : row ≡ get_or rows i row) where
    next : take (i + 1) rows ≡ take i rows ++ (row ∷ [])
    next = take_more rows i row inside ∙ ap (λ (x : NameRow). take i rows ++ (x ∷ [])) (sym item)

    pub sound_next : AreSoundRows v (take i rows) → AreSoundRows v (row ∷ []) → AreSoundRows v (take (i + 1) rows)
    sound_next a b = subst (AreSoundRows v) (sym next) (sound_more (take i rows) (row ∷ []) a b)

    pub claimed_next : (c : Claimed) (xs : List ℕ) → AreClaimed c ((xs ++ row_blocks v (take i rows)) ++ row_blocks v (row ∷ [])) → AreClaimed c (xs ++ row_blocks v (take (i + 1) rows))
    claimed_next c xs a =
        subst (AreClaimed c)
        (append_assoc xs (row_blocks v (take i rows)) (row_blocks v (row ∷ [])) ∙ ap (λ (l : List ℕ). xs ++ l) (sym (rows_more (take i rows) (row ∷ [])) ∙ ap (row_blocks v) (sym next))) a

    pub taken_next : (xs : List ℕ) (fault : VisitFault) → IsTakenIn v xs row fault → IsTakenBy v xs rows fault
    taken_next xs (Wrong finding) t = tt
    taken_next xs (Taken block owner) t =
        (row, subst (In row) (sym (row_parts rows i row inside item)) (in_middle row (take i rows) (drop (i + 1) rows)), t)
    taken_next xs (Block fault) t = tt

  pub sound_all : (rows : List NameRow) (i : ℕ) → length rows ≤ i → AreSoundRows v (take i rows) → AreSoundRows v rows
  sound_all rows i past a = subst (AreSoundRows v) (take_all i rows past) a

  pub claimed_all : (c : Claimed) (xs : List ℕ) (rows : List NameRow) (i : ℕ) → length rows ≤ i → AreClaimed c (xs ++ row_blocks v (take i rows)) → AreClaimed c (xs ++ row_blocks v rows)
  claimed_all c xs rows i past a = subst (λ (l : List NameRow). AreClaimed c (xs ++ row_blocks v l)) (take_all i rows past) a
