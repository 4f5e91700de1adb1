-- What a directory's rows list.
use Rattle.std.proofs.Common.{◌≡◌, ◌≢◌, inl, inr, ℕ, ℤ, pos, List, [], ◌∷◌, ◌++◌, refl, sym, ap, append-nil, ◌∙◌, subst, Bool, true, false, not, Option, Some, None}
use Rattle.std.specs.Prelude.{◌||◌, codes, if◌then◌else◌}
use Rattle.std.specs.List.{flat_map}
use Rattle.std.specs.Str.{bytes_eq}
use Rattle.std.proofs.lemmas.Slice.Eq.{bytes_eq-Decides}
use Rattle.bfs_base.specs.declared.kind.KeyKind.TheVariants.{Text}
use Rattle.bfs_super.specs.Conditions.{natural}
use Rattle.bfs_super.specs.Geometry.{geometry_of}
use Rattle.bfs_super.specs.declared.sup.Super.{Super}
use Rattle.bfs_bitmap.specs.Runs.{Room}
use Rattle.bfs_node.specs.Page.{Row}
use Rattle.bfs_pages.specs.Maps.{assoc}
use Rattle.bfs_pages.specs.Ways.{KeysAscend}
use Rattle.bfs_tree.specs.Answers.{names_in}
use Rattle.bfs_tree.specs.Names.{is_bad_name}
use Rattle.bfs_tree.specs.Trees.{Node, Tree, IsNode, child}
use Rattle.bfs_tree.specs.declared.call.Kind.{Kind}
use Rattle.bfs_tree.specs.declared.call.Kind.TheVariants.{Dir}
use Rattle.bfs_dir.specs.Directories.{listed}
use Rattle.bfs_dir.specs.declared.rows.DirRow.{DirRow}
use Rattle.bfs_sound.specs.Inodes.{content, is_proper}
use Rattle.bfs_sound.specs.Listings.{IsRow, IsChild}
use Rattle.bfs_sound.specs.Nodes.{HasContent}
use Rattle.bfs_shift.specs.Lists.{Lists}
use Rattle.bfs_shift.specs.Shifts.{volume_in}
use Rattle.bfs_shift.proofs.Following.{not_dot}
use Rattle.bfs_shift.proofs.IndexMoves.{ascends}
use Rattle.bfs_look.specs.Names.{proper_name}
use Rattle.bfs_look.specs.Ready.{IsReady}
use Rattle.bfs_look.proofs.Children.{IsIn, child_is, child_none, names_are}
use Rattle.bfs_look.proofs.Keyed.{keys_of, key_finds, found_is_key, keys_ascend}

pub names_listed : (rows : List Row) → flat_map proper_name (listed rows) ≡ keys_of is_proper rows
names_listed [] = refl
names_listed (r ∷ rs) = ap (λ (l : List (List ℕ)). proper_name (record { name = r.0; id = natural_of r }) ++ l) (names_listed rs)
  where
    natural_of : Row → ℕ
    natural_of row = natural row.1

-- a row adds its name, or nothing
pub pushed_none : (names : List (List ℕ)) (row : DirRow) → is_proper row.name ≡ false → names ≡ names ++ proper_name row
pushed_none names row e = sym (ap (λ (t : Bool). names ++ (if t then row.name ∷ [] else [])) e ∙ append-nil names)

pub pushed_one : (old new : List (List ℕ)) (row : DirRow) → is_proper row.name ≡ true → new ≡ old ++ row.name ∷ [] → new ≡ old ++ proper_name row
pushed_one old new row e pushed = pushed ∙ sym (ap (λ (t : Bool). old ++ (if t then row.name ∷ [] else [])) e)

-- a name that is neither is proper
not_same : (a b : List ℕ) → a ≢ b → bytes_eq a b ≡ false
not_same a b other = by_test (bytes_eq a b) refl
  where
    by_test : (t : Bool) → bytes_eq a b ≡ t → bytes_eq a b ≡ false
    by_test false e = e
    by_test true e = absurd (other ((bytes_eq-Decides a b).0 e))

pub good_is_proper : (name : List ℕ) → is_bad_name name ≡ false → is_proper name ≡ true
good_is_proper name good =
    let n = not_dot name good in
    ap (λ (t : Bool). not (t || bytes_eq name (codes ".."))) (not_same name (codes ".") n.0) ∙ ap not (not_same name (codes "..") n.1)

dot_improper : is_proper (codes ".") ≡ false
dot_improper = refl

dots_improper : is_proper (codes "..") ≡ false
dots_improper = refl

module _ (s : Super) (v : Room) (m : ℕ → Option (List ℕ)) (tree : Tree) (lists : Lists) (ready : IsReady (geometry_of s) v m tree lists) (d : ℕ) (n : Node) (is : IsNode tree d n) (dir : n.kind ≡ Dir) where
  -- a row of a proper name is a child's
  pub proper_child : (name : List ℕ) (value : ℤ) → is_proper name ≡ true → IsRow tree d n name value → (id : ℕ) × (value ≡ pos id) × IsChild tree d name id
  proper_child name value proper (inl dot) = absurd (let bad : true ≡ false = sym proper ∙ ap is_proper dot.0 ∙ dot_improper in cc)
  proper_child name value proper (inr (inl dots)) = absurd (let bad : true ≡ false = sym proper ∙ ap is_proper dots.0 ∙ dots_improper in cc)
  proper_child name value proper (inr (inr c)) = c

  in_of : (name : List ℕ) (id : ℕ) → IsChild tree d name id → IsIn tree d name id
  in_of name id c = record { node = c.node; there = c.there; not_root = c.not_root; parent = c.parent; named = c.named }

  has_row : (name : List ℕ) (id : ℕ) → IsIn tree d name id → assoc Text (lists.rows d) name ≡ Some (pos id)
  has_row name id c = (ready.agrees.rows d n is dir name (pos id)).1 (inr (inr (id, refl, record { node = c.node; there = c.there; not_root = c.not_root; parent = c.parent; named = c.named })))

  proper_in : (name : List ℕ) (id : ℕ) → IsIn tree d name id → is_proper name ≡ true
  proper_in name id c = ap is_proper (sym c.named) ∙ good_is_proper c.node.name (ready.plain.nodes.named id c.node c.there c.not_root)

  rows_up : KeysAscend Text (lists.rows d)
  rows_up =
      let c : HasContent (volume_in (geometry_of s) m) d n Dir = subst (λ (k : Kind). HasContent (volume_in (geometry_of s) m) d n k) dir (ready.work.stocked.nodes d n is).content_is in
      subst (KeysAscend Text) (ready.work.stocked.rows d n is dir) (ascends (content (volume_in (geometry_of s) m) d) c.1)

  pub names_there : flat_map proper_name (listed (lists.rows d)) ≡ names_in tree d
  names_there = names_listed (lists.rows d) ∙ names_are tree ready.plain.nodes d (keys_of is_proper (lists.rows d)) (keys_ascend is_proper (lists.rows d) rows_up)
      (λ name i.
      let f = key_finds is_proper (lists.rows d) name i in
      let c = proper_child name f.value f.passes ((ready.agrees.rows d n is dir name f.value).0 f.found) in
      (c.0, in_of name c.0 c.2))
      (λ name id c. found_is_key is_proper (lists.rows d) name (pos id) (proper_in name id c) (has_row name id c))

  one_number : (a b : ℕ) → Some (pos a) ≡ Some (pos b) → a ≡ b
  one_number a b e = (let o : Some (pos a) ≡ Some (pos b) = e in cc)

  -- a good name that has a row is a child's
  pub row_is_child : (name : List ℕ) (id : ℕ) → is_bad_name name ≡ false → assoc Text (lists.rows d) name ≡ Some (pos id) → IsIn tree d name id
  row_is_child name id good found =
      let c = proper_child name (pos id) (good_is_proper name good) ((ready.agrees.rows d n is dir name (pos id)).0 found) in
      let same : id ≡ c.0 = ap natural c.1 in
      subst (IsIn tree d name) (sym same) (in_of name c.0 c.2)

  pub no_row_no_child : (name : List ℕ) → assoc Text (lists.rows d) name ≡ None → child tree d name ≡ None
  no_row_no_child name none = child_none tree d name (λ id c. let bad : None ≡ Some (pos id) = sym none ∙ has_row name id c in cc)

  pub bad_no_child : (name : List ℕ) → is_bad_name name ≡ true → child tree d name ≡ None
  bad_no_child name bad = child_none tree d name (λ id c. let no' : true ≡ false = sym bad ∙ ap is_bad_name (sym c.named) ∙ ready.plain.nodes.named id c.node c.there c.not_root in cc)

  pub row_child_is : (name : List ℕ) (id : ℕ) (c : IsIn tree d name id) → child tree d name ≡ Some (id, c.node)
  row_child_is name id c = child_is tree ready.plain.nodes d name id c.node c.there c.not_root c.parent c.named
