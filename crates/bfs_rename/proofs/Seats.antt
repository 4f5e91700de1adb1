-- Rows of a node that moves.
use Rattle.std.proofs.Common.{◌≡◌, ◌<◌, ◌^◌, inl, inr, ℕ, ℤ, pos, List, [], ◌∷◌, Option, Some, None, Bool, true, false, cond, codes, refl, sym, ap, ◌∙◌, subst, arith}
use Rattle.bfs_base.specs.declared.kind.KeyKind.TheVariants.{Text}
use Rattle.bfs_super.specs.Conditions.{IsValid, natural}
use Rattle.bfs_super.specs.Geometry.{geometry_of}
use Rattle.bfs_super.specs.declared.sup.Super.{Super}
use Rattle.bfs_bitmap.specs.Runs.{Room}
use Rattle.bfs_node.specs.Page.{Row}
use Rattle.bfs_pages.specs.Maps.{assoc, put, without}
use Rattle.bfs_pages.specs.Order.{Key, same_keys}
use Rattle.std.specs.Prelude.{◌==◌}
use Rattle.bfs_tree.specs.Trees.{Node, Tree}
use Rattle.bfs_tree.specs.declared.call.Kind.TheVariants.{Dir}
use Rattle.bfs_tree.proofs.Members.{no-child}
use Rattle.bfs_maps.specs.NumberTrees.{AreNumbers}
use Rattle.bfs_maps.proofs.MapLaws.{taken_differs}
use Rattle.bfs_sound.specs.Listings.{IsRow}
use Rattle.bfs_shift.specs.Lists.{Lists}
use Rattle.bfs_shift.proofs.Following.{not_dot}
use Rattle.bfs_shift.proofs.Parts.{lists_at}
use Rattle.bfs_look.specs.Ready.{IsReady}
use Rattle.bfs_look.proofs.Known.{few_blocks, rows_numbers, row_child}
use Rattle.bfs_rename.specs.Moved.{IsMove}
use Rattle.bfs_rename.specs.Rows.{IsRowMoving, row_taken, rows_moved}

same_number : (a b : ℕ) → (a == b) ≡ true → a ≡ b
same_number a b e = grind (arith, e)

-- a number of a block is no more than the format's numbers
pub small_id : (s : Super) (id : ℕ) → IsValid s → id < natural s.num_blocks → id < 2 ^ 62
small_id s id valid low = let few = few_blocks s valid in omega (arith, few, low)

-- a name that isn't there isn't there once another is taken
pub none_left : (rows : List Row) (k q : Key) → assoc Text rows q ≡ None → assoc Text (without Text rows k) q ≡ None
none_left [] k q none = refl
none_left (r ∷ rs) k q none = by_own (same_keys Text q r.0) refl none (none_left rs k q)
  where
    by_taken : (t : Bool) → assoc Text (without Text rs k) q ≡ None → same_keys Text q r.0 ≡ false → assoc Text (cond t (without Text rs k) (r ∷ without Text rs k)) q ≡ None
    by_taken true rest e = rest
    by_taken false rest e = ap (λ (b : Bool). cond b (Some r.1) (assoc Text (without Text rs k) q)) e ∙ rest

    by_own : (t : Bool) → same_keys Text q r.0 ≡ t → cond t (Some r.1) (assoc Text rs q) ≡ None → (assoc Text rs q ≡ None → assoc Text (without Text rs k) q ≡ None) → assoc Text (without Text (r ∷ rs) k) q ≡ None
    by_own true e bad rest = let b : Some r.1 ≡ None = bad in absurd cc
    by_own false e none rest = by_taken (same_keys Text k r.0) (rest none) e

module _ (s : Super) (v : Room) (m : ℕ → Option (List ℕ)) (tree : Tree) (lists : Lists) (ready : IsReady (geometry_of s) v m tree lists) (valid : IsValid s)
    (dir : ℕ) (name : List ℕ) (to_dir : ℕ) (to_name : List ℕ) (id : ℕ) (n : Node) (move : IsMove tree dir name to_dir to_name id n) where
  pub row : assoc Text (lists.rows dir) name ≡ Some (pos id)
  row = ap (assoc Text (lists.rows dir)) (sym move.named) ∙ row_child s v m tree lists ready dir move.d move.there move.dir_kind id n move.node_there move.apart move.parent

  -- the new name is no row's
  no_row : (value : ℤ) → IsRow tree to_dir move.t to_name value → ⊥
  no_row value (inl dot) = (not_dot to_name move.good).0 dot.0
  no_row value (inr (inl dots)) = (not_dot to_name move.good).1 dots.0
  no_row value (inr (inr c)) = no-child tree to_dir to_name move.free c.0 c.2.node c.2.there c.2.not_root c.2.parent c.2.named

  pub free_before : assoc Text (lists.rows to_dir) to_name ≡ None
  free_before = by_value (assoc Text (lists.rows to_dir) to_name) refl
    where
      by_value : (o : Option ℤ) → assoc Text (lists.rows to_dir) to_name ≡ o → assoc Text (lists.rows to_dir) to_name ≡ None
      by_value None e = e
      by_value (Some value) e = absurd (no_row value ((ready.agrees.rows to_dir move.t move.to_there move.to_kind to_name value).0 e))

  free : assoc Text ((row_taken lists dir name).rows to_dir) to_name ≡ None
  free = by_test (to_dir == dir) refl
    where
      by_test : (t : Bool) → (to_dir == dir) ≡ t → assoc Text (cond t (without Text (lists.rows dir) name) (lists.rows to_dir)) to_name ≡ None
      by_test true e = none_left (lists.rows dir) name to_name (subst (λ (k : ℕ). assoc Text (lists.rows k) to_name ≡ None) (same_number to_dir dir e) free_before)
      by_test false e = free_before

  pub row_moving : IsRowMoving tree lists dir name to_dir to_name
  row_moving = record {
    d = move.d;
    there = move.there;
    dir_kind = move.dir_kind;
    t = move.t;
    to_there = move.to_there;
    to_kind = move.to_kind;
    numbers = rows_numbers s v m tree lists ready dir move.d move.there move.dir_kind valid;
    to_numbers = rows_numbers s v m tree lists ready to_dir move.t move.to_there move.to_kind valid;
    value = pos id;
    row = row;
    free = free;
  }

  abbrev mid : Lists
  mid = rows_moved lists dir name to_dir to_name id

  -- its own rows are what they were
  pub own_rows : mid.rows id ≡ lists.rows id
  own_rows =
      (lists_at (row_taken lists dir name)).rows_elsewhere to_dir id (put Text ((row_taken lists dir name).rows to_dir) to_name (pos id)) move.to_apart
      ∙ (lists_at lists).rows_elsewhere dir id (without Text (lists.rows dir) name) move.dir_apart

  module _ (isdir : n.kind ≡ Dir) where
    own_numbers : AreNumbers (mid.rows id)
    own_numbers = subst AreNumbers (sym own_rows) (rows_numbers s v m tree lists ready id n move.node_there isdir valid)

    dots_row : assoc Text (mid.rows id) (codes "..") ≡ Some (pos n.parent)
    dots_row =
        ap (λ (rows : List Row). assoc Text rows (codes "..")) own_rows
        ∙ (ready.agrees.rows id n move.node_there isdir (codes "..") (pos n.parent)).1 (inr (inl (refl, refl)))

    dots_free : assoc Text ((row_taken mid id (codes "..")).rows id) (codes "..") ≡ None
    dots_free =
        ap (λ (rows : List Row). assoc Text rows (codes "..")) ((lists_at mid).rows_here id (without Text (mid.rows id) (codes "..")))
        ∙ (taken_differs Text (mid.rows id) (codes "..")).changed

    pub dots_moving : IsRowMoving tree mid id (codes "..") id (codes "..")
    dots_moving = record {
      d = n;
      there = move.node_there;
      dir_kind = isdir;
      t = n;
      to_there = move.node_there;
      to_kind = isdir;
      numbers = own_numbers;
      to_numbers = own_numbers;
      value = pos n.parent;
      row = dots_row;
      free = dots_free;
    }
