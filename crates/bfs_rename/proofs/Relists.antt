-- What directories and indices list of a node that has moved.
use Rattle.std.proofs.Common.{◌≡◌, ◌≢◌, ◌⊎◌, inl, inr, ℕ, ℤ, pos, List, Option, Some, None, Bool, true, false, cond, codes, refl, sym, ap, ◌∙◌, subst, arith}
use Rattle.std.specs.Prelude.{◌==◌}
use Rattle.std.specs.FinMap.{get}
use Rattle.std.specs.Option.{option_and_then}
use Rattle.std.specs.Str.{bytes_eq}
use Rattle.std.proofs.lemmas.Slice.Eq.{bytes_eq-Decides}
use Rattle.bfs_base.specs.declared.kind.KeyKind.{KeyKind}
use Rattle.bfs_base.specs.declared.kind.KeyKind.TheVariants.{Text}
use Rattle.bfs_bytes.specs.Fields.{unsigned_bytes, signed64_bytes}
use Rattle.bfs_super.specs.Conditions.{IsValid}
use Rattle.bfs_super.specs.Geometry.{geometry_of}
use Rattle.bfs_super.specs.declared.sup.Super.{Super}
use Rattle.bfs_bitmap.specs.Runs.{Room}
use Rattle.bfs_node.specs.Page.{Row}
use Rattle.bfs_pages.specs.Maps.{assoc, put, without}
use Rattle.bfs_tree.specs.Listings.{key_in, key_of_attribute, relisted}
use Rattle.bfs_tree.specs.Trees.{Node, Tree, is_dir, is_file}
use Rattle.bfs_tree.specs.declared.call.Kind.{Kind}
use Rattle.bfs_tree.specs.declared.call.Kind.TheVariants.{Dir}
use Rattle.bfs_maps.specs.Laws.{DiffersAt}
use Rattle.bfs_maps.specs.NumberTrees.{IsNumberAt}
use Rattle.bfs_maps.proofs.MapLaws.{put_differs, taken_differs}
use Rattle.bfs_shift.specs.Lists.{Lists, with_pairs}
use Rattle.bfs_shift.specs.TreeLaws.{MovesNode, moved_node}
use Rattle.bfs_shift.proofs.Parts.{lists_at}
use Rattle.bfs_look.specs.Ready.{IsReady}
use Rattle.bfs_set_size.specs.Relisted.{IsRelisting}
use Rattle.bfs_set_size.proofs.Rekeyed.{left_of, pairs_of, pairs_now, relists}
use Rattle.bfs_rename.specs.Moved.{IsMove, seat_lists, dots_moved}
use Rattle.bfs_rename.specs.Rows.{row_taken, rows_moved}
use Rattle.bfs_rename.proofs.Seats.{own_rows}

not_same : (a b : ℕ) → a ≢ b → (a == b) ≡ false
not_same a b other = grind (arith, other)

-- a node's key in the index of names
name_key : (root : ℕ) (kind : KeyKind) (id : ℕ) (n : Node) → id ≢ root → key_in root (codes "name") kind id n ≡ Some n.name
name_key root kind id n apart = ap (λ (b : Bool). cond b None (Some n.name)) (not_same id root apart)

-- the other indices list it under the keys that it had
key_by : ℕ → List ℕ → KeyKind → ℕ → Node → List ℕ → Bool → Option (List ℕ)
key_by root index kind id n name t =
    cond t (cond (id == root) None (Some name))
    (cond (bytes_eq index (codes "size")) (cond (is_file n.kind) (Some (unsigned_bytes 8 n.size)) None)
    (cond (bytes_eq index (codes "last_modified")) (cond (is_file n.kind) (Some (signed64_bytes n.modified)) None) (option_and_then (key_of_attribute kind) (get n.attributes index))))

other_key : (root : ℕ) (index : List ℕ) (kind : KeyKind) (id : ℕ) (n : Node) (to : ℕ) (name : List ℕ) (stamp : ℤ) → bytes_eq index (codes "name") ≡ false
    → key_in root index kind id (moved_node to name stamp n) ≡ key_in root index kind id n
unfolding key_by
other_key root index kind id n to name stamp e = ap (key_by root index kind id n name) e ∙ sym (ap (key_by root index kind id n n.name) e)

-- lists with other rows have the same indices
same_names : (lists : Lists) (to_dir id : ℕ) (kind : Kind) → (dots_moved lists to_dir id kind).names ≡ lists.names
same_names lists to_dir id kind = by_test (is_dir kind)
  where
    by_test : (b : Bool) → (cond b (rows_moved lists id (codes "..") id (codes "..") to_dir) lists).names ≡ lists.names
    by_test true = refl
    by_test false = refl

same_kinds : (lists : Lists) (to_dir id : ℕ) (kind : Kind) (index : List ℕ) → (dots_moved lists to_dir id kind).kinds index ≡ lists.kinds index
same_kinds lists to_dir id kind index = by_test (is_dir kind)
  where
    by_test : (b : Bool) → (cond b (rows_moved lists id (codes "..") id (codes "..") to_dir) lists).kinds index ≡ lists.kinds index
    by_test true = refl
    by_test false = refl

same_pairs : (lists : Lists) (to_dir id : ℕ) (kind : Kind) (index : List ℕ) → (dots_moved lists to_dir id kind).pairs index ≡ lists.pairs index
same_pairs lists to_dir id kind index = by_test (is_dir kind)
  where
    by_test : (b : Bool) → (cond b (rows_moved lists id (codes "..") id (codes "..") to_dir) lists).pairs index ≡ lists.pairs index
    by_test true = refl
    by_test false = refl

other_rows : (lists : Lists) (to_dir id : ℕ) (kind : Kind) (k : ℕ) → k ≢ id → (dots_moved lists to_dir id kind).rows k ≡ lists.rows k
other_rows lists to_dir id kind k apart = by_test (is_dir kind)
  where
    by_test : (b : Bool) → (cond b (rows_moved lists id (codes "..") id (codes "..") to_dir) lists).rows k ≡ lists.rows k
    by_test true =
        (lists_at (row_taken lists id (codes ".."))).rows_elsewhere id k (put Text ((row_taken lists id (codes "..")).rows id) (codes "..") (pos to_dir)) apart
        ∙ (lists_at lists).rows_elsewhere id k (without Text (lists.rows id) (codes "..")) apart
    by_test false = refl

-- of a directory `..` leads to the new one
dots_differ : (lists : Lists) (to_dir id : ℕ) → DiffersAt Text (lists.rows id) ((rows_moved lists id (codes "..") id (codes "..") to_dir).rows id) (codes "..") (Some (pos to_dir))
dots_differ lists to_dir id = subst (λ (rows : List Row). DiffersAt Text (lists.rows id) rows (codes "..") (Some (pos to_dir))) (sym is) (record {
  changed = (put_differs Text (without Text (lists.rows id) (codes "..")) (codes "..") (pos to_dir)).changed;
  others = λ k e. (put_differs Text (without Text (lists.rows id) (codes "..")) (codes "..") (pos to_dir)).others k e ∙ (taken_differs Text (lists.rows id) (codes "..")).others k e;
})
  where
    is : (rows_moved lists id (codes "..") id (codes "..") to_dir).rows id ≡ put Text (without Text (lists.rows id) (codes "..")) (codes "..") (pos to_dir)
    is =
        (lists_at (row_taken lists id (codes ".."))).rows_here id (put Text ((row_taken lists id (codes "..")).rows id) (codes "..") (pos to_dir))
        ∙ ap (λ (rows : List Row). put Text rows (codes "..") (pos to_dir)) ((lists_at lists).rows_here id (without Text (lists.rows id) (codes "..")))

module _ (s : Super) (v : Room) (m : ℕ → Option (List ℕ)) (tree : Tree) (lists : Lists) (ready : IsReady (geometry_of s) v m tree lists) (valid : IsValid s)
    (dir : ℕ) (name : List ℕ) (to_dir : ℕ) (to_name : List ℕ) (id : ℕ) (n : Node) (move : IsMove tree dir name to_dir to_name id n) (kind : Kind) (kind_is : kind ≡ n.kind)
    (inode : Option ℕ) (number : IsNumberAt Text lists.names (codes "name") inode) where
  abbrev mid : Lists
  mid = rows_moved lists dir name to_dir to_name id

  abbrev pub begun : Lists
  begun = seat_lists lists dir name to_dir to_name id kind

  abbrev later : Node
  later = moved_node to_dir to_name (pos 0) n

  abbrev pub left : List (List ℕ × ℕ)
  left = left_of tree lists id n later ready.agrees ready.plain move.node_there (codes "name")

  abbrev pub pairs : List (List ℕ × ℕ)
  pairs = pairs_of tree lists id n later ready.agrees ready.plain move.node_there (codes "name")

  was : (k : KeyKind) → key_in tree.root (codes "name") k id n ≡ Some name
  was k = name_key tree.root k id n move.apart ∙ ap Some move.named

  now : (k : KeyKind) → key_in tree.root (codes "name") k id later ≡ Some to_name
  now k = name_key tree.root k id later move.apart

  pub relisting : IsRelisting begun (codes "name") inode Text name to_name id left pairs
  relisting = relists tree lists id n later ready.agrees ready.plain move.node_there (codes "name") Text inode name to_name (λ b. b.by_name) was now
      begun (same_names mid to_dir id kind) (same_kinds mid to_dir id kind (codes "name")) (same_pairs mid to_dir id kind (codes "name")) number

  abbrev pub last : Lists
  last = with_pairs (with_pairs begun (codes "name") left) (codes "name") pairs

  own : n.kind ≡ Dir → DiffersAt Text (lists.rows id) (last.rows id) (codes "..") (Some (pos to_dir))
  own isdir =
      let e : is_dir kind ≡ true = ap is_dir (kind_is ∙ isdir) in
      let d = subst (λ (rows : List Row). DiffersAt Text rows ((rows_moved mid id (codes "..") id (codes "..") to_dir).rows id) (codes "..") (Some (pos to_dir)))
      (own_rows s v m tree lists ready valid dir name to_dir to_name id n move) (dots_differ mid to_dir id) in
      subst (λ (b : Bool). DiffersAt Text (lists.rows id) ((cond b (rows_moved mid id (codes "..") id (codes "..") to_dir) mid).rows id) (codes "..") (Some (pos to_dir))) (sym e) d

  module _ (stamp : ℤ) where
    abbrev after : Node
    after = moved_node to_dir to_name stamp n

    -- the pairs are moved by the new key, or the key is the same and so are they
    abbrev Is : List ℕ → List (List ℕ × ℕ) → Type 0
    Is index ps = (ps ≡ relisted (lists.kinds index) id (key_in tree.root index (lists.kinds index) id after) (lists.pairs index))
        ⊎ ((key_in tree.root index (lists.kinds index) id after ≡ key_in tree.root index (lists.kinds index) id n) × (ps ≡ lists.pairs index))

    named_pairs : (value : ℤ) → assoc Text lists.names (codes "name") ≡ Some value → Is (codes "name") pairs
    named_pairs value row = inl (
        pairs_now tree lists id n later ready.agrees ready.plain move.node_there (codes "name") value row name to_name (was (lists.kinds (codes "name"))) (now (lists.kinds (codes "name")))
        ∙ ap (λ (key : Option (List ℕ)). relisted (lists.kinds (codes "name")) id key (lists.pairs (codes "name"))) (now (lists.kinds (codes "name")) ∙ sym (name_key tree.root (lists.kinds (codes "name")) id after move.apart)))

    each : (index : List ℕ) (value : ℤ) → assoc Text lists.names index ≡ Some value → Is index (last.pairs index)
    each index value row = by_test (bytes_eq index (codes "name")) refl
      where
        by_test : (t : Bool) → bytes_eq index (codes "name") ≡ t → Is index (cond t pairs (cond t left (begun.pairs index)))
        by_test true e =
            let same : index ≡ codes "name" = (bytes_eq-Decides index (codes "name")).0 e in
            subst (λ (i : List ℕ). Is i pairs) (sym same) (named_pairs value (ap (assoc Text lists.names) (sym same) ∙ row))
        by_test false e = inr (other_key tree.root index (lists.kinds index) id n to_dir to_name stamp e, same_pairs mid to_dir id kind index)

    pub moves : MovesNode tree lists (row_taken lists dir name) last dir to_dir id n after
    moves = record {
      lost = (lists_at lists).rows_here dir (without Text (lists.rows dir) name) ∙ ap (without Text (lists.rows dir)) (sym move.named);
      first = λ k other. (lists_at lists).rows_elsewhere dir k (without Text (lists.rows dir) name) other;
      gained = other_rows mid to_dir id kind to_dir (λ e. move.to_apart (sym e)) ∙ (lists_at (row_taken lists dir name)).rows_here to_dir (put Text ((row_taken lists dir name).rows to_dir) to_name (pos id));
      second = λ k other own_other. other_rows mid to_dir id kind k own_other ∙ (lists_at (row_taken lists dir name)).rows_elsewhere to_dir k (put Text ((row_taken lists dir name).rows to_dir) to_name (pos id)) other;
      own = own;
      names = same_names mid to_dir id kind;
      kinds = λ index. same_kinds mid to_dir id kind index;
      pairs = each;
    }
