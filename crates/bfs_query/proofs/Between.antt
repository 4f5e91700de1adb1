-- The pairs of an index between two keys, as rows with the names of nodes.
use Rattle.std.proofs.Common.{◌≡◌, ℕ, suc, pos, List, [], ◌∷◌, refl, sym, ap, ◌∙◌, subst, arith, Bool, true, false, cond, Option, Some, None, map as each}
use Rattle.std.specs.Prelude.{◌&&◌, ◌==◌}
use Rattle.std.specs.List.{AllByRecursion, filter, Contains}
use Rattle.std.specs.Option.{option_and_then}
use Rattle.std.specs.FinMap.{get}
use Rattle.bfs_base.specs.declared.kind.KeyKind.{KeyKind}
use Rattle.bfs_base.specs.declared.kind.KeyKind.TheVariants.{Text, I32, U32, I64, U64, F32, F64}
use Rattle.bfs_bytes.specs.Fields.{unsigned_bytes, signed32_bytes, signed64_bytes}
use Rattle.bfs_bytes.proofs.Lengths.{length-unsigned_bytes, length-signed32_bytes, length-signed64_bytes}
use Rattle.bfs_super.specs.Conditions.{IsValid}
use Rattle.bfs_super.specs.Geometry.{geometry_of}
use Rattle.bfs_super.specs.declared.sup.Super.{Super}
use Rattle.bfs_bitmap.specs.Runs.{Room}
use Rattle.bfs_node.specs.Search.{IsSought}
use Rattle.bfs_stream.specs.Sizes.{sizes_of}
use Rattle.bfs_tree.specs.Listings.{kind_of_key, bytes_of_key, is_between, found_row, rows_between, listed, key_at, key_in}
use Rattle.bfs_tree.specs.Refusals.{kind_number, is_kind}
use Rattle.bfs_tree.specs.Trees.{Tree, Node, Nodes}
use Rattle.bfs_tree.specs.declared.rows.FoundRow.{FoundRow}
use Rattle.bfs_tree.specs.declared.rows.Key.{Key}
use Rattle.bfs_tree.specs.declared.rows.Key.TheVariants as keys
use Rattle.bfs_tree.proofs.ListMoves.{listed-has}
use Rattle.bfs_index.specs.Indices.{Place, pairs_at, found_pair, found_between}
use Rattle.bfs_index.specs.declared.found.Pair.{Pair}
use Rattle.bfs_shift.specs.Lists.{Lists}
use Rattle.bfs_look.specs.Ready.{IsReady, HasNodeAt}
use Rattle.bfs_query.specs.Indices.{row_found, AreNodes, IsIndexFound}
use Rattle.bfs_query.specs.declared.kind.IndexAt.{IndexAt}
use Rattle.bfs_query.proofs.Heads.{kind_by}

-- ---- keys of a kind

same_number : (a b : KeyKind) → (kind_number a == kind_number b) ≡ true → a ≡ b
same_number a b e = let same : kind_number a ≡ kind_number b = grind (arith, e) in sym (number_back a) ∙ ap kind_by same ∙ number_back b
  where
    number_back : (k : KeyKind) → kind_by (kind_number k) ≡ k
    number_back Text = refl
    number_back I32 = refl
    number_back U32 = refl
    number_back I64 = refl
    number_back U64 = refl
    number_back F32 = refl
    number_back F64 = refl

both : (a b : Bool) → (a && b) ≡ true → (a ≡ true) × (b ≡ true)
both true b e = (refl, e)
both false b e = absurd (let bad : false ≡ true = e in cc)

pub low_kind : (low high : Key) (kind : KeyKind) → (is_kind (kind_of_key low) kind && is_kind (kind_of_key high) kind) ≡ true → kind_of_key low ≡ kind
low_kind low high kind e = same_number (kind_of_key low) kind (both (is_kind (kind_of_key low) kind) (is_kind (kind_of_key high) kind) e).0

pub high_kind : (low high : Key) (kind : KeyKind) → (is_kind (kind_of_key low) kind && is_kind (kind_of_key high) kind) ≡ true → kind_of_key high ≡ kind
high_kind low high kind e = same_number (kind_of_key high) kind (both (is_kind (kind_of_key low) kind) (is_kind (kind_of_key high) kind) e).1

pub sought : (key : Key) (kind : KeyKind) (bytes : List ℕ) → kind_of_key key ≡ kind → bytes ≡ bytes_of_key key → IsSought kind bytes
sought key kind bytes e is = subst (IsSought kind) (sym is) (by_key key kind e)
  where
    by_key : (key : Key) (kind : KeyKind) → kind_of_key key ≡ kind → IsSought kind (bytes_of_key key)
    by_key (keys.Text b) kind e = subst (λ (k : KeyKind). IsSought k b) e tt
    by_key (keys.I32 z) kind e = subst (λ (k : KeyKind). IsSought k (signed32_bytes z)) e (length-signed32_bytes z)
    by_key (keys.U32 n) kind e = subst (λ (k : KeyKind). IsSought k (unsigned_bytes 4 n)) e (length-unsigned_bytes 4 n)
    by_key (keys.I64 z) kind e = subst (λ (k : KeyKind). IsSought k (signed64_bytes z)) e (length-signed64_bytes z)
    by_key (keys.U64 n) kind e = subst (λ (k : KeyKind). IsSought k (unsigned_bytes 8 n)) e (length-unsigned_bytes 8 n)

-- ---- pairs of nodes

all_filter : {X : Type 0} (P : X → Type 0) (p : X → Bool) (xs : List X) → AllByRecursion P xs → AllByRecursion P (filter p xs)
all_filter P p [] all = tt
all_filter P p (x ∷ xs) all = by_test (p x) (all_filter P p xs all.1)
  where
    by_test : (t : Bool) → AllByRecursion P (filter p xs) → AllByRecursion P (cond t (x ∷ filter p xs) (filter p xs))
    by_test true rest = (all.0, rest)
    by_test false rest = rest

contains_first : {X : Type 0} (x : X) (xs : List X) → Contains (x ∷ xs) x
contains_first x xs = (0, omega arith, refl)

contains_more : {X : Type 0} (y x : X) (xs : List X) → Contains xs y → Contains (x ∷ xs) y
contains_more y x xs c = (suc c.0, (let low = c.1 in omega (arith, low)), c.2)

module _ (tree : Tree) where
  node_of_key : (name : List ℕ) (kind : KeyKind) (id : ℕ) (key : List ℕ) → key_at tree name kind id ≡ Some key → HasNodeAt tree id
  node_of_key name kind id key e = by_node (get tree.nodes id) refl e
    where
      by_node : (o : Option Node) → get tree.nodes id ≡ o → option_and_then (key_in tree.root name kind id) o ≡ Some key → HasNodeAt tree id
      by_node None is e = absurd (let bad : None ≡ Some key = e in cc)
      by_node (Some n) is e = (n, is)

  pairs_nodes : (pairs : List (List ℕ × ℕ)) → ((p : List ℕ × ℕ) → Contains pairs p → HasNodeAt tree p.1) → AllByRecursion (λ (p : List ℕ × ℕ). HasNodeAt tree p.1) pairs
  pairs_nodes [] are = tt
  pairs_nodes (p ∷ ps) are = (are p (contains_first p ps), pairs_nodes ps (λ q c. are q (contains_more q p ps c)))

  found_nodes : (pairs : List (List ℕ × ℕ)) → AllByRecursion (λ (p : List ℕ × ℕ). HasNodeAt tree p.1) pairs → AreNodes tree (each found_pair pairs)
  found_nodes [] all = tt
  found_nodes (p ∷ ps) all = (all.0, found_nodes ps all.1)

  pub between_nodes : (name : List ℕ) (kind : KeyKind) (low high : List ℕ) → AreNodes tree (found_between kind low high (listed tree name kind))
  between_nodes name kind low high =
      found_nodes (filter (is_between kind low high) (listed tree name kind))
      (all_filter (λ (p : List ℕ × ℕ). HasNodeAt tree p.1) (is_between kind low high) (listed tree name kind)
      (pairs_nodes (listed tree name kind) (λ p c. node_of_key name kind p.1 p.0 ((listed-has tree name kind p.0 p.1).0 c))))

-- the rows of pairs are those of the found ones
rows_same : (nodes : Nodes) (kind : KeyKind) (pairs : List (List ℕ × ℕ)) → each (row_found nodes kind) (each found_pair pairs) ≡ each (found_row nodes kind) pairs
rows_same nodes kind [] = refl
rows_same nodes kind (p ∷ ps) = ap (λ (l : List FoundRow). found_row nodes kind p ∷ l) (rows_same nodes kind ps)

module _ (s : Super) (v : Room) (m : ℕ → Option (List ℕ)) (tree : Tree) (lists : Lists) (valid : IsValid s) (ready : IsReady (geometry_of s) v m tree lists) (name : List ℕ) (at : IndexAt) (found : IsIndexFound lists name (Some at)) where
  abbrev place : Place
  place = record { origin = record { id = at.inode; sizes = sizes_of s }; kind = at.kind }

  -- the pairs in the stream of the index are those that the tree lists
  pub pairs_are : pairs_at place m ≡ listed tree name at.kind
  pairs_are =
      ap (λ (k : KeyKind). pairs_at (record { origin = record { id = at.inode; sizes = sizes_of s }; kind = k }) m) found.1
      ∙ sym (ready.work.stocked.indices name (pos at.inode) found.0).written.are
      ∙ (ready.agrees.indices name (pos at.inode) found.0).pairs
      ∙ ap (listed tree name) (sym found.1)

  pub rows_are : (low high : Key) (lows highs : List ℕ) (pairs : List Pair) (rows : List FoundRow) → lows ≡ bytes_of_key low → highs ≡ bytes_of_key high → pairs ≡ found_between at.kind lows highs (pairs_at place m)
      → rows ≡ each (row_found tree.nodes at.kind) pairs → rows ≡ rows_between tree name at.kind low high
  rows_are low high lows highs pairs rows l h p r =
      r ∙ ap (each (row_found tree.nodes at.kind)) (p ∙ ap (found_between at.kind lows highs) pairs_are)
      ∙ rows_same tree.nodes at.kind (filter (is_between at.kind lows highs) (listed tree name at.kind))
      ∙ ap (λ (b : List ℕ). each (found_row tree.nodes at.kind) (filter (is_between at.kind b highs) (listed tree name at.kind))) l
      ∙ ap (λ (b : List ℕ). each (found_row tree.nodes at.kind) (filter (is_between at.kind (bytes_of_key low) b) (listed tree name at.kind))) h

  pub nodes_are : (lows highs : List ℕ) (pairs : List Pair) → pairs ≡ found_between at.kind lows highs (pairs_at place m) → AreNodes tree pairs
  nodes_are lows highs pairs p = subst (AreNodes tree) (sym (p ∙ ap (found_between at.kind lows highs) pairs_are)) (between_nodes tree name at.kind lows highs)
