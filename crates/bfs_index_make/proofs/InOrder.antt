-- The pairs of all nodes, put in order, are those that the tree's rule lists.
use Rattle.std.proofs.Common.{◌≡◌, ◌≢◌, ◌⊎◌, inl, inr, ◌∙◌, ℕ, List, [], ◌∷◌, ◌++◌, Bool, true, false, cond, codes, Option, Some, None, refl, sym, ap, subst, arith}
use Rattle.std.specs.Prelude.{◌==◌, ◌||◌}
use Rattle.std.specs.Str.{bytes_eq}
use Rattle.std.proofs.lemmas.Slice.Eq.{bytes_eq-Decides}
use Rattle.std.specs.List.{AllByRecursion, cons_option, fold}
use Rattle.std.specs.List.Sorted.{IsStrictlySortedBy}
use Rattle.std.specs.Option.{option_map, option_and_then}
use Rattle.std.specs.Ordering.{nat_cmp, ordering_then, ordering_reverse}
use Rattle.std.specs.declared.cmp.Ordering.{Ordering}
use Rattle.std.specs.declared.cmp.Ordering.TheVariants.{Less, Equal, Greater}
use Rattle.std.specs.FinMap.{get, nat_cmp-IsAntisymmetric}
use Rattle.bfs_base.specs.Keys.{key_cmp}
use Rattle.bfs_base.specs.declared.kind.KeyKind.{KeyKind}
use Rattle.bfs_base.specs.declared.kind.KeyKind.TheVariants.{Text, I64}
use Rattle.bfs_tree.specs.Listings.{key_at, key_in, listed, pair_cmp}
use Rattle.bfs_tree.specs.Orders.{placed, in_order}
use Rattle.bfs_tree.specs.Refusals.{is_built_in}
use Rattle.bfs_tree.specs.Trees.{Node, Tree}
use Rattle.bfs_tree.proofs.ListMoves.{placed-in, in-placed, placed-sorted, listed-ascends, listed-has, listed-is-unique}
use Rattle.bfs_tree.proofs.Members.{In}
use Rattle.bfs_tree.proofs.Sorting.{pair_cmp_total}
use Rattle.bfs_index.proofs.PairLists.{contains_in, in_contains, in_cases}
use Rattle.bfs_look.specs.Ready.{HasNodeAt}
use Rattle.bfs_node_key.proofs.Cases.{key_by_name}
use Rattle.bfs_shift.proofs.Renewed.{same_test}
use Rattle.bfs_index_make.specs.Gathered.{AreNodes, ids_of, pair_at, pairs_at}
use Rattle.bfs_index_make.specs.Made.{IsNewIndex}

abbrev Pair : Type 0
Pair = List ℕ × ℕ

-- ---- numbers, each once

abbrev Once : List ℕ → Type 0
Once [] = Unit {0}
Once (x ∷ xs) = (In x xs → ⊥) × Once xs

id_in : (ps : List Pair) (p : Pair) → In p ps → In p.1 (ids_of ps)
id_in [] p i = absurd i
id_in (q ∷ qs) p (inl e) = inl (ap (λ (x : Pair). x.1) e)
id_in (q ∷ qs) p (inr i) = inr (id_in qs p i)

of_id : (ps : List Pair) (id : ℕ) → In id (ids_of ps) → (p : Pair) × In p ps × (p.1 ≡ id)
of_id [] id i = absurd i
of_id (q ∷ qs) id (inl e) = (q, inl refl, sym e)
of_id (q ∷ qs) id (inr i) = let later = of_id qs id i in (later.0, inr later.1, later.2)

in_all : {A : Type 0} (P : A → Type 0) (xs : List A) (y : A) → AllByRecursion P xs → In y xs → P y
in_all P [] y h i = absurd i
in_all P (x ∷ xs) y h (inl e) = subst P (sym e) h.0
in_all P (x ∷ xs) y h (inr i) = in_all P xs y h.1 i

not_itself : (kind : KeyKind) (p : Pair) → pair_cmp kind p p ≡ Less → ⊥
not_itself kind p e = let turned : pair_cmp kind p p ≡ Greater = (pair_cmp_total kind).antisymm p p ∙ ap ordering_reverse e in cc

-- pairs that ascend and have one key for each number have each number once
ids_once : (kind : KeyKind) (ps : List Pair) → IsStrictlySortedBy (pair_cmp kind) ps → ((p q : Pair) → In p ps → In q ps → p.1 ≡ q.1 → p ≡ q) → Once (ids_of ps)
unfolding IsStrictlySortedBy
ids_once kind [] s one = tt
ids_once kind (p ∷ ps) s one = (
  λ i.
      let q = of_id ps p.1 i in
      let same : q.0 ≡ p = one q.0 p (inr q.1) (inl refl) q.2 in
      not_itself kind p (subst (λ (x : Pair). pair_cmp kind p x ≡ Less) same (in_all (λ (x : Pair). pair_cmp kind p x ≡ Less) ps q.0 s.0 q.1)),
  ids_once kind ps s.1 (λ a b i j. one a b (inr i) (inr j)),
)

-- ---- pairs, each with a number of its own

abbrev Apart : List Pair → Type 0
Apart [] = Unit {0}
Apart (x ∷ xs) = ((y : Pair) → In y xs → x.1 ≢ y.1) × Apart xs

tied_ids : (kind : KeyKind) (x y : Pair) → pair_cmp kind x y ≡ Equal → x.1 ≡ y.1
tied_ids kind x y e = nat_cmp-IsAntisymmetric x.1 y.1 (second (key_cmp kind x.0 y.0) (nat_cmp x.1 y.1) e)
  where
    second : (r s : Ordering) → ordering_then r s ≡ Equal → s ≡ Equal
    second Less s e = cc
    second Equal s e = e
    second Greater s e = cc

module _ (kind : KeyKind) where
  ordered : (xs acc : List Pair) → Apart xs → ((x y : Pair) → In x xs → In y acc → x.1 ≢ y.1) → IsStrictlySortedBy (pair_cmp kind) acc → IsStrictlySortedBy (pair_cmp kind) (fold (placed (pair_cmp kind)) acc xs)
  ordered [] acc apart between s = s
  ordered (x ∷ xs) acc apart between s =
      ordered xs (placed (pair_cmp kind) acc x) apart.1
      (λ y z i j. by_place y z i (placed-in (pair_cmp kind) (pair_cmp_total kind) acc x z j))
      (placed-sorted (pair_cmp kind) (pair_cmp_total kind) acc x s (λ y j tie. between x y (inl refl) j (tied_ids kind x y tie)))
    where
      by_place : (y z : Pair) → In y xs → (z ≡ x) ⊎ In z acc → y.1 ≢ z.1
      by_place y z i (inl e) tie = apart.0 y i (ap (λ (p : Pair). p.1) (sym e) ∙ sym tie)
      by_place y z i (inr k) tie = between y z (inr i) k tie

  fold_in : (xs acc : List Pair) (z : Pair) → In z (fold (placed (pair_cmp kind)) acc xs) → In z xs ⊎ In z acc
  fold_in [] acc z h = inr h
  fold_in (x ∷ xs) acc z h = by_rest (fold_in xs (placed (pair_cmp kind) acc x) z h)
    where
      by_place : (z ≡ x) ⊎ In z acc → In z (x ∷ xs) ⊎ In z acc
      by_place (inl e) = inl (inl e)
      by_place (inr i) = inr i

      by_rest : In z xs ⊎ In z (placed (pair_cmp kind) acc x) → In z (x ∷ xs) ⊎ In z acc
      by_rest (inl i) = inl (inr i)
      by_rest (inr i) = by_place (placed-in (pair_cmp kind) (pair_cmp_total kind) acc x z i)

  in_fold : (xs acc : List Pair) (z : Pair) → In z xs ⊎ In z acc → In z (fold (placed (pair_cmp kind)) acc xs)
  in_fold [] acc z (inl i) = absurd i
  in_fold [] acc z (inr i) = i
  in_fold (x ∷ xs) acc z (inr i) = in_fold xs (placed (pair_cmp kind) acc x) z (inr (in-placed (pair_cmp kind) (pair_cmp_total kind) acc x z (inr i)))
  in_fold (x ∷ xs) acc z (inl (inr i)) = in_fold xs (placed (pair_cmp kind) acc x) z (inl i)
  in_fold (x ∷ xs) acc z (inl (inl e)) = in_fold xs (placed (pair_cmp kind) acc x) z (inr (in-placed (pair_cmp kind) (pair_cmp_total kind) acc x z (inl e)))

-- ---- the pairs of nodes

module _ (tree : Tree) (name : List ℕ) (kind : KeyKind) where
  in_pair : (id : ℕ) (p : Pair) → In p (pair_at tree name kind id) → (p.1 ≡ id) × (key_at tree name kind id ≡ Some p.0)
  in_pair id p i = by_key (key_at tree name kind id) refl i
    where
      by_key : (o : Option (List ℕ)) → key_at tree name kind id ≡ o → In p (cons_option (option_map (λ (k : List ℕ). (k, id)) o) []) → (p.1 ≡ id) × (key_at tree name kind id ≡ Some p.0)
      by_key None e bad = absurd bad
      by_key (Some key) e (inl same) = (ap (λ (x : Pair). x.1) same, e ∙ ap (λ (x : Pair). Some x.0) (sym same))
      by_key (Some key) e (inr bad) = absurd bad

  pair_in : (id : ℕ) (key : List ℕ) (more : List Pair) → key_at tree name kind id ≡ Some key → In (key, id) (pair_at tree name kind id ++ more)
  pair_in id key more e = subst (λ (o : Option (List ℕ)). In (key, id) (cons_option (option_map (λ (k : List ℕ). (k, id)) o) [] ++ more)) (sym e) (inl refl)

  in_pairs : (ids : List ℕ) (p : Pair) → In p (pairs_at tree name kind ids) → In p.1 ids × (key_at tree name kind p.1 ≡ Some p.0)
  in_pairs [] p i = absurd i
  in_pairs (id ∷ ids) p i = by_part (in_cases (pair_at tree name kind id) (pairs_at tree name kind ids) p i) (in_pairs ids p)
    where
      by_part : In p (pair_at tree name kind id) ⊎ In p (pairs_at tree name kind ids) → (In p (pairs_at tree name kind ids) → In p.1 ids × (key_at tree name kind p.1 ≡ Some p.0)) → In p.1 (id ∷ ids) × (key_at tree name kind p.1 ≡ Some p.0)
      by_part (inl j) rest = let h = in_pair id p j in (inl h.0, ap (key_at tree name kind) h.0 ∙ h.1)
      by_part (inr j) rest = let h = rest j in (inr h.0, h.1)

  behind : (xs ys : List Pair) (p : Pair) → In p ys → In p (xs ++ ys)
  behind [] ys p i = i
  behind (x ∷ xs) ys p i = inr (behind xs ys p i)

  pairs_in_all : (ids : List ℕ) (id : ℕ) (key : List ℕ) → In id ids → key_at tree name kind id ≡ Some key → In (key, id) (pairs_at tree name kind ids)
  pairs_in_all [] id key i e = absurd i
  pairs_in_all (x ∷ xs) id key (inl same) e = subst (λ (n : ℕ). In (key, n) (pairs_at tree name kind (x ∷ xs))) (sym same) (pair_in x key (pairs_at tree name kind xs) (ap (key_at tree name kind) (sym same) ∙ e))
  pairs_in_all (x ∷ xs) id key (inr i) e = behind (pair_at tree name kind x) (pairs_at tree name kind xs) (key, id) (pairs_in_all xs id key i e)

  pairs_apart : (ids : List ℕ) → Once ids → Apart (pairs_at tree name kind ids)
  pairs_apart [] once = tt
  pairs_apart (id ∷ ids) once = by_key (key_at tree name kind id) (pairs_apart ids once.1)
    where
      by_key : (o : Option (List ℕ)) → Apart (pairs_at tree name kind ids) → Apart (cons_option (option_map (λ (k : List ℕ). (k, id)) o) [] ++ pairs_at tree name kind ids)
      by_key None rest = rest
      by_key (Some key) rest = (λ y i same. once.0 (subst (λ (n : ℕ). In n ids) (sym same) (in_pairs ids y i).0), rest)

  nothing : IsStrictlySortedBy (pair_cmp kind) []
  unfolding IsStrictlySortedBy
  nothing = tt

  of_fold : (ps : List Pair) (z : Pair) → In z (in_order (pair_cmp kind) ps) → In z ps
  of_fold ps z h = by_part (fold_in kind ps [] z h)
    where
      by_part : In z ps ⊎ In z [] → In z ps
      by_part (inl i) = i
      by_part (inr bad) = absurd bad

  has_node : (id : ℕ) (key : List ℕ) → key_at tree name kind id ≡ Some key → HasNodeAt tree id
  has_node id key e = by_node (get tree.nodes id) refl e
    where
      by_node : (o : Option Node) → get tree.nodes id ≡ o → option_and_then (key_in tree.root name kind id) o ≡ Some key → HasNodeAt tree id
      by_node None is e = absurd (let bad : None ≡ Some key = e in cc)
      by_node (Some n) is e = (n, is)

  -- where each node is there once
  pub ordered_is : (ids : List ℕ) → Once ids → ((id : ℕ) → HasNodeAt tree id → In id ids) → (all sorted : List Pair) → all ≡ pairs_at tree name kind ids → sorted ≡ in_order (pair_cmp kind) all → sorted ≡ listed tree name kind
  ordered_is ids once each all sorted are is =
      let pairs : List Pair = pairs_at tree name kind ids in
      is ∙ ap (in_order (pair_cmp kind)) are ∙ listed-is-unique tree name kind (in_order (pair_cmp kind) pairs) (ordered kind pairs [] (pairs_apart ids once) (λ x y i j. absurd j) nothing)
      (λ key id. (
        λ h. (in_pairs ids (key, id) (of_fold pairs (key, id) (contains_in (in_order (pair_cmp kind) pairs) (key, id) h))).1,
        λ e. in_contains (in_order (pair_cmp kind) pairs) (key, id) (in_fold kind pairs [] (key, id) (inl (pairs_in_all ids id key (each id (has_node id key e)) e))),
      ))

-- ---- all nodes: the root, and those that the index of names lists

module _ (tree : Tree) where
  abbrev named : List Pair
  named = listed tree (codes "name") Text

  key_of : (p : Pair) → In p named → key_at tree (codes "name") Text p.1 ≡ Some p.0
  key_of p i = (listed-has tree (codes "name") Text p.0 p.1).0 (in_contains named p i)

  one_key : (p q : Pair) → In p named → In q named → p.1 ≡ q.1 → p ≡ q
  one_key p q i j same =
      let both : Some p.0 ≡ Some q.0 = sym (key_of p i) ∙ ap (key_at tree (codes "name") Text) same ∙ key_of q j in
      let keys : p.0 ≡ q.0 = cc in
      λ t. (keys t, same t)

  root_unnamed : (n : Node) → key_in tree.root (codes "name") Text tree.root n ≡ None
  root_unnamed n = ap (λ (t : Bool). cond t None (Some n.name)) (same_test tree.root)

  no_root : In tree.root (ids_of named) → ⊥
  no_root i =
      let p = of_id named tree.root i in
      let key : key_at tree (codes "name") Text tree.root ≡ Some p.0.0 = ap (key_at tree (codes "name") Text) (sym p.2) ∙ key_of p.0 p.1 in
      by_node (get tree.nodes tree.root) p.0.0 key
    where
      by_node : (o : Option Node) (key : List ℕ) → option_and_then (key_in tree.root (codes "name") Text tree.root) o ≡ Some key → ⊥
      by_node None key e = let bad : None ≡ Some key = e in cc
      by_node (Some n) key e = let bad : None ≡ Some key = sym (root_unnamed n) ∙ e in cc

  pub all_once : Once (tree.root ∷ ids_of named)
  all_once = (no_root, ids_once Text named (listed-ascends tree (codes "name") Text) one_key)

  pub all_there : (id : ℕ) → HasNodeAt tree id → In id (tree.root ∷ ids_of named)
  all_there id has = by_test (id == tree.root) refl
    where
      by_test : (t : Bool) → (id == tree.root) ≡ t → In id (tree.root ∷ ids_of named)
      by_test true e = inl (grind (arith, e))
      by_test false e =
          let apart : id ≢ tree.root = λ same. let bad : true ≡ false = sym (subst (λ (r : ℕ). (id == r) ≡ true) same (same_test id)) ∙ e in cc in
          let key : key_at tree (codes "name") Text id ≡ Some has.0.name = ap (λ (o : Option Node). option_and_then (key_in tree.root (codes "name") Text id) o) has.1 ∙ key_by_name tree.root (codes "name") Text id has.0 refl apart in
          inr (id_in named (has.0.name, id) (contains_in named (has.0.name, id) ((listed-has tree (codes "name") Text has.0.name id).1 key)))

  pub named_nodes : AreNodes tree (ids_of named)
  named_nodes = of_pairs named (λ p i. node_of p.1 p.0 (key_of p i))
    where
      node_of : (id : ℕ) (key : List ℕ) → key_at tree (codes "name") Text id ≡ Some key → HasNodeAt tree id
      node_of id key e = by_node (get tree.nodes id) refl e
        where
          by_node : (o : Option Node) → get tree.nodes id ≡ o → option_and_then (key_in tree.root (codes "name") Text id) o ≡ Some key → HasNodeAt tree id
          by_node None is e = absurd (let bad : None ≡ Some key = e in cc)
          by_node (Some n) is e = (n, is)

      of_pairs : (ps : List Pair) → ((p : Pair) → In p ps → HasNodeAt tree p.1) → AreNodes tree (ids_of ps)
      of_pairs [] each = tt
      of_pairs (p ∷ ps) each = (each p (inl refl), of_pairs ps (λ q i. each q (inr i)))

-- an index that isn't there beside the built-in ones isn't one of these
pub not_built_in : (tree : Tree) (name : List ℕ) → IsNewIndex tree name → is_built_in name ≡ false
not_built_in tree name new = all_three (bytes_eq name (codes "name")) (bytes_eq name (codes "size")) (bytes_eq name (codes "last_modified"))
    (λ e. other (codes "name") Text e new.built_in.by_name) (λ e. other (codes "size") I64 e new.built_in.by_size) (λ e. other (codes "last_modified") I64 e new.built_in.by_time)
  where
    other : (known : List ℕ) (kind : KeyKind) → bytes_eq name known ≡ true → get tree.indices known ≡ Some kind → ⊥
    other known kind e there =
        let same : name ≡ known = (bytes_eq-Decides name known).0 e in
        let bad : Some kind ≡ None = sym there ∙ ap (get tree.indices) (sym same) ∙ new.absent in cc

    all_three : (a b c : Bool) → (a ≡ true → ⊥) → (b ≡ true → ⊥) → (c ≡ true → ⊥) → (a || b || c) ≡ false
    all_three true b c f g h = absurd (f refl)
    all_three false true c f g h = absurd (g refl)
    all_three false false true f g h = absurd (h refl)
    all_three false false false f g h = refl

-- what was gathered of the root and then of the others, put in order
pub gathered_is : (tree : Tree) (name : List ℕ) (kind : KeyKind) (root : ℕ) (ids : List ℕ) (none first all sorted : List Pair) → root ≡ tree.root → ids ≡ ids_of (listed tree (codes "name") Text) → none ≡ [] → first ≡ none ++ pair_at tree name kind root
    → all ≡ first ++ pairs_at tree name kind ids → sorted ≡ in_order (pair_cmp kind) all → sorted ≡ listed tree name kind
gathered_is tree name kind root ids none first all sorted at are begun one rest is =
    ordered_is tree name kind (tree.root ∷ ids_of (listed tree (codes "name") Text)) (all_once tree) (all_there tree) all sorted
    (rest ∙ ap (λ (l : List Pair). l ++ pairs_at tree name kind ids) (one ∙ ap (λ (l : List Pair). l ++ pair_at tree name kind root) begun)
    ∙ ap (λ (n : ℕ). pair_at tree name kind n ++ pairs_at tree name kind ids) at
    ∙ ap (λ (l : List ℕ). pair_at tree name kind tree.root ++ pairs_at tree name kind l) are) is
