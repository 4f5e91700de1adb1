-- The nodes of a tree as entries: what a filter over all of them finds, a look-up by id finds too.
use Rattle.std.proofs.Common.{◌≡◌, ◌≢◌, ◌⊎◌, inl, inr, ℕ, suc, List, [], ◌∷◌, Some, None, Bool, true, false, cond, T, refl, ap, sym, ◌∙◌, subst, arith, length}
use Rattle.std.specs.Prelude.{not, ◌&&◌, ◌==◌, nat_lt}
use Rattle.std.specs.List.{find, filter}
use Rattle.std.specs.Str.{bytes_eq}
use Rattle.std.proofs.lemmas.Slice.Eq.{bytes_eq-Decides}
use Rattle.std.specs.Ordering.{nat_cmp, eq_by_cmp, is_lt}
use Rattle.std.specs.FinMap.{get, entries, entries_sorted, get-entries}
use Rattle.std.specs.FinMap as finite
use Rattle.std.specs.FinMap.Entries.{below_all}
use Rattle.bfs_tree.specs.Trees.{Tree, Node, Nodes, child}
use Rattle.bfs_tree.specs.Refusals.{has_children}

abbrev pub In : {A : Type 0} → A → List A → Type 0
In x [] = ⊥
In x (y ∷ ys) = (x ≡ y) ⊎ In x ys

-- what a search of a filtered list finds is an element that passes
found-in : {A : Type 0} (p q : A → Bool) (es : List A) (e : A) → find p (filter q es) ≡ Some e → In e es × (q e ≡ true)
found-in p q [] e h = cc
found-in p q (x ∷ xs) e h =
    elim (q x) as (λ b. q x ≡ b → find p (cond b (x ∷ filter q xs) (filter q xs)) ≡ Some e → In e (x ∷ xs) × (q e ≡ true)) [
      | true ↦ λ passes h.
          elim (p x) as (λ b. cond b (Some x) (find p (filter q xs)) ≡ Some e → In e (x ∷ xs) × (q e ≡ true)) [
            | true ↦ λ h. let same : e ≡ x = cc in (inl same, ap q same ∙ passes)
            | false ↦ λ h. let later = found-in p q xs e h in (inr later.0, later.1)
          ] h
      | false ↦ λ _ h. let later = found-in p q xs e h in (inr later.0, later.1)
    ] refl h

-- and it is what is sought
found-hits : {A : Type 0} (p q : A → Bool) (es : List A) (e : A) → find p (filter q es) ≡ Some e → p e ≡ true
found-hits p q [] e h = cc
found-hits p q (x ∷ xs) e h =
    elim (q x) as (λ b. find p (cond b (x ∷ filter q xs) (filter q xs)) ≡ Some e → p e ≡ true) [
      | true ↦ λ h.
          elim (p x) as (λ b. p x ≡ b → cond b (Some x) (find p (filter q xs)) ≡ Some e → p e ≡ true) [
            | true ↦ λ hit h. let same : e ≡ x = cc in ap p same ∙ hit
            | false ↦ λ _ h. found-hits p q xs e h
          ] refl h
      | false ↦ λ h. found-hits p q xs e h
    ] h

-- and where it finds none, none that passes has what is sought
none-in : {A : Type 0} (p q : A → Bool) (es : List A) (e : A) → find p (filter q es) ≡ None → In e es → q e ≡ true → p e ≡ true → ⊥
none-in p q [] e h among passes hit = among
none-in p q (x ∷ xs) e h among passes hit =
    elim (q x) as (λ b. q x ≡ b → find p (cond b (x ∷ filter q xs) (filter q xs)) ≡ None → ⊥) [
      | true ↦ λ is h.
          elim (p x) as (λ b. p x ≡ b → cond b (Some x) (find p (filter q xs)) ≡ None → ⊥) [
            | true ↦ λ _ h. cc
            | false ↦ λ no_hit h. elim among as (λ _. ⊥) [ inl same ↦ let this : p e ≡ false = ap p same ∙ no_hit in cc | inr later ↦ none-in p q xs e h later passes hit ]
          ] refl h
      | false ↦ λ fails h. elim among as (λ _. ⊥) [ inl same ↦ let this : q e ≡ false = ap q same ∙ fails in cc | inr later ↦ none-in p q xs e h later passes hit ]
    ] refl h

empty-in : {A : Type 0} (q : A → Bool) (es : List A) (e : A) → nat_lt 0 (length (filter q es)) ≡ false → In e es → q e ≡ true → ⊥
empty-in q [] e h among passes = among
empty-in q (x ∷ xs) e h among passes =
    elim (q x) as (λ b. q x ≡ b → nat_lt 0 (length (cond b (x ∷ filter q xs) (filter q xs))) ≡ false → ⊥) [
      | true ↦ λ _ h. positive (length (filter q xs)) h
      | false ↦ λ fails h. elim among as (λ _. ⊥) [ inl same ↦ let this : q e ≡ false = ap q same ∙ fails in cc | inr later ↦ empty-in q xs e h later passes ]
    ] refl h
  where
    positive : (n : ℕ) → nat_lt 0 (suc n) ≡ false → ⊥
    positive n e = grind (arith, e)

-- ---- entries, in the order of ids

pub head-true : (a b : Bool) → T (a && b) → T a
head-true true b h = tt
head-true false b h = h

pub tail-true : (a b : Bool) → T (a && b) → T b
tail-true true b h = h
tail-true false b h = absurd h

pub below-in : (k : ℕ) (es : List (ℕ × Node)) (e : ℕ × Node) → T (below_all nat_cmp k es) → In e es → T (is_lt (nat_cmp k e.0))
below-in k [] e h among = absurd among
below-in k (x ∷ xs) e h among = elim among as (λ _. T (is_lt (nat_cmp k e.0))) [
  | inl same ↦ subst (λ (y : ℕ × Node). T (is_lt (nat_cmp k y.0))) (sym same) (head-true (is_lt (nat_cmp k x.0)) (below_all nat_cmp k xs) h)
  | inr later ↦ below-in k xs e (tail-true (is_lt (nat_cmp k x.0)) (below_all nat_cmp k xs) h) later
]

pub true-is : (b : Bool) → T b → b ≡ true
true-is true h = refl
true-is false h = absurd h

ties : (q : ℕ) → eq_by_cmp nat_cmp q q ≡ true
ties q = grind arith

above-apart : (k q : ℕ) → is_lt (nat_cmp k q) ≡ true → eq_by_cmp nat_cmp q k ≡ false
above-apart k q e = grind (arith, e)

in-find : (es : List (ℕ × Node)) (e : ℕ × Node) → T (finite.is_sorted nat_cmp es) → In e es → finite.find nat_cmp e.0 es ≡ Some e.1
in-find [] e h among = absurd among
in-find (x ∷ xs) e h among = elim among as (λ _. finite.find nat_cmp e.0 (x ∷ xs) ≡ Some e.1) [
  | inl same ↦
      ap (λ (y : ℕ × Node). cond (eq_by_cmp nat_cmp e.0 y.0) (Some y.1) (finite.find nat_cmp e.0 xs)) (sym same) ∙ ap (λ b. cond b (Some e.1) (finite.find nat_cmp e.0 xs)) (ties e.0)
  | inr later ↦
      ap (λ b. cond b (Some x.1) (finite.find nat_cmp e.0 xs)) (above-apart x.0 e.0 (true-is (is_lt (nat_cmp x.0 e.0)) (below-in x.0 xs e (head-true (below_all nat_cmp x.0 xs) (finite.is_sorted nat_cmp xs) h) later)))
      ∙ in-find xs e (tail-true (below_all nat_cmp x.0 xs) (finite.is_sorted nat_cmp xs) h) later
]

find-in : (es : List (ℕ × Node)) (id : ℕ) (n : Node) → finite.find nat_cmp id es ≡ Some n → In (id, n) es
find-in [] id n h = cc
find-in (x ∷ xs) id n h =
    elim (eq_by_cmp nat_cmp id x.0) as (λ b. eq_by_cmp nat_cmp id x.0 ≡ b → cond b (Some x.1) (finite.find nat_cmp id xs) ≡ Some n → In (id, n) (x ∷ xs)) [
      | true ↦ λ tie h.
          let here : id ≡ x.0 = grind (arith, tie) in
          let same : n ≡ x.1 = cc in
          inl (λ i. (here i, same i))
      | false ↦ λ _ h. inr (find-in xs id n h)
    ] refl h

pub entry-of : (nodes : Nodes) (id : ℕ) (n : Node) → get nodes id ≡ Some n → In (id, n) (entries nodes)
entry-of nodes id n is = find-in (entries nodes) id n (sym (get-entries nodes id) ∙ is)

pub node-of : (nodes : Nodes) (e : ℕ × Node) → In e (entries nodes) → get nodes e.0 ≡ Some e.1
node-of nodes e among = get-entries nodes e.0 ∙ in-find (entries nodes) e (entries_sorted nodes) among

-- ---- children

child-apart : (root d id parent : ℕ) → (not (id == root) && (parent == d)) ≡ true → id ≢ root
child-apart root d id parent e same = grind (arith, e, same)

child-passes : (root d id parent : ℕ) → id ≢ root → parent ≡ d → (not (id == root) && (parent == d)) ≡ true
child-passes root d id parent apart is = grind (arith, apart, is)

-- a child is a node, and not the root
pub child-there : (tree : Tree) (d : ℕ) (name : List ℕ) (e : ℕ × Node) → child tree d name ≡ Some e → (get tree.nodes e.0 ≡ Some e.1) × (e.0 ≢ tree.root)
child-there tree d name e is =
    let met = found-in (λ (e : ℕ × Node). bytes_eq e.1.name name) (λ (e : ℕ × Node). not (e.0 == tree.root) && (e.1.parent == d)) (entries tree.nodes) e is in
    (node-of tree.nodes e met.0, child-apart tree.root d e.0 e.1.parent met.1)

-- it stands in the directory, under the name
pub child-seat : (tree : Tree) (d : ℕ) (name : List ℕ) (e : ℕ × Node) → child tree d name ≡ Some e → (e.1.parent ≡ d) × (e.1.name ≡ name)
child-seat tree d name e is =
    let met = found-in (λ (e : ℕ × Node). bytes_eq e.1.name name) (λ (e : ℕ × Node). not (e.0 == tree.root) && (e.1.parent == d)) (entries tree.nodes) e is in
    let hit = found-hits (λ (e : ℕ × Node). bytes_eq e.1.name name) (λ (e : ℕ × Node). not (e.0 == tree.root) && (e.1.parent == d)) (entries tree.nodes) e is in
    (parent-is tree.root d e.0 e.1.parent met.1, (bytes_eq-Decides e.1.name name).0 hit)
  where
    parent-is : (root d id parent : ℕ) → (not (id == root) && (parent == d)) ≡ true → parent ≡ d
    parent-is root d id parent e = grind (arith, e)

-- where no child has the name, no node but the root stands there under it
pub no-child : (tree : Tree) (d : ℕ) (name : List ℕ) → child tree d name ≡ None → (id : ℕ) (n : Node) → get tree.nodes id ≡ Some n → id ≢ tree.root → n.parent ≡ d → n.name ≡ name → ⊥
no-child tree d name none id n is other up named =
    none-in (λ (e : ℕ × Node). bytes_eq e.1.name name) (λ (e : ℕ × Node). not (e.0 == tree.root) && (e.1.parent == d)) (entries tree.nodes) (id, n) none (entry-of tree.nodes id n is)
    (child-passes tree.root d id n.parent other up) ((bytes_eq-Decides n.name name).1 named)

pub no-children : (tree : Tree) (d : ℕ) → has_children tree.root d (entries tree.nodes) ≡ false → (id : ℕ) (n : Node) → get tree.nodes id ≡ Some n → id ≢ tree.root → n.parent ≢ d
no-children tree d none id n is other up =
    empty-in (λ (e : ℕ × Node). not (e.0 == tree.root) && (e.1.parent == d)) (entries tree.nodes) (id, n) none (entry-of tree.nodes id n is) (child-passes tree.root d id n.parent other up)
