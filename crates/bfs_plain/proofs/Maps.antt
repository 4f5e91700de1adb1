-- The program's maps as the finite maps that they stand for.
use Rattle.std.proofs.Common.{◌≡◌, ℕ, List, [], ◌∷◌, Option, Some, None, Bool, true, false, cond, refl, ap, sym, ◌∙◌, subst, map as each, arith}
use Rattle.std.specs.Option.{option_map, option_copied, option_copied_mut, IsSome, is_some, MatchOption}
use Rattle.std.specs.Map.{lookup, set_value, remove_entry}
use Rattle.std.specs.BTreeMap.{insert_entry}
use Rattle.std.specs.Ordering.{match_ordering}
use Rattle.std.specs.FinMap.Entries.{put, by_order, find-put}
use Rattle.std.specs.declared.cmp.Ordering.{Ordering}
use Rattle.std.specs.Ordering.{nat_cmp, is_eq, eq_by_cmp}
use Rattle.std.specs.FinMap.{get, insert, from_entries, find, IsAntisymmetric, same_map, get-from_entries, get-insert, nat_cmp-IsAntisymmetric, remove, get-remove}
use Rattle.std.specs.List.{AllByRecursion}
use Rattle.std.specs.List.Sorted.{IsStrictlySortedBy}
use Rattle.std.specs.Ordering.{is_lt}
use Rattle.std.specs.declared.cmp.Ordering.TheVariants.{Less, Equal, Greater}
use Rattle.std.specs.FinMap.{is_sorted, entries, from_sorted, entries-from_sorted, get-from_sorted}
use Rattle.std.specs.FinMap.Entries.{below_all}
use lib.Dec.{T}
use Rattle.std.specs.Prelude.{◌&&◌}
use Rattle.std.specs.Cmp.{IsTotalOrder, nat_cmp_total, eq_by_cmp_equiv}
use Rattle.std.proofs.lemmas.Map.{lookup-set_value, lookup-remove_entry}
use Rattle.std.proofs.lemmas.Map.Keys.{IsDistinct-from_sorted}
use Rattle.std.proofs.lemmas.List.{length-map}
use Rattle.std.proofs.Common.{Result, Ok, Err, OnOk, OnErr, length}
use Rattle.std.specs.FinMap.{empty, get-empty, len, len-entries}
use Rattle.std.proofs.Common.{MutBor, Bor}
use Rattle.std.specs.Global.{Vec}
use Rattle.std.specs.Cmp.Lexicographic.{nat_list_cmp_total}
use Rattle.std.specs.FinMap.{slice_cmp-IsAntisymmetric}
use Rattle.bfs_base.specs.Keys.{text_cmp}
use Rattle.bfs_base.specs.declared.kind.KeyKind.{KeyKind}
use Rattle.bfs_plain.specs.declared.node.Attribute as kept_attribute
use Rattle.bfs_plain.specs.declared.node.Node as kept_node
use Rattle.bfs_tree.specs.Trees.{Node, Nodes}
use Rattle.bfs_tree.specs.Changes.{with_node, changed_at}
use Rattle.bfs_plain.specs.Plain.{node_of, node_entry, nodes_of, attribute_of, attribute_entry, attributes_of, index_entry, indices_of}

module _ {K J X Y : Type 0} (g : K → J) (f : X → Y) (R : J → J → Ordering) where
  abbrev pub shown : K × X → J × Y
  shown e = (g e.0, f e.1)

  -- what a look-up finds
  pub find-shown : (q : J) (es : List (K × X)) → find R q (each shown es) ≡ option_map f (lookup (λ k. is_eq (R q (g k))) es)
  find-shown q [] = refl
  find-shown q (e ∷ es) =
      elim (is_eq (R q (g e.0))) as (λ b. cond b (Some (f e.1)) (find R q (each shown es)) ≡ option_map f (cond b (Some e.1) (lookup (λ k. is_eq (R q (g k))) es))) [
        | true ↦ refl
        | false ↦ find-shown q es
      ]

pub get-shown : {K J X Y : Type 0} (g : K → J) (f : X → Y) {R : J → J → Ordering} (o : IsTotalOrder R) (q : J) (es : List (K × X))
    → get (from_entries {R = R} (each (shown g f R) es)) q ≡ option_map f (lookup (λ k. is_eq (R q (g k))) es)
get-shown g f {R = R} o q es = get-from_entries o (each (shown g f R) es) q ∙ find-shown g f R q es

-- the node of an id
pub get-node : (id : ℕ) (es : List (ℕ × kept_node.Node)) → get (nodes_of es) id ≡ option_map node_of (lookup (λ k. is_eq (nat_cmp id k)) es)
get-node id es = get-shown (λ k. k) node_of nat_cmp_total id es

both_true : (a b : Bool) → T a → T b → T (a && b)
both_true true b p q = q
both_true false b p q = p

module _ {K J X Y : Type 0} (g : K → J) (f : X → Y) (R : J → J → Ordering) where
  below-shown : (x : K) (es : List (K × X)) → AllByRecursion (λ y. R (g x) (g y) ≡ Less) (each (λ e. e.0) es) → T (below_all R (g x) (each (shown g f R) es))
  below-shown x [] all = tt
  below-shown x (e ∷ es) all = both_true (is_lt (R (g x) (g e.0))) _ (subst (λ o. T (is_lt o)) (sym all.0) tt) (below-shown x es all.1)

  sorted-shown : (es : List (K × X)) → IsStrictlySortedBy (λ a b. R (g a) (g b)) (each (λ e. e.0) es) → T (is_sorted R (each (shown g f R) es))
  unfolding IsStrictlySortedBy
  sorted-shown [] sorted = tt
  sorted-shown (e ∷ es) sorted = both_true (below_all R (g e.0) (each (shown g f R) es)) _ (below-shown e.0 es sorted.0) (sorted-shown es sorted.1)

  -- the entries of the finite map are those of the program's map
  pub entries-shown : IsTotalOrder R → IsAntisymmetric R → (es : List (K × X)) → IsStrictlySortedBy (λ a b. R (g a) (g b)) (each (λ e. e.0) es)
      → entries (from_entries {R = R} (each (shown g f R) es)) ≡ each (shown g f R) es
  entries-shown o same es sorted =
      let h : T (is_sorted R (each (shown g f R) es)) = sorted-shown es sorted in
      let e : from_entries {R = R} (each (shown g f R) es) ≡ from_sorted (each (shown g f R) es) =
      same_map o same _ _ (λ q. get-from_entries o (each (shown g f R) es) q ∙ sym (get-from_sorted R (each (shown g f R) es) q h)) in
      ap entries e ∙ entries-from_sorted R (each (shown g f R) es) h

pub entries-nodes : (es : List (ℕ × kept_node.Node)) → IsStrictlySortedBy nat_cmp (each (λ e. e.0) es) → entries (nodes_of es) ≡ each node_entry es
entries-nodes es sorted = entries-shown (λ k. k) node_of nat_cmp nat_cmp_total nat_cmp-IsAntisymmetric es sorted

same_id : (a x y : ℕ) → eq_by_cmp nat_cmp a x ≡ true → eq_by_cmp nat_cmp a y ≡ eq_by_cmp nat_cmp x y
same_id a x y e = let same : a ≡ x = grind (arith, e) in ap (λ k. eq_by_cmp nat_cmp k y) same

mapped-cond : {A B : Type 0} (f : A → B) (b : Bool) (x y : Option A) → option_map f (cond b x y) ≡ cond b (option_map f x) (option_map f y)
mapped-cond f true x y = refl
mapped-cond f false x y = refl

-- a node that is written over
pub nodes-set : (id : ℕ) (es : List (ℕ × kept_node.Node)) (n w : kept_node.Node) → lookup (λ k. is_eq (nat_cmp id k)) es ≡ Some n
    → nodes_of (set_value (λ k. is_eq (nat_cmp id k)) es w) ≡ insert (nodes_of es) id (node_of w)
nodes-set id es n w there =
    let some : IsSome (lookup (eq_by_cmp nat_cmp id) es) = ap is_some there in
    same_map nat_cmp_total nat_cmp-IsAntisymmetric _ _ (λ q.
    get-node q (set_value (λ k. is_eq (nat_cmp id k)) es w)
    ∙ ap (option_map node_of) (lookup-set_value (eq_by_cmp_equiv nat_cmp_total) (eq_by_cmp nat_cmp id) (same_id id) q w es some)
    ∙ mapped-cond node_of (eq_by_cmp nat_cmp id q) (Some w) (lookup (eq_by_cmp nat_cmp q) es)
    ∙ ap (λ b. cond b (Some (node_of w)) (option_map node_of (lookup (eq_by_cmp nat_cmp q) es))) ((eq_by_cmp_equiv nat_cmp_total).symm id q)
    ∙ ap (λ o. cond (eq_by_cmp nat_cmp q id) (Some (node_of w)) o) (sym (get-node q es))
    ∙ sym (get-insert nat_cmp_total (nodes_of es) id (node_of w) q))

with-some : (nodes : Nodes) (id : ℕ) (f : Node → Node) (n : Node) → get nodes id ≡ Some n → with_node nodes id f ≡ insert nodes id (f n)
with-some nodes id f n e = ap (λ o. changed_at f o id nodes) e

with-none : (nodes : Nodes) (id : ℕ) (f : Node → Node) → get nodes id ≡ None → with_node nodes id f ≡ nodes
with-none nodes id f e = ap (λ o. changed_at f o id nodes) e

-- a node is changed where it stands
pub node-written : (id : ℕ) (es fs : List (ℕ × kept_node.Node)) (f : Node → Node) (r : Option (MutBor kept_node.Node)) (x : MutBor kept_node.Node) (w : kept_node.Node)
    → r ≡ Some x → option_copied_mut r ≡ lookup (λ k. is_eq (nat_cmp id k)) es → node_of w ≡ f (node_of x.now) → fs ≡ set_value (λ k. is_eq (nat_cmp id k)) es w
    → nodes_of fs ≡ with_node (nodes_of es) id f
node-written id es fs f r x w is found changed set =
    let there : lookup (λ k. is_eq (nat_cmp id k)) es ≡ Some x.now = sym found ∙ ap option_copied_mut is in
    ap nodes_of set ∙ nodes-set id es x.now w there ∙ ap (insert (nodes_of es) id) changed
    ∙ sym (with-some (nodes_of es) id f (node_of x.now) (get-node id es ∙ ap (option_map node_of) there))

-- and where there is none, nothing changes
pub node-missing : (id : ℕ) (es fs : List (ℕ × kept_node.Node)) (f : Node → Node) (r : Option (MutBor kept_node.Node))
    → r ≡ None → option_copied_mut r ≡ lookup (λ k. is_eq (nat_cmp id k)) es → fs ≡ es → nodes_of fs ≡ with_node (nodes_of es) id f
node-missing id es fs f r is found same =
    let gone : lookup (λ k. is_eq (nat_cmp id k)) es ≡ None = sym found ∙ ap option_copied_mut is in
    ap nodes_of same ∙ sym (with-none (nodes_of es) id f (get-node id es ∙ ap (option_map node_of) gone))

-- what a look-up of the program's map says of the node
pub node-seen : (id : ℕ) (es : List (ℕ × kept_node.Node)) (r : Option (Bor kept_node.Node)) → option_copied r ≡ lookup (λ k. is_eq (nat_cmp id k)) es
    → MatchOption r (get (nodes_of es) id ≡ None) (λ n. get (nodes_of es) id ≡ Some (node_of n.now))
node-seen id es None found = get-node id es ∙ ap (option_map node_of) (sym found)
node-seen id es (Some n) found = get-node id es ∙ ap (option_map node_of) (sym found)

pub seen-shown : {K J X Y : Type 0} (g : K → J) (f : X → Y) {R : J → J → Ordering} (o : IsTotalOrder R) (q : J) (es : List (K × X)) (r : Option (Bor X)) → option_copied r ≡ lookup (λ k. is_eq (R q (g k))) es
    → MatchOption r (get (from_entries {R = R} (each (shown g f R) es)) q ≡ None) (λ x. get (from_entries {R = R} (each (shown g f R) es)) q ≡ Some (f x.now))
seen-shown g f o q es None found = get-shown g f o q es ∙ ap (option_map f) (sym found)
seen-shown g f o q es (Some x) found = get-shown g f o q es ∙ ap (option_map f) (sym found)

mapped-same : {A : Type 0} (x : Option A) → option_map (λ a. a) x ≡ x
mapped-same None = refl
mapped-same (Some a) = refl

-- an attribute, and an index, by its name
pub attribute-seen : (name : List ℕ) (es : List (Vec ℕ × kept_attribute.Attribute)) (r : Option (Bor kept_attribute.Attribute)) → option_copied r ≡ lookup (λ k. is_eq (text_cmp name k.items)) es
    → MatchOption r (get (attributes_of es) name ≡ None) (λ a. get (attributes_of es) name ≡ Some (attribute_of a.now))
attribute-seen name es r found = seen-shown (λ (v : Vec ℕ). v.items) attribute_of nat_list_cmp_total name es r found

pub index-seen : (name : List ℕ) (es : List (Vec ℕ × KeyKind)) → get (indices_of es) name ≡ lookup (λ k. is_eq (text_cmp name k.items)) es
index-seen name es = get-shown (λ (v : Vec ℕ). v.items) (λ (k : KeyKind). k) nat_list_cmp_total name es ∙ mapped-same (lookup (λ k. is_eq (text_cmp name k.items)) es)

text_cmp-same : IsAntisymmetric text_cmp
text_cmp-same = slice_cmp-IsAntisymmetric nat_cmp-IsAntisymmetric

pub entries-attributes : (es : List (Vec ℕ × kept_attribute.Attribute)) → IsStrictlySortedBy (λ (a b : Vec ℕ). text_cmp a.items b.items) (each (λ e. e.0) es) → entries (attributes_of es) ≡ each attribute_entry es
entries-attributes es sorted = entries-shown (λ (v : Vec ℕ). v.items) attribute_of text_cmp nat_list_cmp_total text_cmp-same es sorted

pub entries-indices : (es : List (Vec ℕ × KeyKind)) → IsStrictlySortedBy (λ (a b : Vec ℕ). text_cmp a.items b.items) (each (λ e. e.0) es) → entries (indices_of es) ≡ each index_entry es
entries-indices es sorted = entries-shown (λ (v : Vec ℕ). v.items) (λ (k : KeyKind). k) text_cmp nat_list_cmp_total text_cmp-same es sorted

-- a node that is put at an id, and one that is taken from there
pub nodes-put : (id : ℕ) (es fs : List (ℕ × kept_node.Node)) (w : kept_node.Node)
    → ((q : ℕ) → lookup (λ k. is_eq (nat_cmp q k)) fs ≡ cond (is_eq (nat_cmp id q)) (Some w) (lookup (λ k. is_eq (nat_cmp q k)) es))
    → nodes_of fs ≡ insert (nodes_of es) id (node_of w)
nodes-put id es fs w put =
    same_map nat_cmp_total nat_cmp-IsAntisymmetric _ _ (λ q.
    get-node q fs ∙ ap (option_map node_of) (put q) ∙ mapped-cond node_of (eq_by_cmp nat_cmp id q) (Some w) (lookup (eq_by_cmp nat_cmp q) es)
    ∙ ap (λ b. cond b (Some (node_of w)) (option_map node_of (lookup (eq_by_cmp nat_cmp q) es))) ((eq_by_cmp_equiv nat_cmp_total).symm id q)
    ∙ ap (λ o. cond (eq_by_cmp nat_cmp q id) (Some (node_of w)) o) (sym (get-node q es))
    ∙ sym (get-insert nat_cmp_total (nodes_of es) id (node_of w) q))

pub nodes-taken : (id : ℕ) (es fs : List (ℕ × kept_node.Node))
    → ((q : ℕ) → lookup (λ k. is_eq (nat_cmp q k)) fs ≡ cond (is_eq (nat_cmp id q)) None (lookup (λ k. is_eq (nat_cmp q k)) es))
    → nodes_of fs ≡ remove (nodes_of es) id
nodes-taken id es fs taken =
    same_map nat_cmp_total nat_cmp-IsAntisymmetric _ _ (λ q.
    get-node q fs ∙ ap (option_map node_of) (taken q) ∙ mapped-cond node_of (eq_by_cmp nat_cmp id q) None (lookup (eq_by_cmp nat_cmp q) es)
    ∙ ap (λ b. cond b None (option_map node_of (lookup (eq_by_cmp nat_cmp q) es))) ((eq_by_cmp_equiv nat_cmp_total).symm id q)
    ∙ ap (λ o. cond (eq_by_cmp nat_cmp q id) None o) (sym (get-node q es))
    ∙ sym (get-remove nat_cmp_total (nodes_of es) id q))

-- entries that are put into the program's map, and taken from it
module _ {K J X Y : Type 0} (g : K → J) (f : X → Y) (R : J → J → Ordering) where
  put-shown : (es : List (K × X)) (k : K) (v : X) → each (shown g f R) (insert_entry (λ a b. R (g a) (g b)) es k v) ≡ put R (g k) (f v) (each (shown g f R) es)
  put-shown [] k v = refl
  put-shown (e ∷ es) k v =
      elim (R (g k) (g e.0)) as (λ o. each (shown g f R) (match_ordering o ((k, v) ∷ e ∷ es) ((e.0, v) ∷ es) (e ∷ insert_entry (λ a b. R (g a) (g b)) es k v))
      ≡ by_order o ((g k, f v) ∷ each (shown g f R) (e ∷ es)) ((g e.0, f v) ∷ each (shown g f R) es) (shown g f R e ∷ put R (g k) (f v) (each (shown g f R) es))) [
        | Less ↦ refl
        | Equal ↦ refl
        | Greater ↦ ap (λ l. shown g f R e ∷ l) (put-shown es k v)
      ]

  pub insert-shown : IsTotalOrder R → IsAntisymmetric R → (es fs : List (K × X)) (k : K) (v : X) → fs ≡ insert_entry (λ a b. R (g a) (g b)) es k v
      → from_entries {R = R} (each (shown g f R) fs) ≡ insert (from_entries (each (shown g f R) es)) (g k) (f v)
  insert-shown o same es fs k v is =
      ap (λ l. from_entries {R = R} (each (shown g f R) l)) is ∙ ap (from_entries {R = R}) (put-shown es k v)
      ∙ same_map o same _ _ (λ q. get-from_entries o (put R (g k) (f v) (each (shown g f R) es)) q ∙ find-put R o q (g k) (f v) (each (shown g f R) es)
      ∙ ap (λ x. cond (eq_by_cmp R q (g k)) (Some (f v)) x) (sym (get-from_entries o (each (shown g f R) es) q)) ∙ sym (get-insert o (from_entries (each (shown g f R) es)) (g k) (f v) q))

pub attributes-put : (es fs : List (Vec ℕ × kept_attribute.Attribute)) (k : Vec ℕ) (v : kept_attribute.Attribute) → fs ≡ insert_entry (λ (a b : Vec ℕ). text_cmp a.items b.items) es k v
    → attributes_of fs ≡ insert (attributes_of es) k.items (attribute_of v)
attributes-put es fs k v is = insert-shown (λ (v : Vec ℕ). v.items) attribute_of text_cmp nat_list_cmp_total text_cmp-same es fs k v is

pub indices-put : (es fs : List (Vec ℕ × KeyKind)) (k : Vec ℕ) (v : KeyKind) → fs ≡ insert_entry (λ (a b : Vec ℕ). text_cmp a.items b.items) es k v
    → indices_of fs ≡ insert (indices_of es) k.items v
indices-put es fs k v is = insert-shown (λ (v : Vec ℕ). v.items) (λ (k : KeyKind). k) text_cmp nat_list_cmp_total text_cmp-same es fs k v is

module _ {K J X Y : Type 0} (g : K → J) (f : X → Y) (R : J → J → Ordering) where
  find-lookup : (q : J) (es : List (J × Y)) → find R q es ≡ lookup (eq_by_cmp R q) es
  find-lookup q [] = refl
  find-lookup q (e ∷ es) = ap (λ o. cond (eq_by_cmp R q e.0) (Some e.1) o) (find-lookup q es)

  taken-shown : (test : J → Bool) (es : List (K × X)) → each (shown g f R) (remove_entry (λ k. test (g k)) es) ≡ remove_entry test (each (shown g f R) es)
  taken-shown test [] = refl
  taken-shown test (e ∷ es) =
      elim (test (g e.0)) as (λ b. each (shown g f R) (cond b es (e ∷ remove_entry (λ k. test (g k)) es)) ≡ cond b (each (shown g f R) es) (shown g f R e ∷ remove_entry test (each (shown g f R) es))) [
        | true ↦ refl
        | false ↦ ap (λ l. shown g f R e ∷ l) (taken-shown test es)
      ]

  above-keys : (x : J) (es : List (K × X)) → AllByRecursion (λ y. R x (g y) ≡ Less) (each (λ e. e.0) es) → AllByRecursion (λ y. R x y ≡ Less) (each (λ e. e.0) (each (shown g f R) es))
  above-keys x [] all = tt
  above-keys x (e ∷ es) all = (all.0, above-keys x es all.1)

  sorted-keys : (es : List (K × X)) → IsStrictlySortedBy (λ a b. R (g a) (g b)) (each (λ e. e.0) es) → IsStrictlySortedBy R (each (λ e. e.0) (each (shown g f R) es))
  unfolding IsStrictlySortedBy
  sorted-keys [] sorted = tt
  sorted-keys (e ∷ es) sorted = (above-keys (g e.0) es sorted.0, sorted-keys es sorted.1)

  pub remove-shown : IsTotalOrder R → IsAntisymmetric R → (q : J) (es fs : List (K × X)) → IsStrictlySortedBy (λ a b. R (g a) (g b)) (each (λ e. e.0) es) → fs ≡ remove_entry (λ k. is_eq (R q (g k))) es
      → from_entries {R = R} (each (shown g f R) fs) ≡ remove (from_entries (each (shown g f R) es)) q
  remove-shown o same q es fs sorted is =
      ap (λ l. from_entries {R = R} (each (shown g f R) l)) is ∙ ap (from_entries {R = R}) (taken-shown (eq_by_cmp R q) es)
      ∙ same_map o same _ _ (λ p.
      get-from_entries o (remove_entry (eq_by_cmp R q) (each (shown g f R) es)) p ∙ find-lookup p (remove_entry (eq_by_cmp R q) (each (shown g f R) es))
      ∙ lookup-remove_entry (eq_by_cmp_equiv o) (eq_by_cmp R q) (λ x y e. (eq_by_cmp_equiv o).congr q x y e) p (each (shown g f R) es) (IsDistinct-from_sorted R (each (λ e. e.0) (each (shown g f R) es)) (sorted-keys es sorted))
      ∙ ap (λ b. cond b None (lookup (eq_by_cmp R p) (each (shown g f R) es))) ((eq_by_cmp_equiv o).symm q p)
      ∙ ap (λ x. cond (eq_by_cmp R p q) None x) (sym (get-from_entries o (each (shown g f R) es) p ∙ find-lookup p (each (shown g f R) es)))
      ∙ sym (get-remove o (from_entries (each (shown g f R) es)) q p))

  both_none : (b : Bool) → ◌≡◌ {A = Option Y} None (cond b None None)
  both_none true = refl
  both_none false = refl

  pub remove-none : IsTotalOrder R → IsAntisymmetric R → (q : J) (es : List (K × X)) → length es ≡ 0 → from_entries {R = R} (each (shown g f R) es) ≡ remove (from_entries (each (shown g f R) es)) q
  remove-none o same q [] e =
      same_map o same _ _ (λ p. get-empty R p ∙ both_none (eq_by_cmp R p q) ∙ sym (get-remove o empty q p ∙ ap (λ x. cond (eq_by_cmp R p q) None x) (get-empty R p)))
  remove-none o same q (x ∷ es) e = absurd (omega (arith, e))

pub attributes-taken : (name : List ℕ) (es fs : List (Vec ℕ × kept_attribute.Attribute)) → IsStrictlySortedBy (λ (a b : Vec ℕ). text_cmp a.items b.items) (each (λ e. e.0) es) → fs ≡ remove_entry (λ k. is_eq (text_cmp name k.items)) es
    → attributes_of fs ≡ remove (attributes_of es) name
attributes-taken name es fs sorted is = remove-shown (λ (v : Vec ℕ). v.items) attribute_of text_cmp nat_list_cmp_total text_cmp-same name es fs sorted is

pub attributes-none : (name : List ℕ) (es : List (Vec ℕ × kept_attribute.Attribute)) → length es ≡ 0 → attributes_of es ≡ remove (attributes_of es) name
attributes-none name es e = remove-none (λ (v : Vec ℕ). v.items) attribute_of text_cmp nat_list_cmp_total text_cmp-same name es e

pub indices-taken : (name : List ℕ) (es fs : List (Vec ℕ × KeyKind)) → IsStrictlySortedBy (λ (a b : Vec ℕ). text_cmp a.items b.items) (each (λ e. e.0) es) → fs ≡ remove_entry (λ k. is_eq (text_cmp name k.items)) es
    → indices_of fs ≡ remove (indices_of es) name
indices-taken name es fs sorted is = remove-shown (λ (v : Vec ℕ). v.items) (λ (k : KeyKind). k) text_cmp nat_list_cmp_total text_cmp-same name es fs sorted is

pub indices-none : (name : List ℕ) (es : List (Vec ℕ × KeyKind)) → length es ≡ 0 → indices_of es ≡ remove (indices_of es) name
indices-none name es e = remove-none (λ (v : Vec ℕ). v.items) (λ (k : KeyKind). k) text_cmp nat_list_cmp_total text_cmp-same name es e

pub len-indices : (es : List (Vec ℕ × KeyKind)) → IsStrictlySortedBy (λ (a b : Vec ℕ). text_cmp a.items b.items) (each (λ e. e.0) es) → length es ≡ len (indices_of es)
len-indices es sorted = sym (len-entries (indices_of es) ∙ ap length (entries-indices es sorted) ∙ length-map es index_entry)

pub len-nodes : (es : List (ℕ × kept_node.Node)) → IsStrictlySortedBy nat_cmp (each (λ e. e.0) es) → length es ≡ len (nodes_of es)
len-nodes es sorted = sym (len-entries (nodes_of es) ∙ ap length (entries-nodes es sorted) ∙ length-map es node_entry)

insert-same : (nodes : Nodes) (id : ℕ) (n : Node) → get nodes id ≡ Some n → insert nodes id n ≡ nodes
insert-same nodes id n there =
    same_map nat_cmp_total nat_cmp-IsAntisymmetric _ _ (λ q. get-insert nat_cmp_total nodes id n q
    ∙ elim (eq_by_cmp nat_cmp q id) as (λ b. eq_by_cmp nat_cmp q id ≡ b → cond b (Some n) (get nodes q) ≡ get nodes q) [
      | true ↦ λ tie. let same : q ≡ id = grind (arith, tie) in sym there ∙ ap (get nodes) (sym same)
      | false ↦ λ _. refl
    ] refl)

-- a node that is written over with one that shows the same
pub node-kept : (id : ℕ) (es fs : List (ℕ × kept_node.Node)) (r : Option (MutBor kept_node.Node)) (x : MutBor kept_node.Node) (w : kept_node.Node)
    → r ≡ Some x → option_copied_mut r ≡ lookup (λ k. is_eq (nat_cmp id k)) es → node_of w ≡ node_of x.now → fs ≡ set_value (λ k. is_eq (nat_cmp id k)) es w → nodes_of fs ≡ nodes_of es
node-kept id es fs r x w is found same set =
    let there : lookup (λ k. is_eq (nat_cmp id k)) es ≡ Some x.now = sym found ∙ ap option_copied_mut is in
    ap nodes_of set ∙ nodes-set id es x.now w there ∙ ap (insert (nodes_of es) id) same ∙ insert-same (nodes_of es) id (node_of x.now) (get-node id es ∙ ap (option_map node_of) there)

pub on_ok : {A E : Type 0} (P Q : Type 0) (r : Result A E) → (P → Q) → OnOk r P → OnOk r Q
on_ok P Q (Ok x) so h = so h
on_ok P Q (Err e) so h = h

pub on_err : {A E : Type 0} (P Q : Type 0) (r : Result A E) → (P → Q) → OnErr r P → OnErr r Q
on_err P Q (Ok x) so h = h
on_err P Q (Err e) so h = so h
