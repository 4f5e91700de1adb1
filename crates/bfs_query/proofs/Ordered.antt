-- Rows of attributes in the order of their names are those of the map.
use Rattle.std.proofs.Common.{◌≡◌, ◌≤◌, ◌+◌, ℕ, List, [], ◌∷◌, ◌++◌, refl, sym, ap, ◌∙◌, subst, Bool, true, false, cond, Some, None, append_assoc, append-nil, arith, length, map as each}
use Rattle.std.specs.List.{fold}
use Rattle.std.specs.Str.{bytes_eq}
use Rattle.std.specs.declared.cmp.Ordering.{Ordering}
use Rattle.std.specs.declared.cmp.Ordering.TheVariants.{Less, Equal, Greater}
use Rattle.std.specs.Ordering.{is_lt, is_eq}
use Rattle.std.specs.FinMap.Entries.{by_order}
use Rattle.std.specs.Cmp.Lexicographic.{nat_list_cmp_total}
use Rattle.std.specs.FinMap.{find, put, entries, from_entries, from_entries_push, entries-insert, get-entries, get-from_entries, empty, len-entries, len-empty, nat_cmp-IsAntisymmetric, slice_cmp-IsAntisymmetric}
use Rattle.bfs_base.specs.Keys.{text_cmp}
use Rattle.bfs_base.specs.declared.kind.KeyKind.TheVariants.{Text}
use Rattle.bfs_pages.proofs.KeyOrder.{same_itself}
use Rattle.bfs_tree.specs.Orders.{placed, in_order}
use Rattle.bfs_tree.specs.Answers.{rows_of_attributes}
use Rattle.bfs_tree.specs.declared.rows.AttributeRow.{AttributeRow}
use Rattle.bfs_tree.specs.Trees.{Attribute}
use Rattle.bfs_tree.proofs.Sorting.{order-shown}
use Rattle.bfs_sound.specs.Attributes.{Named}
use Rattle.bfs_sound.specs.Nodes.{AreApart}
use Rattle.bfs_attr.proofs.Apart.{entries_named, one_entry}
use Rattle.bfs_attr.proofs.Finds.{same_test}

abbrev by_name : Named → Named → Ordering
by_name a b = text_cmp a.0 b.0

-- how many of one name there are, over two lists
named_append : (q : List ℕ) (xs ys : List Named) → entries_named q (xs ++ ys) ≡ entries_named q xs + entries_named q ys
named_append q [] ys = let none : ◌≡◌ {A = ℕ} (entries_named q []) 0 = refl in omega (arith, none)
named_append q (x ∷ xs) ys =
    let a = one_entry q x (xs ++ ys) in
    let b = one_entry q x xs in
    let rest : entries_named q (xs ++ ys) ≡ entries_named q xs + entries_named q ys = named_append q xs ys in
    omega (arith, a, b, rest)

-- no entry before one of a name has it
none_before : (e : Named) (done : List Named) → entries_named e.0 done ≤ 0 → find text_cmp e.0 done ≡ None
none_before e [] few = refl
none_before e (x ∷ xs) few = by_test (bytes_eq x.0 e.0) refl (none_before e xs)
  where
    by_test : (t : Bool) → bytes_eq x.0 e.0 ≡ t → (entries_named e.0 xs ≤ 0 → find text_cmp e.0 xs ≡ None) → find text_cmp e.0 (x ∷ xs) ≡ None
    by_test true same behind = let one = one_entry e.0 x xs in let c : ◌≡◌ {A = ℕ} (cond (bytes_eq x.0 e.0) 1 0) 1 = ap (λ (t : Bool). cond {A = ℕ} t 1 0) same in absurd (omega (arith, one, c, few))
    by_test false other behind =
        let one = one_entry e.0 x xs in
        let rest : find text_cmp e.0 xs ≡ None = behind (omega (arith, one, few)) in
        ap (λ (t : Bool). cond t (Some x.1) (find text_cmp e.0 xs)) (same_test e.0 x.0 ∙ other) ∙ rest

-- an entry of a new name is placed where the map has it
placed_is_put : (e : Named) (es : List Named) → find text_cmp e.0 es ≡ None → placed by_name es e ≡ put text_cmp e.0 e.1 es
placed_is_put e [] none = refl
placed_is_put e (x ∷ xs) none = by_case (text_cmp e.0 x.0) none (placed_is_put e xs)
  where
    by_case : (o : Ordering) → cond (is_eq o) (Some x.1) (find text_cmp e.0 xs) ≡ None → (find text_cmp e.0 xs ≡ None → placed by_name xs e ≡ put text_cmp e.0 e.1 xs)
        → cond (is_lt o) (e ∷ x ∷ xs) (x ∷ placed by_name xs e) ≡ by_order o ((e.0, e.1) ∷ x ∷ xs) ((x.0, e.1) ∷ xs) (x ∷ put text_cmp e.0 e.1 xs)
    by_case Less n behind = refl
    by_case Equal n behind = absurd (let bad : Some x.1 ≡ None = n in cc)
    by_case Greater n behind = ap (λ (l : List Named). x ∷ l) (behind n)

-- the rest is placed among what is there
placed_all : (done rest : List Named) → AreApart (done ++ rest) → fold (placed by_name) (entries (from_entries {R = text_cmp} done)) rest ≡ entries (from_entries {R = text_cmp} (done ++ rest))
placed_all done [] apart = ap (λ (es : List Named). entries (from_entries {R = text_cmp} es)) (sym (append-nil done))
placed_all done (e ∷ rest) apart =
    let a = named_append e.0 done (e ∷ rest) in
    let most : entries_named e.0 (done ++ e ∷ rest) ≤ 1 = apart e.0 in
    let one = one_entry e.0 e rest in
    let same : ◌≡◌ {A = ℕ} (cond (bytes_eq e.0 e.0) 1 0) 1 = ap (λ (t : Bool). cond {A = ℕ} t 1 0) (sym (same_test e.0 e.0) ∙ same_itself Text e.0) in
    let none : find text_cmp e.0 done ≡ None = none_before e done (omega (arith, a, most, one, same)) in
    let there : find text_cmp e.0 (entries (from_entries {R = text_cmp} done)) ≡ None = sym (get-entries (from_entries {R = text_cmp} done) e.0) ∙ get-from_entries nat_list_cmp_total done e.0 ∙ none in
    ap (λ (es : List Named). fold (placed by_name) es rest)
    (placed_is_put e (entries (from_entries {R = text_cmp} done)) there
    ∙ sym (entries-insert nat_list_cmp_total (from_entries {R = text_cmp} done) e.0 e.1)
    ∙ ap entries (sym (from_entries_push nat_list_cmp_total (slice_cmp-IsAntisymmetric nat_cmp-IsAntisymmetric) done e.0 e.1 none)))
    ∙ placed_all (done ++ e ∷ []) rest (subst AreApart (sym (append_assoc done (e ∷ []) rest)) apart)
    ∙ ap (λ (es : List Named). entries (from_entries {R = text_cmp} es)) (append_assoc done (e ∷ []) rest)

no_length : (l : List Named) → length l ≡ 0 → l ≡ []
no_length [] e = refl
no_length (x ∷ xs) e = absurd (omega (arith, e))

nothing : entries (empty {K = List ℕ} {X = Attribute} {R = text_cmp}) ≡ []
nothing = no_length (entries empty) (sym (len-entries (empty {R = text_cmp})) ∙ len-empty text_cmp Attribute)

abbrev row_of : Named → AttributeRow
row_of e = record { kind = e.1.code; name = e.0 }

pub rows_ordered : (es : List Named) → AreApart es → in_order (λ a b. text_cmp a.name b.name) (rows_of_attributes es) ≡ rows_of_attributes (entries (from_entries {R = text_cmp} es))
rows_ordered es apart =
    sym (order-shown row_of (λ a b. text_cmp a.name b.name) es)
    ∙ ap (each row_of) (ap (λ (l : List Named). fold (placed by_name) l es) (sym nothing) ∙ placed_all [] es apart)
