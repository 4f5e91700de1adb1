-- A row is cut from a leaf, in the bytes of a stream.
use Rattle.std.proofs.Common.{◌≡◌, ◌≢◌, ◌≤◌, ◌<◌, ◌+◌, ◌-◌, ℕ, ℤ, negsuc, zero, suc, List, [], ◌∷◌, ◌++◌, length, remove, Option, Some, Bool, true, false, ◌==◌, refl, ap, sym, ◌∙◌, subst, arith, append_assoc, ◌⊎◌, inl, inr}
use Rattle.bfs_base.specs.Lists.{times}
use Rattle.bfs_base.specs.declared.kind.KeyKind.{KeyKind}
use Rattle.bfs_node.specs.declared.header.Header.{Header}
use Rattle.bfs_node.specs.declared.links.Links.{Links}
use Rattle.bfs_node.specs.Page.{Row, IsPage, HasLayout, HasKeys, IsKeyLength, rows_of, row_in, key_of, value_of, links_of}
use Rattle.bfs_node.proofs.AllRows.{all-remove}
use Rattle.bfs_node.specs.declared.fault.TreeFault.{TreeFault}
use Rattle.bfs_node.specs.declared.fault.TreeFault.TheVariants.{Exists, Absent, Damaged, Pages, NoMemory}
use Rattle.bfs_pages.specs.Answers.{IsUnread, IsOfPages}
use Rattle.bfs_pages.specs.Maps.{without}
use Rattle.bfs_pages.specs.Order.{Key}
use Rattle.bfs_pages.specs.Shapes.{leaf_body, Shape, leaf_shape, place, met_by, leaves_of, tree_rows, IsDeep, a_row, entries_in, entries_of, AscendAll}
use Rattle.bfs_pages.specs.Trees.{state_of, header_in, page_in, place_of, body_in, free_in, neighbours_in, Linked, IsTree, IsTreeHeader}
use Rattle.bfs_pages.specs.Ways.{rows_in, under, instead, before_way, behind_way, leaves_before_way, leaves_behind_way}
use Rattle.bfs_pages.specs.Writes.{PageSet, SamePages}
use Rattle.bfs_pages.proofs.Splice.{times-append}
use Rattle.bfs_pages.proofs.Way.{entries-under, entries-instead, leaves-under, leaves-instead}
use Rattle.bfs_pages.proofs.Laws.{rows-shape, same-links}
use Rattle.bfs_pages.proofs.Exchange.{met-once, exchange-any}
use Rattle.bfs_pages.proofs.Leaves.{entries-append}
use Rattle.bfs_pages.proofs.OfKind.{under-met}
use Rattle.bfs_pages.proofs.Says.{says-leaf}
use Rattle.bfs_remove.specs.Removed.{IsNotTaken, IsWithheld}
use Rattle.bfs_remove.proofs.Dropping.{ascends-without, cut-block}
use Rattle.bfs_remove.specs.Cuts.{IsFilled}
use Rattle.bfs_remove.proofs.Filled.{cut-filled}
use Rattle.bfs_remove.proofs.Mending.{set-here, set-off}

eq_yes : (a b : ℕ) → (a == b) ≡ true → a ≡ b
eq_yes a b e = grind (arith, e)

eq_off : (a b : ℕ) → (a == b) ≡ false → a ≢ b
eq_off a b e q = grind (arith, e, q)

off : (x y : ℕ) → times x (y ∷ []) ≡ 0 → x ≢ y
off x y i = λ e. grind (arith, i, e)

form : {A : Type 0} (a l : List A) (e : A) (r b : List A) → a ++ ((l ++ (e ∷ r)) ++ b) ≡ (a ++ l) ++ ((e ∷ []) ++ (r ++ b))
form a l e r b = simp append_assoc

form2 : {A : Type 0} (a l r b : List A) → a ++ ((l ++ r) ++ b) ≡ (a ++ l) ++ (r ++ b)
form2 a l r b = simp append_assoc

-- rows fall apart at a place
falls : (rows : List Row) (i : ℕ) (k : Key) → i < length rows → key_of (row_in rows i) ≡ k → (l : List Row) × (v : ℤ) × (r : List Row) × (rows ≡ l ++ ((k, v) ∷ r)) × (remove rows i ≡ l ++ r)
falls [] i k h e = absurd (omega (arith, h))
falls (x ∷ xs) zero k h e = ([], x.1, xs, ap (λ z. (z, x.1) ∷ xs) e, refl)
falls (x ∷ xs) (suc i) k h e =
    let f = falls xs i k (omega (arith, h)) e in
    (x ∷ f.0, f.1, f.2, ap (λ l. x ∷ l) f.3, ap (λ l. x ∷ l) f.4)

some-left : (k : Key) (l : List Row) (v : ℤ) (q : List Row) → length (l ++ ((k, v) ∷ q)) ≢ 1 → 1 ≤ length (l ++ q)
some-left k [] v [] n = absurd (n refl)
some-left k [] v (x ∷ q) n = omega arith
some-left k (x ∷ l) v q n = omega arith

-- the only row of a leaf
pub only-row : (rows : List Row) (i : ℕ) (k : Key) → length rows ≡ 1 → i < length rows → key_of (row_in rows i) ≡ k → rows ≡ (k, value_of (row_in rows i)) ∷ []
only-row [] i k l h e = absurd (omega (arith, l))
only-row (x ∷ []) zero k l h e = ap (λ z. (z, x.1) ∷ []) e
only-row (x ∷ []) (suc i) k l h e = absurd (omega (arith, h))
only-row (x ∷ (y ∷ rows)) i k l h e = absurd (omega (arith, l))

pub row-cut : (kind : KeyKind) (b c page new reached : List ℕ) (t : Shape) (fs : List ℕ) (at i : ℕ) (k : Key) → IsTree kind b reached t fs → PageSet b c at new → page ≡ page_in b at → IsPage kind page → (links_of page).overflow ≡ negsuc 0
    → under kind (state_of kind b).levels t k ≡ leaf_shape at (rows_of page) → HasLayout new → rows_of new ≡ remove (rows_of page) i → links_of new ≡ links_of page → i < length (rows_of page) → key_of (row_in (rows_of page) i) ≡ k
    → (t2 : Shape) × (fs2 : List ℕ) × IsTree kind c reached t2 fs2 × (tree_rows t2 ≡ without kind (tree_rows t) k) × SamePages reached b c × ((length (leaves_of t) ≡ 1) ⊎ (length (rows_of page) ≢ 1) → IsFilled t → IsFilled t2)
row-cut kind b c page new reached t fs at i k tree s r p over leaf layout rows links inside key = go (falls (rows_of page) i k inside key)
  where
    met : 1 ≤ times at (met_by t)
    met = under-met kind (state_of kind b).levels t k at (ap place leaf)

    outside : (x : ℕ) → times x (met_by (under kind (state_of kind b).levels t k) ++ reached) ≡ 0 → x ≢ at
    outside x z =
        let m : times x ((at ∷ []) ++ reached) ≡ 0 = subst (λ u. times x (met_by u ++ reached) ≡ 0) leaf z in
        off x at (omega (arith, m, times-append x (at ∷ []) reached))

    good : IsPage kind new
    good = record { layout = layout; keys = subst (λ (z : List Row). HasKeys kind z) (sym rows) (all-remove (λ (z : Row). IsKeyLength kind (length (key_of z))) (rows_of page) i p.keys) }

    ends : (x : ℕ) → neighbours_in (page_in c x) ≡ neighbours_in (page_in b x)
    ends x = by_test (x == at) refl
      where
        by_test : (z : Bool) → (x == at) ≡ z → neighbours_in (page_in c x) ≡ neighbours_in (page_in b x)
        by_test true e =
            ap (λ z. neighbours_in (page_in c z)) (eq_yes x at e) ∙ ap neighbours_in (set-here b c new at s) ∙ ap (λ (z : Links). (place_of z.left, place_of z.right)) links ∙ ap neighbours_in r
            ∙ ap (λ z. neighbours_in (page_in b z)) (sym (eq_yes x at e))
        by_test false e = ap neighbours_in (set-off b c new at s x (eq_off x at e))

    go : ((l : List Row) × (v : ℤ) × (q : List Row) × (rows_of page ≡ l ++ ((k, v) ∷ q)) × (remove (rows_of page) i ≡ l ++ q)) → (t2 : Shape) × (fs2 : List ℕ) × IsTree kind c reached t2 fs2 × (tree_rows t2 ≡ without kind (tree_rows t) k) × SamePages reached b c × ((length (leaves_of t) ≡ 1) ⊎ (length (rows_of page) ≢ 1) → IsFilled t → IsFilled t2)
    go (l, v, q, is, cut) =
        let old : entries_of t ≡ (before_way kind (state_of kind b).levels t k ++ entries_in l) ++ ((a_row k v ∷ []) ++ (entries_in q ++ behind_way kind (state_of kind b).levels t k)) =
        entries-under kind (state_of kind b).levels t k ∙ ap (λ u. before_way kind (state_of kind b).levels t k ++ (entries_of u ++ behind_way kind (state_of kind b).levels t k)) leaf
        ∙ ap (λ z. before_way kind (state_of kind b).levels t k ++ (z ++ behind_way kind (state_of kind b).levels t k)) (ap entries_in is ∙ entries-append l ((k, v) ∷ q))
        ∙ form (before_way kind (state_of kind b).levels t k) (entries_in l) (a_row k v) (entries_in q) (behind_way kind (state_of kind b).levels t k) in
        let less : entries_of (instead kind (state_of kind b).levels t k (leaf_shape at (l ++ q))) ≡ (before_way kind (state_of kind b).levels t k ++ entries_in l) ++ (entries_in q ++ behind_way kind (state_of kind b).levels t k) =
        entries-instead kind (state_of kind b).levels t k (leaf_shape at (l ++ q)) ∙ ap (λ z. before_way kind (state_of kind b).levels t k ++ (z ++ behind_way kind (state_of kind b).levels t k)) (entries-append l q)
        ∙ form2 (before_way kind (state_of kind b).levels t k) (entries_in l) (entries_in q) (behind_way kind (state_of kind b).levels t k) in
        let up : AscendAll kind ((before_way kind (state_of kind b).levels t k ++ entries_in l) ++ ((a_row k v ∷ []) ++ (entries_in q ++ behind_way kind (state_of kind b).levels t k))) = subst (λ z. AscendAll kind z) old tree.holds.ascends in
        let body : body_in kind (page_in c at) ≡ Some (leaf_body (l ++ q)) =
        ap (body_in kind) (set-here b c new at s) ∙ says-leaf kind new good (ap (λ (z : Links). z.overflow) links ∙ over) ∙ ap (λ (z : List Row). Some (leaf_body z)) (rows ∙ cut) in (
          instead kind (state_of kind b).levels t k (leaf_shape at (l ++ q)),
          fs,
          record {
            header = subst (λ (h : Header). IsTreeHeader kind (length c) h) (sym s.header) (subst (λ m. IsTreeHeader kind m (header_in b)) (sym s.size) tree.header);
            holds = record {
              built = exchange-any kind (state_of kind b) (state_of kind c) reached reached t fs (state_of kind b).levels k (leaf_shape at (l ++ q)) tree.holds.built
                  (record {
                    bodies = λ x z. ap (body_in kind) (set-off b c new at s x (outside x z));
                    frees = λ x z. ap free_in (set-off b c new at s x (outside x z));
                    root = ap (λ (h : Header). place_of h.root_pointer) s.header;
                    levels = ap (λ (h : Header). h.levels - 1) s.header;
                    free = ap (λ (h : Header). place_of h.free_pointer) s.header;
                    size = s.size;
                  })
                  (ap place (sym leaf)) body (λ m j. subst (λ u. IsDeep m u) leaf j) (λ x. ap (λ u. times x (met_by u) + times x reached) (sym leaf));
              ascends = subst (λ z. AscendAll kind z) (sym less)
                  (ascends-without kind (before_way kind (state_of kind b).levels t k ++ entries_in l) (a_row k v ∷ []) (entries_in q ++ behind_way kind (state_of kind b).levels t k) up);
              linked = subst (λ z. Linked (state_of kind c).links 0 z 0)
                  (leaves-under kind (state_of kind b).levels t k ∙ ap (λ u. leaves_before_way kind (state_of kind b).levels t k ++ (leaves_of u ++ leaves_behind_way kind (state_of kind b).levels t k)) leaf
                  ∙ sym (leaves-instead kind (state_of kind b).levels t k (leaf_shape at (l ++ q))))
                  (same-links (state_of kind b).links (state_of kind c).links 0 (leaves_of t) 0 (λ x j. ends x) tree.holds.linked);
            };
          },
          rows-shape (instead kind (state_of kind b).levels t k (leaf_shape at (l ++ q))) ∙ ap rows_in less
              ∙ cut-block kind k v (before_way kind (state_of kind b).levels t k ++ entries_in l) (a_row k v ∷ []) (entries_in q ++ behind_way kind (state_of kind b).levels t k) refl up
              ∙ sym (ap (λ z. without kind z k) (rows-shape t ∙ ap rows_in old)),
          λ x j. set-off b c new at s x (not_at x j),
          λ o f. cut-filled kind (state_of kind b).levels t k at (rows_of page) (l ++ q) leaf (left l v q is o) f,
        )
      where
        left : (l : List Row) (v : ℤ) (q : List Row) → rows_of page ≡ l ++ ((k, v) ∷ q) → (length (leaves_of t) ≡ 1) ⊎ (length (rows_of page) ≢ 1) → (length (leaves_of t) ≡ 1) ⊎ (1 ≤ length (l ++ q))
        left l v q is (inl one) = inl one
        left l v q is (inr two) = inr (some-left k l v q (λ e. two (ap length is ∙ e)))

        not_at : (x : ℕ) → 1 ≤ times x reached → x ≢ at
        not_at x j = λ e.
            let m : 1 ≤ times at reached = subst (λ w. 1 ≤ times w reached) e j in
            omega (arith, m, met, met-once (state_of kind b) reached t fs tree.holds.built at)

-- why no row was taken
pub pages-not_taken : {F : Type 0} (kind : KeyKind) (t : Shape) (k : Key) (fault : TreeFault F) → IsOfPages fault → IsNotTaken kind t k fault
pages-not_taken kind t k Exists s = s
pages-not_taken kind t k Absent s = absurd s
pages-not_taken kind t k (Damaged page sort) s = s
pages-not_taken kind t k (Pages fault) s = tt
pages-not_taken kind t k NoMemory s = s

pub unread-withheld : {F : Type 0} (kind : KeyKind) (told now : Option (List ℕ)) (cause before : F → Type 0) (fault : TreeFault F) → ((f : F) → cause f → before f) → IsUnread kind now cause fault → IsWithheld kind told now before fault
unread-withheld kind told now cause before Exists m u = u
unread-withheld kind told now cause before Absent m u = absurd u
unread-withheld kind told now cause before (Damaged page sort) m u = u
unread-withheld kind told now cause before (Pages fault) m u = m fault u
unread-withheld kind told now cause before NoMemory m u = u
