-- What becomes of the pairs of a tree where the value of one row is written anew, a row is put, or one is taken.
use Rattle.std.proofs.Common.{◌≡◌, ◌≤◌, ◌<◌, ◌⊎◌, inl, inr, ◌+◌, ◌%◌, ◌∙◌, ℕ, ℤ, pos, zero, suc, List, [], ◌∷◌, ◌++◌, length, Bool, true, false, cond, Some, None, ◌==◌, refl, sym, ap, subst, arith}
use Rattle.std.specs.Prelude.{◌↔◌, Ok, Err}
use Rattle.std.specs.List.{Contains}
use Rattle.bfs_base.specs.Lists.{times}
use Rattle.bfs_base.specs.declared.kind.KeyKind.{KeyKind}
use Rattle.bfs_node.specs.Page.{Row, rows_of, row_in, value_of}
use Rattle.bfs_node.specs.Search.{Ascends, IsPlace, key_at}
use Rattle.bfs_pages.specs.Answers.{IsLeafFor}
use Rattle.bfs_pages.specs.Maps.{assoc, put, without}
use Rattle.bfs_pages.specs.Order.{Key, same_keys}
use Rattle.bfs_pages.specs.Shapes.{Shape, tree_rows, leaves_of, leaf_shape, entries_of, entries_in}
use Rattle.bfs_pages.specs.Trees.{HasRows, page_in, state_of}
use Rattle.bfs_pages.specs.Ways.{KeysAscend, rows_in as entry_rows, under, before_way, behind_way}
use Rattle.bfs_pages.specs.Writes.{SamePages}
use Rattle.bfs_pages.proofs.KeyOrder.{same_itself}
use Rattle.bfs_pages.proofs.Laws.{rows-shape, rows-append, rows-back}
use Rattle.bfs_pages.proofs.OfKind.{found-in-leaf}
use Rattle.bfs_pages.proofs.Sorted.{by-index, assoc-found, assoc-missed}
use Rattle.bfs_pages.proofs.Splice.{self}
use Rattle.bfs_pages.proofs.Way.{entries-under}
use Rattle.bfs_tree.proofs.Members.{In}
use Rattle.bfs_values.specs.Laws.{IsPlain, Reaches}
use Rattle.bfs_values.specs.Links.{link_in}
use Rattle.bfs_values.specs.Reached.{IsWholeTree, AreReached, AllMean}
use Rattle.bfs_values.specs.Rows.{rows_in}
use Rattle.bfs_values.specs.Stored.{Stored, SameNumbers, with_number}
use Rattle.bfs_values.specs.Values.{values_in, numbers_in}
use Rattle.bfs_values.specs.declared.link.Link.TheVariants.{Number}
use Rattle.bfs_values.proofs.Reaching.{plain-off, plain-with, row-put, row-taken}
use Rattle.bfs_values.proofs.RowLists.{put-split}
use Rattle.bfs_values.proofs.Rows.{rows_those}
use Rattle.bfs_values.proofs.ValuedRows.{keyed, keyed-append, keyed-most}
use Rattle.bfs_dups_remove.specs.Lessened.{without_number}
use Rattle.bfs_index.specs.Indices.{pairs_in, HasWith, HasWithout}
use Rattle.bfs_index.proofs.PairLists.{contains_in, in_contains, Parts, pairs_by, pairs_same, in_amid, amid_in, in_apart, apart_in, pair_keyed, with_has, has_with, without_has, has_without}
use Rattle.bfs_index.proofs.Rising.{tree_up}

abbrev Pair : Type 0
Pair = Key × ℕ

-- ---- the row of a key in a leaf, and so in the tree

pub row_split : (rows : List Row) (i : ℕ) (key : Key) → i < length rows → key_at rows i ≡ key → (front : List Row) × (back : List Row) × (rows ≡ front ++ ((key, value_of (row_in rows i)) ∷ back))
row_split [] i key h e = absurd (omega (arith, h))
row_split (r ∷ rs) zero key h e = ([], rs, ap (λ (k : Key). (k, r.1) ∷ rs) e)
row_split (r ∷ rs) (suc i) key h e = let s = row_split rs i key (omega (arith, h)) e in (r ∷ s.0, s.1, ap (λ (l : List Row). r ∷ l) s.2)

-- the row of a key in a tree, and in a leaf of it
pub record InLeaf (kind : KeyKind) (b : List ℕ) (t : Shape) (key : Key) (leaf : ℕ) (value : ℤ) : Type 0 where
  pub front : List Row
  pub back : List Row
  pub rows_are : tree_rows t ≡ front ++ ((key, value) ∷ back)
  pub met : 1 ≤ times leaf (leaves_of t)
  pub has : assoc kind (rows_of (page_in b leaf)) key ≡ Some value

joined_three : (fs gs : List Row) (r : Row) (hs bs rows : List Row) → rows ≡ gs ++ (r ∷ hs) → fs ++ (rows ++ bs) ≡ (fs ++ gs) ++ (r ∷ (hs ++ bs))
joined_three [] [] r hs bs rows e = ap (λ (l : List Row). l ++ bs) e
joined_three [] (g ∷ gs) r hs bs rows e = ap (λ (l : List Row). l ++ bs) e ∙ ap (λ (l : List Row). g ∷ l) (joined_three [] gs r hs bs (gs ++ (r ∷ hs)) refl)
joined_three (f ∷ fs) gs r hs bs rows e = ap (λ (l : List Row). f ∷ l) (joined_three fs gs r hs bs rows e)

leaf_among : (kind : KeyKind) (d : ℕ) (t : Shape) (k : Key) (at : ℕ) (rows : List Row) → under kind d t k ≡ leaf_shape at rows → tree_rows t ≡ entry_rows (before_way kind d t k) ++ (rows ++ entry_rows (behind_way kind d t k))
leaf_among kind d t k at rows is =
    rows-shape t ∙ ap entry_rows (entries-under kind d t k ∙ ap (λ (u : Shape). before_way kind d t k ++ (entries_of u ++ behind_way kind d t k)) is)
    ∙ rows-append (before_way kind d t k) (entries_in rows ++ behind_way kind d t k)
    ∙ ap (λ (l : List Row). entry_rows (before_way kind d t k) ++ l) (rows-append (entries_in rows) (behind_way kind d t k) ∙ ap (λ (l : List Row). l ++ entry_rows (behind_way kind d t k)) (rows-back rows))

pub in_leaf : (kind : KeyKind) (b : List ℕ) (d : IsWholeTree kind b) (key : Key) (leaf : ℕ) (page : List ℕ) (i : ℕ) → IsLeafFor kind b d.shape key leaf page → (Ascends kind (rows_of page) → IsPlace kind (rows_of page) key (Ok i))
    → InLeaf kind b d.shape key leaf (value_of (row_in (rows_of page) i))
in_leaf kind b d key leaf page i l place =
    let f = found-in-leaf kind b d.reached d.shape d.free key leaf page d.tree.holds l in
    let at = place (by-index kind (rows_of page) f.0) in
    let s = row_split (rows_of page) i key at.0 at.1 in
    let n : ℕ = (state_of kind b).levels in
    record {
      front = entry_rows (before_way kind n d.shape key) ++ s.0;
      back = s.1 ++ entry_rows (behind_way kind n d.shape key);
      rows_are = leaf_among kind n d.shape key leaf (rows_of page) l.1 ∙ joined_three (entry_rows (before_way kind n d.shape key)) s.0 (key, value_of (row_in (rows_of page) i)) s.1 (entry_rows (behind_way kind n d.shape key)) (rows_of page) s.2;
      met = f.2;
      has = ap (λ (p : List ℕ). assoc kind (rows_of p) key) (sym l.0) ∙ assoc-found kind (rows_of page) key i f.0 at;
    }

-- and where the leaf hasn't the key, the tree hasn't it either
pub off_leaf : (kind : KeyKind) (b : List ℕ) (d : IsWholeTree kind b) (key : Key) (leaf : ℕ) (page : List ℕ) (i : ℕ) → IsLeafFor kind b d.shape key leaf page → (Ascends kind (rows_of page) → IsPlace kind (rows_of page) key (Err i)) → assoc kind (rows_in kind b) key ≡ None
off_leaf kind b d key leaf page i l place =
    let f = found-in-leaf kind b d.reached d.shape d.free key leaf page d.tree.holds l in
    ap (λ (rows : List Row). assoc kind rows key) (sym (rows_those kind b d.reached d.shape d.free d.tree)) ∙ f.1 ∙ assoc-missed kind (rows_of page) key i (place (by-index kind (rows_of page) f.0))

-- ---- trees as stored and whole

pub stored_whole : (kind : KeyKind) (b : List ℕ) (t : Shape) (rows : List Row) → length b % 1024 ≡ 0 → Stored kind b t rows → tree_rows t ≡ rows → IsWholeTree kind b × (rows_in kind b ≡ rows)
stored_whole kind b t rows whole s are =
    let same : rows_in kind b ≡ rows = sym (rows_those kind b s.reached t s.free s.tree) ∙ are in (
      record {
        whole = whole;
        reached = s.reached;
        shape = t;
        free = s.free;
        tree = s.tree;
        values = subst (λ (l : List Row). AreReached b l s.reached) (sym same) s.values;
        mean = subst (AllMean b) (sym same) s.mean;
      },
      same,
    )

pub whole_stored : (kind : KeyKind) (b : List ℕ) (d : IsWholeTree kind b) (rows : List Row) → tree_rows d.shape ≡ rows → Stored kind b d.shape rows
whole_stored kind b d rows e =
    let are : rows_in kind b ≡ rows = sym (rows_those kind b d.reached d.shape d.free d.tree) ∙ e in
    record {
      reached = d.reached;
      free = d.free;
      tree = d.tree;
      values = subst (λ (l : List Row). AreReached b l d.reached) are d.values;
      mean = subst (AllMean b) are d.mean;
    }

-- a tree with other rows, whose values reach the same pages
tree_with : (kind : KeyKind) (c reached : List ℕ) (rows : List Row) → length c % 1024 ≡ 0 → (h : HasRows kind c reached rows) → Reaches c rows reached → IsWholeTree kind c × (rows_in kind c ≡ rows)
tree_with kind c reached rows whole h r = stored_whole kind c h.0 rows whole (record { reached = reached; free = h.1; tree = h.2; values = r.values; mean = r.mean }) h.3

reaches : (kind : KeyKind) (b : List ℕ) (d : IsWholeTree kind b) → Reaches b (rows_in kind b) d.reached
reaches kind b d = record { whole = d.whole; values = d.values; mean = d.mean }

-- ---- the numbers of rows that stay

same_front : (b c : List ℕ) (front back : List Row) → SameNumbers b c (front ++ back) → SameNumbers b c front
same_front b c [] back s = tt
same_front b c (r ∷ rs) back s = (s.0, same_front b c rs back s.1)

same_back : (b c : List ℕ) (front back : List Row) → SameNumbers b c (front ++ back) → SameNumbers b c back
same_back b c [] back s = s
same_back b c (r ∷ rs) back s = same_back b c rs back s.1

pub same_self : (b : List ℕ) (rows : List Row) → SameNumbers b b rows
same_self b [] = tt
same_self b (r ∷ rs) = (refl, same_self b rs)

pub same_twice : (a b c : List ℕ) (rows : List Row) → SameNumbers a b rows → SameNumbers b c rows → SameNumbers a c rows
same_twice a b c [] one two = tt
same_twice a b c (r ∷ rs) one two = (two.0 ∙ one.0, same_twice a b c rs one.1 two.1)

pub same_but : (a b : List ℕ) (front : List Row) (r : Row) (back : List Row) → SameNumbers a b (front ++ (r ∷ back)) → SameNumbers a b (front ++ back) × (values_in b r.1 ≡ values_in a r.1)
same_but a b [] r back all = (all.1, all.0)
same_but a b (x ∷ xs) r back all = let rest = same_but a b xs r back all.1 in ((all.0, rest.0), rest.1)

-- ---- pairs with a key's numbers between others

record Around (pairs fs : List Pair) (key : Key) (ns : List ℕ) (bs : List Pair) : Type 0 where
  to : (k : Key) (n : ℕ) → In {A = Key × ℕ} (k, n) pairs → Parts fs key ns bs k n
  from : (k : Key) (n : ℕ) → Parts fs key ns bs k n → In {A = Key × ℕ} (k, n) pairs

around_amid : (b c : List ℕ) (front : List Row) (key : Key) (v : ℤ) (back : List Row) → SameNumbers b c (front ++ back) → Around (pairs_by c (front ++ ((key, v) ∷ back))) (pairs_by b front) key (values_in c v) (pairs_by b back)
around_amid b c front key v back same =
    let f = pairs_same b c front (same_front b c front back same) in
    let g = pairs_same b c back (same_back b c front back same) in
    record {
      to = λ k n h. subst (λ (x : List Pair × List Pair). Parts x.0 key (values_in c v) x.1 k n) (λ i. (f i, g i)) (in_amid c front key v back k n h);
      from = λ k n h. amid_in c front key v back k n (subst (λ (x : List Pair × List Pair). Parts x.0 key (values_in c v) x.1 k n) (λ i. (sym f i, sym g i)) h);
    }

apart_parts : (fs bs : List Pair) (key k : Key) (n : ℕ) → In {A = Key × ℕ} (k, n) fs ⊎ In {A = Key × ℕ} (k, n) bs → Parts fs key [] bs k n
apart_parts fs bs key k n (inl i) = inl i
apart_parts fs bs key k n (inr i) = inr (inr i)

parts_apart : (fs bs : List Pair) (key k : Key) (n : ℕ) → Parts fs key [] bs k n → In {A = Key × ℕ} (k, n) fs ⊎ In {A = Key × ℕ} (k, n) bs
parts_apart fs bs key k n (inl i) = inl i
parts_apart fs bs key k n (inr (inl i)) = let none = i.1 in absurd (omega (arith, none))
parts_apart fs bs key k n (inr (inr i)) = inr i

around_apart : (b c : List ℕ) (front back : List Row) (key : Key) → SameNumbers b c (front ++ back) → Around (pairs_by c (front ++ back)) (pairs_by b front) key [] (pairs_by b back)
around_apart b c front back key same =
    let f = pairs_same b c front (same_front b c front back same) in
    let g = pairs_same b c back (same_back b c front back same) in
    record {
      to = λ k n h. subst (λ (x : List Pair × List Pair). Parts x.0 key [] x.1 k n) (λ i. (f i, g i)) (apart_parts (pairs_by c front) (pairs_by c back) key k n (in_apart c front back k n h));
      from = λ k n h. apart_in c front back k n (parts_apart (pairs_by c front) (pairs_by c back) key k n (subst (λ (x : List Pair × List Pair). Parts x.0 key [] x.1 k n) (λ i. (sym f i, sym g i)) h));
    }

-- one pair more
module _ (fs bs : List Pair) (key : Key) (id : ℕ) (ns ms : List ℕ) (is : (n : ℕ) → 1 ≤ times n ms → (1 ≤ times n ns) ⊎ (n ≡ id)) (of : (n : ℕ) → (1 ≤ times n ns) ⊎ (n ≡ id) → 1 ≤ times n ms) where
  parts_more : (k : Key) (n : ℕ) → Parts fs key ms bs k n → Parts fs key ns bs k n ⊎ ((k ≡ key) × (n ≡ id))
  parts_more k n (inl i) = inl (inl i)
  parts_more k n (inr (inl i)) = by_cases (is n i.1)
    where
      by_cases : (1 ≤ times n ns) ⊎ (n ≡ id) → Parts fs key ns bs k n ⊎ ((k ≡ key) × (n ≡ id))
      by_cases (inl j) = inl (inr (inl (i.0, j)))
      by_cases (inr j) = inr (i.0, j)
  parts_more k n (inr (inr i)) = inl (inr (inr i))

  more_parts : (k : Key) (n : ℕ) → Parts fs key ns bs k n ⊎ ((k ≡ key) × (n ≡ id)) → Parts fs key ms bs k n
  more_parts k n (inl (inl i)) = inl i
  more_parts k n (inl (inr (inl i))) = inr (inl (i.0, of n (inl i.1)))
  more_parts k n (inl (inr (inr i))) = inr (inr i)
  more_parts k n (inr i) = inr (inl (i.0, of n (inr i.1)))

  pairs_more : (was now : List Pair) → Around was fs key ns bs → Around now fs key ms bs → (k : Key) (n : ℕ) → Contains now (k, n) ↔ (Contains was (k, n) ⊎ ((k ≡ key) × (n ≡ id)))
  pairs_more was now old new k n = (λ h. old_of (parts_more k n (new.to k n (contains_in now (k, n) h))), λ h. in_contains now (k, n) (new.from k n (more_parts k n (of_old h))))
    where
      old_of : Parts fs key ns bs k n ⊎ ((k ≡ key) × (n ≡ id)) → Contains was (k, n) ⊎ ((k ≡ key) × (n ≡ id))
      old_of (inl i) = inl (in_contains was (k, n) (old.from k n i))
      old_of (inr i) = inr i

      of_old : Contains was (k, n) ⊎ ((k ≡ key) × (n ≡ id)) → Parts fs key ns bs k n ⊎ ((k ≡ key) × (n ≡ id))
      of_old (inl i) = inl (old.to k n (contains_in was (k, n) i))
      of_old (inr i) = inr i

-- one pair less, where no other pair has the key
module _ (fs bs : List Pair) (key : Key) (id : ℕ) (ns ms : List ℕ) (is : (n : ℕ) → 1 ≤ times n ms → (1 ≤ times n ns) × (n ≡ id → ⊥)) (of : (n : ℕ) → 1 ≤ times n ns → (n ≡ id → ⊥) → 1 ≤ times n ms) (left : (n : ℕ) → In {A = Key × ℕ} (key, n) fs → ⊥) (right : (n : ℕ) → In {A = Key × ℕ} (key, n) bs → ⊥) where
  parts_less : (k : Key) (n : ℕ) → Parts fs key ms bs k n → Parts fs key ns bs k n × ((k ≡ key) × (n ≡ id) → ⊥)
  parts_less k n (inl i) = (inl i, λ e. left n (subst (λ (z : Key). In {A = Key × ℕ} (z, n) fs) e.0 i))
  parts_less k n (inr (inl i)) = let j = is n i.1 in (inr (inl (i.0, j.0)), λ e. j.1 e.1)
  parts_less k n (inr (inr i)) = (inr (inr i), λ e. right n (subst (λ (z : Key). In {A = Key × ℕ} (z, n) bs) e.0 i))

  less_parts : (k : Key) (n : ℕ) → Parts fs key ns bs k n → ((k ≡ key) × (n ≡ id) → ⊥) → Parts fs key ms bs k n
  less_parts k n (inl i) other = inl i
  less_parts k n (inr (inl i)) other = inr (inl (i.0, of n i.1 (λ e. other (i.0, e))))
  less_parts k n (inr (inr i)) other = inr (inr i)

  pairs_less : (was now : List Pair) → Around was fs key ns bs → Around now fs key ms bs → (k : Key) (n : ℕ) → Contains now (k, n) ↔ (Contains was (k, n) × ((k ≡ key) × (n ≡ id) → ⊥))
  pairs_less was now old new k n = (
    λ h. let i = parts_less k n (new.to k n (contains_in now (k, n) h)) in (in_contains was (k, n) (old.from k n i.0), i.1),
    λ h. in_contains now (k, n) (new.from k n (less_parts k n (old.to k n (contains_in was (k, n) h.0)) h.1)),
  )

-- ---- a key's row is the only one with the key

none_keyed : (kind : KeyKind) (rows : List Row) (k : Key) → assoc kind rows k ≡ None → keyed kind k rows ≡ 0
none_keyed kind [] k e = refl
none_keyed kind (r ∷ rs) k e = by_test (same_keys kind k r.0) e (λ h. none_keyed kind rs k h)
  where
    by_test : (t : Bool) → cond t (Some r.1) (assoc kind rs k) ≡ None → (assoc kind rs k ≡ None → keyed kind k rs ≡ 0) → cond t 1 0 + keyed kind k rs ≡ 0
    by_test true e more = let bad : Some r.1 ≡ None = e in cc
    by_test false e more = let none = more e in omega (arith, none)

alone : (kind : KeyKind) (front : List Row) (key : Key) (v : ℤ) (back : List Row) → KeysAscend kind (front ++ ((key, v) ∷ back)) → (keyed kind key front ≡ 0) × (keyed kind key back ≡ 0)
alone kind front key v back up =
    let most = keyed-most kind key (front ++ ((key, v) ∷ back)) up in
    let all = keyed-append kind key front ((key, v) ∷ back) in
    let one : keyed kind key ((key, v) ∷ back) ≡ 1 + keyed kind key back = ap (λ t. cond t 1 0 + keyed kind key back) (same_itself kind key) in
    (omega (arith, most, all, one), omega (arith, most, all, one))

no_pair : (kind : KeyKind) (b : List ℕ) (rows : List Row) (key : Key) (n : ℕ) → keyed kind key rows ≡ 0 → In {A = Key × ℕ} (key, n) (pairs_by b rows) → ⊥
no_pair kind b rows key n none i = let some = pair_keyed kind b rows key n i in absurd (omega (arith, none, some))

-- the ids of a key are those of its row
own_pair : (kind : KeyKind) (b : List ℕ) (front : List Row) (key : Key) (v : ℤ) (back : List Row) (n : ℕ) → KeysAscend kind (front ++ ((key, v) ∷ back)) → In {A = Key × ℕ} (key, n) (pairs_by b (front ++ ((key, v) ∷ back))) → 1 ≤ times n (values_in b v)
own_pair kind b front key v back n up h = by_cases (in_amid b front key v back key n h)
  where
    by_cases : Parts (pairs_by b front) key (values_in b v) (pairs_by b back) key n → 1 ≤ times n (values_in b v)
    by_cases (inl i) = absurd (no_pair kind b front key n (alone kind front key v back up).0 i)
    by_cases (inr (inl i)) = i.1
    by_cases (inr (inr i)) = absurd (no_pair kind b back key n (alone kind front key v back up).1 i)

-- the key has its value
pub at_key : (kind : KeyKind) (front : List Row) (key : Key) (v : ℤ) (back : List Row) → keyed kind key front ≡ 0 → assoc kind (front ++ ((key, v) ∷ back)) key ≡ Some v
at_key kind [] key v back none = ap (λ t. cond t (Some v) (assoc kind back key)) (same_itself kind key)
at_key kind (r ∷ rs) key v back none = by_test (same_keys kind key r.0) none (λ h. at_key kind rs key v back h)
  where
    by_test : (t : Bool) → cond t 1 0 + keyed kind key rs ≡ 0 → (keyed kind key rs ≡ 0 → assoc kind (rs ++ ((key, v) ∷ back)) key ≡ Some v) → cond t (Some r.1) (assoc kind (rs ++ ((key, v) ∷ back)) key) ≡ Some v
    by_test true none more = absurd (omega (arith, none))
    by_test false none more = more (omega (arith, none))

-- ---- a pair is added

-- where the value of the key's row was written anew
pub written_with : (kind : KeyKind) (b c d : List ℕ) (key : Key) (id : ℕ) (v w : ℤ) (front back : List Row) → IsWholeTree kind b → rows_in kind b ≡ front ++ ((key, v) ∷ back) → IsWholeTree kind d → rows_in kind d ≡ front ++ ((key, w) ∷ back)
    → SameNumbers b c (front ++ back) → values_in c w ≡ with_number id (values_in b v) → SameNumbers c d (front ++ ((key, w) ∷ back)) → (1 ≤ times id (values_in b v) → d ≡ b) → HasWith kind b key id d
written_with kind b c d key id v w front back old before new after same means kept stays =
    let rest = same_but c d front (key, w) back kept in
    let ids : values_in d w ≡ with_number id (values_in b v) = rest.1 ∙ means in
    let was : Around (pairs_in kind b) (pairs_by b front) key (values_in b v) (pairs_by b back) = subst (λ (l : List Row). Around (pairs_by b l) (pairs_by b front) key (values_in b v) (pairs_by b back)) (sym before) (around_amid b b front key v back (same_self b (front ++ back))) in
    let now : Around (pairs_in kind d) (pairs_by b front) key (with_number id (values_in b v)) (pairs_by b back) = subst (λ (x : List Row × List ℕ). Around (pairs_by d x.0) (pairs_by b front) key x.1 (pairs_by b back)) (λ i. (sym after i, ids i)) (around_amid b d front key w back (same_twice b c d (front ++ back) same rest.0)) in
    record {
      tree = new;
      pairs = pairs_more (pairs_by b front) (pairs_by b back) key id (values_in b v) (with_number id (values_in b v)) (λ n h. with_has n id (values_in b v) h) (λ n h. has_with n id (values_in b v) h) (pairs_in kind b) (pairs_in kind d) was now;
      stays = λ h. stays (own_pair kind b front key v back id (subst (λ (l : List Row). KeysAscend kind l) before (tree_up kind b old)) (subst (λ (l : List Row). In {A = Key × ℕ} (key, id) (pairs_by b l)) before (contains_in (pairs_in kind b) (key, id) h)));
    }

equal_ids : (a b : ℕ) → (a == b) ≡ true → b ≡ a
equal_ids a b e = grind (arith, e)

only_id : (n id : ℕ) → 1 ≤ times n (id ∷ []) → n ≡ id
only_id n id h = by_test (id == n) refl h
  where
    by_test : (t : Bool) → (id == n) ≡ t → 1 ≤ cond t 1 0 + 0 → n ≡ id
    by_test true e h = equal_ids id n e
    by_test false e h = absurd (omega (arith, h))

-- where a row of the key was put
pub put_with : (kind : KeyKind) (b c : List ℕ) (key : Key) (id : ℕ) (value : ℤ) → link_in value ≡ Number id → (d : IsWholeTree kind b) → length c % 1024 ≡ 0 → HasRows kind c d.reached (put kind (tree_rows d.shape) key value) → SamePages d.reached b c
    → assoc kind (tree_rows d.shape) key ≡ None → HasWith kind b key id c
put_with kind b c key id value link d whole h same absent =
    let are : tree_rows d.shape ≡ rows_in kind b = rows_those kind b d.reached d.shape d.free d.tree in
    let r = row-put kind b c d.reached (rows_in kind b) key value (reaches kind b d) whole same (id, link) in
    let t = tree_with kind c d.reached (put kind (rows_in kind b) key value) whole (h.0, h.1, h.2, h.3 ∙ ap (λ (l : List Row). put kind l key value) are) r.0 in
    let s = put-split kind (rows_in kind b) key value in
    let ids : values_in c value ≡ id ∷ [] = ap (numbers_in c) link in
    let kept : SameNumbers b c (s.0 ++ s.1) = subst (λ (l : List Row). SameNumbers b c l) s.2 r.1 in
    let was : Around (pairs_in kind b) (pairs_by b s.0) key [] (pairs_by b s.1) = subst (λ (l : List Row). Around (pairs_by b l) (pairs_by b s.0) key [] (pairs_by b s.1)) (sym s.2) (around_apart b b s.0 s.1 key (same_self b (s.0 ++ s.1))) in
    let now : Around (pairs_in kind c) (pairs_by b s.0) key (id ∷ []) (pairs_by b s.1) =
    subst (λ (x : List Row × List ℕ). Around (pairs_by c x.0) (pairs_by b s.0) key x.1 (pairs_by b s.1)) (λ i. (sym (t.1 ∙ s.3) i, ids i)) (around_amid b c s.0 key value s.1 kept) in
    let none : keyed kind key (rows_in kind b) ≡ 0 = none_keyed kind (rows_in kind b) key (ap (λ (l : List Row). assoc kind l key) (sym are) ∙ absent) in
    record {
      tree = t.0;
      pairs = pairs_more (pairs_by b s.0) (pairs_by b s.1) key id [] (id ∷ []) (λ n i. inr (only_id n id i)) (λ n i. of_only n id i) (pairs_in kind b) (pairs_in kind c) was now;
      stays = λ i. absurd (no_pair kind b (rows_in kind b) key id none (contains_in (pairs_in kind b) (key, id) i));
    }
  where
    of_only : (n id : ℕ) → (1 ≤ times n []) ⊎ (n ≡ id) → 1 ≤ times n (id ∷ [])
    of_only n id (inl i) = absurd (omega (arith, i))
    of_only n id (inr e) = subst (λ z. 1 ≤ times z (id ∷ [])) (sym e) (self id [])

-- ---- a pair is taken

pub written_without : (kind : KeyKind) (b c d : List ℕ) (key : Key) (id : ℕ) (v w : ℤ) (front back : List Row) → IsWholeTree kind b → rows_in kind b ≡ front ++ ((key, v) ∷ back) → IsWholeTree kind d → rows_in kind d ≡ front ++ ((key, w) ∷ back)
    → SameNumbers b c (front ++ back) → values_in c w ≡ without_number id (values_in b v) → SameNumbers c d (front ++ ((key, w) ∷ back)) → (times id (values_in b v) ≡ 0 → d ≡ b) → HasWithout kind b key id d
written_without kind b c d key id v w front back old before new after same means kept stays =
    let rest = same_but c d front (key, w) back kept in
    let ids : values_in d w ≡ without_number id (values_in b v) = rest.1 ∙ means in
    let up : KeysAscend kind (front ++ ((key, v) ∷ back)) = subst (λ (l : List Row). KeysAscend kind l) before (tree_up kind b old) in
    let none = alone kind front key v back up in
    let was : Around (pairs_in kind b) (pairs_by b front) key (values_in b v) (pairs_by b back) = subst (λ (l : List Row). Around (pairs_by b l) (pairs_by b front) key (values_in b v) (pairs_by b back)) (sym before) (around_amid b b front key v back (same_self b (front ++ back))) in
    let now : Around (pairs_in kind d) (pairs_by b front) key (without_number id (values_in b v)) (pairs_by b back) = subst (λ (x : List Row × List ℕ). Around (pairs_by d x.0) (pairs_by b front) key x.1 (pairs_by b back)) (λ i. (sym after i, ids i)) (around_amid b d front key w back (same_twice b c d (front ++ back) same rest.0)) in
    record {
      tree = new;
      pairs = pairs_less (pairs_by b front) (pairs_by b back) key id (values_in b v) (without_number id (values_in b v)) (λ n h. without_has n id (values_in b v) h) (λ n h e. has_without n id (values_in b v) h e)
          (λ n i. no_pair kind b front key n none.0 i) (λ n i. no_pair kind b back key n none.1 i) (pairs_in kind b) (pairs_in kind d) was now;
      stays = λ h. stays (not_there (times id (values_in b v)) (λ some. h (in_contains (pairs_in kind b) (key, id) (was.from key id (inr (inl (refl, some)))))));
    }
  where
    not_there : (n : ℕ) → (1 ≤ n → ⊥) → n ≡ 0
    not_there zero h = refl
    not_there (suc n) h = absurd (h (omega arith))

-- where the row of the key was taken
pub dropped_without : (kind : KeyKind) (b c d : List ℕ) (key : Key) (id : ℕ) (v : ℤ) (front back : List Row) → IsWholeTree kind b → rows_in kind b ≡ front ++ ((key, v) ∷ back) → IsWholeTree kind d → rows_in kind d ≡ front ++ back → SameNumbers b c (front ++ back)
    → without_number id (values_in b v) ≡ [] → SameNumbers c d (front ++ back) → (times id (values_in b v) ≡ 0 → d ≡ b) → HasWithout kind b key id d
dropped_without kind b c d key id v front back old before new after same none_left kept stays =
    let up : KeysAscend kind (front ++ ((key, v) ∷ back)) = subst (λ (l : List Row). KeysAscend kind l) before (tree_up kind b old) in
    let none = alone kind front key v back up in
    let was : Around (pairs_in kind b) (pairs_by b front) key (values_in b v) (pairs_by b back) = subst (λ (l : List Row). Around (pairs_by b l) (pairs_by b front) key (values_in b v) (pairs_by b back)) (sym before) (around_amid b b front key v back (same_self b (front ++ back))) in
    let now : Around (pairs_in kind d) (pairs_by b front) key (without_number id (values_in b v)) (pairs_by b back) = subst (λ (x : List Row × List ℕ). Around (pairs_by d x.0) (pairs_by b front) key x.1 (pairs_by b back)) (λ i. (sym after i, sym none_left i)) (around_apart b d front back key (same_twice b c d (front ++ back) same kept)) in
    record {
      tree = new;
      pairs = pairs_less (pairs_by b front) (pairs_by b back) key id (values_in b v) (without_number id (values_in b v)) (λ n h. without_has n id (values_in b v) h) (λ n h e. has_without n id (values_in b v) h e)
          (λ n i. no_pair kind b front key n none.0 i) (λ n i. no_pair kind b back key n none.1 i) (pairs_in kind b) (pairs_in kind d) was now;
      stays = λ h. stays (not_there (times id (values_in b v)) (λ some. h (in_contains (pairs_in kind b) (key, id) (was.from key id (inr (inl (refl, some)))))));
    }
  where
    not_there : (n : ℕ) → (1 ≤ n → ⊥) → n ≡ 0
    not_there zero h = refl
    not_there (suc n) h = absurd (h (omega arith))

-- where the key isn't there, nothing is taken
pub absent_without : (kind : KeyKind) (b : List ℕ) (key : Key) (id : ℕ) → IsWholeTree kind b → assoc kind (rows_in kind b) key ≡ None → HasWithout kind b key id b
absent_without kind b key id d absent =
    let none = none_keyed kind (rows_in kind b) key absent in
    record {
      tree = d;
      pairs = λ k n. (λ h. (h, λ e. no_pair kind b (rows_in kind b) key n none (subst (λ (z : Key). In {A = Key × ℕ} (z, n) (pairs_in kind b)) e.0 (contains_in (pairs_in kind b) (k, n) h))), λ h. h.0);
      stays = λ h. refl;
    }

-- ---- the row of a key goes

keyed_without : (kind : KeyKind) (rows : List Row) (k : Key) → keyed kind k rows ≡ 0 → without kind rows k ≡ rows
keyed_without kind [] k none = refl
keyed_without kind (r ∷ rs) k none = by_test (same_keys kind k r.0) none (λ h. keyed_without kind rs k h)
  where
    by_test : (t : Bool) → cond t 1 0 + keyed kind k rs ≡ 0 → (keyed kind k rs ≡ 0 → without kind rs k ≡ rs) → cond t (without kind rs k) (r ∷ without kind rs k) ≡ r ∷ rs
    by_test true none more = absurd (omega (arith, none))
    by_test false none more = ap (λ (l : List Row). r ∷ l) (more (omega (arith, none)))

without_here : (kind : KeyKind) (front : List Row) (key : Key) (v : ℤ) (back : List Row) → keyed kind key front ≡ 0 → keyed kind key back ≡ 0 → without kind (front ++ ((key, v) ∷ back)) key ≡ front ++ back
without_here kind [] key v back left right = ap (λ t. cond t (without kind back key) ((key, v) ∷ without kind back key)) (same_itself kind key) ∙ keyed_without kind back key right
without_here kind (r ∷ rs) key v back left right = by_test (same_keys kind key r.0) left (λ h. without_here kind rs key v back h right)
  where
    by_test : (t : Bool) → cond t 1 0 + keyed kind key rs ≡ 0 → (keyed kind key rs ≡ 0 → without kind (rs ++ ((key, v) ∷ back)) key ≡ rs ++ back)
        → cond t (without kind (rs ++ ((key, v) ∷ back)) key) (r ∷ without kind (rs ++ ((key, v) ∷ back)) key) ≡ r ∷ (rs ++ back)
    by_test true none more = absurd (omega (arith, none))
    by_test false none more = ap (λ (l : List Row). r ∷ l) (more (omega (arith, none)))

-- a row with a plain value is taken out of a tree
pub row_dropped : (kind : KeyKind) (c e : List ℕ) (key : Key) (v : ℤ) (front back : List Row) → IsPlain v → (d : IsWholeTree kind c) → rows_in kind c ≡ front ++ ((key, v) ∷ back) → length e % 1024 ≡ 0 → HasRows kind e d.reached (without kind (tree_rows d.shape) key) → SamePages d.reached c e
    → IsWholeTree kind e × (rows_in kind e ≡ front ++ back) × SameNumbers c e (front ++ back)
row_dropped kind c e key v front back plain d rows whole h same =
    let are : tree_rows d.shape ≡ front ++ ((key, v) ∷ back) = rows_those kind c d.reached d.shape d.free d.tree ∙ rows in
    let up : KeysAscend kind (front ++ ((key, v) ∷ back)) = subst (λ (l : List Row). KeysAscend kind l) rows (tree_up kind c d) in
    let none = alone kind front key v back up in
    let gone : without kind (front ++ ((key, v) ∷ back)) key ≡ front ++ back = without_here kind front key v back none.0 none.1 in
    let reach : Reaches c (front ++ ((key, v) ∷ back)) d.reached = subst (λ (l : List Row). Reaches c l d.reached) rows (reaches kind c d) in
    let r = row-taken kind c e d.reached (front ++ ((key, v) ∷ back)) key v reach whole same up (at_key kind front key v back none.0) plain in
    let t = tree_with kind e d.reached (front ++ back) whole (h.0, h.1, h.2, h.3 ∙ ap (λ (l : List Row). without kind l key) are ∙ gone) (subst (λ (l : List Row). Reaches e l d.reached) gone r.0) in
    (t.0, t.1, subst (λ (l : List Row). SameNumbers c e l) gone r.1)

-- the row that is to be taken is there
pub row_there : (kind : KeyKind) (c : List ℕ) (key : Key) (v : ℤ) (front back : List Row) (d : IsWholeTree kind c) → rows_in kind c ≡ front ++ ((key, v) ∷ back) → assoc kind (tree_rows d.shape) key ≡ Some v
row_there kind c key v front back d rows =
    let up : KeysAscend kind (front ++ ((key, v) ∷ back)) = subst (λ (l : List Row). KeysAscend kind l) rows (tree_up kind c d) in
    ap (λ (l : List Row). assoc kind l key) (rows_those kind c d.reached d.shape d.free d.tree ∙ rows) ∙ at_key kind front key v back (alone kind front key v back up).0

pub plain_zero : IsPlain (pos 0)
unfolding link_in
plain_zero = (0, refl)

-- a row with a plain value may have any other one
pub stored_plain : (kind : KeyKind) (b : List ℕ) (t : Shape) (front back : List Row) (key : Key) (v : ℤ) → length b % 1024 ≡ 0 → IsPlain v → Stored kind b t (front ++ ((key, pos 0) ∷ back)) → Stored kind b t (front ++ ((key, v) ∷ back))
stored_plain kind b t front back key v whole plain s =
    let h : Reaches b (front ++ ((key, pos 0) ∷ back)) s.reached = record { whole = whole; values = s.values; mean = s.mean } in
    let r = plain-with b front key v back s.reached plain (plain-off b front key (pos 0) back s.reached plain_zero h) in
    record { reached = s.reached; free = s.free; tree = s.tree; values = r.values; mean = r.mean }
