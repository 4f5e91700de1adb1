-- A row with a plain number is put into a whole tree, or taken out of one.
use Rattle.std.proofs.Common.{◌≡◌, ◌<◌, ◌^◌, ◌%◌, ◌∙◌, ℕ, ℤ, pos, List, length, Some, refl, sym, ap, subst, Option}
use Rattle.bfs_base.specs.declared.kind.KeyKind.{KeyKind}
use Rattle.bfs_node.specs.Page.{Row}
use Rattle.bfs_pages.specs.Maps.{assoc, put, without}
use Rattle.bfs_pages.specs.Order.{Key}
use Rattle.bfs_pages.specs.Shapes.{tree_rows}
use Rattle.bfs_pages.specs.Trees.{HasRows}
use Rattle.bfs_pages.specs.Ways.{KeysAscend}
use Rattle.bfs_pages.specs.Writes.{SamePages}
use Rattle.bfs_values.specs.Laws.{Reaches}
use Rattle.bfs_values.specs.Reached.{IsWholeTree, AreReached, AllMean}
use Rattle.bfs_values.specs.Rows.{rows_in}
use Rattle.bfs_values.proofs.Reaching.{row-put, row-taken}
use Rattle.bfs_values.proofs.RowLists.{rows-up}
use Rattle.bfs_values.proofs.Rows.{rows_those}
use Rattle.bfs_maps.specs.NumberTrees.{HoldsNumber, IsTold}
use Rattle.bfs_maps.specs.RowTrees.{IsRowTree}
use Rattle.bfs_maps.proofs.Plain.{number_plain, told_whole}
use Rattle.std.specs.Prelude.{Result, Ok, Err, MatchResult}
use Rattle.bfs_node.specs.declared.fault.TreeFault.{TreeFault}
use Rattle.bfs_node.specs.declared.fault.TreeFault.TheVariants.{Exists, Absent, Damaged, Pages, NoMemory}
use Rattle.bfs_txn.specs.Pages.{HasLength}
use Rattle.bfs_insert.specs.Puts as insert
use Rattle.bfs_remove.specs.Removed as removed
use Rattle.bfs_maps.specs.Refused.{IsNotPut, IsNotTaken}

reaches : (kind : KeyKind) (b : List ℕ) (d : IsWholeTree kind b) → Reaches b (rows_in kind b) d.reached
reaches kind b d = record { whole = d.whole; values = d.values; mean = d.mean }

-- a tree with other rows, whose values reach the same pages
tree_with : (kind : KeyKind) (c reached : List ℕ) (rows : List Row) → length c % 1024 ≡ 0 → (h : HasRows kind c reached rows) → Reaches c rows reached → IsRowTree kind rows c
tree_with kind c reached rows whole h r =
    let are : rows_in kind c ≡ rows = sym (rows_those kind c reached h.0 h.1 h.2) ∙ h.3 in record {
      tree = record {
        whole = whole;
        reached = reached;
        shape = h.0;
        free = h.1;
        tree = h.2;
        values = subst (λ (l : List Row). AreReached c l reached) (sym are) r.values;
        mean = subst (AllMean c) (sym are) r.mean;
      };
      rows_are = are;
    }

rows_again : (kind : KeyKind) (c reached : List ℕ) (rows other : List Row) → HasRows kind c reached rows → rows ≡ other → HasRows kind c reached other
rows_again kind c reached rows other h e = (h.0, h.1, h.2, h.3 ∙ e)

-- where a number is put under a key
tree_put : (kind : KeyKind) (b c : List ℕ) (key : Key) (n : ℕ) → n < 2 ^ 62 → (t : IsWholeTree kind b) → length c % 1024 ≡ 0 → HasRows kind c t.reached (put kind (tree_rows t.shape) key (pos n)) → SamePages t.reached b c
    → IsRowTree kind (put kind (rows_in kind b) key (pos n)) c
tree_put kind b c key n small t whole h same =
    let are : tree_rows t.shape ≡ rows_in kind b = rows_those kind b t.reached t.shape t.free t.tree in
    tree_with kind c t.reached (put kind (rows_in kind b) key (pos n)) whole
    (rows_again kind c t.reached (put kind (tree_rows t.shape) key (pos n)) (put kind (rows_in kind b) key (pos n)) h (ap (λ (l : List Row). put kind l key (pos n)) are))
    (row-put kind b c t.reached (rows_in kind b) key (pos n) (reaches kind b t) whole same (number_plain (pos n) (n, refl, small))).0

-- where the row of a key is taken
tree_taken : (kind : KeyKind) (b c : List ℕ) (key : Key) (value : ℤ) → (d : HoldsNumber kind key b) → assoc kind (rows_in kind b) key ≡ Some value → length c % 1024 ≡ 0 → HasRows kind c d.tree.reached (without kind (tree_rows d.tree.shape) key) → SamePages d.tree.reached b c
    → IsRowTree kind (without kind (rows_in kind b) key) c
tree_taken kind b c key value d there whole h same =
    let t = d.tree in
    let are : tree_rows t.shape ≡ rows_in kind b = rows_those kind b t.reached t.shape t.free t.tree in
    let up : KeysAscend kind (rows_in kind b) = subst (λ (l : List Row). KeysAscend kind l) are (rows-up kind b t.reached t.shape t.free t.tree) in
    tree_with kind c t.reached (without kind (rows_in kind b) key) whole
    (rows_again kind c t.reached (without kind (tree_rows t.shape) key) (without kind (rows_in kind b) key) h (ap (λ (l : List Row). without kind l key) are))
    (row-taken kind b c t.reached (rows_in kind b) key value (reaches kind b t) whole same up there (number_plain value (d.number value there))).0

-- a fault of the tree of pages, by the rows of its bytes
put_refusal : {F : Type 0} (kind : KeyKind) (b : List ℕ) (key : Key) (d : IsWholeTree kind b) (now : Option (List ℕ)) (fault : TreeFault F) → insert.IsNotPut kind d.shape key now fault → IsNotPut kind (rows_in kind b) key fault
put_refusal kind b key d now Exists is = (is.0, ap (λ (rows : List Row). assoc kind rows key) (sym (rows_those kind b d.reached d.shape d.free d.tree)) ∙ is.1)
put_refusal kind b key d now Absent is = is
put_refusal kind b key d now (Damaged page sort) is = is
put_refusal kind b key d now (Pages fault) is = tt
put_refusal kind b key d now NoMemory is = tt

pub take_refusal : {F : Type 0} (kind : KeyKind) (b : List ℕ) (key : Key) (d : HoldsNumber kind key b) (fault : TreeFault F) → removed.IsNotTaken kind d.tree.shape key fault → IsNotTaken kind (rows_in kind b) key fault
take_refusal kind b key d Exists is = is
take_refusal kind b key d Absent is = ap (λ (rows : List Row). assoc kind rows key) (sym (rows_those kind b d.tree.reached d.tree.shape d.tree.free d.tree.tree)) ∙ is
take_refusal kind b key d (Damaged page sort) is = is
take_refusal kind b key d (Pages fault) is = tt
take_refusal kind b key d NoMemory is = is

pub insert_result : {F : Type 0} (kind : KeyKind) (b : List ℕ) (key : Key) (n : ℕ) (value : ℤ) → n < 2 ^ 62 → (d : IsWholeTree kind b) (now : Option (List ℕ)) (size : ℕ) → HasLength now size → size % 1024 ≡ 0 → value ≡ pos n → (r : Result (Unit {0}) (TreeFault F))
    → MatchResult r (λ done. (c : List ℕ) × (now ≡ Some c) × HasRows kind c d.reached (put kind (tree_rows d.shape) key value) × SamePages d.reached b c) (insert.IsNotPut kind d.shape key now)
    → MatchResult r (λ done. IsTold now (IsRowTree kind (put kind (rows_in kind b) key (pos n)))) (IsNotPut kind (rows_in kind b) key)
insert_result kind b key n value small d now size long whole is (Ok x) h =
    let w = told_whole now size h.0 long whole h.1 in
    let has : HasRows kind h.0 d.reached (put kind (tree_rows d.shape) key (pos n)) = subst (λ (v : ℤ). HasRows kind h.0 d.reached (put kind (tree_rows d.shape) key v)) is h.2 in
    (h.0, h.1, tree_put kind b h.0 key n small d w has h.3)
insert_result kind b key n value small d now size long whole is (Err fault) h = put_refusal kind b key d now fault h

-- the stream since, where a row was taken
pub remove_result : (kind : KeyKind) (b : List ℕ) (key : Key) (value : ℤ) (d : HoldsNumber kind key b) (now : Option (List ℕ)) (size : ℕ) → HasLength now size → size % 1024 ≡ 0 → assoc kind (rows_in kind b) key ≡ Some value → (c : List ℕ) → now ≡ Some c
    → HasRows kind c d.tree.reached (without kind (tree_rows d.tree.shape) key) → SamePages d.tree.reached b c → IsTold now (IsRowTree kind (without kind (rows_in kind b) key))
remove_result kind b key value d now size long whole there c is has same =
    (c, is, tree_taken kind b c key value d there (told_whole now size c long whole is) has same)
