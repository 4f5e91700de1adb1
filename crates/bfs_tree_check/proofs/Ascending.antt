-- The order of what is met on a leaf and at a key between leaves.
use Rattle.std.proofs.Common.{◌≡◌, ◌<◌, ◌+◌, ℕ, List, [], ◌∷◌, ◌++◌, length, take, drop, get_or, Some, None, true, cond, negsuc, refl, sym, ap, ◌∙◌, subst, append_assoc, append-nil}
use Rattle.std.specs.List.{flat_map}
use Rattle.std.proofs.lemmas.List.{take_more, drop_more, take-append-drop}
use Rattle.std.proofs.lemmas.List.Concat.{flat_map-append}
use Rattle.bfs_base.specs.declared.kind.KeyKind.{KeyKind}
use Rattle.bfs_node.specs.Page.{rows_of, row_in, links_of, overflow_of}
use Rattle.bfs_pages.specs.Answers.{IsInteriorPage}
use Rattle.bfs_pages.specs.Shapes.{Entry, leaf_body, Precedes}
use Rattle.bfs_pages.specs.Trees.{state_of, page_in, place_of, is_page, body_of, body_in}
use Rattle.bfs_finding.specs.Owners.{In}
use Rattle.bfs_finding.specs.Walks.{Met, entries_met}
use Rattle.bfs_finding.specs.TreeFaults.{IsOrderFault}
use Rattle.bfs_walk.proofs.Going.{inner_good}
use Rattle.bfs_tree_check.specs.Levels.{bound_in}
use Rattle.bfs_tree_check.specs.Ordered.{IsBroken}
use Rattle.bfs_tree_check.proofs.Opens.{key_there}

pub order_wrong : (kind : KeyKind) (b : List ℕ) (at index : ℕ) (front mets back : List Met) → entries_met kind b ≡ front ++ (mets ++ back) → IsBroken kind at index front mets → IsOrderFault kind b at index
order_wrong kind b at index front mets back is w =
    let x : Met = (at, index, w.entry) in
    record {
      front = front ++ w.middle;
      back = w.back ++ back;
      entry = w.entry;
      other = w.other;
      met = is ∙ ap (λ l. front ++ (l ++ back)) w.are ∙ ap (λ l. front ++ l) (append_assoc w.middle (x ∷ w.back) back) ∙ sym (append_assoc front w.middle (x ∷ (w.back ++ back)));
      before = w.before;
      wrong = w.wrong;
    }

-- what a leaf says
pub leaf_is : (kind : KeyKind) (b : List ℕ) (at : ℕ) (page : List ℕ) → page ≡ page_in b at → is_page kind page ≡ true → overflow_of page ≡ negsuc 0 → (state_of kind b).bodies at ≡ Some (leaf_body (rows_of page))
leaf_is kind b at page is good leaf =
    ap (body_in kind) (sym is) ∙ ap (λ c. cond c (Some (body_of (links_of page).overflow (rows_of page))) None) good ∙ ap (λ z. Some (body_of z (rows_of page))) leaf

-- the key at a place of an interior page
pub bound_is : (kind : KeyKind) (b : List ℕ) (at size index : ℕ) (page : List ℕ) → page ≡ page_in b at → IsInteriorPage kind size page → bound_in ((state_of kind b).bodies at) index ≡ (row_in (rows_of page) index).0
bound_is kind b at size index page is inner = ap (λ o. bound_in o index) (inner_good kind b at size page is inner) ∙ key_there (rows_of page) (place_of (overflow_of page)) index

pub one_broken : (kind : KeyKind) (at index : ℕ) (front : List Met) (e : Entry) → (other : Met) × In other front × ¬ Precedes kind other.2 e → IsBroken kind at index front ((at, index, e) ∷ [])
one_broken kind at index front e w = record { middle = []; back = []; entry = e; other = w.0; are = refl; before = subst (λ l. In w.0 l) (sym (none front)) w.1; wrong = w.2 }
  where
    none : (xs : List Met) → xs ++ [] ≡ xs
    none [] = refl
    none (x ∷ xs) = ap (λ l. x ∷ l) (none xs)

-- a list with one of its members apart, as a list of what they stand for
pub flat_apart : {X A : Type 0} (f : X → List A) (xs : List X) (i : ℕ) (d : X) → i < length xs → flat_map f xs ≡ flat_map f (take i xs) ++ (f (get_or xs i d) ++ flat_map f (drop (i + 1) xs))
flat_apart f xs i d h =
    ap (flat_map f) (sym (take-append-drop i xs) ∙ ap (λ l. take i xs ++ l) (drop_more xs i d h)) ∙ flat_map-append f (take i xs) (get_or xs i d ∷ drop (i + 1) xs)

pub flat_next : {X A : Type 0} (f : X → List A) (xs : List X) (i : ℕ) (d : X) → i < length xs → flat_map f (take (i + 1) xs) ≡ flat_map f (take i xs) ++ f (get_or xs i d)
flat_next {X} {A} f xs i d h =
    ap (flat_map f) (take_more xs i d h) ∙ flat_map-append f (take i xs) (get_or xs i d ∷ []) ∙ ap (λ (l : List A). flat_map f (take i xs) ++ l) (append-nil (f (get_or xs i d)))
