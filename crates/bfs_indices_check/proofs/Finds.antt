-- The built-in indices among those that were found.
use Rattle.std.proofs.Common.{◌≡◌, ◌≢◌, ◌∙◌, ◌<◌, ◌≤◌, ◌+◌, ◌⊎◌, inr, ℕ, List, [], ◌∷◌, length, drop, get_or, Bool, true, false, cond, Some, None, refl, sym, ap, codes}
use Rattle.std.proofs.lemmas.List.{drop_more, drop_all}
use Rattle.std.specs.FinMap.{find, get, empty, get-empty, from_entries, get-from_entries}
use Rattle.std.proofs.lemmas.Cmp.{nat_list_cmp_total}
use Rattle.std.specs.Cmp.{tied_itself}
use Rattle.std.specs.Ordering.{is_eq}
use Rattle.bfs_finding.proofs.Rows.{text_same}
use Rattle.bfs_base.specs.Keys.{text_cmp}
use Rattle.bfs_base.specs.declared.kind.KeyKind.{KeyKind}
use Rattle.bfs_base.specs.declared.kind.KeyKind.TheVariants.{Text, I64}
use Rattle.bfs_tree.specs.Trees.{Tree, HasBuiltIn}
use Rattle.bfs_sound.specs.Volumes.{Volume}
use Rattle.bfs_finding.specs.declared.finding.Finding.{Finding}
use Rattle.bfs_finding.specs.declared.finding.Finding.TheVariants.{IndexMissing}
use Rattle.bfs_finding.specs.Findings.{IsBroken, IsUnlisted}
use Rattle.bfs_node_check.specs.declared.fault.NodeFault.TheVariants.{Wrong as Unfit}
use Rattle.bfs_indices_check.specs.Listed.{IsMissing}
use Rattle.bfs_tour.specs.Tours.{Found}
use Rattle.bfs_index_walk.specs.declared.found.FoundIndex.{FoundIndex}
use Rattle.bfs_index_walk.specs.Indices.{kinds_of}

is_itself : (name : List ℕ) → is_eq (text_cmp name name) ≡ true
is_itself name = ap is_eq (tied_itself nat_list_cmp_total name)

here : (x : FoundIndex) (xs : List FoundIndex) (name : List ℕ) → x.name ≡ name → find text_cmp name (kinds_of (x ∷ xs)) ≡ Some x.kind
here x xs name e = ap (λ (c : Bool). cond c (Some x.kind) (find text_cmp name (kinds_of xs))) (ap (λ (n : List ℕ). is_eq (text_cmp name n)) e ∙ is_itself name)

later : (x : FoundIndex) (xs : List FoundIndex) (name : List ℕ) → (x.name ≡ name → ⊥) → find text_cmp name (kinds_of (x ∷ xs)) ≡ find text_cmp name (kinds_of xs)
later x xs name apart = by_test (is_eq (text_cmp name x.name)) refl
  where
    by_test : (c : Bool) → is_eq (text_cmp name x.name) ≡ c → cond (is_eq (text_cmp name x.name)) (Some x.kind) (find text_cmp name (kinds_of xs)) ≡ find text_cmp name (kinds_of xs)
    by_test true e = absurd (apart (sym (text_same name x.name e)))
    by_test false e = ap (λ (c : Bool). cond c (Some x.kind) (find text_cmp name (kinds_of xs))) e

module _ (found : List FoundIndex) (i : ℕ) (x : FoundIndex) (inside : i < length found) (item : x ≡ get_or found i x) (name : List ℕ) (so_far : find text_cmp name (kinds_of found) ≡ find text_cmp name (kinds_of (drop i found))) where
  split : drop i found ≡ x ∷ drop (i + 1) found
  split = drop_more found i x inside ∙ ap (λ (y : FoundIndex). y ∷ drop (i + 1) found) (sym item)

  pub found_here : x.name ≡ name → find text_cmp name (kinds_of found) ≡ Some x.kind
  found_here e = so_far ∙ ap (λ (l : List FoundIndex). find text_cmp name (kinds_of l)) split ∙ here x (drop (i + 1) found) name e

  pub found_later : (x.name ≡ name → ⊥) → find text_cmp name (kinds_of found) ≡ find text_cmp name (kinds_of (drop (i + 1) found))
  found_later apart = so_far ∙ ap (λ (l : List FoundIndex). find text_cmp name (kinds_of l)) split ∙ later x (drop (i + 1) found) name apart

pub found_nowhere : (found : List FoundIndex) (i : ℕ) (name : List ℕ) (kind : KeyKind) → length found ≤ i → find text_cmp name (kinds_of found) ≡ find text_cmp name (kinds_of (drop i found)) → find text_cmp name (kinds_of found) ≡ Some kind → ⊥
found_nowhere found i name kind past so_far is =
    let none : drop i found ≡ [] = drop_all i found past in
    let bad : None ≡ Some kind = sym (so_far ∙ ap (λ (l : List FoundIndex). find text_cmp name (kinds_of l)) none) ∙ is in absurd cc

pub built_from : (kinds : List Found) → find text_cmp (codes "name") kinds ≡ Some Text → find text_cmp (codes "size") kinds ≡ Some I64 → find text_cmp (codes "last_modified") kinds ≡ Some I64 → HasBuiltIn (from_entries {R = text_cmp} kinds)
built_from kinds one two three = record {
  by_name = get-from_entries nat_list_cmp_total kinds (codes "name") ∙ one;
  by_size = get-from_entries nat_list_cmp_total kinds (codes "size") ∙ two;
  by_time = get-from_entries nat_list_cmp_total kinds (codes "last_modified") ∙ three;
}

-- where an index was found there are indices
pub some_indices : (found : List FoundIndex) → length found ≢ 0 → from_entries {R = text_cmp} (kinds_of found) ≢ empty
some_indices [] some e = some refl
some_indices (x ∷ xs) some e =
    let there : get (from_entries {R = text_cmp} (kinds_of (x ∷ xs))) x.name ≡ Some x.kind = get-from_entries nat_list_cmp_total (kinds_of (x ∷ xs)) x.name ∙ here x xs x.name refl in
    let gone : get (from_entries {R = text_cmp} (kinds_of (x ∷ xs))) x.name ≡ None = ap (λ i. get i x.name) e ∙ get-empty text_cmp x.name in
    let bad : None ≡ Some x.kind = sym gone ∙ there in absurd cc

-- a built-in index that is missing is one that the tree hasn't
pub missing_true : (v : Volume) (tree : Tree) (found : List FoundIndex) (finding : Finding) → tree.indices ≡ from_entries {R = text_cmp} (kinds_of found) → tree.indices ≢ empty → IsMissing found (Unfit finding)
    → IsBroken v finding ⊎ IsUnlisted v tree finding
missing_true v tree found (IndexMissing name) are some (kind, built, other) =
    inr (some, kind, built, λ is. other (sym (get-from_entries nat_list_cmp_total (kinds_of found) name) ∙ ap (λ i. get i name) (sym are) ∙ is))
missing_true v tree found _ are some h = absurd h
