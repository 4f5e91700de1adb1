-- An attribute that is taken from among others.
use Rattle.std.proofs.Common.{◌≡◌, ◌≤◌, ◌+◌, ℕ, List, [], ◌∷◌, ◌++◌, Bool, true, false, cond, Some, None, refl, sym, ◌∙◌, ap, arith}
use Rattle.std.specs.FinMap.{find, remove, from_entries, same_map, get-from_entries, get-remove, slice_cmp-IsAntisymmetric, nat_cmp-IsAntisymmetric}
use Rattle.std.specs.List.{AllByRecursion}
use Rattle.std.specs.Ordering.{eq_by_cmp}
use Rattle.std.specs.Cmp.Lexicographic.{nat_list_cmp_total}
use Rattle.std.specs.Str.{bytes_eq}
use Rattle.std.proofs.lemmas.Slice.Eq.{bytes_eq-Decides}
use Rattle.bfs_base.specs.Keys.{text_cmp}
use Rattle.bfs_sound.specs.Attributes.{Named}
use Rattle.bfs_sound.specs.Nodes.{AreApart}
use Rattle.bfs_attr.proofs.Apart.{entries_named, one_entry}
use Rattle.bfs_attr.proofs.Finds.{same_test}
use Rattle.bfs_attr_write.proofs.Entries.{named_joined, find_joined}

pub all_parted : {X : Type 0} (P : X → Type 0) (xs ys : List X) (x : X) → AllByRecursion P (xs ++ (x ∷ ys)) → AllByRecursion P (xs ++ ys)
all_parted P [] ys x all = all.1
all_parted P (y ∷ xs) ys x all = (all.0, all_parted P xs ys x all.1)

-- a name that none has isn't found
pub none_found : (name : List ℕ) (es : List Named) → entries_named name es ≡ 0 → find text_cmp name es ≡ None
none_found name [] e = refl
none_found name (x ∷ xs) e = by_test (eq_by_cmp text_cmp name x.0) (bytes_eq x.0 name) (same_test name x.0) (sym (one_entry name x xs) ∙ e) (none_found name xs)
  where
    by_test : (b c : Bool) → b ≡ c → cond c 1 0 + entries_named name xs ≡ 0 → (entries_named name xs ≡ 0 → find text_cmp name xs ≡ None) → cond b (Some x.1) (find text_cmp name xs) ≡ None
    by_test true true same e rest = absurd (omega (arith, e))
    by_test false false same e rest = rest (omega (arith, e))
    by_test true false same e rest = let bad : true ≡ false = same in cc
    by_test false true same e rest = let bad : false ≡ true = same in cc

same_bytes : (n : List ℕ) → bytes_eq n n ≡ true
same_bytes n = (bytes_eq-Decides n n).1 refl

-- of names that are apart, no other is that of the one
pub alone : (xs ys : List Named) (x : Named) → AreApart (xs ++ (x ∷ ys)) → entries_named x.0 (xs ++ ys) ≡ 0
alone xs ys x apart =
    let a = named_joined x.0 xs ys x in
    let b : cond {A = ℕ} (bytes_eq x.0 x.0) 1 0 ≡ 1 = ap (λ (t : Bool). cond {A = ℕ} t 1 0) (same_bytes x.0) in
    let few : entries_named x.0 (xs ++ (x ∷ ys)) ≤ 1 = apart x.0 in
    omega (arith, a, b, few)

pub apart_parted : (xs ys : List Named) (x : Named) → AreApart (xs ++ (x ∷ ys)) → AreApart (xs ++ ys)
apart_parted xs ys x apart q =
    let a = named_joined q xs ys x in
    let c : ℕ = cond (bytes_eq x.0 q) 1 0 in
    let few : entries_named q (xs ++ (x ∷ ys)) ≤ 1 = apart q in
    omega (arith, a, few)

module _ (xs ys : List Named) (x : Named) (apart : AreApart (xs ++ (x ∷ ys))) where
  none : find text_cmp x.0 (xs ++ ys) ≡ None
  none = none_found x.0 (xs ++ ys) (alone xs ys x apart)

  pub find_parted : (q : List ℕ) → find text_cmp q (xs ++ ys) ≡ cond (eq_by_cmp text_cmp q x.0) None (find text_cmp q (xs ++ (x ∷ ys)))
  find_parted q = by_test (eq_by_cmp text_cmp q x.0) refl (find_joined x ys q xs none)
    where
      by_test : (b : Bool) → eq_by_cmp text_cmp q x.0 ≡ b → find text_cmp q (xs ++ (x ∷ ys)) ≡ cond b (Some x.1) (find text_cmp q (xs ++ ys)) → find text_cmp q (xs ++ ys) ≡ cond b None (find text_cmp q (xs ++ (x ∷ ys)))
      by_test true e h = ap (λ (n : List ℕ). find text_cmp n (xs ++ ys)) (sym ((bytes_eq-Decides x.0 q).0 (sym (same_test q x.0) ∙ e))) ∙ none
      by_test false e h = sym h

  -- as maps
  pub map_parted : from_entries {R = text_cmp} (xs ++ ys) ≡ remove (from_entries (xs ++ (x ∷ ys))) x.0
  map_parted = same_map nat_list_cmp_total (slice_cmp-IsAntisymmetric nat_cmp-IsAntisymmetric) _ _ (λ q.
      get-from_entries nat_list_cmp_total (xs ++ ys) q
      ∙ find_parted q
      ∙ ap (cond (eq_by_cmp text_cmp q x.0) None) (sym (get-from_entries nat_list_cmp_total (xs ++ (x ∷ ys)) q))
      ∙ sym (get-remove nat_list_cmp_total (from_entries (xs ++ (x ∷ ys))) x.0 q))
