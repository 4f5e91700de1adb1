-- Looking through nodes for the children of a directory.
use Rattle.std.proofs.Common.{◌≡◌, ℕ, List, ◌∷◌, Some, Bool, true, false, cond, refl, ap, ◌∙◌, arith}
use Rattle.std.specs.Prelude.{not, ◌&&◌, ◌==◌, nat_lt, length, suc}
use Rattle.bfs_tree.specs.Refusals.{has_children}
use Rattle.std.specs.List.{find, filter}
use Rattle.std.specs.Str.{bytes_eq}
use Rattle.bfs_tree.specs.Trees.{Node, child_in, children_in}

abbrev pub is_child_named : ℕ → ℕ → List ℕ → ℕ × Node → Bool
is_child_named root d name e = (not (e.0 == root) && (e.1.parent == d)) && bytes_eq e.1.name name

find-filter : {A : Type 0} (p q : A → Bool) (x : A) (xs : List A) → find p (cond (q x) (x ∷ filter q xs) (filter q xs)) ≡ cond (q x && p x) (Some x) (find p (filter q xs))
find-filter p q x xs = elim (q x) as (λ b. find p (cond b (x ∷ filter q xs) (filter q xs)) ≡ cond (b && p x) (Some x) (find p (filter q xs))) [ true ↦ refl | false ↦ refl ]

-- the first that is looked at
pub child-step : (root d : ℕ) (name : List ℕ) (e : ℕ × Node) (es : List (ℕ × Node)) → child_in root d name (e ∷ es) ≡ cond (is_child_named root d name e) (Some e) (child_in root d name es)
child-step root d name e es = find-filter (λ (e : ℕ × Node). bytes_eq e.1.name name) (λ (e : ℕ × Node). not (e.0 == root) && (e.1.parent == d)) e es

pub child-first : (root d : ℕ) (name : List ℕ) (e : ℕ × Node) (es : List (ℕ × Node)) → is_child_named root d name e ≡ true → child_in root d name (e ∷ es) ≡ Some e
child-first root d name e es hit = child-step root d name e es ∙ ap (λ b. cond b (Some e) (child_in root d name es)) hit

-- a child that is met
pub children-first : (root d : ℕ) (e : ℕ × Node) (es : List (ℕ × Node)) → (not (e.0 == root) && (e.1.parent == d)) ≡ true → has_children root d (e ∷ es) ≡ true
children-first root d e es is = let some : has_children root d (e ∷ es) ≡ nat_lt 0 (length (e ∷ children_in root d es)) = ap (λ b. nat_lt 0 (length (cond b (e ∷ children_in root d es) (children_in root d es)))) is in some ∙ positive (length (children_in root d es))
  where
    positive : (n : ℕ) → nat_lt 0 (suc n) ≡ true
    positive n = grind arith
