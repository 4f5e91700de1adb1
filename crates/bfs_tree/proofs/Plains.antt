-- What plain says of a tree, by the kind, the name and the parent of each node alone, and how one node more, one less or
-- one that moved keeps it.
use Rattle.std.proofs.Common.{◌≡◌, ◌≢◌, ◌⊎◌, inl, inr, ℕ, List, [], Option, Some, None, true, false, cond, refl, ap, sym, ◌∙◌, subst, arith}
use Rattle.std.specs.Option.{option_map}
use Rattle.std.specs.Ordering.{nat_cmp, eq_by_cmp}
use Rattle.std.specs.FinMap.{get}
use Rattle.bfs_tree.specs.declared.call.Kind.{Kind}
use Rattle.bfs_tree.specs.declared.call.Kind.TheVariants.{Dir}
use Rattle.bfs_tree.specs.Names.{is_bad_name}
use Rattle.bfs_tree.specs.Trees.{Tree, Node, Nodes, LeadsTo, HasPlainNodes, HasPlainIndices, IsPlain, at_top, by_parent}

pub record Shape : Type 0 where
  pub kind : Kind
  pub name : List ℕ
  pub parent : ℕ

abbrev pub shape : Node → Shape
shape n = record { kind = n.kind; name = n.name; parent = n.parent }

-- the shapes of the nodes by id
abbrev pub Shapes : Type 0
Shapes = ℕ → Option Shape

abbrev pub shapes : Nodes → Shapes
shapes nodes id = option_map shape (get nodes id)

-- a node that is seen, behind its shape
pub seen : (o : Option Node) (s : Shape) → option_map shape o ≡ Some s → (n : Node) × (o ≡ Some n) × (shape n ≡ s)
seen None s e = cc
seen (Some n) s e = let same : shape n ≡ s = cc in (n, refl, same)

pub shown : (nodes : Nodes) (id : ℕ) (n : Node) → get nodes id ≡ Some n → shapes nodes id ≡ Some (shape n)
shown nodes id n is = ap (option_map shape) is

pub data Way (at : Shapes) (top : ℕ) : ℕ → Type 0 where
  way_end : Way at top top
  way_up : (id : ℕ) (s : Shape) → at id ≡ Some s → Way at top s.parent → Way at top id

pub way-of : (tree : Tree) (top id : ℕ) → LeadsTo tree top id → Way (shapes tree.nodes) top id
way-of tree top _ at_top = way_end
way-of tree top _ (by_parent id n is up) = way_up id (shape n) (shown tree.nodes id n is) (way-of tree top n.parent up)

pub leads-of : (tree : Tree) (top id : ℕ) → Way (shapes tree.nodes) top id → LeadsTo tree top id
leads-of tree top _ way_end = at_top
leads-of tree top _ (way_up id s is up) =
    let n = seen (get tree.nodes id) s is in
    by_parent id n.0 n.1 (subst (LeadsTo tree top) (ap (λ (t : Shape). t.parent) (sym n.2)) (leads-of tree top s.parent up))

-- the same shapes have the same ways
pub way-alike : (at bt : Shapes) → ((q : ℕ) → at q ≡ bt q) → (top q : ℕ) → Way at top q → Way bt top q
way-alike at bt same top _ way_end = way_end
way-alike at bt same top _ (way_up q s is up) = way_up q s (sym (same q) ∙ is) (way-alike at bt same top s.parent up)

abbrev pub IsDir : Shapes → ℕ → Type 0
IsDir at id = (s : Shape) × (at id ≡ Some s) × (s.kind ≡ Dir)

pub dir-of : (nodes : Nodes) (id : ℕ) → IsDir (shapes nodes) id → (n : Node) × (get nodes id ≡ Some n) × (n.kind ≡ Dir)
dir-of nodes id d = let n = seen (get nodes id) d.0 d.1 in (n.0, n.1, ap (λ (t : Shape). t.kind) n.2 ∙ d.2)

pub record Plain (root : ℕ) (at : Shapes) : Type 0 where
  pub root_dir : IsDir at root
  pub own : (s : Shape) → at root ≡ Some s → (s.name ≡ []) × (s.parent ≡ root)
  pub parents : (id : ℕ) (s : Shape) → at id ≡ Some s → IsDir at s.parent
  pub lead : (id : ℕ) (s : Shape) → at id ≡ Some s → Way at root id
  pub apart : (a b : ℕ) (s t : Shape) → at a ≡ Some s → at b ≡ Some t → s.parent ≡ t.parent → s.name ≡ t.name → a ≡ b
  pub named : (id : ℕ) (s : Shape) → at id ≡ Some s → id ≢ root → is_bad_name s.name ≡ false

pub plain-of : (tree : Tree) → HasPlainNodes tree → Plain tree.root (shapes tree.nodes)
plain-of tree p = record {
  root_dir = (shape p.root.0, shown tree.nodes tree.root p.root.0 p.root.1, p.root.2);
  own = λ s is.
      let n = seen (get tree.nodes tree.root) s is in
      let said = p.own n.0 n.1 in
      (ap (λ (t : Shape). t.name) (sym n.2) ∙ said.0, ap (λ (t : Shape). t.parent) (sym n.2) ∙ said.1);
  parents = λ id s is.
      let n = seen (get tree.nodes id) s is in
      let d = p.parents id n.0 n.1 in
      subst (IsDir (shapes tree.nodes)) (ap (λ (t : Shape). t.parent) n.2) (shape d.0, shown tree.nodes n.0.parent d.0 d.1, d.2);
  lead = λ id s is. let n = seen (get tree.nodes id) s is in way-of tree tree.root id (p.lead id n.0 n.1);
  apart = λ a b s t is_a is_b parents names.
      let m = seen (get tree.nodes a) s is_a in
      let n = seen (get tree.nodes b) t is_b in
      p.apart a b m.0 n.0 m.1 n.1
      (ap (λ (t : Shape). t.parent) m.2 ∙ parents ∙ ap (λ (t : Shape). t.parent) (sym n.2))
      (ap (λ (t : Shape). t.name) m.2 ∙ names ∙ ap (λ (t : Shape). t.name) (sym n.2));
  named = λ id s is other.
      let n = seen (get tree.nodes id) s is in
      ap (λ (t : Shape). is_bad_name t.name) (sym n.2) ∙ p.named id n.0 n.1 other;
}

-- a tree with plain shapes has plain nodes
pub plain-nodes : (tree : Tree) → Plain tree.root (shapes tree.nodes) → HasPlainNodes tree
plain-nodes tree q = record {
  root = dir-of tree.nodes tree.root q.root_dir;
  own = λ n is. q.own (shape n) (shown tree.nodes tree.root n is);
  parents = λ id n is. dir-of tree.nodes n.parent (q.parents id (shape n) (shown tree.nodes id n is));
  lead = λ id n is. leads-of tree tree.root id (q.lead id (shape n) (shown tree.nodes id n is));
  apart = λ a b m n is_a is_b parents names. q.apart a b (shape m) (shape n) (shown tree.nodes a m is_a) (shown tree.nodes b n is_b) parents names;
  named = λ id n is other. q.named id (shape n) (shown tree.nodes id n is) other;
}

-- and one with plain shapes and the indices of a plain tree is plain
pub of-plain : (old new : Tree) → IsPlain old → new.indices ≡ old.indices → Plain new.root (shapes new.nodes) → IsPlain new
of-plain old new p same q = record { nodes = plain-nodes new q; indices = subst HasPlainIndices (sym same) p.indices }

-- ---- one node is put, or taken

abbrev pub put : Shapes → ℕ → Shape → Shapes
put at id s q = cond (eq_by_cmp nat_cmp q id) (Some s) (at q)

abbrev pub taken : Shapes → ℕ → Shapes
taken at id q = cond (eq_by_cmp nat_cmp q id) None (at q)

pub same-or-other : (q id : ℕ) → ((q ≡ id) × (eq_by_cmp nat_cmp q id ≡ true)) ⊎ ((q ≢ id) × (eq_by_cmp nat_cmp q id ≡ false))
same-or-other q id =
    elim (eq_by_cmp nat_cmp q id) as (λ b. eq_by_cmp nat_cmp q id ≡ b → ((q ≡ id) × (b ≡ true)) ⊎ ((q ≢ id) × (b ≡ false))) [
      | true ↦ λ e. inl (grind (arith, e), refl)
      | false ↦ λ e. inr (λ same. apart q id e same, refl)
    ] refl
  where
    apart : (q id : ℕ) → eq_by_cmp nat_cmp q id ≡ false → q ≡ id → ⊥
    apart q id e same = grind (arith, e, same)

module _ (at : Shapes) (id : ℕ) (s : Shape) where
  put-here : (q : ℕ) → eq_by_cmp nat_cmp q id ≡ true → put at id s q ≡ Some s
  put-here q e = ap (λ b. cond b (Some s) (at q)) e

  put-other : (q : ℕ) → eq_by_cmp nat_cmp q id ≡ false → put at id s q ≡ at q
  put-other q e = ap (λ b. cond b (Some s) (at q)) e

  -- a node after the put: the one that was put, or another
  which : (q : ℕ) (t : Shape) → put at id s q ≡ Some t → ((q ≡ id) × (s ≡ t)) ⊎ ((q ≢ id) × (at q ≡ Some t))
  which q t is = elim (same-or-other q id) as (λ _. ((q ≡ id) × (s ≡ t)) ⊎ ((q ≢ id) × (at q ≡ Some t))) [
    | inl here ↦ let there : put at id s q ≡ Some s = put-here q here.1 in let same : s ≡ t = cc in inl (here.0, same)
    | inr other ↦ inr (other.0, sym (put-other q other.1) ∙ is)
  ]

  -- a node of the kind that it had before, if it was there
  abbrev pub Keeps : Type 0
  Keeps = (o : Shape) → at id ≡ Some o → o.kind ≡ s.kind

  dir-put : Keeps → (q : ℕ) → IsDir at q → IsDir (put at id s) q
  dir-put keeps q d = elim (same-or-other q id) as (λ _. IsDir (put at id s) q) [
    | inl here ↦ (s, put-here q here.1, sym (keeps d.0 (ap at (sym here.0) ∙ d.1)) ∙ d.2)
    | inr other ↦ (d.0, put-other q other.1 ∙ d.1, d.2)
  ]

  -- a way that does not meet the node stays
  way-past : (top q : ℕ) → Way at top q → (Way at id q → ⊥) → Way (put at id s) top q
  way-past top _ way_end avoids = way_end
  way-past top _ (way_up q t is up) avoids = elim (same-or-other q id) as (λ _. Way (put at id s) top q) [
    | inl here ↦ absurd (avoids (subst (Way at id) (sym here.0) way_end))
    | inr other ↦ way_up q t (put-other q other.1 ∙ is) (way-past top t.parent up (λ w. avoids (way_up q t is w)))
  ]

  -- a way that meets it goes on from there by the new parent
  way-put : (top : ℕ) → Way (put at id s) top s.parent → (q : ℕ) → Way at top q → Way (put at id s) top q
  way-put top on _ way_end = way_end
  way-put top on _ (way_up q t is up) = elim (same-or-other q id) as (λ _. Way (put at id s) top q) [
    | inl here ↦ way_up q s (put-here q here.1) on
    | inr other ↦ way_up q t (put-other q other.1 ∙ is) (way-put top on t.parent up)
  ]

  pub plain-put : (root : ℕ) → Plain root at → id ≢ root → Keeps → IsDir at s.parent → (Way at id s.parent → ⊥)
      → ((q : ℕ) (t : Shape) → at q ≡ Some t → q ≢ root → q ≢ id → t.parent ≡ s.parent → t.name ≡ s.name → ⊥) → is_bad_name s.name ≡ false → s.name ≢ []
      → Plain root (put at id s)
  plain-put root p moved keeps up avoids free good full =
      let on : Way (put at id s) root s.parent = way-past root s.parent (p.lead s.parent up.0 up.1) avoids in
      let alone : (q : ℕ) (t : Shape) → q ≢ id → at q ≡ Some t → t.parent ≡ s.parent → t.name ≡ s.name → ⊥ =
      λ q t other is parents names. elim (same-or-other q root) as (λ _. ⊥) [
        | inl here ↦ full (sym names ∙ (p.own t (ap at (sym here.0) ∙ is)).0)
        | inr away ↦ free q t is away.0 other parents names
      ] in
      record {
        root_dir = dir-put keeps root p.root_dir;
        own = λ t is. elim (which root t is) as (λ _. (t.name ≡ []) × (t.parent ≡ root)) [
          | inl here ↦ absurd (moved (sym here.0))
          | inr other ↦ p.own t other.1
        ];
        parents = λ q t is. elim (which q t is) as (λ _. IsDir (put at id s) t.parent) [
          | inl here ↦ subst (λ (u : Shape). IsDir (put at id s) u.parent) here.1 (dir-put keeps s.parent up)
          | inr other ↦ dir-put keeps t.parent (p.parents q t other.1)
        ];
        lead = λ q t is. elim (same-or-other q id) as (λ _. Way (put at id s) root q) [
          | inl here ↦ way_up q s (put-here q here.1) on
          | inr other ↦ way-put root on q (p.lead q t (sym (put-other q other.1) ∙ is))
        ];
        apart = λ a b t u is_a is_b parents names. elim (which a t is_a) as (λ _. a ≡ b) [
          | inl here ↦ elim (which b u is_b) as (λ _. a ≡ b) [
            | inl too ↦ here.0 ∙ sym too.0
            | inr other ↦ absurd (alone b u other.0 other.1 (sym parents ∙ ap (λ (v : Shape). v.parent) (sym here.1)) (sym names ∙ ap (λ (v : Shape). v.name) (sym here.1)))
          ]
          | inr other ↦ elim (which b u is_b) as (λ _. a ≡ b) [
            | inl here ↦ absurd (alone a t other.0 other.1 (parents ∙ ap (λ (v : Shape). v.parent) (sym here.1)) (names ∙ ap (λ (v : Shape). v.name) (sym here.1)))
            | inr too ↦ p.apart a b t u other.1 too.1 parents names
          ]
        ];
        named = λ q t is away. elim (which q t is) as (λ _. is_bad_name t.name ≡ false) [
          | inl here ↦ ap (λ (u : Shape). is_bad_name u.name) (sym here.1) ∙ good
          | inr other ↦ p.named q t other.1 away
        ];
      }

module _ (at : Shapes) (id : ℕ) where
  pub taken-other : (q : ℕ) → eq_by_cmp nat_cmp q id ≡ false → taken at id q ≡ at q
  taken-other q e = ap (λ b. cond b None (at q)) e

  -- a node that is left
  pub left : (q : ℕ) (t : Shape) → taken at id q ≡ Some t → (q ≢ id) × (at q ≡ Some t)
  left q t is = elim (same-or-other q id) as (λ _. (q ≢ id) × (at q ≡ Some t)) [
    | inl here ↦ let gone : taken at id q ≡ None = ap (λ b. cond b None (at q)) here.1 in cc
    | inr other ↦ (other.0, sym (taken-other q other.1) ∙ is)
  ]

  dir-taken : (q : ℕ) → q ≢ id → IsDir at q → IsDir (taken at id) q
  dir-taken q away d = elim (same-or-other q id) as (λ _. IsDir (taken at id) q) [
    | inl here ↦ absurd (away here.0)
    | inr other ↦ (d.0, taken-other q other.1 ∙ d.1, d.2)
  ]

  -- nobody's parent is met on no way
  way-taken : ((q : ℕ) (t : Shape) → at q ≡ Some t → t.parent ≢ id) → (top q : ℕ) → q ≢ id → Way at top q → Way (taken at id) top q
  way-taken childless top _ away way_end = way_end
  way-taken childless top _ away (way_up q t is up) = elim (same-or-other q id) as (λ _. Way (taken at id) top q) [
    | inl here ↦ absurd (away here.0)
    | inr other ↦ way_up q t (taken-other q other.1 ∙ is) (way-taken childless top t.parent (childless q t is) up)
  ]

  -- a way that is left was there
  pub way-back : (top q : ℕ) → Way (taken at id) top q → Way at top q
  way-back top _ way_end = way_end
  way-back top _ (way_up q t is up) = way_up q t (left q t is).1 (way-back top t.parent up)

  pub plain-taken : (root : ℕ) → Plain root at → id ≢ root → ((q : ℕ) (t : Shape) → at q ≡ Some t → q ≢ root → t.parent ≢ id) → Plain root (taken at id)
  plain-taken root p away childless =
      let nobody : (q : ℕ) (t : Shape) → at q ≡ Some t → t.parent ≢ id =
      λ q t is up. elim (same-or-other q root) as (λ _. ⊥) [
        | inl here ↦ away (sym up ∙ (p.own t (ap at (sym here.0) ∙ is)).1)
        | inr other ↦ childless q t is other.0 up
      ] in
      record {
        root_dir = dir-taken root (λ e. away (sym e)) p.root_dir;
        own = λ t is. p.own t (left root t is).1;
        parents = λ q t is. let old = left q t is in dir-taken t.parent (nobody q t old.1) (p.parents q t old.1);
        lead = λ q t is. let old = left q t is in way-taken nobody root q old.0 (p.lead q t old.1);
        apart = λ a b t u is_a is_b parents names. p.apart a b t u (left a t is_a).1 (left b u is_b).1 parents names;
        named = λ q t is other. p.named q t (left q t is).1 other;
      }
