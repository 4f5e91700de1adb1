-- What is gathered of the nodes that rows name.
use Rattle.std.proofs.Common.{◌≡◌, ◌≤◌, ◌<◌, ◌+◌, ◌∙◌, ◌==◌, ℕ, zero, suc, List, [], ◌∷◌, ◌++◌, length, take, get_or, Bool, true, false, refl, sym, ap, subst, arith, append_assoc}
use Rattle.std.proofs.lemmas.List.{take_all}
use Rattle.std.proofs.lemmas.List.Elements.{filter_map-append}
use Rattle.std.specs.Option.{option_map}
use Rattle.bfs_base.specs.declared.kind.KeyKind.{KeyKind}
use Rattle.bfs_tree.specs.Listings.{key_in, pairs_in}
use Rattle.bfs_sound.specs.Volumes.{Volume}
use Rattle.bfs_tour.specs.Tours.{Visit}
use Rattle.bfs_nodes_walk.specs.declared.lead.NodeLead.{NodeLead}
use Rattle.bfs_index_check.proofs.Prefixes.{next}
use Rattle.bfs_key_walk.specs.Gathered.{IsFor, AreFor, pair_with}

pub other_number : (a b : ℕ) → (a ≡ b → ⊥) → false ≡ (a == b)
other_number a b apart = by_test (a == b) refl
  where
    by_test : (t : Bool) → (a == b) ≡ t → false ≡ (a == b)
    by_test true e = absurd (apart (grind (arith, e)))
    by_test false e = sym e

pub own_number : (a : ℕ) → true ≡ (a == a)
own_number a = by_test (a == a) refl
  where
    by_test : (t : Bool) → (a == a) ≡ t → true ≡ (a == a)
    by_test true e = sym e
    by_test false e = absurd (grind (arith, e))

-- the node that a row names
pub record HasOne (v : Volume) (root : ℕ) (l : NodeLead) (es : List Visit) (i : ℕ) : Type 0 where
  pub visit : Visit
  pub is : IsFor v root l visit
  pub inside : i < length es
  pub item : visit ≡ get_or es i visit

pub one_at : (v : Volume) (root : ℕ) (ls : List NodeLead) (es : List Visit) (i : ℕ) (l : NodeLead) → AreFor v root ls es → i < length ls → l ≡ get_or ls i l → HasOne v root l es i
one_at v root [] es i l are inside item = absurd (omega (arith, inside))
one_at v root (k ∷ ks) [] i l are inside item = absurd are
one_at v root (k ∷ ks) (e ∷ es) zero l are inside item = record { visit = e; is = subst (λ (x : NodeLead). IsFor v root x e) (sym item) are.0; inside = omega arith; item = refl }
one_at v root (k ∷ ks) (e ∷ es) (suc i) l are inside item =
    let h = one_at v root ks es i l are.1 (omega (arith, inside)) item in
    let low = h.inside in record { visit = h.visit; is = h.is; inside = omega (arith, low); item = h.item }

pub as_many : (v : Volume) (root : ℕ) (ls : List NodeLead) (es : List Visit) → AreFor v root ls es → length es ≡ length ls
as_many v root [] [] are = refl
as_many v root [] (e ∷ es) are = absurd are
as_many v root (l ∷ ls) [] are = absurd are
as_many v root (l ∷ ls) (e ∷ es) are = let h = as_many v root ls es are.1 in omega (arith, h)

module _ (root : ℕ) (index : List ℕ) (kind : KeyKind) where
  abbrev of_visit : Visit → List (List ℕ × ℕ)
  of_visit e = pair_with (key_in root index kind e.0 e.1) e.0

  pairs_more : (es : List Visit) (e : Visit) → pairs_in root index kind (es ++ (e ∷ [])) ≡ pairs_in root index kind es ++ of_visit e
  pairs_more es e = filter_map-append (λ (x : Visit). option_map (λ key. (key, x.0)) (key_in root index kind x.0 x.1)) es (e ∷ [])

  pub gathered_next : (v : Volume) (l : NodeLead) (es : List Visit) (i : ℕ) (one : HasOne v root l es i) (first before after : List (List ℕ × ℕ)) → before ≡ first ++ pairs_in root index kind (take i es) → after ≡ before ++ of_visit one.visit
      → after ≡ first ++ pairs_in root index kind (take (i + 1) es)
  gathered_next v l es i one first before after was now =
      let more : pairs_in root index kind (take (i + 1) es) ≡ pairs_in root index kind (take i es) ++ of_visit one.visit = ap (pairs_in root index kind) (next es i one.visit one.inside one.item) ∙ pairs_more (take i es) one.visit in
      now ∙ ap (λ (ps : List (List ℕ × ℕ)). ps ++ of_visit one.visit) was ∙ append_assoc first (pairs_in root index kind (take i es)) (of_visit one.visit) ∙ ap (λ (ps : List (List ℕ × ℕ)). first ++ ps) (sym more)

  pub gathered_all : (es : List Visit) (i : ℕ) (first all : List (List ℕ × ℕ)) → length es ≤ i → all ≡ first ++ pairs_in root index kind (take i es) → all ≡ first ++ pairs_in root index kind es
  gathered_all es i first all past is = is ∙ ap (λ (xs : List Visit). first ++ pairs_in root index kind xs) (take_all i es past)
