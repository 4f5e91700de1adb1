-- The keys of files that were kept of nodes are those of the nodes that the rows name.
use Rattle.std.proofs.Common.{◌≡◌, ◌<◌, ◌∙◌, ℕ, zero, suc, List, [], ◌∷◌, length, get_or, Option, None, refl, sym, ap, subst, arith}
use Rattle.bfs_sound.specs.Volumes.{Volume}
use Rattle.bfs_sound.specs.Nodes.{HasNode}
use Rattle.bfs_tour.specs.Tours.{Visit}
use Rattle.bfs_nodes_walk.specs.Facts.{keys_of, AreFactsOf}
use Rattle.bfs_nodes_walk.specs.declared.facts.FileKeys.{FileKeys}
use Rattle.bfs_nodes_walk.specs.declared.facts.NodeFacts.{NodeFacts}
use Rattle.bfs_nodes_walk.specs.declared.lead.NodeLead.{NodeLead}
use Rattle.bfs_key_walk.specs.Gathered.{AreFor}
use Rattle.bfs_key_walk.specs.Keys.{kept_keys, keys_of_visits}

-- those of one of them
pub keys_here : (es : List Visit) (i : ℕ) (e : Visit) → i < length es → e ≡ get_or es i e → get_or (keys_of_visits es) i None ≡ keys_of e.1
keys_here [] i e inside is = absurd (omega (arith, inside))
keys_here (x ∷ xs) zero e inside is = ap (λ (y : Visit). keys_of y.1) (sym is)
keys_here (x ∷ xs) (suc i) e inside is = keys_here xs i e (omega (arith, inside)) is

-- what was kept at a place
pub kept_here : (facts : List NodeFacts) (i : ℕ) (f : NodeFacts) → i < length facts → f ≡ get_or facts i f → f.keys ≡ get_or (kept_keys facts) i None
kept_here [] i f inside is = absurd (omega (arith, inside))
kept_here (x ∷ xs) zero f inside is = ap (λ (y : NodeFacts). y.keys) is
kept_here (x ∷ xs) (suc i) f inside is = kept_here xs i f (omega (arith, inside)) is

-- all of them
pub facts_keys : (v : Volume) (root : ℕ) (leads : List NodeLead) (es : List Visit) (facts : List NodeFacts) → AreFor v root leads es → AreFactsOf v leads facts → kept_keys facts ≡ keys_of_visits es
facts_keys v root [] [] [] are kept = refl
facts_keys v root [] [] (f ∷ fs) are kept = absurd kept
facts_keys v root [] (e ∷ es) facts are kept = absurd are
facts_keys v root (l ∷ ls) [] facts are kept = absurd are
facts_keys v root (l ∷ ls) (e ∷ es) [] are kept = absurd kept
facts_keys v root (l ∷ ls) (e ∷ es) (f ∷ fs) are kept =
    let one : f.keys ≡ keys_of e.1 = kept.0.keys e.1 (subst (λ (k : ℕ). HasNode v k e.1) (sym are.0.id) are.0.known.node) in
    let rest : kept_keys fs ≡ keys_of_visits es = facts_keys v root ls es fs are.1 kept.1 in
    ap (λ (k : Option FileKeys). k ∷ kept_keys fs) one ∙ ap (λ (ks : List (Option FileKeys)). keys_of e.1 ∷ ks) rest
