-- A round that was gone over, and what follows from the laws of a tour.
use Rattle.std.proofs.Common.{◌≡◌, ◌≢◌, ◌<◌, ◌+◌, ◌∙◌, ℕ, List, [], ◌∷◌, ◌++◌, length, true, refl, sym, subst, arith}
use Rattle.std.specs.List.{flat_map}
use Rattle.std.specs.FinMap.{entries}
use Rattle.bfs_base.specs.Lists.{times, Has, IsOnce}
use Rattle.bfs_base.specs.declared.kind.KeyKind.{KeyKind}
use Rattle.bfs_super.specs.declared.sup.Super.{Super}
use Rattle.bfs_claims.specs.Claims.{Claimed, is_claimed, AreClaimed}
use Rattle.bfs_claims.proofs.Claiming.{times_append}
use Rattle.bfs_sound.specs.Volumes.{Volume}
use Rattle.bfs_sound.specs.Owners.{node_blocks, index_blocks, reach}
use Rattle.bfs_finding.specs.Findings.{IsBuiltIn, IsFindingOf}
use Rattle.bfs_finding.specs.declared.finding.Finding.TheVariants.{IndexMissing}
use Rattle.bfs_tour.specs.Touring.{RoundEnds}
use Rattle.bfs_tour.specs.Tours.{Visit, claimed, IsRound, RoundIsUnbroken, TourReaches, Toured}
use Rattle.bfs_nodes_walk.specs.declared.lead.NodeLead.{NodeLead}
use Rattle.bfs_indices_check.specs.FoundIndex.{FoundIndex}
use Rattle.bfs_indices_check.specs.Indices.{kinds_of}
use Rattle.bfs_indices_check.specs.Laws.{system_blocks, WalkIsTour, WalkStands}
use Rattle.bfs_indices_check.proofs.Standing.{once, is_there, same_claims, rowless}
use Rattle.bfs_indices_check.specs.Listed.{IsWalkedWhole}
use Rattle.bfs_passes.specs.Passed.{IsGoneRound, IsListedRound, IsSoundRound, IsPassed, tree_of}
use Rattle.bfs_passes.specs.declared.passes.Summary.{Summary}
use Rattle.bfs_passes.proofs.Counted.{nodes_counted, reach_long, followed_long}

module _ (v : Volume) (c : Claimed) (leads : List NodeLead) (found : List FoundIndex) (gone : IsGoneRound v c leads found) where
  abbrev visits : List Visit
  visits = gone.whole.top ∷ gone.whole.visits

  all_claimed : AreClaimed c (claimed v visits)
  all_claimed = subst (AreClaimed c) (same_claims v visits) gone.indices.claimed

  claimed_once : IsOnce (claimed v visits)
  claimed_once = once c (claimed v visits) all_claimed

  module _ (inside : (k : ℕ) → is_claimed c k ≡ true → k < c.blocks) (same : c.blocks ≡ v.geometry.blocks) where
    claimed_inside : (k : ℕ) → Has (claimed v visits) k → k < v.geometry.blocks
    claimed_inside k h = subst (λ (n : ℕ). k < n) same (inside k (is_there c (claimed v visits) all_claimed k h))

    nodes_inside : (k : ℕ) → Has (flat_map (node_blocks v) visits) k → k < v.geometry.blocks
    nodes_inside k h =
        let a = times_append k (system_blocks v ++ flat_map (node_blocks v) visits) (index_blocks v) in
        let b = times_append k (system_blocks v) (flat_map (node_blocks v) visits) in
        let there : Has ((system_blocks v ++ flat_map (node_blocks v) visits) ++ index_blocks v) k = omega (arith, a, b, h) in
        claimed_inside k (subst (λ (xs : List ℕ). Has xs k) (same_claims v visits) there)

    pub walked_whole : WalkStands v c → (at : ℕ) → at ≡ v.geometry.root → (found ≡ [] → v.geometry.indices ≡ 0) → IsWalkedWhole v at leads found gone.whole.top gone.whole.visits
    walked_whole stands at root some = record {
      nodes = record { root = root; touring = gone.whole.touring; followed = gone.whole.followed; inside = nodes_inside };
      indices = gone.indices.indices;
      standing = stands gone.nodes leads found gone.whole gone.indices some;
    }

  -- with the tour
  module _ (reaches : TourReaches) (tour : Toured v gone.whole.top gone.whole.visits (kinds_of found)) where
    same_blocks : (k : ℕ) → times k (reach v (tree_of v c leads found gone)) ≡ times k (claimed v visits)
    same_blocks k = reaches v gone.whole.top gone.whole.visits (kinds_of found) tour k

    long : length (reach v (tree_of v c leads found gone)) ≡ length (claimed v visits)
    long = reach_long v gone.whole.top gone.whole.visits (kinds_of found) tour.round.once

    pub reach_claimed : AreClaimed c (reach v (tree_of v c leads found gone))
    reach_claimed = record { each = λ k. same_blocks k ∙ all_claimed.each k; number = all_claimed.number ∙ sym long }

    pub reach_is_claimed : (k : ℕ) → Has (reach v (tree_of v c leads found gone)) k → Has (claimed v visits) k
    reach_is_claimed k h = subst (λ (n : ℕ). 0 < n) (same_blocks k) h

    pub nodes_number : length (entries (tree_of v c leads found gone).nodes) ≡ length leads + 1
    nodes_number =
        let a = nodes_counted visits tour.round.once in
        let b = followed_long gone.whole.visits leads gone.whole.followed in
        omega (arith, a, b)

-- the tour of a round whose indices are listed
pub listed_tour : WalkIsTour → (v : Volume) (c : Claimed) (leads : List NodeLead) (found : List FoundIndex) (l : IsListedRound v c leads found)
    → Toured v l.gone.whole.top l.gone.whole.visits (kinds_of found)
listed_tour tour v c leads found l = tour v (system_blocks v) l.gone.nodes c leads found l.gone.whole l.gone.indices l.some

-- the index directory has no row
pub rowless_told : RoundEnds → RoundIsUnbroken → (s : Super) (v : Volume) (c : Claimed) (leads : List NodeLead) → ((k : ℕ) → is_claimed c k ≡ true → k < c.blocks)
    → s.log_start ≡ s.log_end → c.blocks ≡ v.geometry.blocks → v.geometry.indices ≢ 0 → IsGoneRound v c leads [] → (name : List ℕ) (kind : KeyKind) → IsBuiltIn name kind → IsFindingOf s v (IndexMissing name)
rowless_told ends unbroken s v c leads inside log same some gone name kind built =
    let round : IsRound v gone.whole.top gone.whole.visits [] = ends v gone.whole.top gone.whole.visits [] gone.whole.touring gone.indices.directory gone.indices.kinds in
    IsFindingOf.in_directory log (unbroken v gone.whole.top gone.whole.visits [] round (claimed_once v c leads [] gone) (claimed_inside v c leads [] gone inside same))
    (rowless v _ c gone.indices some) name kind built refl

pub none_in : (found : List FoundIndex) → length found ≡ 0 → found ≡ []
none_in [] e = refl
none_in (i ∷ is) e = absurd (omega (arith, e))

-- the volume is passed, with so many nodes
pub passed : (s : Super) (v : Volume) (c : Claimed) (leads : List NodeLead) (found : List FoundIndex) → s.log_start ≡ s.log_end → IsSoundRound v c leads found → (summary : Summary)
    → summary.nodes ≡ length leads + 1 → summary.used ≡ c.count → IsPassed s v summary
passed s v c leads found log sound summary nodes used = record {
  emptied = log;
  tree = tree_of v c leads found sound.gone;
  sound = sound.sound;
  nodes = nodes ∙ sym sound.nodes;
  used = used ∙ sound.used;
}
