use Rattle.std.proofs.Common.{◌≡◌, ◌∙◌, ◌+◌, ◌++◌, ◌∷◌, ℕ, List, sym, ap, subst, drop, append-nil, slice_index_or}
use Rattle.std.proofs.lemmas.List.{drop_more, drop_all}
use Rattle.bfs_pages.proofs.Later.{later-twice}
use Rattle.bfs_index_check.specs.Compared.{pairs_of}
use Rattle.bfs_index_make.specs.Gathered.{AreNodes, pairs_at}
use Rattle.bfs_index_make.proofs.Gathers.{pairs_from}
use Rattle.bfs_index_make.proofs.gather.gather_nodes.Goals as goal

pub gather_node-requires-clause-node : goal.gather_node-requires-clause-node
gather_node-requires-clause-node g c m told =
    let i = c.loop-id.id-index in
    let split : drop i c.args.ids.now ≡ slice_index_or c.args.ids.now i 0 ∷ drop (i + 1) c.args.ids.now = drop_more c.args.ids.now i 0 c.loop-id-test.true in
    let h = c.requires.nodes m (sym c.loop-id.invariant.told ∙ told) in
    record { room = h.room; tree = h.tree; lists = h.lists; ready = h.ready; nodes = ((subst (AreNodes h.tree) split (c.loop-id.invariant.there h.tree h.nodes)).0, tt) }

pub returns-in-Err-clause-gathered : goal.returns-in-Err-clause-gathered
returns-in-Err-clause-gathered g c v m tree lists told ready are other =
    let i = c.loop-id.id-index in
    let split : drop i c.args.ids.now ≡ slice_index_or c.args.ids.now i 0 ∷ drop (i + 1) c.args.ids.now = drop_more c.args.ids.now i 0 c.loop-id-test.true in
    c.in-Err.ensures.gathered v m tree lists (c.loop-id.invariant.told ∙ told) ready (subst (AreNodes tree) split (c.loop-id.invariant.there tree are)).0 other

pub loop-id-preserved : goal.loop-id-preserved
loop-id-preserved g c =
    let i = c.loop-id.id-index in
    let ids = c.args.ids.now in
    let split : drop i ids ≡ slice_index_or ids i 0 ∷ drop (i + 1) ids = drop_more ids i 0 c.loop-id-test.true in
    record {
      told = c.gather_node.ensures.told ∙ c.loop-id.invariant.told;
      changed = c.gather_node.ensures.changed ∙ c.loop-id.invariant.changed;
      size = c.gather_node.ensures.size ∙ c.loop-id.invariant.size;
      frame = c.gather_node.ensures.frame ∙ c.loop-id.invariant.frame;
      later = later-twice c.loop-id.invariant.later c.gather_node.ensures.later;
      there = λ tree are. (subst (AreNodes tree) split (c.loop-id.invariant.there tree are)).1;
      rest = λ v m tree lists told ready are other.
          pairs_from tree c.args.name.now c.args.kind (pairs_of c.args.pairs.now.items) (pairs_of c.loop-id.pairs.items) (pairs_of c.gather_node.new.pairs.items) (pairs_at tree c.args.name.now c.args.kind ids) (slice_index_or ids i 0) (drop i ids) (drop (i + 1) ids) split
          (c.loop-id.invariant.rest v m tree lists told ready are other)
          (c.in-Ok.ensures.gathered v m tree lists (c.loop-id.invariant.told ∙ told) ready (subst (AreNodes tree) split (c.loop-id.invariant.there tree are)).0 other);
    }

pub returns-clause-gathered : goal.returns-clause-gathered
returns-clause-gathered g c v m tree lists told ready are other =
    sym (append-nil (pairs_of c.loop-id.pairs.items))
    ∙ sym (ap (λ (l : List ℕ). pairs_of c.loop-id.pairs.items ++ pairs_at tree c.args.name.now c.args.kind l) (drop_all c.loop-id.id-index c.args.ids.now c.loop-id-test.false))
    ∙ c.loop-id.invariant.rest v m tree lists told ready are other
