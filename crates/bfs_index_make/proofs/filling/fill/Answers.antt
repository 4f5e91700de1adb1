use Rattle.std.proofs.Common.{rules, ◌≡◌, ◌≤◌, ◌∙◌, ℕ, List, [], ◌∷◌, ◌++◌, Option, length, take, get_or, refl, sym, ap, subst, arith}
use Rattle.std.proofs.lemmas.List.{take_all}
use Rattle.bfs_super.specs.Geometry.{geometry_of}
use Rattle.bfs_super.specs.Conditions.{natural}
use Rattle.bfs_bitmap.specs.Runs.{Room}
use Rattle.bfs_pages.proofs.Later.{later-twice}
use Rattle.bfs_make.proofs.Telling.{told_back, one_map}
use Rattle.bfs_moves.proofs.Ends.{goes_on_same}
use Rattle.bfs_moves.proofs.Stepping.{stepped_twice}
use Rattle.bfs_index.specs.declared.found.Pair.{Pair}
use Rattle.bfs_index_check.specs.Compared.{pair_of, pairs_of}
use Rattle.bfs_shift.specs.Lists.{Lists, with_pairs}
use Rattle.bfs_shift.specs.Work.{IsAtWork, IsStepped}
use Rattle.bfs_index_make.proofs.NextPairs.{pairs_same, shown_long, next_pairs, next_pair}
use Rattle.bfs_index_make.proofs.filling.fill.Goals as goal

pub loop-i-init : goal.loop-i-init
loop-i-init g c =
    let v = c.args.bitmap.now in
    let old = g.E.Blocks.changed c.args.edits.now in
    record {
      rest = refl;
      stays = λ k h. h;
      size = refl;
      frame = refl;
      later = record { faults = omega arith; stops = refl; stop = refl };
      filled = λ m tree lists name told ready. record {
        map = m;
        is = told;
        work = subst (λ (l : Lists). IsAtWork (geometry_of c.args.sup.now) v m tree l []) (pairs_same lists name [] ready.none) ready.work;
        goes_on = goes_on_same (geometry_of c.args.sup.now) v m tree old;
      };
    }

pub list_next-requires-clause-index : goal.list_next-requires-clause-index
list_next-requires-clause-index g c n told =
    let before =
    told_back (g.E.Blocks.told c.args.edits.now) (g.E.Blocks.told c.loop-i.edits) (g.E.Blocks.frame c.args.edits.now).below (g.E.Blocks.frame c.loop-i.edits).below
    (g.met.E.Edits.tells c.args.edits.now) (g.met.E.Edits.tells c.loop-i.edits) (ap (λ f. f.below) c.loop-i.invariant.frame) n told in
    let h = c.requires.ready before.0 before.1 in
    let step = c.loop-i.invariant.filled before.0 h.tree h.lists h.name before.1 h.ready in
    let now = with_pairs h.lists h.name (take c.loop-i.i (pairs_of c.args.pairs.now)) in
    record {
      tree = h.tree;
      lists = now;
      loose = [];
      name = h.name;
      work = subst (λ (k : ℕ → Option (List ℕ)). IsAtWork (geometry_of c.args.sup.now) c.loop-i.bitmap k h.tree now []) (one_map (g.E.Blocks.told c.loop-i.edits) step.map n step.is told) step.work;
      row = h.ready.row;
      kind_is = h.ready.kind_is;
    }

pub returns-in-Err-clause-unanswered : goal.returns-in-Err-clause-unanswered
returns-in-Err-clause-unanswered g c m tree lists name told ready =
    let p : Pair = c.index-pairs-i.result in
    let item : p ≡ get_or c.args.pairs.now c.loop-i.i p = search rules in
    let step = c.loop-i.invariant.filled m tree lists name told ready in
    c.in-Err.ensures.unanswered step.map tree lists name (take c.loop-i.i (pairs_of c.args.pairs.now)) step.is step.work ready.row ready.kind_is
    (next_pair c.args.kind (natural c.args.sup.now.num_blocks) c.args.pairs.now c.loop-i.i p c.loop-i-test.true item ready.sorted ready.may)

pub loop-i-preserved : goal.loop-i-preserved
loop-i-preserved g c =
    let s = c.args.sup.now in
    let v = c.args.bitmap.now in
    let mid = c.loop-i.bitmap in
    let now = c.list_next.new.bitmap in
    let i = c.loop-i.i in
    let all = pairs_of c.args.pairs.now in
    let p : Pair = c.index-pairs-i.result in
    let item : p ≡ get_or c.args.pairs.now i p = search rules in
    record {
      rest = c.list_next.ensures.rest ∙ ap (λ (r : Room). record r { tally = now.tally }) c.loop-i.invariant.rest;
      stays = λ k h. c.list_next.ensures.stays k (c.loop-i.invariant.stays k h);
      size = c.list_next.ensures.size ∙ c.loop-i.invariant.size;
      frame = c.list_next.ensures.frame ∙ c.loop-i.invariant.frame;
      later = later-twice c.loop-i.invariant.later c.list_next.ensures.later;
      filled = λ m tree lists name told ready.
          let step = c.loop-i.invariant.filled m tree lists name told ready in
          let one = c.in-Ok.ensures.listed step.map tree lists name (take i all) step.is step.work ready.row ready.kind_is (next_pair c.args.kind (natural s.num_blocks) c.args.pairs.now i p c.loop-i-test.true item ready.sorted ready.may) in
          let told_now = g.E.Blocks.told c.list_next.new.edits in
          let c0 = g.E.Blocks.changed c.args.edits.now in
          let c2 = g.E.Blocks.changed c.list_next.new.edits in
          subst (λ (l : List (List ℕ × ℕ)). IsStepped (geometry_of s) v now m tree tree (with_pairs lists name l) [] told_now c0 c2) (sym (next_pairs c.args.kind (natural s.num_blocks) c.args.pairs.now i p c.loop-i-test.true item))
          (stepped_twice (geometry_of s) v mid now m tree tree tree (with_pairs lists name (take i all)) (with_pairs lists name (take i all ++ (pair_of p ∷ []))) [] [] (g.E.Blocks.told c.loop-i.edits) told_now c0 (g.E.Blocks.changed c.loop-i.edits) c2 step one);
    }

pub returns-clause-filled : goal.returns-clause-filled
returns-clause-filled g c m tree lists name told ready =
    let all = pairs_of c.args.pairs.now in
    let past : length c.args.pairs.now ≤ c.loop-i.i = omega arith in
    let long = shown_long c.args.pairs.now in
    let whole : take c.loop-i.i all ≡ all = take_all c.loop-i.i all (omega (arith, past, long)) in
    subst (λ (l : List (List ℕ × ℕ)). IsStepped (geometry_of c.args.sup.now) c.args.bitmap.now c.loop-i.bitmap m tree tree (with_pairs lists name l) [] (g.E.Blocks.told c.loop-i.edits) (g.E.Blocks.changed c.args.edits.now) (g.E.Blocks.changed c.loop-i.edits)) whole
    (c.loop-i.invariant.filled m tree lists name told ready)
