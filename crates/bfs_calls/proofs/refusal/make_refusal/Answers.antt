use Rattle.std.proofs.Common.{◌≡◌, ◌∙◌, Bool, true, false, refl, sym, ap, subst}
use Rattle.std.proofs.lemmas.Bool.{lt-ltb, le-ltb}
use Rattle.std.specs.Prelude.{◌||◌, nat_lt}
use Rattle.std.specs.FinMap.{get}
use Rattle.bfs_super.specs.Geometry.{geometry_of}
use Rattle.bfs_tree.specs.Names.{is_bad_name, is_bad_target}
use Rattle.bfs_tree.specs.Trees.{IsNode, is_dir}
use Rattle.bfs_look.specs.Ready.{IsReady, IsKindOf, HasReady}
use Rattle.bfs_calls.proofs.Refusing.{no_node, no_dir, bad_name, too_long, by_child, looked_up}
use Rattle.bfs_calls.proofs.refusal.make_refusal.Goals as goal
use Rattle.bfs_calls.proofs.refusal.make_refusal.Goals.{then-is_bad_name-via-then-is_bad_name, then-is_bad_name-via-else-is_bad_name+then-is_bad_target}

pub returns-in-Err-clause-refused : goal.returns-in-Err-clause-refused
returns-in-Err-clause-refused g c m tree lists s mode told ready same = c.in-Err.ensures.found m tree lists told ready

pub returns-in-None-clause-refused : goal.returns-in-None-clause-refused
returns-in-None-clause-refused g c m tree lists s mode told ready same =
    let none = subst (IsKindOf tree c.args.dir) c.in-None.is (c.in-Ok.ensures.found m tree lists told ready) in
    sym (no_node s c.args.dir c.args.name.now c.args.kind.now mode (ap (λ t. get t.nodes c.args.dir) same ∙ none))

pub returns-then-not-is_dir-clause-refused : goal.returns-then-not-is_dir-clause-refused
returns-then-not-is_dir-clause-refused g c m tree lists s mode told ready same =
    let n = subst (IsKindOf tree c.args.dir) c.in-Some.is (c.in-Ok.ensures.found m tree lists told ready) in
    sym (no_dir s c.args.dir c.args.name.now c.args.kind.now mode n.0 (subst (λ t. IsNode t c.args.dir n.0) (sym same) n.1) (ap is_dir n.2 ∙ sym c.is_dir.ensures ∙ c.if-not-is_dir.true))

pub returns-then-is_bad_name-clause-refused : goal.returns-then-is_bad_name-clause-refused
returns-then-is_bad_name-clause-refused g c m tree lists s mode told ready same =
    let n = subst (IsKindOf tree c.args.dir) c.in-Some.is (c.in-Ok.ensures.found m tree lists told ready) in
    let bad : (is_bad_name c.args.name.now || is_bad_target c.args.kind.now) ≡ true = elim c.then-is_bad_name.branch [
      | then-is_bad_name-via-then-is_bad_name w ↦ first (is_bad_name c.args.name.now) (is_bad_target c.args.kind.now) (sym c.is_bad_name.ensures ∙ w.if-is_bad_name.true)
      | then-is_bad_name-via-else-is_bad_name+then-is_bad_target w ↦ second (is_bad_name c.args.name.now) (is_bad_target c.args.kind.now) (sym w.is_bad_target.ensures ∙ w.if-is_bad_target.true)
    ] in
    sym (bad_name s c.args.dir c.args.name.now c.args.kind.now mode n.0 (subst (λ t. IsNode t c.args.dir n.0) (sym same) n.1) (ap is_dir n.2 ∙ sym c.is_dir.ensures ∙ c.if-not-is_dir.false) bad)
  where
    first : (a b : Bool) → a ≡ true → (a || b) ≡ true
    first true b e = refl
    first false b e = absurd cc

    second : (a b : Bool) → b ≡ true → (a || b) ≡ true
    second true b e = refl
    second false b e = e

pub returns-then-target_len-gt1024-clause-refused : goal.returns-then-target_len-gt1024-clause-refused
returns-then-target_len-gt1024-clause-refused g c m tree lists s mode told ready same =
    let n = subst (IsKindOf tree c.args.dir) c.in-Some.is (c.in-Ok.ensures.found m tree lists told ready) in
    sym (too_long s c.args.dir c.args.name.now c.args.kind.now mode n.0 (subst (λ t. IsNode t c.args.dir n.0) (sym same) n.1) (ap is_dir n.2 ∙ sym c.is_dir.ensures ∙ c.if-not-is_dir.false)
    (neither (is_bad_name c.args.name.now) (is_bad_target c.args.kind.now) (sym c.is_bad_name.ensures ∙ c.if-is_bad_name.false) (sym c.is_bad_target.ensures ∙ c.if-is_bad_target.false))
    (subst (λ k. nat_lt 1024 k ≡ true) c.target_len.ensures (lt-ltb 1024 c.target_len.result c.if-target_len-gt1024.true)))
  where
    neither : (a b : Bool) → a ≡ false → b ≡ false → (a || b) ≡ false
    neither a b one two = ap (λ x. x || b) one ∙ two

pub lookup-requires-clause-ready : goal.lookup-requires-clause-ready
lookup-requires-clause-ready g c m told =
    subst (λ v. HasReady (geometry_of c.args.sup.now) v m) (sym c.in-Ok.ensures.bitmap) (c.requires.ready m (sym c.in-Ok.ensures.told ∙ told))

pub returns-in-Ok-lookup-clause-refused : goal.returns-in-Ok-lookup-clause-refused
returns-in-Ok-lookup-clause-refused g c m tree lists s mode told ready same =
    let n = subst (IsKindOf tree c.args.dir) c.in-Some.is (c.in-Ok.ensures.found m tree lists told ready) in
    let is = subst (λ t. IsNode t c.args.dir n.0) (sym same) n.1 in
    let isdir = ap is_dir n.2 ∙ sym c.is_dir.ensures ∙ c.if-not-is_dir.false in
    let r = subst (λ v. IsReady (geometry_of c.args.sup.now) v m tree lists) (sym c.in-Ok.ensures.bitmap) ready in
    let reads = c.in-Ok-lookup.ensures.reads m tree lists s (c.in-Ok.ensures.told ∙ told) r same in
    c.refusal_by.ensures.reply ∙ looked_up s c.args.dir c.args.name.now c.args.kind.now mode n.0 is isdir c.in-Ok-lookup.found reads
    ∙ sym (by_child s c.args.dir c.args.name.now c.args.kind.now mode n.0 is isdir
    (neither (is_bad_name c.args.name.now) (is_bad_target c.args.kind.now) (sym c.is_bad_name.ensures ∙ c.if-is_bad_name.false) (sym c.is_bad_target.ensures ∙ c.if-is_bad_target.false))
    (subst (λ k. nat_lt 1024 k ≡ false) c.target_len.ensures (le-ltb 1024 c.target_len.result c.if-target_len-gt1024.false)))
  where
    neither : (a b : Bool) → a ≡ false → b ≡ false → (a || b) ≡ false
    neither a b one two = ap (λ x. x || b) one ∙ two

pub returns-in-Err-lookup-clause-refused : goal.returns-in-Err-lookup-clause-refused
returns-in-Err-lookup-clause-refused g c m tree lists s mode told ready same =
    c.in-Err-lookup.ensures.reads m tree lists s (c.in-Ok.ensures.told ∙ told) (subst (λ v. IsReady (geometry_of c.args.sup.now) v m tree lists) (sym c.in-Ok.ensures.bitmap) ready) same
