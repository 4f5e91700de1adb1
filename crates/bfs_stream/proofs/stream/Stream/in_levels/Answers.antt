use Rattle.std.proofs.Common.{◌≡◌, ◌<◌, ◌≤◌, ◌+◌, ◌-◌, ◌∙◌, ℕ, List, length, inl, refl, ap, sym, subst, arith, Option, Some, None, true, false}
use Rattle.std.specs.Prelude.{slice_get, All}
use Rattle.std.specs.List.{flat_map}
use Rattle.std.proofs.lemmas.Result.{IfOk-weaker, IfErr-weaker}
use Rattle.bfs_bytes.specs.declared.Run.{Run}
use Rattle.bfs_inode.specs.Inode.{stream_at}
use Rattle.bfs_stream.specs.Sizes.{Origin, HasSizes, IsInVolume, IsWhole}
use Rattle.bfs_stream.specs.Places.{fields, places_at, used_runs, array_runs, run_blocks}
use Rattle.bfs_stream.proofs.Named.{direct_blocks, indirect_blocks, double_blocks}
use Rattle.bfs_stream.specs.Told.{contents, AreTold, Stands}
use Rattle.bfs_stream.specs.Scans.{ends_of, last_end, block_in, HasDouble, HasEnded, IsDamage}
use Rattle.bfs_stream.specs.declared.lookup.Ends.{Ends}
use Rattle.bfs_stream.proofs.Placed.{AreEnds, ends_are, places_direct, places_indirect, places_double, direct_some, indirect_some, in_indirect, in_double, told_indirect, has_double, holds_indirect, holds_double}
use Rattle.bfs_stream.proofs.Blames.{one_blamed, inode_blamed, astray_direct, astray_indirect, astray_double, level_damaged, level_blamed, double_damaged, double_blamed}
use Rattle.bfs_stream.proofs.stream.Stream.in_levels.Goals as goal

-- what the ranges that were read say of the levels
ends_read : (o : Origin) (m : ℕ → Option (List ℕ)) (bytes : List ℕ) (ends : Ends) → HasSizes o.sizes → Stands o m → bytes ≡ contents m o.id → ends ≡ ends_of o.sizes (stream_at bytes)
    → AreEnds o.sizes (contents m) o.id ends.direct ends.indirect ends.double
ends_read o m bytes ends sizes stands same is =
    let here : ends ≡ ends_of o.sizes (fields o.sizes (contents m) o.id) = is ∙ ap (λ (l : List ℕ). ends_of o.sizes (stream_at l)) same in
    subst (λ (x : Ends). AreEnds o.sizes (contents m) o.id x.direct x.indirect x.double) (sym here) (ends_are o.sizes (contents m) o.id sizes stands.sound)

pub returns-then-place-ends-clause-found : goal.returns-then-place-ends-clause-found
returns-then-place-ends-clause-found g c m is stands same =
    let o = c.args.self.now in
    let are = ends_read o m c.args.inode.now c.args.ends c.sizes.ensures.sizes stands same c.requires.ends in
    let low : c.args.place < length (direct_blocks o.sizes (contents m) o.id) = let e = are.direct in omega (arith, e) in
    IfOk-weaker c.in_direct.result (λ block. block_in o.sizes (stream_at c.args.inode.now).direct c.args.place ≡ Some block) (λ block. slice_get (places_at o.sizes (contents m) o.id) c.args.place ≡ Some block)
    (λ block found. places_direct o.sizes (contents m) o.id c.args.place low ∙ ap (λ (l : List ℕ). block_in o.sizes (stream_at l).direct c.args.place) (sym same) ∙ found) c.in_direct.ensures.found

pub returns-then-place-ends-clause-sound : goal.returns-then-place-ends-clause-sound
returns-then-place-ends-clause-sound g c m is stands same =
    let o = c.args.self.now in
    let are = ends_read o m c.args.inode.now c.args.ends c.sizes.ensures.sizes stands same c.requires.ends in
    let low : c.args.place < length (direct_blocks o.sizes (contents m) o.id) = let e = are.direct in omega (arith, e) in
    let all : All (IsInVolume o.sizes) (used_runs (stream_at c.args.inode.now).direct) = subst (λ (l : List ℕ). All (IsInVolume o.sizes) (used_runs (stream_at l).direct)) (sym same) stands.sound.direct in
    IfErr-weaker c.in_direct.result (λ fault. block_in o.sizes (stream_at c.args.inode.now).direct c.args.place ≡ None) (λ fault. ¬ IsDamage fault)
    (λ fault none t. direct_some o.sizes (contents m) o.id c.args.place low (ap (λ (l : List ℕ). block_in o.sizes (stream_at l).direct c.args.place) (sym same) ∙ none)) (c.in_direct.ensures.none all)

-- the indirect level has the place
module _ (o : Origin) (m : ℕ → Option (List ℕ)) (bytes : List ℕ) (place d i x : ℕ) (array : Run) (same : bytes ≡ contents m o.id) (are : AreEnds o.sizes (contents m) o.id d i x) (low : d ≤ place) (is : array ≡ (stream_at bytes).indirect) where
  here : array ≡ (fields o.sizes (contents m) o.id).indirect
  here = is ∙ ap (λ (l : List ℕ). (stream_at l).indirect) same

  high : place < i → place < length (direct_blocks o.sizes (contents m) o.id) + length (indirect_blocks o.sizes (contents m) o.id)
  high h = in_indirect i (length (direct_blocks o.sizes (contents m) o.id)) (length (indirect_blocks o.sizes (contents m) o.id)) place are.indirect h

  held : Stands o m → place < i → IsInVolume o.sizes array
  held stands h = subst (IsInVolume o.sizes) (sym here) (holds_indirect m o stands (let e = are.direct in let g = high h in omega (arith, e, g)))

  told_array : Stands o m → AreTold m (run_blocks o.sizes array)
  told_array stands = subst (λ (r : Run). AreTold m (run_blocks o.sizes r)) (sym here) (told_indirect m o stands)

  all_in : Stands o m → All (IsInVolume o.sizes) (used_runs (array_runs o.sizes (contents m) array))
  all_in stands = subst (λ (r : Run). All (IsInVolume o.sizes) (used_runs (array_runs o.sizes (contents m) r))) (sym here) stands.sound.in_indirect

  place_is : place < i → slice_get (places_at o.sizes (contents m) o.id) place ≡ block_in o.sizes (array_runs o.sizes (contents m) array) (place - d)
  place_is h =
      places_indirect o.sizes (contents m) o.id place (let e = are.direct in omega (arith, e)) (high h)
      ∙ ap (λ (r : Run). block_in o.sizes (array_runs o.sizes (contents m) r) (place - length (direct_blocks o.sizes (contents m) o.id))) (sym here)
      ∙ ap (λ (n : ℕ). block_in o.sizes (array_runs o.sizes (contents m) array) (place - n)) (sym are.direct)

  never : place < i → block_in o.sizes (array_runs o.sizes (contents m) array) (place - d) ≡ None → ⊥
  never h none =
      indirect_some o.sizes (contents m) o.id (place - length (direct_blocks o.sizes (contents m) o.id)) (let e = are.direct in let g = high h in omega (arith, e, g))
      (ap (λ (r : Run). block_in o.sizes (array_runs o.sizes (contents m) r) (place - length (direct_blocks o.sizes (contents m) o.id))) (sym here)
      ∙ ap (λ (n : ℕ). block_in o.sizes (array_runs o.sizes (contents m) array) (place - n)) (sym are.direct) ∙ none)

pub returns-then-not-holds-clause-sound : goal.returns-then-not-holds-clause-sound
returns-then-not-holds-clause-sound g c m is stands same t =
    let o = c.args.self.now in
    let are = ends_read o m c.args.inode.now c.args.ends c.sizes.ensures.sizes stands same c.requires.ends in
    let ends = c.args.ends in
    let array = c.indirect-array.ensures ∙ ap (λ (l : List ℕ). (stream_at l).indirect) c.over.ensures in
    let bad : false ≡ true = c.if-not-holds.ensures.1 (held o m c.args.inode.now c.args.place ends.direct ends.indirect ends.double c.indirect-array.result same are c.if-place-ends.false array stands c.if-place-ends-2.true) in cc

pub returns-then-place-ends-2-clause-found : goal.returns-then-place-ends-2-clause-found
returns-then-place-ends-2-clause-found g c m is stands same =
    let o = c.args.self.now in
    let are = ends_read o m c.args.inode.now c.args.ends c.sizes.ensures.sizes stands same c.requires.ends in
    let ends = c.args.ends in
    let array = c.indirect-array.ensures ∙ ap (λ (l : List ℕ). (stream_at l).indirect) c.over.ensures in
    IfOk-weaker c.in_array.result (λ block. block_in o.sizes (array_runs o.sizes (contents m) c.indirect-array.result) (c.args.place - ends.direct) ≡ Some block) (λ block. slice_get (places_at o.sizes (contents m) o.id) c.args.place ≡ Some block)
    (λ block found. place_is o m c.args.inode.now c.args.place ends.direct ends.indirect ends.double c.indirect-array.result same are c.if-place-ends.false array c.if-place-ends-2.true ∙ found)
    (c.in_array.ensures.found m is (told_array o m c.args.inode.now c.args.place ends.direct ends.indirect ends.double c.indirect-array.result same are c.if-place-ends.false array stands))

pub returns-then-place-ends-2-clause-sound : goal.returns-then-place-ends-2-clause-sound
returns-then-place-ends-2-clause-sound g c m is stands same =
    let o = c.args.self.now in
    let are = ends_read o m c.args.inode.now c.args.ends c.sizes.ensures.sizes stands same c.requires.ends in
    let ends = c.args.ends in
    let array = c.indirect-array.ensures ∙ ap (λ (l : List ℕ). (stream_at l).indirect) c.over.ensures in
    IfErr-weaker c.in_array.result (λ fault. IsDamage fault → block_in o.sizes (array_runs o.sizes (contents m) c.indirect-array.result) (c.args.place - ends.direct) ≡ None) (λ fault. ¬ IsDamage fault)
    (λ fault none t. never o m c.args.inode.now c.args.place ends.direct ends.indirect ends.double c.indirect-array.result same are c.if-place-ends.false array c.if-place-ends-2.true (none t))
    (c.in_array.ensures.none m is (told_array o m c.args.inode.now c.args.place ends.direct ends.indirect ends.double c.indirect-array.result same are c.if-place-ends.false array stands)
    (all_in o m c.args.inode.now c.args.place ends.direct ends.indirect ends.double c.indirect-array.result same are c.if-place-ends.false array stands))

-- the double indirect level has the place
module _ (o : Origin) (m : ℕ → Option (List ℕ)) (bytes : List ℕ) (place : ℕ) (ends : Ends) (array : Run) (sizes : HasSizes o.sizes) (stands : Stands o m) (same : bytes ≡ contents m o.id) (is_ends : ends ≡ ends_of o.sizes (stream_at bytes))
    (inside : place < last_end (ends_of o.sizes (stream_at bytes))) (low : ends.direct ≤ place) (mid : ends.indirect ≤ place) (is : array ≡ (stream_at bytes).double_indirect) where
  two : array ≡ (fields o.sizes (contents m) o.id).double_indirect
  two = is ∙ ap (λ (l : List ℕ). (stream_at l).double_indirect) same

  within : (ends.indirect ≡ length (direct_blocks o.sizes (contents m) o.id) + length (indirect_blocks o.sizes (contents m) o.id))
      × (place < length (direct_blocks o.sizes (contents m) o.id) + length (indirect_blocks o.sizes (contents m) o.id) + length (double_blocks o.sizes (contents m) o.id))
      × (length (direct_blocks o.sizes (contents m) o.id) + length (indirect_blocks o.sizes (contents m) o.id) ≤ place)
  within =
      let are = ends_read o m bytes ends sizes stands same is_ends in
      in_double ends.direct ends.indirect ends.double (length (direct_blocks o.sizes (contents m) o.id)) (length (indirect_blocks o.sizes (contents m) o.id)) (length (double_blocks o.sizes (contents m) o.id)) place are.direct are.indirect are.double are.order low mid
      (subst (λ (x : Ends). place < last_end x) (sym is_ends) inside)

  whole_array : IsWhole o.sizes array
  whole_array = subst (IsWhole o.sizes) (sym two) (holds_double m o stands (let a = within.1 in let b = within.2 in omega (arith, a, b)))

  double_has : HasDouble o.sizes m array (place - ends.indirect)
  double_has =
      subst (λ (r : Run). HasDouble o.sizes m r (place - ends.indirect)) (sym two)
      (subst (λ (n : ℕ). HasDouble o.sizes m (fields o.sizes (contents m) o.id).double_indirect (place - n)) (sym within.0)
      (has_double m o stands (place - (length (direct_blocks o.sizes (contents m) o.id) + length (indirect_blocks o.sizes (contents m) o.id))) (let a = within.1 in let b = within.2 in omega (arith, a, b))))

  double_place : slice_get (places_at o.sizes (contents m) o.id) place ≡ block_in o.sizes (flat_map (array_runs o.sizes (contents m)) (used_runs (array_runs o.sizes (contents m) array))) (place - ends.indirect)
  double_place =
      places_double o.sizes (contents m) o.id place within.2
      ∙ ap (λ (r : Run). block_in o.sizes (flat_map (array_runs o.sizes (contents m)) (used_runs (array_runs o.sizes (contents m) r))) (place - (length (direct_blocks o.sizes (contents m) o.id) + length (indirect_blocks o.sizes (contents m) o.id)))) (sym two)
      ∙ ap (λ (n : ℕ). block_in o.sizes (flat_map (array_runs o.sizes (contents m)) (used_runs (array_runs o.sizes (contents m) array))) (place - n)) (sym within.0)

pub returns-then-not-is_whole-clause-sound : goal.returns-then-not-is_whole-clause-sound
returns-then-not-is_whole-clause-sound g c m is stands same t =
    let array = c.double_indirect-array.ensures ∙ ap (λ (l : List ℕ). (stream_at l).double_indirect) c.over-2.ensures in
    let bad : false ≡ true = c.if-not-is_whole.ensures.1 (whole_array c.args.self.now m c.args.inode.now c.args.place c.args.ends c.double_indirect-array.result c.sizes.ensures.sizes stands same c.requires.ends c.requires.inside c.if-place-ends.false c.if-place-ends-2.false array) in cc

pub returns-clause-found : goal.returns-clause-found
returns-clause-found g c m is stands same =
    let o = c.args.self.now in
    let array = c.double_indirect-array.ensures ∙ ap (λ (l : List ℕ). (stream_at l).double_indirect) c.over-2.ensures in
    let runs : List Run = flat_map (array_runs o.sizes (contents m)) (used_runs (array_runs o.sizes (contents m) c.double_indirect-array.result)) in
    IfOk-weaker c.in_double.result (λ block. block_in o.sizes runs (c.args.place - c.args.ends.indirect) ≡ Some block) (λ block. slice_get (places_at o.sizes (contents m) o.id) c.args.place ≡ Some block)
    (λ block found. double_place o m c.args.inode.now c.args.place c.args.ends c.double_indirect-array.result c.sizes.ensures.sizes stands same c.requires.ends c.requires.inside c.if-place-ends.false c.if-place-ends-2.false array ∙ found)
    (c.in_double.ensures.found m is (double_has o m c.args.inode.now c.args.place c.args.ends c.double_indirect-array.result c.sizes.ensures.sizes stands same c.requires.ends c.requires.inside c.if-place-ends.false c.if-place-ends-2.false array))

pub returns-clause-sound : goal.returns-clause-sound
returns-clause-sound g c m is stands same =
    let o = c.args.self.now in
    let array = c.double_indirect-array.ensures ∙ ap (λ (l : List ℕ). (stream_at l).double_indirect) c.over-2.ensures in
    c.in_double.ensures.sound m is (double_has o m c.args.inode.now c.args.place c.args.ends c.double_indirect-array.result c.sizes.ensures.sizes stands same c.requires.ends c.requires.inside c.if-place-ends.false c.if-place-ends-2.false array)

-- who is blamed
pub returns-then-place-ends-clause-damaged : goal.returns-then-place-ends-clause-damaged
returns-then-place-ends-clause-damaged g c m is =
    let o = c.args.self.now in
    one_blamed c.in_direct.result o.id (HasEnded o.sizes (stream_at c.args.inode.now).direct c.args.place) _
    (λ ended. inl (refl, astray_direct o.sizes o.id c.args.inode.now c.args.place c.args.ends c.requires.ends c.if-place-ends.true ended)) c.in_direct.ensures.fault c.in_direct.ensures.ended

pub returns-then-place-ends-clause-blamed : goal.returns-then-place-ends-clause-blamed
returns-then-place-ends-clause-blamed g c last =
    let o = c.args.self.now in
    one_blamed c.in_direct.result o.id (HasEnded o.sizes (stream_at c.args.inode.now).direct c.args.place) _
    (λ ended. inode_blamed o.sizes o.id c.args.inode.now c.args.place c.args.ends c.requires.ends (g.B.Blocks.last c.args.under.now) o.id refl last (astray_direct o.sizes o.id c.args.inode.now c.args.place c.args.ends c.requires.ends c.if-place-ends.true ended))
    c.in_direct.ensures.fault c.in_direct.ensures.ended

pub returns-then-not-holds-clause-damaged : goal.returns-then-not-holds-clause-damaged
returns-then-not-holds-clause-damaged g c m is =
    let o = c.args.self.now in
    let id : c.self.inside.inode ≡ o.id = ap (λ (x : Origin). x.id) c.self.view_is in
    let array = c.indirect-array.ensures ∙ ap (λ (l : List ℕ). (stream_at l).indirect) c.over.ensures in
    inl (id, astray_indirect o.sizes o.id c.args.inode.now c.args.place c.args.ends c.requires.ends c.indirect-array.result array c.if-place-ends.false c.if-place-ends-2.true (λ inside. let bad : false ≡ true = c.if-not-holds.ensures.1 inside in cc))

pub returns-then-not-holds-clause-blamed : goal.returns-then-not-holds-clause-blamed
returns-then-not-holds-clause-blamed g c last =
    let o = c.args.self.now in
    let id : c.self.inside.inode ≡ o.id = ap (λ (x : Origin). x.id) c.self.view_is in
    let array = c.indirect-array.ensures ∙ ap (λ (l : List ℕ). (stream_at l).indirect) c.over.ensures in
    inode_blamed o.sizes o.id c.args.inode.now c.args.place c.args.ends c.requires.ends (g.B.Blocks.last c.args.under.now) c.self.inside.inode id last
    (astray_indirect o.sizes o.id c.args.inode.now c.args.place c.args.ends c.requires.ends c.indirect-array.result array c.if-place-ends.false c.if-place-ends-2.true (λ inside. let bad : false ≡ true = c.if-not-holds.ensures.1 inside in cc))

pub returns-then-place-ends-2-clause-damaged : goal.returns-then-place-ends-2-clause-damaged
returns-then-place-ends-2-clause-damaged g c m is =
    let o = c.args.self.now in
    let array = c.indirect-array.ensures ∙ ap (λ (l : List ℕ). (stream_at l).indirect) c.over.ensures in
    level_damaged o.sizes o.id c.args.inode.now c.args.place c.args.ends c.requires.ends c.indirect-array.result array c.if-place-ends.false c.if-place-ends-2.true (c.if-not-holds.ensures.0 refl) m c.in_array.result (c.in_array.ensures.damaged m is)

pub returns-then-place-ends-2-clause-blamed : goal.returns-then-place-ends-2-clause-blamed
returns-then-place-ends-2-clause-blamed g c last =
    let o = c.args.self.now in
    let array = c.indirect-array.ensures ∙ ap (λ (l : List ℕ). (stream_at l).indirect) c.over.ensures in
    level_blamed o.sizes o.id c.args.inode.now c.args.place c.args.ends c.requires.ends c.indirect-array.result array c.if-place-ends.false c.if-place-ends-2.true (c.if-not-holds.ensures.0 refl) (g.B.Blocks.last c.in_array.new.under) c.in_array.result c.in_array.ensures.blamed

pub returns-then-not-is_whole-clause-damaged : goal.returns-then-not-is_whole-clause-damaged
returns-then-not-is_whole-clause-damaged g c m is =
    let o = c.args.self.now in
    let id : c.self.inside.inode ≡ o.id = ap (λ (x : Origin). x.id) c.self.view_is in
    let array = c.double_indirect-array.ensures ∙ ap (λ (l : List ℕ). (stream_at l).double_indirect) c.over-2.ensures in
    inl (id, astray_double o.sizes o.id c.args.inode.now c.args.place c.args.ends c.requires.ends c.double_indirect-array.result array c.if-place-ends.false c.if-place-ends-2.false c.requires.inside (λ whole. let bad : false ≡ true = c.if-not-is_whole.ensures.1 whole in cc))

pub returns-then-not-is_whole-clause-blamed : goal.returns-then-not-is_whole-clause-blamed
returns-then-not-is_whole-clause-blamed g c last =
    let o = c.args.self.now in
    let id : c.self.inside.inode ≡ o.id = ap (λ (x : Origin). x.id) c.self.view_is in
    let array = c.double_indirect-array.ensures ∙ ap (λ (l : List ℕ). (stream_at l).double_indirect) c.over-2.ensures in
    inode_blamed o.sizes o.id c.args.inode.now c.args.place c.args.ends c.requires.ends (g.B.Blocks.last c.args.under.now) c.self.inside.inode id last
    (astray_double o.sizes o.id c.args.inode.now c.args.place c.args.ends c.requires.ends c.double_indirect-array.result array c.if-place-ends.false c.if-place-ends-2.false c.requires.inside (λ whole. let bad : false ≡ true = c.if-not-is_whole.ensures.1 whole in cc))

pub returns-clause-damaged : goal.returns-clause-damaged
returns-clause-damaged g c m is =
    let o = c.args.self.now in
    let array = c.double_indirect-array.ensures ∙ ap (λ (l : List ℕ). (stream_at l).double_indirect) c.over-2.ensures in
    double_damaged o.sizes o.id c.args.inode.now c.args.place c.args.ends c.requires.ends c.double_indirect-array.result array c.if-place-ends.false c.if-place-ends-2.false c.requires.inside (c.if-not-is_whole.ensures.0 refl) m c.in_double.result (c.in_double.ensures.damaged m is)

pub returns-clause-blamed : goal.returns-clause-blamed
returns-clause-blamed g c last =
    let o = c.args.self.now in
    let array = c.double_indirect-array.ensures ∙ ap (λ (l : List ℕ). (stream_at l).double_indirect) c.over-2.ensures in
    double_blamed o.sizes o.id c.args.inode.now c.args.place c.args.ends c.requires.ends c.double_indirect-array.result array c.if-place-ends.false c.if-place-ends-2.false c.requires.inside (c.if-not-is_whole.ensures.0 refl) (g.B.Blocks.last c.args.under.now) (g.B.Blocks.last c.in_double.new.under) c.in_double.result last c.in_double.ensures.blamed
