-- Why a stream did not grow.
use Rattle.std.proofs.Common.{◌≡◌, ◌≤◌, ◌<◌, ◌+◌, ◌∙◌, ◌⊎◌, ℕ, List, [], length, Bool, true, inl, Option, Some, refl, sym, ap, subst, arith}
use Rattle.std.specs.Prelude.{Result, IfErr}
use Rattle.std.proofs.lemmas.Result.{IfErr-weaker}
use Rattle.bfs_bitmap.specs.Runs.{Room, HasNoRun}
use Rattle.bfs_stream.specs.Sizes.{Origin, array_length}
use Rattle.bfs_stream.specs.Told.{contents}
use Rattle.bfs_stream.specs.Grown.{Owns, HasGrown, room_at}
use Rattle.bfs_stream.specs.Faults.{IsNoRunFor, IsStepFault, IsGrowFault}
use Rattle.bfs_stream.specs.declared.fault.GrowFault.{GrowFault}
use Rattle.bfs_stream.specs.declared.fault.GrowFault.TheVariants.{NoRun, Full, Block}
use Rattle.bfs_growth.proofs.Twice.{IsGrownSo, has_grown_none, has_grown_twice}

-- the same growth, where each block had been changed before
abbrev overwritten : (o : Origin) (v now : Room) (m : ℕ → Option (List ℕ)) (n : ℕ) (told : Option (ℕ → Option (List ℕ))) (c0 c1 : ℕ → Bool) → HasGrown o v now m n told c0 c1 → HasGrown o v now m n told (λ k. true) (λ k. true)
overwritten o v now m n told c0 c1 grown =
    let g = grown.2 in (
      grown.0,
      grown.1,
      record {
        map = g.map;
        is = g.is;
        owns = g.owns;
        places = g.places;
        keeps = g.keeps;
        were_free = g.were_free;
        free = g.free;
        marks = g.marks;
        counted = g.counted;
        kept = g.kept;
        room = g.room;
        others = g.others;
        first = g.first;
        written = λ k t. inl t;
        bits = λ k t. inl t;
        stays = λ k t. t;
        entered = λ k has none. refl;
      },
    )

pub step_none : (o : Origin) (v : Room) (m : ℕ → Option (List ℕ)) (wanted : ℕ) (fault : GrowFault) → Owns o v [] m → (wanted ≡ 1) ⊎ (wanted ≡ array_length o.sizes) → IsNoRunFor v m wanted fault → IsStepFault o v m fault
step_none o v m wanted (NoRun asked free) owns want lacks = record {
  now = v;
  rest = refl;
  map = m;
  old = λ k. true;
  new = λ k. true;
  grown = has_grown_none o v m (Some m) (λ k. true) (λ k. true) owns refl refl;
  wanted = subst (λ (n : ℕ). (n ≡ 1) ⊎ (n ≡ array_length o.sizes)) (sym lacks.0) want;
  none = subst (λ (n : ℕ). HasNoRun v m n free) (sym lacks.0) lacks.1;
}
step_none o v m wanted (Full room) owns want lacks = absurd lacks
step_none o v m wanted (Block fault) owns want lacks = lacks

-- a step that stops after an array was added
pub step_after : (o : Origin) (v now : Room) (m : ℕ → Option (List ℕ)) (told1 : Option (ℕ → Option (List ℕ))) (c0 c1 : ℕ → Bool) (one : HasGrown o v now m 0 told1 c0 c1) → now ≡ record v { tally = now.tally } → (fault : GrowFault) → IsStepFault o now one.2.map fault → IsStepFault o v m fault
step_after o v now m told1 c0 c1 one rest (NoRun asked free) stuck = record {
  now = stuck.now;
  rest = stuck.rest ∙ ap (λ (x : Room). record x { tally = stuck.now.tally }) rest;
  map = stuck.map;
  old = λ k. true;
  new = λ k. true;
  grown = has_grown_twice o v now stuck.now m 0 0 told1 (Some stuck.map) (λ k. true) (λ k. true) (λ k. true) (overwritten o v now m 0 told1 c0 c1 one) rest (overwritten o now stuck.now one.2.map 0 (Some stuck.map) stuck.old stuck.new stuck.grown);
  wanted = stuck.wanted;
  none = stuck.none;
}
step_after o v now m told1 c0 c1 one rest (Full room) full =
    let e : room_at o.sizes (contents one.2.map) o.id ≡ 0 = full in
    let le = one.2.room in
    let none = one.1 in
    let z : room_at o.sizes (contents m) o.id ≡ 0 = by_numbers (room_at o.sizes (contents m) o.id) (room_at o.sizes (contents one.2.map) o.id) (length one.0) le none e in z
  where
    by_numbers : (a b n : ℕ) → a ≤ b + n → n ≡ 0 → b ≡ 0 → a ≡ 0
    by_numbers a b n le none e = omega (arith, le, none, e)
step_after o v now m told1 c0 c1 one rest (Block fault) sound = sound

pub stop_after : {T : Type 0} (o : Origin) (v now : Room) (m : ℕ → Option (List ℕ)) (told1 : Option (ℕ → Option (List ℕ))) (c0 c1 : ℕ → Bool) (one : HasGrown o v now m 0 told1 c0 c1) → now ≡ record v { tally = now.tally } → (r : Result T GrowFault) → IfErr r (IsStepFault o now one.2.map)
    → IfErr r (IsStepFault o v m)
stop_after o v now m told1 c0 c1 one rest r stop = IfErr-weaker r (IsStepFault o now one.2.map) (IsStepFault o v m) (λ fault f. step_after o v now m told1 c0 c1 one rest fault f) stop

-- a step that stops when some blocks were added and more are wanted
pub stop_so_far : (o : Origin) (v now : Room) (m : ℕ → Option (List ℕ)) (blocks left : ℕ) (told : Option (ℕ → Option (List ℕ))) (c0 c1 : ℕ → Bool) (so_far : IsGrownSo o v now m blocks left told c0 c1) → now ≡ record v { tally = now.tally } → 0 < left → blocks ≤ room_at o.sizes (contents m) o.id
    → (fault : GrowFault) → IsStepFault o now so_far.grown.2.map fault → IsGrowFault o v m blocks fault
stop_so_far o v now m blocks left told c0 c1 so_far rest some has (NoRun asked free) stuck = (
  so_far.count + 0,
  (let e = so_far.exact some in omega (arith, e, some)),
  record {
    now = stuck.now;
    rest = stuck.rest ∙ ap (λ (x : Room). record x { tally = stuck.now.tally }) rest;
    map = stuck.map;
    old = λ k. true;
    new = λ k. true;
    grown = has_grown_twice o v now stuck.now m so_far.count 0 told (Some stuck.map) (λ k. true) (λ k. true) (λ k. true) (overwritten o v now m so_far.count told c0 c1 so_far.grown) rest (overwritten o now stuck.now so_far.grown.2.map 0 (Some stuck.map) stuck.old stuck.new stuck.grown);
    wanted = stuck.wanted;
    none = stuck.none;
  },
)
stop_so_far o v now m blocks left told c0 c1 so_far rest some has (Full room) full =
    absurd
    (by_numbers (room_at o.sizes (contents m) o.id) (room_at o.sizes (contents so_far.grown.2.map) o.id) (length so_far.grown.0) so_far.count blocks left so_far.grown.2.room so_far.grown.1 full (so_far.exact some) some has)
  where
    by_numbers : (a b n c k l : ℕ) → a ≤ b + n → n ≡ c → b ≡ 0 → c + l ≡ k → 0 < l → k ≤ a → ⊥
    by_numbers a b n c k l le is none e some has = omega (arith, le, is, none, e, some, has)
stop_so_far o v now m blocks left told c0 c1 so_far rest some has (Block fault) sound = sound
