-- What a device tells a space.
use Rattle.std.proofs.Common.{◌≡◌, ◌≢◌, ◌⊎◌, inl, inr, ⊎_elim, ◌<◌, ℕ, suc, List, [], ◌∷◌, length, Bool, true, false, cond, ◌==◌, Option, Some, None, IsSome, refl, sym, ◌∙◌, ap, subst, arith}
use Rattle.std.proofs.lemmas.Bool.{cond-true, eqb-true, true≢false}
use Rattle.std.proofs.lemmas.List.Folds.{list_any_none}
use Rattle.std.specs.Option.{option_map}
use Rattle.bfs_base.specs.Lists.{times}
use Rattle.bfs_disk.specs.State.{State, Tells}
use Rattle.bfs_log.specs.Replay.{Home, put, over as over_homes}
use Rattle.bfs_txn.specs.Changed.{newest, number_at, or_else, over}
use Rattle.bfs_txn.specs.declared.group.Group.{Group}
use Rattle.bfs_tree.specs.declared.reply.Entry.{Entry}
use Rattle.bfs_tree.specs.Histories.{Mounted, after, is_stop}
use Rattle.bfs_sound.specs.Owners.{fixed_blocks}
use Rattle.bfs_device.specs.Layouts.{Layout, layout_of, IsData, homes_in, is_data}
use Rattle.bfs_device.specs.Books.{Books, IsNext, sealed_of, version}
use Rattle.bfs_device.specs.Ahead.{IsSteady}
use Rattle.bfs_device.specs.Data.{AreSameBut}
use Rattle.bfs_device.specs.Seals.{last_used, sealed_with}
use Rattle.bfs_device.specs.declared.journal.Stop.{Stop}
use Rattle.bfs_device.proofs.Forward.{know_of, order_of}
use Rattle.bfs_device.proofs.Sealing.{newest_version, sealed_last}
use Rattle.bfs_core.specs.Spaces.{SpaceView, IsFaceMetadata, IsGroupFor, face}
use Rattle.bfs_core.specs.Cores.{Core, newest_map}
use Rattle.bfs_core.proofs.Masks.{data_of, metadata_data, of_data}
use Rattle.bfs_core.proofs.Onward.{same_layout, same_size}
use Rattle.bfs_core.proofs.Seals.{may_seal}
use Rattle.bfs_device_blocks.specs.Faced.{StandsOver}

-- ---- a space stands over what its device tells

is_some_over : (o p : Option (List ℕ)) → IsSome p → IsSome (or_else o p)
is_some_over None p some = some
is_some_over (Some x) p some = refl

module _ (t0 : Mounted) (sp : SpaceView) (b : Books) (t : ℕ → Bool) (st : State) (core : Core t0 sp b t st) where
  told_at : (k : ℕ) → IsFaceMetadata t0 sp (newest_map b st) k → times k (fixed_blocks (face sp (newest_map b st))) ≡ 0 → IsSome (over sp.group (newest_map b st) k)
  told_at k meta apart =
      let place : IsData (layout_of b.sup) k = subst (λ (l : Layout). IsData l k) (sym (same_layout sp.sup b.sup core.one.geometry)) (metadata_data sp.sup sp.used (face sp (newest_map b st)).blocks (after t0 sp.history) core.space.sound k meta apart) in
      let is : newest_map b st k ≡ Some (version b st (sealed_of b) k) = cond-true (is_data (layout_of b.sup) k) (Some (version b st (sealed_of b) k)) None (of_data (layout_of b.sup) k place) in
      is_some_over (newest sp.group k) (newest_map b st k) (subst (λ (o : Option (List ℕ)). IsSome o) (sym is) refl)

  stands : StandsOver t0 sp b (newest_map b st)
  stands = record {
    sound = core.space;
    told = told_at;
    size = same_size sp.sup b.sup core.one.geometry;
    going = λ none. list_any_none (λ (e : Entry). is_stop e.reply) sp.history (λ k d lt. (core.one.known k d lt).1 none);
  }

pub core_stands : (t0 : Mounted) (sp : SpaceView) (b : Books) (told : Option State) (m : ℕ → Option (List ℕ)) → Tells told (λ st. (t : ℕ → Bool) × Core t0 sp b t st) → option_map (newest_map b) told ≡ Some m → StandsOver t0 sp b m
core_stands t0 sp b told m core at =
    let e : Some (newest_map b core.0) ≡ Some m = sym (ap (option_map (newest_map b)) core.1) ∙ at in
    let is : newest_map b core.0 ≡ m = cc in
    subst (StandsOver t0 sp b) is (stands t0 sp b core.2.0 core.0 core.2.1)

-- ---- a seal

-- a block of a group is data
pairs_data : (l : Layout) (ps : List (ℕ × List ℕ)) (k : ℕ) → ((i : ℕ) → i < length ps → IsData l (number_at ps i)) → (newest ps k ≡ None) ⊎ IsData l k
pairs_data l [] k places = inl refl
pairs_data l (p ∷ ps) k places = ⊎_elim (λ none. here none (k == p.0) refl) (λ d. inr d) (pairs_data l ps k (λ i lt. places (suc i) (omega (arith, lt))))
  where
    here : newest ps k ≡ None → (d : Bool) → (k == p.0) ≡ d → (newest (p ∷ ps) k ≡ None) ⊎ IsData l k
    here none true is = let e : k ≡ p.0 = eqb-true k p.0 is in inr (subst (IsData l) (sym e) (places 0 (omega arith)))
    here none false is = inl (ap (λ (o : Option (List ℕ)). or_else o (cond (k == p.0) (Some p.1) None)) none ∙ ap (λ (d : Bool). cond d (Some p.1) None) is)

-- a group over bytes that are all there
or_both : (a b : Option (List ℕ)) (y : List ℕ) → or_else (or_else a b) (Some y) ≡ or_else a (or_else b (Some y))
or_both None b y = refl
or_both (Some x) b y = refl

one_home : (d : Bool) (x y : List ℕ) → Some (cond d x y) ≡ or_else (cond d (Some x) None) (Some y)
one_home true x y = refl
one_home false x y = refl

homes_over : (ps : List (ℕ × List ℕ)) (f : ℕ → List ℕ) (k : ℕ) → Some (over_homes (homes_in ps) f k) ≡ or_else (newest ps k) (Some (f k))
homes_over [] f k = refl
homes_over (p ∷ ps) f k =
    let h : Home = record { place = p.0; bytes = p.1 } in
    homes_over ps (put h f) k ∙ ap (or_else (newest ps k)) (one_home (k == p.0) p.1 (f k)) ∙ sym (or_both (newest ps k) (cond (k == p.0) (Some p.1) None) (f k))

module _ (t0 : Mounted) (sp : SpaceView) (b : Books) (t : ℕ → Bool) (st : State) (g : Group) (core : Core t0 sp b t st) (group : IsGroupFor sp g) where
  next : IsNext (layout_of b.sup) b.sup.block_size (sealed_of b) (last_used b) g
  next = may_seal t0 sp b t st g core group

  at : (k : ℕ) (d : Bool) → is_data (layout_of b.sup) k ≡ d → cond d (Some (version (sealed_with b g) st g.last k)) None ≡ or_else (newest g.blocks k) (cond d (Some (version b st (sealed_of b) k)) None)
  at k true is = ap Some (newest_version b g (know_of b core.steady) next st k) ∙ homes_over g.blocks (version b st (sealed_of b)) k
  at k false is = ⊎_elim
      (λ none. sym (ap (λ (o : Option (List ℕ)). or_else o None) none))
      (λ place. absurd (true≢false (sym (of_data (layout_of b.sup) k place) ∙ is)))
      (pairs_data (layout_of b.sup) g.blocks k next.sealed.places)

  pub sealed_newest : (k : ℕ) → newest_map (sealed_with b g) st k ≡ over sp.group (newest_map b st) k
  sealed_newest k =
      ap (λ (n : ℕ). cond (is_data (layout_of b.sup) k) (Some (version (sealed_with b g) st n k)) None) (sealed_last b g)
      ∙ at k (is_data (layout_of b.sup) k) refl
      ∙ ap (λ (ps : List (ℕ × List ℕ)). or_else (newest ps k) (newest_map b st k)) group.blocks

-- ---- a data write

module _ (b : Books) (m : ℕ) (o : Option Stop) (st st' : State) (block : ℕ) (steady : IsSteady b) (same : (let new : Books = record b { moment = m; stop = o } in AreSameBut block b st new st')) (k : ℕ) (other : k ≢ block) where
  abbrev after_it : Books
  after_it = record b { moment = m; stop = o }

  still_at : (d : Bool) → is_data (layout_of b.sup) k ≡ d → cond d (Some (version after_it st' (sealed_of b) k)) None ≡ cond d (Some (version b st (sealed_of b) k)) None
  still_at true is = ap Some (same (sealed_of b) (order_of b steady).newest k (data_of (layout_of b.sup) k is) other)
  still_at false is = refl

  still_told : newest_map after_it st' k ≡ newest_map b st k
  still_told = still_at (is_data (layout_of b.sup) k) refl

pub written_newest : (b new : Books) (st next : State) (block : ℕ) → IsSteady b → new ≡ record b { moment = new.moment; stop = new.stop } → AreSameBut block b st new next → (k : ℕ) → k ≢ block → newest_map new next k ≡ newest_map b st k
written_newest b new st next block steady rests same k other =
    subst (λ (x : Books). newest_map x next k ≡ newest_map b st k) (sym rests)
    (still_told b new.moment new.stop st next block steady (subst (λ (x : Books). AreSameBut block b st x next) rests same) k other)
