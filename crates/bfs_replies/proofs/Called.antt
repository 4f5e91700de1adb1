-- A call begins on the Face of a space, and ends with an entry.
use Rattle.std.proofs.Common.{◌≡◌, ◌<◌, ◌⊎◌, inl, inr, ⊎_elim, ℕ, List, [], ◌∷◌, ◌++◌, length, map, refl, sym, ap, ◌∙◌, subst, arith, append-nil, Bool, true, false, ◌||◌, Option, Some, None}
use Rattle.std.specs.Prelude.{◌≢◌, ◌==◌, is_some, cond, codes}
use Rattle.std.specs.FinMap.{empty, get-empty}
use Rattle.bfs_base.specs.Keys.{text_cmp}
use Rattle.std.proofs.lemmas.Bool.{true≢false}
use Rattle.std.proofs.lemmas.List.{length-append}
use Rattle.std.proofs.lemmas.Grind.{fold-append}
use Rattle.bfs_super.specs.declared.geometry.Geometry.{Geometry}
use Rattle.bfs_super.specs.Geometry.{geometry_of}
use Rattle.bfs_bitmap.specs.declared.given.Given.{Given}
use Rattle.bfs_bitmap.specs.Bits.{in_run}
use Rattle.bfs_bitmap.specs.Givens.{settled}
use Rattle.bfs_bitmap.specs.Runs.{Room, Fits, is_reserved, marked_count}
use Rattle.bfs_txn.specs.Changed.{AreOfSize, newest, or_else, over}
use Rattle.bfs_stream.specs.Sizes.{sizes_of}
use Rattle.bfs_stream.specs.Grown.{IsOfVolume}
use Rattle.bfs_tree.specs.declared.reply.Entry.{Entry}
use Rattle.bfs_tree.specs.Histories.{Mounted, Follows, after, start, state_after}
use Rattle.bfs_tree.specs.States.{State}
use Rattle.bfs_tree.specs.Steps.{next}
use Rattle.bfs_tree.specs.Trees.{Tree, HasBuiltIn, HasPlainIndices, IsPlain}
use Rattle.bfs_tree.proofs.Keeps.{step-keeps, step-keeps-indices}
use Rattle.bfs_tree.proofs.Legals.{legal-push}
use Rattle.bfs_sound.specs.Volumes.{Volume, IsMarked}
use Rattle.bfs_sound.specs.Owners.{reach, IsMetadata}
use Rattle.bfs_sound.specs.Whole.{IsSound}
use Rattle.bfs_sound.specs.Laws.{IsCarried}
use Rattle.bfs_sound.proofs.Carried.{parts_carried}
use Rattle.bfs_shift.specs.Lists.{Agrees}
use Rattle.bfs_shift.specs.Laws.{lists_of}
use Rattle.bfs_shift.specs.Stocked.{Stocked}
use Rattle.bfs_shift.specs.Shifts.{volume_in}
use Rattle.bfs_shift.proofs.Closed.{sound_stocked, sound_agrees}
use Rattle.bfs_shift.proofs.Counted.{count_is_reach}
use Rattle.bfs_shift.proofs.Frees.{other_count}
use Rattle.bfs_shift.specs.Work.{IsAtWork}
use Rattle.bfs_moves.proofs.Ends.{work_ends}
use Rattle.bfs_look.specs.Ready.{IsReady}
use Rattle.bfs_core.specs.Spaces.{SpaceView, Entered, HasSet, IsFaceMetadata, IsFresh, IsHeld, IsSoundOver, StaysMarked, face}
use Rattle.bfs_moves.specs.Laws.{IsApart}
use Rattle.bfs_answers.specs.Called.{StaysAs, IsCalled, IsFaceTold, is_changed, with_entry}

-- ---- runs that were given back

fresh_settled : (gs : List Given) (k : ℕ) → IsFresh gs k → IsFresh (map settled gs) k
fresh_settled [] k fresh = absurd fresh
fresh_settled (g ∷ gs) k fresh = ⊎_elim (λ here. inl here) (λ later. inr (fresh_settled gs k later)) fresh

fresh_more : (gs more : List Given) (k : ℕ) → IsFresh gs k → IsFresh (gs ++ more) k
fresh_more [] more k fresh = absurd fresh
fresh_more (g ∷ gs) more k fresh = ⊎_elim (λ here. inl here) (λ later. inr (fresh_more gs more k later)) fresh

held_settled : (n : ℕ) (gs : List Given) (k : ℕ) → IsHeld n gs k → IsHeld n (map settled gs) k
held_settled n [] k held = absurd held
held_settled n (g ∷ gs) k held = ⊎_elim (λ here. inl here) (λ later. inr (held_settled n gs k later)) held

held_more : (n : ℕ) (gs more : List Given) (k : ℕ) → IsHeld n gs k → IsHeld n (gs ++ more) k
held_more n [] more k held = absurd held
held_more n (g ∷ gs) more k held = ⊎_elim (λ here. inl here) (λ later. inr (held_more n gs more k later)) held

reserved_settled : (gs : List Given) (k : ℕ) → is_reserved (map settled gs) k ≡ is_reserved gs k
reserved_settled [] k = refl
reserved_settled (g ∷ gs) k = ap (λ (x : Bool). in_run g.first g.len k || x) (reserved_settled gs k)

-- ---- blocks of a group

pub some_is : (o : Option (List ℕ)) → o ≢ None → is_some o ≡ true
some_is None apart = absurd (apart refl)
some_is (Some x) apart = refl

pub is_there : (o : Option (List ℕ)) → is_some o ≡ true → o ≢ None
is_there o is none = true≢false (sym is ∙ ap is_some none)

pub same_place : (k : ℕ) → (k == k) ≡ true
same_place k = grind arith

pub some_or : (o : Option (List ℕ)) (b : Bool) (x : List ℕ) → b ≡ true → or_else o (cond b (Some x) None) ≢ None
some_or None b x is none = true≢false (sym (ap (λ (c : Bool). is_some (cond c (Some x) None)) is) ∙ ap is_some none)
some_or (Some y) b x is none = true≢false (ap is_some none)

nothing : (ps : List (ℕ × List ℕ)) → ((k : ℕ) → newest ps k ≡ None) → ps ≡ []
nothing [] none = refl
nothing (p ∷ ps) none = absurd (some_or (newest ps p.0) (p.0 == p.0) p.1 (same_place p.0) (none p.0))

-- there is no built-in index where there is none
unbuilt : HasBuiltIn empty → ⊥
unbuilt built = let e : false ≡ true = ap is_some (sym (get-empty text_cmp (codes "name")) ∙ built.by_name) in true≢false (sym e)

-- ---- a space and what is told below it

module _ (t0 : Mounted) (sp : SpaceView) (m : ℕ → Option (List ℕ)) (sound : IsSoundOver t0 sp m) (some : 0 < sp.sup.block_size) where
  abbrev tree : Tree
  tree = after t0 sp.history

  abbrev g : Geometry
  g = geometry_of sp.sup

  abbrev v : Volume
  v = face sp m

  abbrev w : Volume
  w = volume_in g (over sp.group m)

  was_carried : IsCarried v w tree
  was_carried = parts_carried v v.blocks g.used tree sound.sound.nodes some (λ k h z. refl)

  stocked : Stocked w tree (lists_of v tree) []
  stocked = other_count v tree (lists_of v tree) [] g.used (sound_stocked v tree sound.sound)

  was_marked : (k : ℕ) → IsFaceMetadata t0 sp m k → IsMarked v k
  was_marked k meta = (sound.sound.bits k).1 meta.0

  pub face_at_work : (r : Room) → IsFaceTold t0 sp m → IsOfVolume (sizes_of sp.sup) r → Fits r (over sp.group m) → r.tally.used ≡ sp.used
      → IsAtWork g r (over sp.group m) tree (lists_of v tree) [] × Agrees tree (lists_of v tree)
  face_at_work r told of fits used = (
    record {
      volume = of;
      fits = fits;
      counted = used ∙ sound.sound.used ∙ ap length (sym (append-nil (reach v tree)) ∙ ap (λ (xs : List ℕ). xs ++ []) (sym was_carried.reached)) ∙ sym (count_is_reach g r (over sp.group m) tree (lists_of v tree) [] of stocked);
      stocked = stocked;
      told = λ k meta apart. told k ((was_carried.metadata k).0 meta) apart;
    },
    sound_agrees v tree sound.sound,
  )

  pub face_is_ready : (r : Room) → IsFaceTold t0 sp m → IsOfVolume (sizes_of sp.sup) r → Fits r (over sp.group m) → r.tally.used ≡ sp.used → r.given ≡ sp.given → IsReady g r (over sp.group m) tree (lists_of v tree)
  face_is_ready r told of fits used given = record {
    work = (face_at_work r told of fits used).0;
    agrees = (face_at_work r told of fits used).1;
    plain = record { nodes = sound.sound.nodes.plain; indices = sound.sound.indices.plain };
    root = sound.sound.nodes.stands.root;
    reserved = λ k r' marked. sound.unmarked k (subst (λ (gs : List Given). is_reserved gs k ≡ true) given r') marked;
  }

  -- a space that has none but this group counts what any bitmap of the volume does
  counts : (r : Room) → IsOfVolume (sizes_of sp.sup) r → sp.used ≡ marked_count r (over sp.group m) r.blocks
  counts r of = sound.sound.used ∙ ap length (sym (append-nil (reach v tree)) ∙ ap (λ (xs : List ℕ). xs ++ []) (sym was_carried.reached)) ∙ sym (count_is_reach g r (over sp.group m) tree (lists_of v tree) [] of stocked)

  module _ (r now : Room) (group : List (ℕ × List ℕ)) (e : Entry) (given : r.given ≡ sp.given) (sized : AreOfSize sp.sup.block_size group) (follows : Follows t0 sp.history e)
      (called : IsCalled g r now (over sp.group m) (over group m) tree (after t0 (with_entry sp now group e).history) (is_changed sp.group) (is_changed group)) where
    abbrev new : SpaceView
    new = with_entry sp now group e

    abbrev later : Tree
    later = after t0 new.history

    abbrev x : Volume
    x = volume_in g (over group m)

    abbrev y : Volume
    y = face new m

    one : state_after t0 (sp.history ++ e ∷ []) ≡ next (state_after t0 sp.history) e
    one = fold-append next (start t0) sp.history (e ∷ [])

    plain : IsPlain later
    plain = subst (λ (s : State). IsPlain s.tree) (sym one) (step-keeps (state_after t0 sp.history) (next (state_after t0 sp.history) e) e (record { nodes = sound.sound.nodes.plain; indices = sound.sound.indices.plain }) follows.step)

    no_indices : later.indices ≡ empty → g.indices ≡ 0
    no_indices is = by_plain sound.sound.indices.plain
      where
        by_plain : HasPlainIndices tree.indices → g.indices ≡ 0
        by_plain (inl none) = sound.sound.nodes.stands.none.1 none
        by_plain (inr built) = absurd (unbuilt (subst HasBuiltIn (ap (λ (s : State). s.tree.indices) (sym one) ∙ is) ((step-keeps-indices (state_after t0 sp.history) (next (state_after t0 sp.history) e) e follows.step).0 built)))

    ends : IsSound y later
    ends = work_ends g now (over group m) later called.lists called.work called.agrees plain (called.root ∙ sound.sound.nodes.stands.root) no_indices

    now_carried : IsCarried y x later
    now_carried = parts_carried y y.blocks g.used later ends.nodes some (λ k h z. refl)

    lasting : (k : ℕ) → IsFresh now.given k → IsFresh new.given k
    lasting k fresh = fresh_settled now.given k fresh

    stays : (k : ℕ) → IsMarked v k → StaysMarked t0 sp new m k ⊎ IsFresh new.given k
    stays k marked = ⊎_elim
        (λ (s : StaysAs g (over sp.group m) (over group m) tree later k). inl (record {
          marked = (now_carried.bits k).0 s.marked;
          metadata = (
            (λ meta. (now_carried.metadata k).0 (s.metadata.0 ((was_carried.metadata k).1 meta))),
            (λ meta. (was_carried.metadata k).0 (s.metadata.1 ((now_carried.metadata k).1 meta))),
          );
        }))
        (λ fresh. inr (lasting k fresh)) (called.blocks k ((was_carried.bits k).1 marked))

    still : (k : ℕ) → IsFresh sp.given k → IsFresh new.given k
    still k fresh = lasting k (subst (λ (gs : List Given). IsFresh gs k) (sym called.longer) (fresh_more r.given called.given k (subst (λ (gs : List Given). IsFresh gs k) (sym given) fresh)))

    own : (k : ℕ) → newest group k ≢ None → IsFaceMetadata t0 new m k ⊎ IsFresh new.given k
    own k has = by_change (called.changed k (some_is (newest group k) has))
      where
        by_stay : IsFaceMetadata t0 sp m k → StaysMarked t0 sp new m k ⊎ IsFresh new.given k → IsFaceMetadata t0 new m k ⊎ IsFresh new.given k
        by_stay meta (inl s) = inl (s.metadata.0 meta)
        by_stay meta (inr fresh) = inr fresh

        by_own : IsFaceMetadata t0 sp m k ⊎ IsFresh sp.given k → IsFaceMetadata t0 new m k ⊎ IsFresh new.given k
        by_own (inl meta) = by_stay meta (stays k (was_marked k meta))
        by_own (inr fresh) = inr (still k fresh)

        by_change : (is_changed sp.group k ≡ true) ⊎ (IsApart g k × (IsMetadata x later k ⊎ IsFresh now.given k)) → IsFaceMetadata t0 new m k ⊎ IsFresh new.given k
        by_change (inl old) = by_own (sound.own k (is_there (newest sp.group k) old))
        by_change (inr (d, inl meta)) = inl ((now_carried.metadata k).0 meta)
        by_change (inr (d, inr fresh)) = inr (lasting k fresh)

    unmarked : (k : ℕ) → is_reserved new.given k ≡ true → ¬ IsMarked y k
    unmarked k is marked = called.reserved k (sym (reserved_settled now.given k) ∙ is) ((now_carried.bits k).1 marked)

    held : (n k : ℕ) → IsHeld n sp.given k → IsHeld n new.given k
    held n k h = held_settled n now.given k (subst (λ (gs : List Given). IsHeld n gs k) (sym called.longer) (held_more n r.given called.given k (subst (λ (gs : List Given). IsHeld n gs k) (sym given) h)))

    was_empty : group ≡ [] → sp.group ≡ []
    was_empty none = nothing sp.group (λ k. by_option k (newest sp.group k) refl)
      where
        by_option : (k : ℕ) (o : Option (List ℕ)) → newest sp.group k ≡ o → newest sp.group k ≡ None
        by_option k None is = is
        by_option k (Some bytes) is = absurd (true≢false (sym (called.kept k (ap is_some is)) ∙ ap (λ (ps : List (ℕ × List ℕ)). is_changed ps k) none))

    idle : new.group ≡ [] → (sp.group ≡ []) × (new.used ≡ sp.used)
    idle none = (
      was_empty none,
      called.work.counted ∙ ap (λ (ps : List (ℕ × List ℕ)). marked_count now (over ps m) now.blocks) (none ∙ sym (was_empty none)) ∙ sym (counts now called.work.volume),
    )

    pub call_entered : Entered t0 sp new m e
    call_entered = record {
      same = record { sup = refl; sealed = refl; sealed_used = refl };
      history = refl;
      follows = follows;
      sound = record {
        legal = legal-push t0 [] sp.history e sound.legal follows;
        sound = ends;
        unmarked = unmarked;
        own = own;
        sized = sized;
        covered = (let le = sound.covered in omega (arith, le, length-append sp.history (e ∷ [])));
      };
      blocks = stays;
      held = held;
      idle = idle;
    }

    pub call_set : HasSet t0 sp new m (is_changed group)
    call_set = record {
      group = λ k. (
        (λ has. inr (some_is (newest group k) has)),
        (λ is. ⊎_elim (λ was. is_there (newest group k) (called.kept k (some_is (newest sp.group k) was))) (λ set. is_there (newest group k) set) is),
      );
      rest = λ k meta clear. (was_carried.metadata k).0 (called.set k ((now_carried.metadata k).1 meta) clear);
    }

    -- the metadata of Face is told since
    pub call_told : IsFaceTold t0 new m
    call_told k meta apart = called.work.told k ((now_carried.metadata k).1 meta) apart
