-- What fits one story of a device: it tells the sealed volume, and fits over each of its events.
use Rattle.std.proofs.Common.{◌≡◌, ◌⊎◌, ⊎_elim, ◌≤◌, ◌+◌, ℕ, List, [], ◌∷◌, length, take, Bool, true, false, ◌==◌, Option, Some, None, unwrap_or, refl, sym, ◌∙◌, ap, subst, arith}
use Rattle.std.proofs.lemmas.Bool.{cond-true, eqb-true, or_cases}
use Rattle.std.proofs.lemmas.List.{take-append-le, length-append}
use Rattle.std.proofs.lemmas.List.Elements.{All-push}
use Rattle.std.specs.List.{All}
use Rattle.bfs_disk.specs.State.{State}
use Rattle.bfs_super.specs.declared.sup.Super.{Super}
use Rattle.bfs_tree.specs.Trees.{Tree}
use Rattle.bfs_tree.specs.declared.reply.Entry.{Entry}
use Rattle.bfs_tree.specs.Histories.{after}
use Rattle.bfs_sound.specs.Volumes.{Volume, IsMarked}
use Rattle.bfs_sound.specs.Owners.{IsMetadata}
use Rattle.bfs_device.specs.declared.journal.Stop.{Stop}
use Rattle.bfs_device.specs.Layouts.{layout_of, IsData, is_data}
use Rattle.bfs_device.specs.Books.{Books, IsRight, IsVersion, AreSame, sealed_of, used_of, version}
use Rattle.bfs_device.specs.Data.{newest_in, touching, AreSameBut}
use Rattle.bfs_device.specs.Ahead.{IsSteady, GoesOn, geometry_with}
use Rattle.bfs_device.proofs.Forward.{order_of}
use Rattle.bfs_core.specs.Cores.{IsKnown, newest_map}
use Rattle.bfs_core.specs.Moments.{IsLessTouched}
use Rattle.bfs_core.specs.Stories.{Longer, Words, Story, IsStory, DeviceFits, IsMetadataIn, TellsFace, tree_in, with_numbers, end_of}
use Rattle.bfs_core.proofs.Faces.{data_in}
use Rattle.bfs_core.proofs.Masks.{of_data}
use Rattle.bfs_core.proofs.Onward.{above_left, same_layout}
use Rattle.bfs_core.proofs.Pieces.{no_group, not_touched}

pub tells_of : (y : Story) (w : Words) (s : Super) (b : Books) (t : ℕ → Bool) (st : State) → IsStory y w.left → w.sealed ≤ end_of y → DeviceFits y w s b t st → TellsFace y w.sealed (newest_map b st)
tells_of y w s b t st story covered fits = subst (λ (n : ℕ). TellsFace y n (newest_map b st)) fits.sealed here
  where
    here : TellsFace y (sealed_of b) (newest_map b st)
    here k meta fixed =
        let is : IsVersion b (sealed_of b) = (order_of b fits.steady).newest in
        let d : IsData (layout_of b.sup) k = data_in b.sup (used_of b (sealed_of b)) (y.faces (sealed_of b)) (tree_in y (sealed_of b)) (fits.versions.geometry (sealed_of b) is) (story.sound (sealed_of b) (let e = fits.sealed in omega (arith, e, covered))) k meta fixed in
        ap (λ (o : Option (List ℕ)). unwrap_or o []) (cond-true (is_data (layout_of b.sup) k) (Some (version b st (sealed_of b) k)) None (of_data (layout_of b.sup) k d))
        ∙ fits.versions.reads (sealed_of b) k is meta d

-- a device fits where it goes on, with its own numbers
pub device_on : (y : Story) (w : Words) (s : Super) (b new : Books) (t u : ℕ → Bool) (st st' : State) → w.sealed ≤ end_of y → DeviceFits y w s b t st → IsSteady new → GoesOn b new → IsRight new u st' → AreSame b st new st'
    → IsLessTouched b new t u → (new.stop ≡ None → b.stop ≡ None) → DeviceFits y (with_numbers w new) s new u st'
device_on y w s b new t u st st' covered fits steady on right same less stops = record {
  steady = steady;
  right = right;
  volume = λ used. on.geometry used ∙ fits.volume used;
  sealed = on.sealed ∙ fits.sealed;
  durable = refl;
  left = refl;
  known = λ k d lt. ((λ upto is. (let le = (fits.known k d lt).0 upto is in let more = on.durable in omega (arith, le, more))), (λ none. (fits.known k d lt).1 (stops none)));
  versions = record {
    geometry = λ n is. fits.versions.geometry n (on.versions n is) ∙ sym (on.geometry (used_of new n) ∙ ap (geometry_with b.sup) (on.used n is));
    reads = λ n k is meta d. (let data_old = subst (λ l. IsData l k) (same_layout b.sup new.sup on.geometry) d in same n is k data_old ∙ fits.versions.reads n k (on.versions n is) meta data_old);
    untouched = λ n k is meta. still n k is meta (u k) refl;
  };
  files = λ k is. (let old = fits.files k (less.fewer k is) in (old.0, low k is old.1, old.2, old.3, old.4));
  groups = λ g k is has. fits.groups g k (on.groups g is) has;
}
  where
    still : (n k : ℕ) → IsVersion new n → IsMetadataIn y n k → (d : Bool) → u k ≡ d → u k ≡ false
    still n k is meta true e = (let bad : true ≡ false = sym (less.fewer k e) ∙ fits.versions.untouched n k (on.versions n is) meta in absurd (cc))
    still n k is meta false e = e

    low : (k : ℕ) → u k ≡ true → {n : ℕ} → w.left ≤ n → new.left ≤ n
    low k is le = ⊎_elim (λ same_left. (let e = fits.left in omega (arith, le, same_left, e))) (λ none. (let bad : true ≡ false = sym is ∙ none k in absurd (cc))) less.barrier

-- a device fits the longer story
pub device_longer : (y z : Story) (w : Words) (s : Super) (b : Books) (t : ℕ → Bool) (st : State) (e : Entry) → Longer y z e → IsKnown b e → w.sealed ≤ end_of y → DeviceFits y w s b t st → DeviceFits z w s b t st
device_longer y z w s b t st entry longer known covered fits = record {
  steady = fits.steady;
  right = fits.right;
  volume = fits.volume;
  sealed = fits.sealed;
  durable = fits.durable;
  left = fits.left;
  known = subst (All (IsKnown b)) (sym longer.history) (All-push (IsKnown b) y.history entry fits.known known);
  versions = record {
    geometry = λ n is. ap (λ (v : Volume). v.geometry) (longer.faces n (short n is)) ∙ fits.versions.geometry n is;
    reads = λ n k is meta d. fits.versions.reads n k is (back n k (short n is) meta) d ∙ ap (λ (v : Volume). v.blocks k) (sym (longer.faces n (short n is)));
    untouched = λ n k is meta. fits.versions.untouched n k is (back n k (short n is) meta);
  };
  files = λ k is. (let old = fits.files k is in (old.0, old.1, (let le = old.2 in omega (arith, le, ends)), subst (λ (v : Volume). IsMarked v k) (sym (longer.faces old.0 old.2)) old.3, (λ meta. old.4 (back old.0 k old.2 meta))));
  groups = λ g k is has. (let old = fits.groups g k is has in (old.0, old.1, (let le = old.2 in omega (arith, le, ends)), longer.sets old.0 k old.2 ∙ old.3));
}
  where
    ends : end_of z ≡ end_of y + 1
    ends = ap length longer.history ∙ length-append y.history (entry ∷ [])

    short : (n : ℕ) → IsVersion b n → n ≤ end_of y
    short n is = let le = (order_of b fits.steady).high n is in let e = fits.sealed in omega (arith, le, e, covered)

    tree_is : (n : ℕ) → n ≤ end_of y → tree_in z n ≡ tree_in y n
    tree_is n le = ap (λ x. after x (take n z.history)) longer.t0 ∙ ap (λ (h : List Entry). after y.t0 (take n h)) longer.history ∙ ap (after y.t0) (take-append-le n y.history (entry ∷ []) le)

    back : (n k : ℕ) → n ≤ end_of y → IsMetadataIn z n k → IsMetadataIn y n k
    back n k le meta = subst (λ (v : Volume). IsMetadata v (tree_in y n) k) (longer.faces n le) (subst (λ (x : Tree). IsMetadata (z.faces n) x k) (tree_is n le) meta)

-- ---- a data write

module _ (y : Story) (w : Words) (s : Super) (b : Books) (t : ℕ → Bool) (st : State) (block : ℕ) (story : IsStory y w.left) (fits : DeviceFits y w s b t st)
    (marked : IsMarked (y.faces (end_of y)) block) (apart : IsMetadataIn y (end_of y) block → ⊥) where
  -- what is metadata, or not marked, at the end isn't this block
  spoiled : IsMetadataIn y (end_of y) block ⊎ (IsMarked (y.faces (end_of y)) block → ⊥) → ⊥
  spoiled is = ⊎_elim (λ meta. apart meta) (λ free. free marked) is

  pub writes_apart : newest_in b.groups block ≡ None
  writes_apart = no_group b block (λ g is has.
      let set = fits.groups g block is has in
      let lt = above_left (layout_of b.sup) b.sup.block_size b.left _ g b.groups fits.steady.follow is in
      spoiled (story.sets set.0 (end_of y) block (let le = set.1 in let e = fits.left in omega (arith, le, lt, e)) set.2 (omega arith) set.3))

  harmless : (n : ℕ) → w.sealed ≤ end_of y → IsVersion b n → IsMetadataIn y n block → ⊥
  harmless n covered is meta =
      let high = (order_of b fits.steady).high n is in
      let low = (order_of b fits.steady).low n is in
      let left = (order_of b fits.steady).left in
      let sealed = fits.sealed in
      let e = fits.left in
      spoiled (story.metadata n (end_of y) block (omega (arith, low, left, e)) (omega (arith, high, sealed, covered)) (omega arith) meta)

  -- so that no block of a version's metadata is this one
  pub other_block : w.sealed ≤ end_of y → (n k : ℕ) → IsVersion b n → IsMetadataIn y n k → k ≡ block → ⊥
  other_block covered n k is meta e = harmless n covered is (subst (IsMetadata (y.faces n) (tree_in y n)) e meta)

  module _ (moment : ℕ) (stop : Option Stop) (stops : stop ≡ None → b.stop ≡ None) (covered : w.sealed ≤ end_of y) (st' : State) (right : (let new : Books = record b { moment = moment; stop = stop } in IsRight new (touching block t) st'))
      (same : (let new : Books = record b { moment = moment; stop = stop } in AreSameBut block b st new st')) where
    abbrev new : Books
    new = record b { moment = moment; stop = stop }

    written_fits : DeviceFits y w s new (touching block t) st'
    written_fits = record {
      steady = record { valid = fits.steady.valid; empty = fits.steady.empty; follow = fits.steady.follow; phase = fits.steady.phase };
      right = right;
      volume = fits.volume;
      sealed = fits.sealed;
      durable = fits.durable;
      left = fits.left;
      known = λ k d lt. ((fits.known k d lt).0, (λ none. (fits.known k d lt).1 (stops none)));
      versions = record {
        geometry = fits.versions.geometry;
        reads = λ n k is meta d. same n is k d (other_block covered n k is meta) ∙ fits.versions.reads n k is meta d;
        untouched = λ n k is meta. not_touched k block t (other_block covered n k is meta) (fits.versions.untouched n k is meta);
      };
      files = λ k is. ⊎_elim
          (λ here. let e : block ≡ k = sym (eqb-true k block here) in (
            end_of y,
            (let low = (order_of b fits.steady).low (sealed_of b) (order_of b fits.steady).newest in let left = (order_of b fits.steady).left in let sealed = fits.sealed in let is_left = fits.left in omega (arith, low, left, sealed, is_left, covered)),
            omega arith,
            subst (IsMarked (y.faces (end_of y))) e marked,
            (λ meta. apart (subst (IsMetadata (y.faces (end_of y)) (tree_in y (end_of y))) (sym e) meta)),
          ))
          (λ before. fits.files k before)
          (or_cases (k == block) (t k) is);
      groups = fits.groups;
    }

pub device_written : (y : Story) (w : Words) (s : Super) (b new : Books) (t : ℕ → Bool) (st st' : State) (block : ℕ) → IsStory y w.left → w.sealed ≤ end_of y → DeviceFits y w s b t st
    → IsMarked (y.faces (end_of y)) block → ¬ IsMetadataIn y (end_of y) block
    → new ≡ record b { moment = new.moment; stop = new.stop } → (new.stop ≡ None → b.stop ≡ None) → IsRight new (touching block t) st' → AreSameBut block b st new st' → DeviceFits y w s new (touching block t) st'
device_written y w s b new t st st' block story covered fits marked apart rested stops right same =
    subst (λ (x : Books). DeviceFits y w s x (touching block t) st') (sym rested)
    (written_fits y w s b t st block story fits marked apart new.moment new.stop stops covered st' (subst (λ (x : Books). IsRight x (touching block t) st') rested right) (subst (λ (x : Books). AreSameBut block b st x st') rested same))
