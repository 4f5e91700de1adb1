-- What fits one story of a space, where the left word rises, and where it releases what has left.
use Rattle.std.proofs.Common.{◌≡◌, ◌⊎◌, inl, inr, ⊎_elim, ◌<◌, ◌≤◌, ℕ, filter, not, ◌∙◌, subst, arith}
use Rattle.bfs_bitmap.specs.Givens.{is_left}
use Rattle.bfs_device.specs.Ahead.{geometry_with}
use Rattle.bfs_core.specs.Spaces.{SpaceView, IsHeld, released_space}
use Rattle.bfs_core.specs.Stories.{Words, Story, IsStory, SpaceFits, GroupFits}
use Rattle.bfs_core.proofs.Givens.{held_lower, held_released, released_reserved, released_fresh}

pub story_raised : (y : Story) (left later : ℕ) → left ≤ later → IsStory y left → IsStory y later
story_raised y left later le story = record {
  legal = story.legal;
  sound = story.sound;
  metadata = λ i j k low up high meta. story.metadata i j k (omega (arith, low, le)) up high meta;
  sets = λ i j k low up high is. story.sets i j k (omega (arith, low, le)) up high is;
}

pub space_raised : (y : Story) (w u : Words) (sp : SpaceView) → w.sealed ≡ u.sealed → w.left ≤ u.left → SpaceFits y w sp → SpaceFits y u sp
space_raised y w u sp sealed left fits = record {
  valid = fits.valid;
  history = fits.history;
  sealed = fits.sealed ∙ sealed;
  covered = (let le = fits.covered in omega (arith, le, sealed));
  geometry = fits.geometry;
  ends = subst (λ (n : ℕ). (y.faces n).geometry ≡ geometry_with sp.sup sp.sealed_used) sealed fits.ends;
  idle = fits.idle;
  sized = fits.sized;
  group = subst (λ (n : ℕ). GroupFits y n sp.group) sealed fits.group;
  given = record {
    unmarked = fits.given.unmarked;
    blocks = λ n k low high is. fits.given.blocks n k (omega (arith, low, left)) high is;
    sets = λ i k low high is. fits.given.sets i k (omega (arith, low, left)) high is;
    own = fits.given.own;
  };
}

pub space_released : (y : Story) (w : Words) (sp : SpaceView) → SpaceFits y w sp → SpaceFits y w (released_space w.left sp)
space_released y w sp fits = record {
  valid = fits.valid;
  history = fits.history;
  sealed = fits.sealed;
  covered = fits.covered;
  geometry = fits.geometry;
  ends = fits.ends;
  idle = fits.idle;
  sized = fits.sized;
  group = fits.group;
  given = record {
    unmarked = λ k is. fits.given.unmarked k (released_reserved w.left sp.given k is);
    blocks = λ n k low high is. ⊎_elim (λ still. inl still) (λ held. inr (held_released w.left n sp.given k low held)) (fits.given.blocks n k low high is);
    sets = λ i k low high is. ⊎_elim (λ meta. inl meta) (λ held. inr (λ n lt. either n i k low held lt)) (fits.given.sets i k low high is);
    own = λ k has. ⊎_elim (λ meta. inl meta) (λ fresh. inr (released_fresh w.left sp.given k fresh)) (fits.given.own k has);
  };
}
  where
    le_or : (m n : ℕ) → (m ≤ n) ⊎ (n ≤ m)
    le_or m n = grind arith

    either : (n i k : ℕ) → w.left < i → ((n : ℕ) → n < i → IsHeld n sp.given k) → n < i → IsHeld n (filter (λ x. not (is_left w.left x)) sp.given) k
    either n i k low held lt = ⊎_elim
        (λ below. held_lower n w.left (filter (λ x. not (is_left w.left x)) sp.given) k below (held_released w.left w.left sp.given k (omega arith) (held w.left low)))
        (λ above. held_released w.left n sp.given k above (held n lt))
        (le_or n w.left)
