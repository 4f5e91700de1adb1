-- One more run in a table, and one more in an array of blocks.
use Rattle.std.proofs.Common.{◌≡◌, ◌<◌, ◌+◌, ◌-◌, ◌*◌, ◌∙◌, ℕ, zero, suc, List, [], ◌∷◌, ◌++◌, length, set, get_or, Bool, true, false, cond, refl, sym, ap, ap₂, arith, append_assoc}
use Rattle.std.specs.Prelude.{◌==◌, All}
use Rattle.std.specs.List.{flat_map}
use Rattle.std.proofs.lemmas.List.{set-append_left, set-append_right}
use Rattle.bfs_bytes.specs.declared.Run.{Run}
use Rattle.bfs_stream.specs.Sizes.{Sizes}
use Rattle.bfs_stream.specs.Places.{used_runs, blocks_of, run_blocks}
use Rattle.bfs_stream.proofs.Levels.{used_more, used_end}

-- behind the last run that is used a run is written, and behind it one of length 0, where there is room: the used runs
-- are one more
pub appended : (s : Sizes) (rs : List Run) (run none : Run) → (run.len ≡ 0 → ⊥) → none.len ≡ 0 → length (used_runs rs) < length rs
    → used_runs (set (set rs (suc (length (used_runs rs))) none) (length (used_runs rs)) run) ≡ used_runs rs ++ run ∷ []
appended s [] run none some zero_len room = absurd (omega arith)
appended s (r ∷ rs) run none some zero_len room = by_len (r.len == 0) refl (λ more. appended s rs run none some zero_len more)
  where
    ends : (l : List Run) → used_runs (set l zero none) ≡ []
    ends [] = refl
    ends (x ∷ xs) = used_end s none xs zero_len

    by_len : (b : Bool) → (r.len == 0) ≡ b → (length (used_runs rs) < length rs → used_runs (set (set rs (suc (length (used_runs rs))) none) (length (used_runs rs)) run) ≡ used_runs rs ++ run ∷ [])
        → used_runs (set (set (r ∷ rs) (suc (length (used_runs (r ∷ rs)))) none) (length (used_runs (r ∷ rs))) run) ≡ used_runs (r ∷ rs) ++ run ∷ []
    by_len true e rest =
        let nil : used_runs (r ∷ rs) ≡ [] = ap (λ (b : Bool). cond b [] (r ∷ used_runs rs)) e in
        ap (λ (l : List Run). used_runs (set (set (r ∷ rs) (suc (length l)) none) (length l) run)) nil
        ∙ used_more s run (set rs zero none) some
        ∙ ap (λ (l : List Run). run ∷ l) (ends rs)
        ∙ ap (λ (l : List Run). l ++ run ∷ []) (sym nil)
    by_len false e rest =
        let more : used_runs (r ∷ rs) ≡ r ∷ used_runs rs = ap (λ (b : Bool). cond b [] (r ∷ used_runs rs)) e in
        let fewer : length (used_runs rs) < length rs = let size : length (used_runs (r ∷ rs)) ≡ suc (length (used_runs rs)) = ap length more in omega (arith, room, size) in
        ap (λ (l : List Run). used_runs (set (set (r ∷ rs) (suc (length l)) none) (length l) run)) more
        ∙ used_more s r (set (set rs (suc (length (used_runs rs))) none) (length (used_runs rs)) run) (λ z. grind (arith, e, z))
        ∙ ap (λ (l : List Run). r ∷ l) (rest fewer)
        ∙ ap (λ (l : List Run). l ++ run ∷ []) (sym more)

-- its blocks are those of that run, behind the others
pub appended_blocks : (s : Sizes) (rs : List Run) (run : Run) → blocks_of s (rs ++ run ∷ []) ≡ blocks_of s rs ++ run_blocks s run
appended_blocks s [] run = nil (run_blocks s run)
  where
    nil : (l : List ℕ) → l ++ [] ≡ l
    nil [] = refl
    nil (x ∷ xs) = ap (λ (t : List ℕ). x ∷ t) (nil xs)
appended_blocks s (r ∷ rs) run = ap (λ (l : List ℕ). run_blocks s r ++ l) (appended_blocks s rs run) ∙ sym (append_assoc (run_blocks s r) (blocks_of s rs) (run_blocks s run))

-- a write at a place of equally long lists one after the other is one in the list that has it
pub set_flat : {X Y : Type 0} (f g : X → List Y) (k : ℕ) (xs : List X) (q r : ℕ) (y : Y) → All (λ x. length (f x) ≡ k) xs → r < k → q < length xs
    → ((i : ℕ) (d : X) → i < length xs → (i ≡ q → ⊥) → g (get_or xs i d) ≡ f (get_or xs i d)) → ((d : X) → g (get_or xs q d) ≡ set (f (get_or xs q d)) r y)
    → flat_map g xs ≡ set (flat_map f xs) (k * q + r) y
set_flat f g k [] q r y all small inside others here = absurd (omega arith)
set_flat f g k (x ∷ xs) zero r y all small inside others here =
    let size : length (f x) ≡ k = all 0 x (omega arith) in
    let e : k * 0 + r ≡ r = omega arith in
    ap₂ (λ a b. a ++ b) (here x) (rest_same xs (λ i d h. others (suc i) d (omega arith) (λ z. omega arith)))
    ∙ sym (set-append_left (f x) (flat_map f xs) r y (omega arith))
    ∙ ap (λ (n : ℕ). set (f x ++ flat_map f xs) n y) (sym e)
  where
    rest_same : (l : List _) → ((i : ℕ) (d : _) → i < length l → g (get_or l i d) ≡ f (get_or l i d)) → flat_map g l ≡ flat_map f l
    rest_same [] same = refl
    rest_same (z ∷ zs) same = ap₂ (λ a b. a ++ b) (same 0 z (omega arith)) (rest_same zs (λ i d h. same (suc i) d (omega arith)))
set_flat f g k (x ∷ xs) (suc q) r y all small inside others here =
    let size : length (f x) ≡ k = all 0 x (omega arith) in
    let e : k * suc q + r - k ≡ k * q + r = omega arith in
    ap₂ (λ a b. a ++ b) (others 0 x (omega arith) (λ z. omega arith))
    (set_flat f g k xs q r y (λ i d h. all (suc i) d (omega arith)) small (omega arith) (λ i d h apart. others (suc i) d (omega arith) (λ z. apart (omega arith))) here)
    ∙ ap (λ (n : ℕ). f x ++ set (flat_map f xs) n y) (sym e)
    ∙ sym (set-append_right (f x) (flat_map f xs) k (k * suc q + r) y size (omega arith))
