-- A run that was given back stands behind the others, and has no number.
use Rattle.std.proofs.Common.{◌≡◌, List, [], ◌∷◌, ◌++◌, Bool, true, false, cond, Option, None, ap, ◌∙◌}
use Rattle.std.specs.Prelude.{ℕ, is_some}
use Rattle.bfs_bitmap.specs.declared.given.Given.{Given}
use Rattle.bfs_bitmap.specs.Runs.{Room}
use Rattle.bfs_stream.specs.Standing.{with_number, kept_first, kept_not, standing}

kept_behind : (gs : List Given) (g : Given) → g.kept ≡ false → kept_first (gs ++ g ∷ []) ≡ kept_first gs
kept_behind [] g open_yet = ap (λ (t : Bool). cond t (g ∷ []) []) open_yet
kept_behind (h ∷ gs) g open_yet = ap (λ (rest : List Given). cond h.kept (h ∷ rest) []) (kept_behind gs g open_yet)

number_behind : (gs : List Given) (g : Given) → g.group ≡ None → with_number (gs ++ g ∷ []) ≡ with_number gs
number_behind [] g none = ap (λ (o : Option ℕ). cond (is_some o) (g ∷ []) []) none
number_behind (h ∷ gs) g none = ap (λ (rest : List Given). cond (is_some h.group) (h ∷ rest) rest) (number_behind gs g none)

not_behind : (gs : List Given) (g : Given) → g.group ≡ None → g.kept ≡ false → with_number (kept_not (gs ++ g ∷ [])) ≡ with_number (kept_not gs)
not_behind [] g none open_yet = ap (λ (t : Bool). with_number (cond t [] (g ∷ []))) open_yet ∙ number_behind [] g none
not_behind (h ∷ gs) g none open_yet = by_kept (not_behind gs g none open_yet) h.kept
  where
    by_kept : with_number (kept_not (gs ++ g ∷ [])) ≡ with_number (kept_not gs) → (t : Bool) → with_number (cond t (kept_not (gs ++ g ∷ [])) (h ∷ (gs ++ g ∷ []))) ≡ with_number (cond t (kept_not gs) (h ∷ gs))
    by_kept again true = again
    by_kept again false = number_behind (h ∷ gs) g none

pub stands_behind : (v now : Room) (g : Given) → g.group ≡ None → g.kept ≡ false → now.given ≡ v.given ++ g ∷ [] → standing now ≡ standing v
unfolding standing
stands_behind v now g none open_yet is =
    let first : kept_first now.given ≡ kept_first v.given = ap kept_first is ∙ kept_behind v.given g open_yet in
    let later : with_number (kept_not now.given) ≡ with_number (kept_not v.given) = ap (λ (gs : List Given). with_number (kept_not gs)) is ∙ not_behind v.given g none open_yet in
    λ i. (first i, later i)
