-- Rows of which one was put or taken, where some are passed over: what they find, and what the inodes that they name have.
use Rattle.std.proofs.Common.{◌≡◌, ◌+◌, ℕ, ℤ, List, [], ◌∷◌, refl, sym, ap, ◌∙◌, subst, arith, Bool, true, false, cond, Option, Some, None}
use Rattle.std.specs.List.{filter, flat_map, AllByRecursion}
use Rattle.bfs_base.specs.Lists.{times}
use Rattle.bfs_base.specs.declared.kind.KeyKind.TheVariants.{Text}
use Rattle.bfs_node.specs.Page.{Row}
use Rattle.bfs_pages.specs.Maps.{assoc, put, without}
use Rattle.bfs_pages.specs.Order.{at_most, comes_before, same_keys}
use Rattle.bfs_pages.specs.Ways.{KeysAscend}
use Rattle.bfs_pages.proofs.KeyOrder.{less_not_same}
use Rattle.bfs_stream.proofs.Doubles.{times-append}
use Rattle.bfs_maps.specs.Laws.{DiffersAt}
use Rattle.bfs_shift.proofs.OneIndex.{same_name}

module _ (q : List ℕ → Bool) where
  abbrev pub kept : List Row → List Row
  kept rows = filter (λ row. q row.0) rows

  -- a name that passes finds what it finds among all rows, and another name finds none
  pub kept_finds : (rows : List Row) (name : List ℕ) → q name ≡ true → assoc Text (kept rows) name ≡ assoc Text rows name
  kept_finds [] name passes = refl
  kept_finds (r ∷ rs) name passes = by_row (q r.0) refl (kept_finds rs name passes)
    where
      by_row : (t : Bool) → q r.0 ≡ t → assoc Text (kept rs) name ≡ assoc Text rs name → assoc Text (cond t (r ∷ kept rs) (kept rs)) name ≡ assoc Text (r ∷ rs) name
      by_row true e rest = ap (λ o. cond (same_keys Text name r.0) (Some r.1) o) rest
      by_row false e rest = rest ∙ sym (ap (λ b. cond b (Some r.1) (assoc Text rs name)) (other (same_keys Text name r.0) refl))
        where
          other : (t : Bool) → same_keys Text name r.0 ≡ t → same_keys Text name r.0 ≡ false
          other false is = is
          other true is = let same : name ≡ r.0 = same_name name r.0 is in let bad : true ≡ false = sym passes ∙ ap q same ∙ e in cc

  pub kept_none : (rows : List Row) (name : List ℕ) → q name ≡ false → assoc Text (kept rows) name ≡ None
  kept_none [] name fails = refl
  kept_none (r ∷ rs) name fails = by_row (q r.0) refl (kept_none rs name fails)
    where
      by_row : (t : Bool) → q r.0 ≡ t → assoc Text (kept rs) name ≡ None → assoc Text (cond t (r ∷ kept rs) (kept rs)) name ≡ None
      by_row false e rest = rest
      by_row true e rest = ap (λ b. cond b (Some r.1) (assoc Text (kept rs) name)) (other (same_keys Text name r.0) refl) ∙ rest
        where
          other : (t : Bool) → same_keys Text name r.0 ≡ t → same_keys Text name r.0 ≡ false
          other false is = is
          other true is = let same : name ≡ r.0 = same_name name r.0 is in let bad : true ≡ false = sym e ∙ ap q (sym same) ∙ fails in cc

  -- so what differs at one name differs there too
  pub kept_differs : (rows now : List Row) (name : List ℕ) (value : Option ℤ) → q name ≡ true → DiffersAt Text rows now name value → DiffersAt Text (kept rows) (kept now) name value
  kept_differs rows now name value passes d = record {
    changed = kept_finds now name passes ∙ d.changed;
    others = λ k other. by_name k other (q k) refl;
  }
    where
      by_name : (k : List ℕ) → same_keys Text k name ≡ false → (t : Bool) → q k ≡ t → assoc Text (kept now) k ≡ assoc Text (kept rows) k
      by_name k other true e = kept_finds now k e ∙ d.others k other ∙ sym (kept_finds rows k e)
      by_name k other false e = kept_none now k e ∙ sym (kept_none rows k e)

  module _ (g : ℤ → List ℕ) (k : ℕ) (name : List ℕ) (passes : q name ≡ true) where
    abbrev all : List Row → List ℕ
    all rows = flat_map (λ row. g row.1) rows

    pub put_counts : (rows : List Row) (value : ℤ) → times k (all (kept (put Text rows name value))) ≡ times k (g value) + times k (all (kept rows))
    put_counts [] value = ap (λ (t : Bool). times k (all (cond t ((name, value) ∷ []) []))) passes ∙ times-append k (g value) []
    put_counts (r ∷ rs) value = by_place (at_most Text name r.0) (put_counts rs value)
      where
        by_row : (t : Bool) → q r.0 ≡ t → times k (all (kept (put Text rs name value))) ≡ times k (g value) + times k (all (kept rs))
            → times k (all (cond t (r ∷ kept (put Text rs name value)) (kept (put Text rs name value)))) ≡ times k (g value) + times k (all (cond t (r ∷ kept rs) (kept rs)))
        by_row false e ih = ih
        by_row true e ih = let a = times-append k (g r.1) (all (kept (put Text rs name value))) in let b = times-append k (g r.1) (all (kept rs)) in omega (arith, a, b, ih)

        by_place : (t : Bool) → times k (all (kept (put Text rs name value))) ≡ times k (g value) + times k (all (kept rs))
            → times k (all (kept (cond t ((name, value) ∷ r ∷ rs) (r ∷ put Text rs name value)))) ≡ times k (g value) + times k (all (kept (r ∷ rs)))
        by_place true ih = ap (λ (t : Bool). times k (all (cond t ((name, value) ∷ kept (r ∷ rs)) (kept (r ∷ rs))))) passes ∙ times-append k (g value) (all (kept (r ∷ rs)))
        by_place false ih = by_row (q r.0) refl ih

    none_same : (rs : List Row) → AllByRecursion (λ (s : Row). comes_before Text name s.0 ≡ true) rs → without Text rs name ≡ rs
    none_same [] above = refl
    none_same (s ∷ rs) above =
        ap (λ (t : Bool). cond t (without Text rs name) (s ∷ without Text rs name)) (less_not_same Text name s.0 above.0) ∙ ap (λ (l : List Row). s ∷ l) (none_same rs above.1)

    pub taken_counts : (rows : List Row) (value : ℤ) → KeysAscend Text rows → assoc Text rows name ≡ Some value → times k (all (kept (without Text rows name))) + times k (g value) ≡ times k (all (kept rows))
    taken_counts [] value ascend found = absurd (let bad : None ≡ Some value = found in cc)
    taken_counts (r ∷ rs) value ascend found = by_test (same_keys Text name r.0) refl found (λ at. taken_counts rs value ascend.1 at)
      where
        by_row : (t : Bool) → times k (all (kept (without Text rs name))) + times k (g value) ≡ times k (all (kept rs))
            → times k (all (cond t (r ∷ kept (without Text rs name)) (kept (without Text rs name)))) + times k (g value) ≡ times k (all (cond t (r ∷ kept rs) (kept rs)))
        by_row false ih = ih
        by_row true ih = let a = times-append k (g r.1) (all (kept (without Text rs name))) in let b = times-append k (g r.1) (all (kept rs)) in omega (arith, a, b, ih)

        by_test : (t : Bool) → same_keys Text name r.0 ≡ t → cond t (Some r.1) (assoc Text rs name) ≡ Some value
            → (assoc Text rs name ≡ Some value → times k (all (kept (without Text rs name))) + times k (g value) ≡ times k (all (kept rs)))
            → times k (all (kept (cond t (without Text rs name) (r ∷ without Text rs name)))) + times k (g value) ≡ times k (all (kept (r ∷ rs)))
        by_test false e at ih = by_row (q r.0) (ih at)
        by_test true e at ih =
            let same : name ≡ r.0 = same_name name r.0 e in
            let number : r.1 ≡ value = (let both : Some r.1 ≡ Some value = at in cc) in
            let rest : without Text rs name ≡ rs = none_same rs (subst (λ (key : List ℕ). AllByRecursion (λ (s : Row). comes_before Text key s.0 ≡ true) rs) (sym same) ascend.0) in
            let a : times k (all (kept (without Text rs name))) ≡ times k (all (kept rs)) = ap (λ (l : List Row). times k (all (kept l))) rest in
            let b : times k (all (kept (r ∷ rs))) ≡ times k (g r.1) + times k (all (kept rs)) = ap (λ (t : Bool). times k (all (cond t (r ∷ kept rs) (kept rs)))) (ap q (sym same) ∙ passes) ∙ times-append k (g r.1) (all (kept rs)) in
            let c : times k (g r.1) ≡ times k (g value) = ap (λ (z : ℤ). times k (g z)) number in
            omega (arith, a, b, c)
