-- Names among items, one of which stands twice.
use Rattle.std.proofs.Common.{◌≡◌, ◌∙◌, ◌≤◌, ◌+◌, ◌⊎◌, inl, inr, ℕ, zero, suc, pos, List, [], ◌∷◌, ◌++◌, length, length-drop, drop, Bool, true, false, cond, Option, Some, refl, sym, ap, subst, arith, append_assoc}
use Rattle.std.proofs.lemmas.Bool.{false≢true}
use Rattle.std.proofs.lemmas.List.{append-nil, drop-drop}
use Rattle.std.proofs.lemmas.List.Sums.{sum_by-cons, sum_by-append}
use Rattle.std.proofs.lemmas.Slice.Eq.{bytes_eq-Decides}
use Rattle.std.specs.Prelude.{IsSome, IfSome, count_by}
use Rattle.std.specs.List.{AllByRecursion}
use Rattle.std.specs.Str.{bytes_eq}
use Rattle.bfs_smalldata.specs.Items.{Item, GoesOn, Ends, size_in, item_in, sizes_of, items_of, RunsPast}
use Rattle.bfs_smalldata.specs.Edits.{named, AreDistinct}
use Rattle.bfs_smalldata.proofs.Reading.{is_more}
use Rattle.bfs_smalldata.proofs.Standing.{sizes_joined}
use Rattle.bfs_smalldata.proofs.Listing.{area_from, area_to}
use Rattle.bfs_smalldata.proofs.Naming.{named_first, named_later}
use Rattle.bfs_sound.specs.Volumes.{Volume}
use Rattle.bfs_finding.specs.NodeFaults.{area_of, IsAttributeFault, of_area, runs_past}
use Rattle.bfs_finding.specs.Findings.{IsBroken}
use Rattle.bfs_finding.specs.declared.finding.Finding.TheVariants as finds
use Rattle.bfs_finding.specs.declared.finding.InodePart.TheVariants as parts
use Rattle.bfs_finding.specs.Ways.{IsReached}
use Rattle.bfs_node_check.proofs.Walked.{Walks, Reaches, behind, reached, some_items}

abbrev pub one : Bool → ℕ
one c = cond c 1 0

abbrev pub times_in : List ℕ → List Item → ℕ
times_in name items = count_by (λ (item : Item). bytes_eq item.name name) items

module _ (name : List ℕ) where
  pub cons_in : (x : Item) (xs : List Item) → times_in name (x ∷ xs) ≡ one (bytes_eq x.name name) + times_in name xs
  cons_in x xs = sum_by-cons (λ (i : Item). one (bytes_eq i.name name)) x xs

  pub both_in : (xs ys : List Item) → times_in name (xs ++ ys) ≡ times_in name xs + times_in name ys
  both_in xs ys = sum_by-append (λ (i : Item). one (bytes_eq i.name name)) xs ys

  pub counted : (xs : List Item) → IsSome (named name xs) → 1 ≤ times_in name xs
  counted [] s = absurd (false≢true s)
  counted (x ∷ xs) s = by_test (bytes_eq x.name name) refl (counted xs)
    where
      by_test : (c : Bool) → bytes_eq x.name name ≡ c → (IsSome (named name xs) → 1 ≤ times_in name xs) → 1 ≤ times_in name (x ∷ xs)
      by_test true e ih =
          let a = cons_in x xs in
          let b : one (bytes_eq x.name name) ≡ 1 = ap one e in
          omega (arith, a, b)
      by_test false e ih =
          let a = cons_in x xs in
          let h = ih (subst (λ (o : Option Item). IsSome o) (named_later name x xs e) s) in
          omega (arith, a, h)

  pub missing : (xs : List Item) → (IsSome (named name xs) → ⊥) → times_in name xs ≡ 0
  missing [] s = refl
  missing (x ∷ xs) s = by_test (bytes_eq x.name name) refl (missing xs)
    where
      by_test : (c : Bool) → bytes_eq x.name name ≡ c → ((IsSome (named name xs) → ⊥) → times_in name xs ≡ 0) → times_in name (x ∷ xs) ≡ 0
      by_test true e ih = absurd (s (subst (λ (o : Option Item). IsSome o) (sym (named_first name x xs e)) refl))
      by_test false e ih =
          let a = cons_in x xs in
          let b : one (bytes_eq x.name name) ≡ 0 = ap one e in
          let h = ih (λ t. s (subst (λ (o : Option Item). IsSome o) (sym (named_later name x xs e)) t)) in
          omega (arith, a, b, h)

-- an item that runs past the area
pub past_few : (area : List ℕ) (at : ℕ) → RunsPast area at → at ≤ length area
past_few area at past = let a = past.goes_on.0 in let b = length-drop at area in omega (arith, a, b)

pub runs_past_there : (v : Volume) (id : ℕ) (area : List ℕ) (at : ℕ) → area_of v id ≡ area → IsReached v id → RunsPast area at → IsBroken v (finds.Inode id parts.SmallData (pos at))
runs_past_there v id area at same there past = of_area at there (runs_past at (subst (λ (l : List ℕ). RunsPast l at) (sym same) past)) refl refl

-- at this place of a walk each name that was met is there once
pub record Apart (area : List ℕ) (at : ℕ) : Type 0 where
  pub front : List Item
  pub back : List Item
  pub items : items_of area ≡ Some (front ++ back)
  pub place : at ≡ sizes_of front
  pub apart : (name : List ℕ) → 1 ≤ times_in name front → times_in name (front ++ back) ≤ 1

pub apart_start : (area : List ℕ) → IsSome (items_of area) → Apart area 0
apart_start area some =
    let s = some_items (items_of area) some in
    record { front = []; back = s.0; items = s.1; place = refl; apart = λ name h. absurd (nothing name h) }
  where
    nothing : (name : List ℕ) → 1 ≤ times_in name [] → ⊥
    nothing name h = omega (arith, h)

abbrev Any : Item → Type 0
Any item = Unit {0}

all_any : (xs : List Item) → AllByRecursion Any xs
all_any [] = tt
all_any (x ∷ xs) = (tt, all_any xs)

module _ (area : List ℕ) (at : ℕ) (p : Apart area at) where
  abbrev walks : Walks Any area at
  walks = record { front = p.front; back = p.back; items = p.items; place = p.place; all = all_any p.front }

  pub item_here : GoesOn (drop at area) → Reaches area at p.front
  item_here more = reached area at Any walks more

  module _ (r : Reaches area at p.front) where
    abbrev next : ℕ
    next = at + size_in (drop at area)

    abbrev met : List Item
    met = p.front ++ r.item ∷ []

    met_items : items_of area ≡ Some (met ++ r.rest)
    met_items = r.items ∙ ap (λ (xs : List Item). Some xs) (sym (append_assoc p.front (r.item ∷ []) r.rest))

    met_place : next ≡ sizes_of met
    met_place = let a = p.place in let b = is_more (drop at area) r.item r.begins in let d = sizes_joined p.front (r.item ∷ []) in omega (arith, a, b, d)

    -- the items behind the one here
    pub rest_items : items_of (drop next area) ≡ Some r.rest
    rest_items =
        let stand = behind area next met r.rest met_items met_place in
        let size : sizes_of (met ++ r.rest) ≡ next + sizes_of r.rest = let j = sizes_joined met r.rest in let q = met_place in omega (arith, j, q) in
        let ends : Ends (drop (next + sizes_of r.rest) area) = subst (λ (n : ℕ). Ends (drop n area)) size (area_from area (met ++ r.rest) met_items).1 in
        area_to (drop next area) r.rest (stand, subst Ends (sym (drop-drop (sizes_of r.rest) next area)) ends)

    all_items : p.front ++ p.back ≡ p.front ++ r.item ∷ r.rest
    all_items = let e : Some (p.front ++ p.back) ≡ Some (p.front ++ r.item ∷ r.rest) = sym p.items ∙ r.items in cc

    -- its name isn't met again
    pub apart_more : (IsSome (named r.item.name r.rest) → ⊥) → Apart area next
    apart_more none = record { front = met; back = r.rest; items = met_items; place = met_place; apart = λ name h. few name h }
      where
        few : (name : List ℕ) → 1 ≤ times_in name met → times_in name (met ++ r.rest) ≤ 1
        few name h = by_test (bytes_eq r.item.name name) refl
          where
            by_test : (c : Bool) → bytes_eq r.item.name name ≡ c → times_in name (met ++ r.rest) ≤ 1
            by_test c e =
                let a = both_in name met r.rest in
                let b = both_in name p.front (r.item ∷ []) in
                let d : times_in name (r.item ∷ []) ≡ one (bytes_eq r.item.name name) + 0 = cons_in name r.item [] in
                let f = both_in name p.front (r.item ∷ r.rest) in
                let g = cons_in name r.item r.rest in
                let k : one (bytes_eq r.item.name name) ≡ one c = ap one e in
                let old : 1 ≤ times_in name p.front → times_in name (p.front ++ r.item ∷ r.rest) ≤ 1 = λ q. subst (λ (l : List Item). times_in name l ≤ 1) all_items (p.apart name q) in
                by_name c e (times_in name p.front) (times_in name (met ++ r.rest)) (omega (arith, a, b, d, k)) (λ q. let o = old q in omega (arith, o, f, g, k)) (let hh = h in omega (arith, hh, b, d, k))
              where
                by_name : (c : Bool) → bytes_eq r.item.name name ≡ c → (tf all : ℕ) → all ≡ tf + one c + times_in name r.rest → (1 ≤ tf → tf + one c + times_in name r.rest ≤ 1) → 1 ≤ tf + one c → all ≤ 1
                by_name true e zero all is old h =
                    let same : r.item.name ≡ name = (bytes_eq-Decides r.item.name name).0 e in
                    let gone : times_in name r.rest ≡ 0 = subst (λ (n : List ℕ). times_in n r.rest ≡ 0) same (missing r.item.name r.rest none) in
                    omega (arith, is, gone)
                by_name false e zero all is old h = absurd (omega (arith, h))
                by_name c e (suc n) all is old h = let o = old (omega arith) in omega (arith, is, o)

    -- its name is met again
    pub twice_here : (v : Volume) (id : ℕ) (name : List ℕ) → area_of v id ≡ area → IsReached v id → name ≡ (item_in (drop at area)).name → IsSome (named r.item.name r.rest) → IsAttributeFault v id name
    twice_here v id name same there is some =
        let called : r.item.name ≡ name = ap (λ (i : Item). i.name) r.begins.same ∙ sym is in
        record {
          there = there;
          items = p.front ++ r.item ∷ r.rest;
          area = ap items_of same ∙ r.items;
          twice = inl (subst (λ (n : List ℕ). 2 ≤ times_in n (p.front ++ r.item ∷ r.rest)) called two);
        }
      where
        two : 2 ≤ times_in r.item.name (p.front ++ r.item ∷ r.rest)
        two =
            let a = both_in r.item.name p.front (r.item ∷ r.rest) in
            let b = cons_in r.item.name r.item r.rest in
            let c : one (bytes_eq r.item.name r.item.name) ≡ 1 = ap one ((bytes_eq-Decides r.item.name r.item.name).1 refl) in
            let d = counted r.item.name r.rest some in
            omega (arith, a, b, c, d)

  all_met : (front back : List Item) → items_of area ≡ Some (front ++ back) → at ≡ sizes_of front → (GoesOn (drop at area) → ⊥) → front ++ back ≡ front
  all_met front [] items place over = append-nil front
  all_met front (item ∷ back) items place over = absurd (over (behind area at front (item ∷ back) items place).0.goes_on)

  -- all names were met
  pub apart_end : (GoesOn (drop at area) → ⊥) → IfSome (items_of area) AreDistinct
  apart_end over =
      let all : p.front ++ p.back ≡ p.front = all_met p.front p.back p.items p.place over in
      subst (λ (o : Option (List Item)). IfSome o AreDistinct) (sym p.items) (λ name. once name all (cases (times_in name p.front)))
    where
      cases : (n : ℕ) → (n ≡ 0) ⊎ (1 ≤ n)
      cases zero = inl refl
      cases (suc n) = inr (omega arith)

      once : (name : List ℕ) → p.front ++ p.back ≡ p.front → (times_in name p.front ≡ 0) ⊎ (1 ≤ times_in name p.front) → times_in name (p.front ++ p.back) ≤ 1
      once name all (inl none) = let e : times_in name (p.front ++ p.back) ≡ times_in name p.front = ap (times_in name) all in omega (arith, none, e)
      once name all (inr some) = p.apart name some
