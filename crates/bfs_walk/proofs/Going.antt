-- Steps of a walk over pages: what has still to be done becomes less.
use Rattle.std.proofs.Common.{◌≡◌, ◌≤◌, ◌<◌, ◌+◌, ℕ, ℤ, pos, negsuc, zero, suc, List, [], ◌∷◌, ◌++◌, length, drop, map, Option, Some, None, Bool, true, cond, refl, sym, ap, ◌∙◌, subst, arith, inl, inr, ◌⊎◌, ⊎_elim}
use Rattle.std.specs.List.{AllByRecursion, flat_map}
use Rattle.bfs_base.specs.declared.kind.KeyKind.{KeyKind}
use Rattle.bfs_node.specs.Page.{Row, rows_of, row_in, value_of, links_of, overflow_of}
use Rattle.bfs_pages.specs.Answers.{IsChild, IsInteriorPage}
use Rattle.bfs_pages.specs.Shapes.{Body, inner_body}
use Rattle.bfs_pages.specs.Trees.{place_of, page_in, state_of, body_of, body_in, is_page, children_in}
use Rattle.bfs_values.specs.Rows.{children_at}
use Rattle.std.specs.Prelude.{◌==◌}
use Rattle.bfs_base.specs.Lists.{times, Has}
use Rattle.bfs_finding.specs.Walks.{inners_below, leaves_below, inners_in, leaves_in}
use Rattle.bfs_walk.specs.Due.{IsDue, AreDue, IsPart, ArePart, AreChildren, child_in}
use Rattle.bfs_walk.specs.Walked.{IsGoodBelow}
use Rattle.bfs_walk.specs.declared.way.Frame.{Frame}

pub child_at : (rows : List Row) (last : ℤ) (i : ℕ) → i < length rows → child_in rows last i ≡ Some (place_of (value_of (row_in rows i)))
child_at [] last i h = absurd (omega (arith, h))
child_at (r ∷ rs) last zero h = refl
child_at (r ∷ rs) last (suc i) h = child_at rs last i (omega (arith, h))

pub child_last : (rows : List Row) (last : ℤ) (i : ℕ) → i ≡ length rows → child_in rows last i ≡ Some (place_of last)
child_last [] last zero h = refl
child_last [] last (suc i) h = absurd (omega (arith, h))
child_last (r ∷ rs) last zero h = absurd (omega (arith, h))
child_last (r ∷ rs) last (suc i) h = child_last rs last i (omega (arith, h))

pub child_none : (rows : List Row) (last : ℤ) (i : ℕ) → length rows < i → child_in rows last i ≡ None
child_none [] last zero h = absurd (omega (arith, h))
child_none [] last (suc i) h = refl
child_none (r ∷ rs) last zero h = absurd (omega (arith, h))
child_none (r ∷ rs) last (suc i) h = child_none rs last i (omega (arith, h))

-- the children of an interior page, and those from a number on
abbrev children : List Row → ℤ → List ℕ
children rows last = map (λ e. e.1) (children_in rows) ++ (place_of last ∷ [])

no_more : (rows : List Row) (last : ℤ) (i : ℕ) → child_in rows last i ≡ None → drop i (children rows last) ≡ []
no_more [] last zero e = absurd (no e)
  where
    no : Some (place_of last) ≡ None → ⊥
    no e = cc
no_more [] last (suc zero) e = refl
no_more [] last (suc (suc i)) e = refl
no_more (r ∷ rs) last zero e = absurd (no e)
  where
    no : Some (place_of r.1) ≡ None → ⊥
    no e = cc
no_more (r ∷ rs) last (suc i) e = no_more rs last i e

one_more : (rows : List Row) (last : ℤ) (i c : ℕ) → child_in rows last i ≡ Some c → drop i (children rows last) ≡ c ∷ drop (suc i) (children rows last)
one_more [] last zero c e = ap (λ x. x ∷ []) (same e)
  where
    same : Some (place_of last) ≡ Some c → place_of last ≡ c
    same e = cc
one_more [] last (suc i) c e = absurd (no e)
  where
    no : None ≡ Some c → ⊥
    no e = cc
one_more (r ∷ rs) last zero c e = ap (λ x. x ∷ children rs last) (same e)
  where
    same : Some (place_of r.1) ≡ Some c → place_of r.1 ≡ c
    same e = cc
one_more (r ∷ rs) last (suc i) c e = one_more rs last i c e

-- what a page says
good_body : (kind : KeyKind) (page : List ℕ) → is_page kind page ≡ true → body_in kind page ≡ Some (body_of (links_of page).overflow (rows_of page))
good_body kind page e = ap (λ c. cond c (Some (body_of (links_of page).overflow (rows_of page))) None) e

pub leaf_good : (kind : KeyKind) (b : List ℕ) (at : ℕ) (page : List ℕ) → page ≡ page_in b at → is_page kind page ≡ true → overflow_of page ≡ negsuc 0 → IsGoodBelow (state_of kind b).bodies 0 at
leaf_good kind b at page is good leaf =
    (rows_of page, ap (body_in kind) (sym is) ∙ good_body kind page good ∙ ap (λ z. Some (body_of z (rows_of page))) leaf)

inner_is : (size : ℕ) (z : ℤ) (rows : List Row) → IsChild size (place_of z) → body_of z rows ≡ inner_body (children_in rows) (place_of z)
inner_is size (pos n) rows h = refl
inner_is size (negsuc zero) rows h = absurd (omega (arith, h.0))
inner_is size (negsuc (suc n)) rows h = refl

pub inner_good : (kind : KeyKind) (b : List ℕ) (at size : ℕ) (page : List ℕ) → page ≡ page_in b at → IsInteriorPage kind size page
    → (state_of kind b).bodies at ≡ Some (inner_body (children_in (rows_of page)) (place_of (overflow_of page)))
inner_good kind b at size page is inner =
    ap (body_in kind) (sym is) ∙ good_body kind page inner.good ∙ ap Some (inner_is size (links_of page).overflow (rows_of page) inner.last)

children_good : (bodies : ℕ → Option Body) (at n : ℕ) (rows : List Row) (last : ℤ) → bodies at ≡ Some (inner_body (children_in rows) (place_of last))
    → AllByRecursion (IsGoodBelow bodies n) (children_at (bodies at)) → IsGoodBelow bodies (suc n) at
children_good bodies at n rows last is all = (children_in rows, place_of last, is, subst (λ o. AllByRecursion (IsGoodBelow bodies n) (children_at o)) is all)

-- what a list and one more have
all_first : {X : Type 0} (P : X → Type 0) (xs : List X) (y : X) → AllByRecursion P (xs ++ y ∷ []) → AllByRecursion P xs × P y
all_first P [] y a = (tt, a.0)
all_first P (x ∷ xs) y a = let r = all_first P xs y a.1 in ((a.0, r.0), r.1)

all_put : {X : Type 0} (P : X → Type 0) (xs : List X) (y : X) → AllByRecursion P xs → P y → AllByRecursion P (xs ++ y ∷ [])
all_put P [] y a p = (p, tt)
all_put P (x ∷ xs) y a p = (a.0, all_put P xs y a.1 p)

-- a page was entered
pub entered : (kind : KeyKind) (b : List ℕ) (at deep size : ℕ) (page : List ℕ) (f : Frame) (frames new : List Frame) → page ≡ page_in b at → IsInteriorPage kind size page
    → f.at ≡ at → f.next ≡ 0 → suc f.deep ≡ deep → new ≡ frames ++ f ∷ []
    → AreDue (state_of kind b).bodies new → AreDue (state_of kind b).bodies frames × IsGoodBelow (state_of kind b).bodies deep at
entered kind b at deep size page f frames new is inner f_at f_next f_deep push due =
    let bodies : ℕ → Option Body = (state_of kind b).bodies in
    let parts = all_first (IsDue bodies) frames f (subst (AreDue bodies) push due) in
    let all : AllByRecursion (IsGoodBelow bodies f.deep) (children_at (bodies f.at)) = subst (λ n. AllByRecursion (IsGoodBelow bodies f.deep) (drop n (children_at (bodies f.at)))) f_next parts.1 in
    let here : IsGoodBelow bodies (suc f.deep) at =
    children_good bodies at f.deep (rows_of page) (overflow_of page) (inner_good kind b at size page is inner) (subst (λ k. AllByRecursion (IsGoodBelow bodies f.deep) (children_at (bodies k))) f_at all) in
    (parts.0, subst (λ n. IsGoodBelow bodies n at) f_deep here)

-- the last page on the way has no child more
pub left_behind : (kind : KeyKind) (b : List ℕ) (size : ℕ) (page : List ℕ) (f : Frame) (frames old : List Frame) → page ≡ page_in b f.at → IsInteriorPage kind size page → old ≡ frames ++ f ∷ []
    → child_in (rows_of page) (overflow_of page) f.next ≡ None → AreDue (state_of kind b).bodies frames → AreDue (state_of kind b).bodies old
left_behind kind b size page f frames old is inner pop none due =
    let bodies : ℕ → Option Body = (state_of kind b).bodies in
    let body = inner_good kind b f.at size page is inner in
    let rest : drop f.next (children_at (bodies f.at)) ≡ [] = ap (λ o. drop f.next (children_at o)) body ∙ no_more (rows_of page) (overflow_of page) f.next none in
    subst (AreDue bodies) (sym pop) (all_put (IsDue bodies) frames f due (subst (AllByRecursion (IsGoodBelow bodies f.deep)) (sym rest) tt))

-- the next child of the last page on the way was entered
pub went_on : (kind : KeyKind) (b : List ℕ) (size : ℕ) (page : List ℕ) (f r : Frame) (frames old mid : List Frame) (child : ℕ) → page ≡ page_in b f.at → IsInteriorPage kind size page → old ≡ frames ++ f ∷ []
    → child_in (rows_of page) (overflow_of page) f.next ≡ Some child → r.at ≡ f.at → r.next ≡ f.next + 1 → r.deep ≡ f.deep → mid ≡ frames ++ r ∷ []
    → AreDue (state_of kind b).bodies mid × IsGoodBelow (state_of kind b).bodies f.deep child → AreDue (state_of kind b).bodies old
went_on kind b size page f r frames old mid child is inner pop some r_at r_next r_deep push due =
    let bodies : ℕ → Option Body = (state_of kind b).bodies in
    let body = inner_good kind b f.at size page is inner in
    let parts = all_first (IsDue bodies) frames r (subst (AreDue bodies) push due.0) in
    let next_is : r.next ≡ suc f.next = omega (arith, r_next) in
    let rest : drop f.next (children_at (bodies f.at)) ≡ child ∷ drop (suc f.next) (children_at (bodies f.at)) =
    ap (λ o. drop f.next (children_at o)) body ∙ one_more (rows_of page) (overflow_of page) f.next child some ∙ ap (λ o. child ∷ drop (suc f.next) (children_at o)) (sym body) in
    let a : AllByRecursion (IsGoodBelow bodies r.deep) (drop r.next (children_at (bodies f.at))) = subst (λ k. AllByRecursion (IsGoodBelow bodies r.deep) (drop r.next (children_at (bodies k)))) r_at parts.1 in
    let c : AllByRecursion (IsGoodBelow bodies r.deep) (drop (suc f.next) (children_at (bodies f.at))) = subst (λ n. AllByRecursion (IsGoodBelow bodies r.deep) (drop n (children_at (bodies f.at)))) next_is a in
    let d : AllByRecursion (IsGoodBelow bodies f.deep) (drop (suc f.next) (children_at (bodies f.at))) = subst (λ n. AllByRecursion (IsGoodBelow bodies n) (drop (suc f.next) (children_at (bodies f.at)))) r_deep c in
    subst (AreDue bodies) (sym pop) (all_put (IsDue bodies) frames f parts.0 (subst (AllByRecursion (IsGoodBelow bodies f.deep)) (sym rest) (due.1, d)))

has_first : (x : ℕ) (xs : List ℕ) → Has (x ∷ xs) x
has_first x xs = let e : (x == x) ≡ true = grind arith in subst (λ (b : Bool). 0 < cond b 1 0 + times x xs) (sym e) (omega arith)

-- a page that is entered is of the tree
pub leaf_part : (kind : KeyKind) (b : List ℕ) (deep at : ℕ) → deep ≡ 0 → IsPart kind b deep at → Has (leaves_in kind b) at
leaf_part kind b zero at e part = part.leaves at (has_first at [])
leaf_part kind b (suc n) at e part = absurd (omega (arith, e))

pub inner_part : (kind : KeyKind) (b : List ℕ) (deep at : ℕ) → (deep ≡ 0 → ⊥) → IsPart kind b deep at → Has (inners_in kind b) at
inner_part kind b zero at e part = absurd (e refl)
inner_part kind b (suc n) at e part = part.inners at (has_first at (flat_map (inners_below (state_of kind b).bodies n) (children_at ((state_of kind b).bodies at))))

pub part_put : (kind : KeyKind) (b : List ℕ) (deep at : ℕ) (f : Frame) (frames new : List Frame) → f.at ≡ at → suc f.deep ≡ deep → new ≡ frames ++ f ∷ [] → IsPart kind b deep at → ArePart kind b frames → ArePart kind b new
part_put kind b deep at f frames new f_at f_deep push part all =
    let P : Frame → Type 0 = λ g. IsPart kind b (suc g.deep) g.at in
    let here : P f = subst (λ n. IsPart kind b n f.at) (sym f_deep) (subst (λ x. IsPart kind b deep x) (sym f_at) part) in
    subst (ArePart kind b) (sym push) (all_put P frames f all here)

pub children_put : (size : ℕ) (f : Frame) (frames new : List Frame) → new ≡ frames ++ f ∷ [] → IsChild size f.at → AreChildren size frames → AreChildren size new
children_put size f frames new push child all = subst (AreChildren size) (sym push) (all_put (λ g. IsChild size g.at) frames f all child)

times_left : (k : ℕ) (xs ys : List ℕ) → times k xs ≤ times k (xs ++ ys)
times_left k [] ys = omega arith
times_left k (x ∷ xs) ys = let ih = times_left k xs ys in omega (arith, ih)

times_right : (k : ℕ) (xs ys : List ℕ) → times k ys ≤ times k (xs ++ ys)
times_right k [] ys = omega arith
times_right k (x ∷ xs) ys = let ih = times_right k xs ys in omega (arith, ih)

has_flat : (f : ℕ → List ℕ) (xs rest : List ℕ) (i c x : ℕ) → drop i xs ≡ c ∷ rest → Has (f c) x → Has (flat_map f xs) x
has_flat f xs rest zero c x e h = subst (λ l. Has (flat_map f l) x) (sym e) (let z = times_left x (f c) (flat_map f rest) in omega (arith, z, h))
has_flat f [] rest (suc i) c x e h = absurd (no e)
  where
    no : [] ≡ c ∷ rest → ⊥
    no e = cc
has_flat f (y ∷ ys) rest (suc i) c x e h = let ih = has_flat f ys rest i c x e h in let z = times_right x (f y) (flat_map f ys) in omega (arith, z, ih)

-- the frames without the last one
pub children_last : (size : ℕ) (f : Frame) (frames old : List Frame) → old ≡ frames ++ f ∷ [] → AreChildren size old → AreChildren size frames × IsChild size f.at
children_last size f frames old pop all = all_first (λ g. IsChild size g.at) frames f (subst (AreChildren size) pop all)

pub part_last : (kind : KeyKind) (b : List ℕ) (f : Frame) (frames old : List Frame) → old ≡ frames ++ f ∷ [] → ArePart kind b old → ArePart kind b frames × IsPart kind b (suc f.deep) f.at
part_last kind b f frames old pop all = all_first (λ g. IsPart kind b (suc g.deep) g.at) frames f (subst (ArePart kind b) pop all)

-- a child is a row's, or the last one
child_cases : (rows : List Row) (last : ℤ) (i c : ℕ) → child_in rows last i ≡ Some c → ((i < length rows) × (place_of (value_of (row_in rows i)) ≡ c)) ⊎ (place_of last ≡ c)
child_cases [] last zero c e = inr (same e)
  where
    same : Some (place_of last) ≡ Some c → place_of last ≡ c
    same e = cc
child_cases [] last (suc i) c e = absurd (no e)
  where
    no : None ≡ Some c → ⊥
    no e = cc
child_cases (r ∷ rs) last zero c e = inl (omega arith, same e)
  where
    same : Some (place_of r.1) ≡ Some c → place_of r.1 ≡ c
    same e = cc
child_cases (r ∷ rs) last (suc i) c e = ⊎_elim (λ h. inl (let z = h.0 in omega (arith, z), h.1)) (λ h. inr h) (child_cases rs last i c e)

pub child_inside : (kind : KeyKind) (size : ℕ) (page : List ℕ) (i c : ℕ) → IsInteriorPage kind size page → child_in (rows_of page) (overflow_of page) i ≡ Some c → IsChild size c
child_inside kind size page i c inner e =
    ⊎_elim (λ h. subst (IsChild size) h.1 (inner.children i h.0)) (λ h. subst (IsChild size) h inner.last) (child_cases (rows_of page) (overflow_of page) i c e)

pub child_part : (kind : KeyKind) (b : List ℕ) (size deep at : ℕ) (page : List ℕ) (i c : ℕ) → page ≡ page_in b at → IsInteriorPage kind size page → child_in (rows_of page) (overflow_of page) i ≡ Some c
    → IsPart kind b (suc deep) at → IsPart kind b deep c
child_part kind b size deep at page i c is inner some part =
    let bodies : ℕ → Option Body = (state_of kind b).bodies in
    let there : drop i (children_at (bodies at)) ≡ c ∷ drop (suc i) (children (rows_of page) (overflow_of page)) =
    ap (λ o. drop i (children_at o)) (inner_good kind b at size page is inner) ∙ one_more (rows_of page) (overflow_of page) i c some in record {
      inners = λ x h. part.inners x (let z = has_flat (inners_below bodies deep) (children_at (bodies at)) (drop (suc i) (children (rows_of page) (overflow_of page))) i c x there h in let w = times_right x (at ∷ []) (flat_map (inners_below bodies deep) (children_at (bodies at))) in omega (arith, z, w));
      leaves = λ x h. part.leaves x (has_flat (leaves_below bodies deep) (children_at (bodies at)) (drop (suc i) (children (rows_of page) (overflow_of page))) i c x there h);
    }
