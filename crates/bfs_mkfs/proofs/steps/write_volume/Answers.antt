use Rattle.std.proofs.Common.{◌≡◌, ◌⊎◌, inl, inr, ⊎_elim, ◌≤◌, ℕ, List, arith, subst, sym, ◌∙◌}
use Rattle.bfs_base.proofs.Moments.{passed_then}
use Rattle.bfs_mkfs.proofs.Wider.{passed_wider}
use Rattle.bfs_disk.specs.Disk.{HasSectors}
use Rattle.bfs_mkfs.specs.Written.{area, AreBehind, end_of, IsBlank, IsWritten}
use Rattle.bfs_mkfs.proofs.steps.write_volume.Goals as goal

pub returns-in_err-clear-clause-time : goal.returns-in_err-clear-clause-time
returns-in_err-clear-clause-time g c = λ n image fits room held.
    let block = c.args.block.now in
    let a = area c.args.at c.args.first.now in
    let b = area c.args.behind c.args.second.now in
    let R : List ℕ → Type 0 = λ i. (i ≡ image) ⊎ (IsBlank i ⊎ IsWritten block a b n i) in
    let old : (i : List ℕ) → (i ≡ image) ⊎ IsBlank i → R i = λ i is. ⊎_elim (λ same. inl same) (λ blank. inr (inl blank)) is in
    passed_wider R (c.clear.ensures.time image held) old

pub returns-in_err-fill-clause-time : goal.returns-in_err-fill-clause-time
returns-in_err-fill-clause-time g c = λ n image fits room held.
    let block = c.args.block.now in
    let a = area c.args.at c.args.first.now in
    let b = area c.args.behind c.args.second.now in
    let R : List ℕ → Type 0 = λ i. (i ≡ image) ⊎ (IsBlank i ⊎ IsWritten block a b n i) in
    let old : (i : List ℕ) → (i ≡ image) ⊎ IsBlank i → R i = λ i is. ⊎_elim (λ same. inl same) (λ blank. inr (inl blank)) is in
    let t1 = c.in_ok-clear.ensures.time image held in
    let k1 = c.in_ok-clear.ensures.next image held in
    let t2 = c.fill.ensures.time k1 in
    passed_then R t1 t2 old (λ k blank. inr (inl blank))

pub returns-clause-time : goal.returns-clause-time
returns-clause-time g c = λ n image fits room held.
    let block = c.args.block.now in
    let a = area c.args.at c.args.first.now in
    let b = area c.args.behind c.args.second.now in
    let R : List ℕ → Type 0 = λ i. (i ≡ image) ⊎ (IsBlank i ⊎ IsWritten block a b n i) in
    let old : (i : List ℕ) → (i ≡ image) ⊎ IsBlank i → R i = λ i is. ⊎_elim (λ same. inl same) (λ blank. inr (inl blank)) is in
    let t1 = c.in_ok-clear.ensures.time image held in
    let k1 = c.in_ok-clear.ensures.next image held in
    let t2 = c.in_ok-fill.ensures.time k1 in
    let k2 = c.in_ok-fill.ensures.next k1 in
    let behind : AreBehind a b = (c.requires.low, (let two : 2 ≤ c.args.behind = omega (arith, c.requires.low, c.requires.order) in two)) in
    let here : HasSectors (g.D.Disk.size c.fill.new.disk) n = subst (λ z. HasSectors z n) (sym (c.in_ok-fill.ensures.size ∙ c.in_ok-clear.ensures.size)) room in
    let t3 = c.open.ensures.time a b n behind fits here k2 in
    passed_then R (passed_then R t1 t2 old (λ k blank. inr (inl blank))) t3 (λ k is. is) (λ k is. inr is)

pub returns-clause-done : goal.returns-clause-done
returns-clause-done g c = λ image held.
    let a = area c.args.at c.args.first.now in
    let b = area c.args.behind c.args.second.now in
    let k1 = c.in_ok-clear.ensures.next image held in
    let k2 = c.in_ok-fill.ensures.next k1 in
    let behind : AreBehind a b = (c.requires.low, (let two : 2 ≤ c.args.behind = omega (arith, c.requires.low, c.requires.order) in two)) in
    let room : HasSectors (g.D.Disk.size c.fill.new.disk) (end_of b) = subst (λ n. HasSectors n (end_of b)) (sym (c.in_ok-fill.ensures.size ∙ c.in_ok-clear.ensures.size)) c.requires.range in
    c.open.ensures.next a b behind room k2
