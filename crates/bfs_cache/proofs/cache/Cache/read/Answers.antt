use Rattle.std.proofs.Common.{◌∙◌, ◌*◌, ◌/◌, ℕ, List, length, inl, sym, ap, subst, Option, Some}
use Rattle.std.proofs.lemmas.Result.{on_err_weaker, on_ok_weaker}
use Rattle.lru.specs.LruCache.{LruCache}
use Rattle.bfs_disk.specs.State.{State}
use Rattle.bfs_disk.specs.Disk.{ReadsSectors}
use Rattle.bfs_disk.proofs.Joined.{block_of_sectors, sectors_of_block}
use Rattle.bfs_cache.specs.Kept.{View, kept_of}
use Rattle.bfs_cache.specs.Agreement.{Agrees}
use Rattle.bfs_cache.proofs.Agreeing.{agrees_with, range_of}
use Rattle.bfs_cache.proofs.Views.{hit_view, hit_invariant, hit_agrees, miss_first, miss_same, miss_view, miss_invariant, agrees_after}
use Rattle.bfs_cache.proofs.cache.Cache.read.Goals as goal

pub copy_from_slice-requires : goal.copy_from_slice-requires
copy_from_slice-requires g c =
    let disk = c.args.disk.now in
    let r = length c.args.into.now / 512 in
    let found = ap (λ (v : View). kept_of v.kept c.args.block) (sym c.self.view_is) ∙ sym c.in-Some.ensures.value in
    c.requires.whole ∙ sym (agrees_with (g.D.Disk.state disk) r c.args.block c.args.self.now.kept c.in-Some.bytes.now found c.requires.agrees).0 ∙ sym (ap (λ (xs : List ℕ). length xs) c.as_slice.ensures)

pub invariant_of-self : goal.invariant_of-self
invariant_of-self g c =
    let i = c.self.inside in
    hit_invariant i.bound c.args.block c.in-Some.bytes.now i.blocks c.get.follows.lender-at-none c.get.follows.holds-at-none (sym c.in-Some.ensures.value) c.self.invariant.0 c.self.invariant.1

pub invariant_of-self-in-None : goal.invariant_of-self-in-None
invariant_of-self-in-None g c =
    let i = c.self.inside in
    miss_invariant i.bound c.args.block i.blocks c.get.follows.lender-at-none c.get.follows.holds-at-none (sym c.in-None.ensures.value) c.self.invariant.0 c.self.invariant.1

pub read_new-requires-clause-new : goal.read_new-requires-clause-new
read_new-requires-clause-new g c =
    let i = c.self.inside in
    ap (λ (b : LruCache ℕ (List ℕ)). kept_of b.entries c.args.block) (miss_same c.args.block i.blocks c.get.follows.lender-at-none c.get.follows.holds-at-none (sym c.in-None.ensures.value)) ∙ sym c.in-None.ensures.value

pub returns-in-Some-clause-bytes : goal.returns-in-Some-clause-bytes
returns-in-Some-clause-bytes g c =
    let disk = c.args.disk.now in
    let r = length c.args.into.now / 512 in
    let found = ap (λ (v : View). kept_of v.kept c.args.block) (sym c.self.view_is) ∙ sym c.in-Some.ensures.value in
    let good = agrees_with (g.D.Disk.state disk) r c.args.block c.args.self.now.kept c.in-Some.bytes.now found c.requires.agrees in
    let same = c.copy_from_slice.ensures.after ∙ c.as_slice.ensures in
    subst (ReadsSectors (g.D.Disk.state disk) (r * c.args.block)) (sym same)
    (sectors_of_block (g.D.Disk.state disk) (g.D.Disk.size disk) r c.args.block c.in-Some.bytes.now (g.met.D.Disk.filled disk) (g.met.D.Disk.sized disk)
    (range_of (g.D.Disk.size disk) (r * c.args.block) c.args.into.now c.in-Some.bytes.now (good.0 ∙ sym c.requires.whole) c.requires.range) good.0 good.1)

pub returns-in-Some-clause-agrees : goal.returns-in-Some-clause-agrees
returns-in-Some-clause-agrees g c =
    let i = c.self.inside in
    let disk = c.args.disk.now in
    let r = length c.args.into.now / 512 in
    hit_agrees (g.D.Disk.state disk) r i.bound i.unkept c.args.block c.in-Some.bytes.now i.blocks c.get.follows.lender-at-none c.args.self.now c.self.view_is c.get.follows.holds-at-none (sym c.in-Some.ensures.value) c.self.invariant.1 c.requires.agrees

pub returns-in-Some-clause-first : goal.returns-in-Some-clause-first
returns-in-Some-clause-first g c =
    let i = c.self.inside in
    let same = c.copy_from_slice.ensures.after ∙ c.as_slice.ensures in
    inl (hit_view i.bound i.unkept c.args.block c.copy_from_slice.new.self i.blocks c.get.follows.lender-at-none c.args.self.now c.self.view_is c.get.follows.holds-at-none (sym c.in-Some.ensures.value ∙ ap Some (sym same)) c.self.invariant.1)

pub returns-in-None-clause-agrees : goal.returns-in-None-clause-agrees
returns-in-None-clause-agrees g c =
    let i = c.self.inside in
    let disk = c.args.disk.now in
    let r = length c.args.into.now / 512 in
    let before = miss_view i.bound i.unkept c.args.block i.blocks c.get.follows.lender-at-none c.args.self.now c.self.view_is c.get.follows.holds-at-none (sym c.in-None.ensures.value) in
    subst (λ (told : Option State). Agrees told r c.read_new.new.self.kept) (sym c.read_new.ensures.state)
    (agrees_after c.read_new.result (g.D.Disk.state disk) r c.args.block c.read_new.new.into _ c.read_new.new.self (c.read_new.auto.into ∙ c.requires.whole)
    (on_ok_weaker c.read_new.result (λ reads. block_of_sectors (g.D.Disk.state disk) (g.D.Disk.size disk) r c.args.block c.read_new.new.into (g.met.D.Disk.filled disk) (g.met.D.Disk.sized disk)
    (range_of (g.D.Disk.size disk) (r * c.args.block) c.args.into.now c.read_new.new.into c.read_new.auto.into c.requires.range) (c.read_new.auto.into ∙ c.requires.whole) reads) c.read_new.ensures.bytes)
    c.read_new.ensures.first c.read_new.ensures.failed
    (subst (λ (v : View). Agrees (g.D.Disk.state disk) r v.kept) (sym before) c.requires.agrees))

pub returns-in-None-clause-first : goal.returns-in-None-clause-first
returns-in-None-clause-first g c =
    let i = c.self.inside in
    let before = miss_view i.bound i.unkept c.args.block i.blocks c.get.follows.lender-at-none c.args.self.now c.self.view_is c.get.follows.holds-at-none (sym c.in-None.ensures.value) in
    let none = ap (λ (v : View). kept_of v.kept c.args.block) (sym c.self.view_is) ∙ sym c.in-None.ensures.value in
    miss_first c.read_new.result c.args.block c.read_new.new.into _ c.args.self.now c.read_new.new.self before none c.read_new.ensures.first

pub returns-in-None-clause-failed : goal.returns-in-None-clause-failed
returns-in-None-clause-failed g c =
    let i = c.self.inside in
    let before = miss_view i.bound i.unkept c.args.block i.blocks c.get.follows.lender-at-none c.args.self.now c.self.view_is c.get.follows.holds-at-none (sym c.in-None.ensures.value) in
    on_err_weaker c.read_new.result (λ is. is ∙ before) c.read_new.ensures.failed
