use Rattle.std.proofs.Common.{◌≡◌, ◌∙◌, inr, List, ℕ, length, Option, refl, sym, ap, subst}
use Rattle.std.specs.Prelude.{IsSome}
use Rattle.std.specs.Option.{option_map}
use Rattle.bfs_node.specs.Faults.{IsHeaderRefusal}
use Rattle.bfs_node.specs.Header.{header_at, HasMagic}
use Rattle.bfs_pages.proofs.OfKind.{if_some}
use Rattle.bfs_pages.specs.Trees.{header_in}
use Rattle.bfs_txn.specs.Pages.{page_at}
use Rattle.bfs_stream_pages.specs.GoesLaws.{reads_sized, sized_as}
use Rattle.bfs_stream_pages.specs.Held.{stream_of}
use Rattle.bfs_finding.specs.declared.finding.PagePart.TheVariants as parts
use Rattle.bfs_finding.specs.TreeFaults.{no_magic}
use Rattle.bfs_tree_check.proofs.Tops.{no_bytes}
use Rattle.bfs_index_walk.proofs.Headed.{header_broken}
use Rattle.bfs_index_walk.proofs.header.kind_over.Goals as goal

pub returns-then-size-eq0-clause-wrong : goal.returns-then-size-eq0-clause-wrong
returns-then-size-eq0-clause-wrong g c v m told same listed stream =
    let s = c.args.pages.now in
    let b : List ℕ = stream_of s.backing m in
    let there = ap (option_map (stream_of s.backing)) told in
    let sized = reads_sized s.backing s.length (g.B.Blocks.told s.under.now) s.held (sized_as s.backing.sizes.block_size (g.B.Blocks.size s.under.now) (g.B.Blocks.told s.under.now) s.size (g.met.B.Blocks.sized s.under.now)) in
    let long = if_some (λ (z : List ℕ). length z ≡ s.length) _ b sized there in
    header_broken v c.args.owner parts.Magic stream (no_magic (inr listed) (subst (λ (z : List ℕ). ¬ HasMagic (header_in z)) (sym same) (no_bytes b (long ∙ sym c.length-size.ensures ∙ c.if-size-eq0.true))) refl)

pub returns-in-Err-clause-wrong : goal.returns-in-Err-clause-wrong
returns-in-Err-clause-wrong g c v m told same listed stream =
    let some : IsSome (g.B.Blocks.told c.args.pages.now.under.now) = subst (λ (o : Option (ℕ → Option (List ℕ))). IsSome o) (sym told) refl in
    c.page_fault.ensures.wrong v (c.in-Err.ensures.cause.sound some)

pub returns-in-Err-clause-cause : goal.returns-in-Err-clause-cause
returns-in-Err-clause-cause g c =
    c.page_fault.ensures.cause (g.B.Blocks.counts c.args.pages.now.under.now) (g.B.Blocks.counts c.get.new.self.under.now) c.in-Err.ensures.cause.below

pub returns-in-Err-of-clause-wrong : goal.returns-in-Err-of-clause-wrong
returns-in-Err-of-clause-wrong g c v m told same listed stream =
    let s = c.args.pages.now in
    let b : List ℕ = stream_of s.backing m in
    let there = ap (option_map (stream_of s.backing)) told in
    let page = if_some (λ (z : List ℕ). c.get.new.into ≡ page_at z 0) _ b c.in-Ok.ensures.page there in
    header_broken v c.args.owner c.part_of.result stream
    (c.part_of.ensures v c.args.owner listed
    (subst (λ (z : List ℕ). IsHeaderRefusal (header_in z) c.in-Err-of.fault) (sym same) (subst (λ (p : List ℕ). IsHeaderRefusal (header_at p) c.in-Err-of.fault) page c.in-Err-of.ensures.refused)))
