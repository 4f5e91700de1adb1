use Rattle.std.proofs.Common.{◌≡◌, ◌∙◌, ℕ, List, length, inr, refl, sym, ap, subst}
use Rattle.bfs_pages.specs.Answers.{IsHeaderFor}
use Rattle.bfs_pages.proofs.OfKind.{if_some}
use Rattle.bfs_txn.specs.Pages.{page_at}
use Rattle.bfs_node.specs.Header.{header_at}
use Rattle.bfs_node.specs.Faults.{IsHeaderRefusal}
use Rattle.bfs_tree_check.specs.Amiss.{no_magic}
use Rattle.bfs_tree_check.proofs.Tops.{no_bytes, header_read}
use Rattle.bfs_tree_check.proofs.header.look_at_header.Goals as goal

pub returns-then-size-eq0-clause-wrong : goal.returns-then-size-eq0-clause-wrong
returns-then-size-eq0-clause-wrong g c = λ b told.
    let long = if_some (λ (z : List ℕ). length z ≡ g.P.Pages.size c.args.pages.now) _ b (g.met.P.Pages.sized c.args.pages.now) told in
    inr (refl, no_magic (no_bytes b (long ∙ sym c.length-size.ensures ∙ c.if-size-eq0.true)) refl)

pub returns-in-Err-of-clause-wrong : goal.returns-in-Err-of-clause-wrong
returns-in-Err-of-clause-wrong g c = λ b told.
    let page = if_some (λ (z : List ℕ). c.get.new.into ≡ page_at z 0) _ b c.in-Ok.ensures.page told in
    inr (refl, c.part_of.ensures b (subst (λ (p : List ℕ). IsHeaderRefusal (header_at p) c.in-Err-of.fault) page c.in-Err-of.ensures.refused))

pub returns-in-Err-check_header-clause-wrong : goal.returns-in-Err-check_header-clause-wrong
returns-in-Err-check_header-clause-wrong g c = λ b told.
    let page = if_some (λ (z : List ℕ). c.get.new.into ≡ page_at z 0) _ b c.in-Ok.ensures.page told in
    let long = if_some (λ (z : List ℕ). length z ≡ g.P.Pages.size c.args.pages.now) _ b (g.met.P.Pages.sized c.args.pages.now) told in
    c.in-Err-check_header.ensures.wrong b (c.in-Ok-of.ensures.found.0 ∙ ap header_at page) (c.length-size.ensures ∙ sym long)

pub returns-in-Ok-check_header-clause-good : goal.returns-in-Ok-check_header-clause-good
returns-in-Ok-check_header-clause-good g c = subst (λ n. IsHeaderFor c.args.kind n c.in-Ok-of.header) c.length-size.ensures c.in-Ok-check_header.ensures.good

pub returns-in-Ok-check_header-clause-header : goal.returns-in-Ok-check_header-clause-header
returns-in-Ok-check_header-clause-header g c = header_read (g.P.Pages.told c.args.pages.now) c.get.new.into c.in-Ok-of.header c.in-Ok.ensures.page c.in-Ok-of.ensures.found.0
