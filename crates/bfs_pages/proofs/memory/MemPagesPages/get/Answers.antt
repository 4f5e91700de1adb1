use Rattle.std.proofs.Common.{arith, ap, sym, ◌∙◌, take, drop, ◌≡◌, ◌-◌, ◌+◌}
use Rattle.bfs_txn.specs.Pages.{page_at}
use Rattle.bfs_pages.proofs.memory.MemPagesPages.get.Goals as goal

pub returns-clause-page : goal.returns-clause-page
returns-clause-page g c =
    let n : c.args.at + 1024 - c.args.at ≡ 1024 = omega arith in
    c.copy_from_slice.ensures.after ∙ ap (λ l. take (c.args.at + 1024 - c.args.at) (drop c.args.at l)) c.deref.ensures.value ∙ ap (λ k. take k (drop c.args.at c.args.self.now.bytes.items)) n

pub returns-clause-bytes : goal.returns-clause-bytes
returns-clause-bytes g c =
    let n : c.args.at + 1024 - c.args.at ≡ 1024 = omega arith in
    ap (λ v. page_at v.items c.of.result.value) c.of-2.ensures ∙ ap (λ k. page_at c.args.self.now.bytes.items k) c.of.ensures
    ∙ sym (c.copy_from_slice.ensures.after ∙ ap (λ l. take (c.args.at + 1024 - c.args.at) (drop c.args.at l)) c.deref.ensures.value ∙ ap (λ k. take k (drop c.args.at c.args.self.now.bytes.items)) n)
